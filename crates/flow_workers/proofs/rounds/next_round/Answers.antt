use Rattle.std.proofs.Common.{ℕ, List, ◌+◌, ◌*◌, ◌^◌, ◌≤◌, arith, rules, subst, sym}
use Rattle.bit_rows.specs.Members.{IsMember}
use Rattle.flow_form.specs.Shape.{size_of}
use Rattle.flow_workers.specs.Rounds.{AreGrown, AreSettled, BlockRests}
use Rattle.flow_workers.proofs.Reached.{reaches_next, rounds_few}
use Rattle.flow_workers.proofs.Resting.{settled_next}
use Rattle.flow_workers.proofs.Rests.{round_from}
use Rattle.flow_workers.proofs.rounds.next_round.Goals as goal

pub open-requires-clause-few : goal.open-requires-clause-few
open-requires-clause-few g c =
    let few : c.args.last.now.closed.rounds ≤ 64 * size_of c.args.c.now + 1 =
    rounds_few c.args.c.now c.args.last.now.closed c.args.last.now.grown.items c.requires.reached in
    let size : size_of c.args.c.now ≤ 2 ^ 22 = c.args.c.now.valid.few.few_words in
    omega arith

pub round-closed-requires-clause-settled : goal.round-closed-requires-clause-settled
round-closed-requires-clause-settled g c = λ κs within.
    let Settled : List ℕ → Type 0 = λ base. AreSettled c.args.c.now base c.as_slice-2.result.now in
    subst Settled (sym c.in_ok-opened.ensures.same_base) (λ block member.
    let Member : List ℕ → Type 0 = λ settled. IsMember settled block in
    let Rests : List ℕ → Type 0 = λ grown. BlockRests c.args.c.now grown block in
    let exact = c.in_ok-settled.ensures.exact block in
    settled_next c.args.c.now c.requires.reached.base c.args.last.now.closed.rows.words c.args.last.now.grown.items block
    c.requires.reached.grows c.requires.reached.round.given
    (subst Rests c.as_slice.ensures.value (exact.0 (subst Member c.as_slice-2.ensures.value member)).2))

pub returns-clause-reached : goal.returns-clause-reached
returns-clause-reached g c =
    let grows : AreGrown c.args.c.now c.args.last.now.closed.rows.words c.round-closed.result.rows.words c.in_ok-grown.grown.items = search rules in
    let round =
    round_from c.args.c.now c.args.last.now.closed.rows.words (c.args.last.now.closed.rounds + 1) c.in_ok-opened.opened.0
    c.in_ok-opened.opened.1 c.round-closed.result c.in_ok-opened.ensures c.round-closed.ensures in
    reaches_next c.args.c.now c.args.last.now.closed c.round-closed.result c.args.last.now.grown.items
    c.in_ok-grown.grown.items c.requires.grew.0 c.requires.reached c.requires.grew.1 round
    c.rows-rows.ensures.answer grows
