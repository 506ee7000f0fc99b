use Rattle.std.proofs.Common.{rules, arith, subst, ◌/◌, ◌+◌, ◌-◌, ◌≤◌, ◌↔◌, ◌⊎◌, ℕ, List}
use Rattle.bit_rows.specs.Members.{IsMember}
use Rattle.flow_workers.specs.Rounds.{AreRests}
use Rattle.flow_workers.proofs.Resting.{settled_both}
use Rattle.flow_workers.proofs.settled.+fn-settled_between-join+arg2+fn-settled_between-join+arg3+settled_between.Goals as goal

pub returns : goal.returns
returns g t c =
    let middle = c.args.first + (c.args.end - c.args.first) / 2 in
    let order : c.args.first ≤ c.args.end = c.requires.order in
    let of_one : AreRests c.args.c.now c.args.grown.now c.args.first middle c.in_ok-one.one.items = search rules in
    let of_two : AreRests c.args.c.now c.args.grown.now middle c.args.end c.in_ok-two.two.items = search rules in
    let Members : List ℕ → Type 0 =
    λ two. (k : ℕ) → IsMember c.union_of.result.items k ↔ (IsMember c.in_ok-one.one.items k ⊎ IsMember two k) in
    settled_both c.args.c.now c.args.grown.now c.in_ok-one.one.items c.in_ok-two.two.items c.union_of.result.items c.args.first
    middle c.args.end of_one of_two (omega arith) (omega (arith, order)) c.union_of.ensures.size
    (subst Members c.as_slice.ensures.value c.union_of.ensures.members)
