-- The blocks that one pass does in the end, so that all are done or settled.
use Rattle.std.proofs.Common.{ℕ, List, length, ◌≡◌, ◌+◌, ◌/◌, ◌<◌, ◌⊎◌, inl, inr, refl, sym, ◌∙◌, arith, subst}
use Rattle.std.proofs.lemmas.Bool.{cases_lt}
use Rattle.bit_rows.specs.Members.{IsMember}
use Rattle.flow_form.specs.declared.constraints.Constraints.{Constraints}
use Rattle.flow_form.specs.Least.{Given, GivenByBlock, Within}
use Rattle.flow_form.specs.Race.{IsBetween, IsKept}
use Rattle.flow_form.specs.Shape.{In, blocks_of}
use Rattle.flow_plain.proofs.Rules.{listed_below}
use Rattle.type_table.specs.Tables.{Answer, Held, IsOf, IsStart, Leaves, Opened}
use Rattle.flow_workers.specs.Rounds.{AreSettled, IsRound}
use Rattle.flow_workers.specs.PassSteps.{Steps}

-- a block of the constraints is one of those that the pass knows
pub block_there :
    (c : Constraints) (table : Opened) (pass : Held) (block : ℕ) → table.constraints ≡ c → IsOf pass table
    → block < blocks_of c → block < blocks_of pass.view.constraints
block_there c table pass block opened of there =
    let P : Constraints → Type 0 = λ d. block < blocks_of d in
    subst P (sym (of.own.same_constraints ∙ opened)) there

abbrev pub IsDone : Held → List ℕ → ℕ → Type 0
IsDone pass settled block = IsMember pass.view.worker.done block ⊎ IsMember settled block

-- what the loop over all blocks keeps
pub record DoesBlocks (table : Opened) (pass : Held) (settled : List ℕ) (block : ℕ) : Type 0 where
  pub of : IsOf pass table
  pub all : (other : ℕ) → other < block → IsDone pass settled other

pub blocks_same :
    (table : Opened) (pass : Held) (settled : List ℕ) (block : ℕ) → DoesBlocks table pass settled block
    → IsDone pass settled block → DoesBlocks table pass settled (block + 1)
blocks_same table pass settled block so_far here =
    record {
      of = so_far.of;
      all = λ other below.
          elim (cases_lt other block) [
            | inl old ↦ so_far.all other old
            | inr new ↦
                let same : block ≡ other = omega arith in
                let At : ℕ → Type 0 = λ n. IsDone pass settled n in
                subst At same here
          ];
    }

pub blocks_more :
    (c : Constraints) (table : Opened) (pass after : Held) (settled : List ℕ) (block : ℕ)
    → DoesBlocks table pass settled block → Steps c table pass after → IsMember after.view.worker.done block
    → DoesBlocks table after settled (block + 1)
blocks_more c table pass after settled block so_far steps done =
    blocks_same table after settled block
    record {
      of = steps.of;
      all = λ other below.
          elim (so_far.all other below) [ inl x ↦ inl (steps.on.done other x) | inr y ↦ inr y ];
    }
    (inl done)

-- ---- a round
pub round_given :
    (c : Constraints) (base rows settled : List ℕ) (pass : Held) → IsBetween c base rows
    → IsKept c base rows pass.view.worker → AreSettled c base settled
    → ((block : ℕ) → block < blocks_of c → IsDone pass settled block)
    → Within (Given c.rules (In c base)) (In c rows)
round_given c base rows settled pass between kept are_settled all row atom h =
    let there : h.index < length c.rules = listed_below c.rules h.index h.rule h.listed in
    let of_block : GivenByBlock c.rules (h.index / 1024) (In c base) row atom = record { given = h; in_block = refl } in
    elim (all (h.index / 1024) (omega arith)) [
      | inl done ↦ kept.done (h.index / 1024) done row atom of_block
      | inr skipped ↦ between.above row atom (are_settled (h.index / 1024) skipped row atom of_block)
    ]

pub round_left :
    (c : Constraints) (base settled : List ℕ) (rounds : ℕ) (table : Opened) (first pass : Held) (left : Answer)
    → IsStart c base rounds table first → Leaves table pass left → AreSettled c base settled
    → ((block : ℕ) → block < blocks_of c → IsDone pass settled block)
    → IsRound c base rounds left
round_left c base settled rounds table first pass left start leaves are_settled all =
    let Between : Constraints → Type 0 = λ d. IsBetween d table.base left.rows.words in
    let Above : List ℕ → Type 0 = λ b. IsBetween c b left.rows.words in
    let Kept : Constraints → Type 0 = λ d. IsKept d table.base left.rows.words pass.view.worker in
    let Stands : List ℕ → Type 0 = λ b. IsKept c b left.rows.words pass.view.worker in
    let between = subst Above start.same_base (subst Between start.same_constraints leaves.between) in
    let kept = subst Stands start.same_base (subst Kept start.same_constraints leaves.kept) in
    record {
      same_constraints = leaves.same_constraints ∙ start.same_constraints;
      same_rounds = leaves.same_rounds ∙ start.same_rounds;
      above = between.above;
      given = round_given c base left.rows.words settled pass between kept are_settled all;
    }

-- a round of a table is one from the base that it was opened with
pub round_from :
    (c : Constraints) (base : List ℕ) (rounds : ℕ) (table : Opened) (first : Held) (left : Answer)
    → IsStart c base rounds table first → IsRound c table.base table.rounds left → IsRound c base rounds left
round_from c base rounds table first left start round =
    let Based : List ℕ → Type 0 = λ b. IsRound c b table.rounds left in
    let Counted : ℕ → Type 0 = λ n. IsRound c base n left in
    subst Counted start.same_rounds (subst Based start.same_base round)
