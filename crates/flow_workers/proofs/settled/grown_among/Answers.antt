use Rattle.std.proofs.Common.{ℕ, List, Vec, Global, length, ◌≡◌, ◌+◌, ◌≤◌, ◌⊎◌, ◌↔◌, refl, arith, rules, subst, sym}
use Rattle.std.proofs.lemmas.Bool.{false≢true}
use Rattle.bit_rows.specs.Members.{IsMember}
use Rattle.flow_workers.proofs.Resting.{grown_new, grown_same}
use Rattle.flow_workers.specs.Rounds.{GrewBetween}
use Rattle.type_table.proofs.Passes.{written_back}
use Rattle.flow_workers.proofs.settled.grown_among.Goals as goal
use Rattle.flow_workers.proofs.settled.grown_among.Goals.{then-not-within, else-not-within}

pub loop-row-preserved : goal.loop-row-preserved
loop-row-preserved c =
    let Below : Vec ℕ Global → Type 0 =
    λ grown. GrewBetween c.args.c.now c.args.before.now c.args.after.now c.args.first (c.loop-row.row + 1) grown.items in
    let order : c.args.first ≤ c.loop-row.row = c.loop-row.invariant.0 in (
      omega arith,
      elim c.if-not-within.branch [
        | then-not-within w ↦
            let size : length w.insert.new.row ≡ length c.loop-row.grown.items = search rules in
            let Old : List ℕ → Type 0 =
            λ items. (k : ℕ) → IsMember w.insert.new.row k ↔ (IsMember items k ⊎ (k ≡ c.loop-row.row)) in
            let whole : c.loop-row.grown.len ≡ length c.loop-row.grown.items = search rules in
            let Items : List ℕ → Type 0 = λ items. GrewBetween c.args.c.now c.args.before.now c.args.after.now c.args.first (c.loop-row.row + 1) items in
            subst Below (sym w.grown-is)
            (subst Items (sym (written_back w.insert.new.row c.loop-row.grown.items c.loop-row.grown.len whole size))
            (grown_new c.args.c.now c.args.before.now c.args.after.now c.loop-row.grown.items w.insert.new.row
            c.row_of.result.now c.row_of-in-loop-row.result.now c.args.first c.loop-row.row c.loop-row.invariant.1 order size
            (subst Old w.as_mut_slice.ensures.value w.insert.ensures)
            c.row_of.ensures.members c.row_of-in-loop-row.ensures.members
            (λ within. false≢true (w.if-not-within.ensures.1 within))))
        | else-not-within w ↦
            subst Below (sym w.grown-is)
            (grown_same c.args.c.now c.args.before.now c.args.after.now c.loop-row.grown.items
            c.row_of.result.now c.row_of-in-loop-row.result.now c.args.first c.loop-row.row c.loop-row.invariant.1
            c.row_of.ensures.members c.row_of-in-loop-row.ensures.members (w.if-not-within.ensures.0 refl))
      ],
    )
