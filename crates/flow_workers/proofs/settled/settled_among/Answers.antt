use Rattle.std.proofs.Common.{ℕ, List, Vec, Global, length, ◌≡◌, ◌+◌, ◌≤◌, ◌⊎◌, ◌↔◌, refl, arith, rules, subst, sym}
use Rattle.std.proofs.lemmas.Bool.{false≢true}
use Rattle.bit_rows.specs.Members.{IsMember}
use Rattle.flow_workers.proofs.Resting.{settled_new, settled_same}
use Rattle.flow_workers.specs.Rounds.{AreRests}
use Rattle.type_table.proofs.Passes.{written_back}
use Rattle.flow_workers.proofs.settled.settled_among.Goals as goal
use Rattle.flow_workers.proofs.settled.settled_among.Goals.{then-block_rests, else-block_rests}

pub loop-block-preserved : goal.loop-block-preserved
loop-block-preserved c =
    let Below : Vec ℕ Global → Type 0 =
    λ settled. AreRests c.args.c.now c.args.grown.now c.args.first (c.loop-block.block + 1) settled.items in
    let order : c.args.first ≤ c.loop-block.block = c.loop-block.invariant.0 in (
      omega arith,
      elim c.if-block_rests.branch [
        | then-block_rests w ↦
            let size : length w.insert.new.row ≡ length c.loop-block.settled.items = search rules in
            let Old : List ℕ → Type 0 =
            λ items. (k : ℕ) → IsMember w.insert.new.row k ↔ (IsMember items k ⊎ (k ≡ c.loop-block.block)) in
            let whole : c.loop-block.settled.len ≡ length c.loop-block.settled.items = search rules in
            let Items : List ℕ → Type 0 = λ items. AreRests c.args.c.now c.args.grown.now c.args.first (c.loop-block.block + 1) items in
            subst Below (sym w.settled-is)
            (subst Items (sym (written_back w.insert.new.row c.loop-block.settled.items c.loop-block.settled.len whole size))
            (settled_new c.args.c.now c.args.grown.now c.loop-block.settled.items w.insert.new.row c.args.first c.loop-block.block
            c.loop-block.invariant.1 order size (subst Old w.as_mut_slice.ensures.value w.insert.ensures)
            (w.if-block_rests.ensures.0 refl)))
        | else-block_rests w ↦
            subst Below (sym w.settled-is)
            (settled_same c.args.c.now c.args.grown.now c.loop-block.settled.items c.args.first c.loop-block.block
            c.loop-block.invariant.1 (λ rests. false≢true (w.if-block_rests.ensures.1 rests)))
      ],
    )
