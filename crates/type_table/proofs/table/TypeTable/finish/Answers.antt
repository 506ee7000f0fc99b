use Rattle.std.proofs.Common.{ℕ, List, length, ◌≡◌, ◌<◌, ◌⊎◌, ◌↔◌, rules, subst, sym}
use Rattle.bit_rows.specs.Members.{IsMember}
use Rattle.flow_form.specs.Shape.{blocks_of, done_size_of}
use Rattle.type_table.specs.Tables.{IsHeld}
use Rattle.type_table.proofs.Passes.{held_finish, written_back}
use Rattle.type_table.proofs.table.TypeTable.finish.Goals as goal

pub invariant_of-pass : goal.invariant_of-pass
invariant_of-pass c =
    let view = c.pass.inside.seat.me.0 in
    let noted : List ℕ = c.insert.new.row in
    let items : List ℕ = c.pass.inside.done.items in
    let known : length view.worker.done ≡ done_size_of view.constraints = search rules in
    let below : c.args.block < blocks_of view.constraints = search rules in
    let size : length noted ≡ length items = search rules in
    let whole : c.pass.inside.done.len ≡ length items = search rules in
    let one : c.as_mut_slice.result.now ≡ items = search rules in
    let Members : List ℕ → Type 0 = λ xs. (k : ℕ) → IsMember noted k ↔ (IsMember xs k ⊎ (k ≡ c.args.block)) in
    let Row : List ℕ → Type 0 = λ row. IsHeld c.finish_as.new.seat.me row in
    subst Row (sym (written_back noted items c.pass.inside.done.len whole size))
    (held_finish c.pass.inside.seat.me _ items noted c.args.block c.pass.invariant known below
    c.finish_as.ensures.knows size (subst Members one c.insert.ensures))
