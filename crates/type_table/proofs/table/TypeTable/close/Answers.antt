use Rattle.std.proofs.Common.{ℕ, List, length, take, ◌≡◌, ◌∙◌, ap, arith, rules, subst}
use Rattle.std.specs.Mem.Slots.{slots_items}
use Rattle.flow_form.specs.Race.{IsBetween, IsKept}
use Rattle.flow_form.specs.Shape.{size_of}
use Rattle.type_table.specs.Tables.{Held, Opened}
use Rattle.type_table.proofs.Closing.{answers, closes}
use Rattle.type_table.proofs.Passes.{written_back}
use Rattle.type_table.proofs.StepsAreMoves.{split_allowed}
use Rattle.type_table.proofs.table.TypeTable.close.Goals as goal

pub split_seat-facts-requires : goal.split_seat-facts-requires
split_seat-facts-requires c =
    (search rules, omega (arith, c.self.invariant.words), split_allowed _ _ _ _ c.pass.invariant.live)

-- the rows are the words that were copied
rows_copied : (c : goal.After-drop-pass-inside) → c.from_vec.result ≡ c.copy_words.new.room
rows_copied c =
    let whole : c.self.inside.room.len ≡ length c.self.inside.room.items = search rules in
    let size : length c.copy_words.new.room ≡ length c.self.inside.room.items = search rules in
    c.from_vec.ensures ∙ written_back c.copy_words.new.room c.self.inside.room.items c.self.inside.room.len whole size

-- between the base and the least solution from it, and what the pass knows stands in them
rows_kept :
    (c : goal.After-drop-pass-inside)
    → IsBetween c.self.inside.table.shared.key.constraints.value c.self.inside.table.shared.key.base.value c.from_vec.result
    × IsKept c.self.inside.table.shared.key.constraints.value c.self.inside.table.shared.key.base.value c.from_vec.result
    c.pass.inside.seat.me.0.worker
rows_kept c =
    let key = c.self.inside.table.shared.key in
    let words : List ℕ = slots_items c.close_with-closed.result.words in
    let len : length c.as_mut_slice.result.now ≡ size_of key.constraints.value = search rules in
    closes key.constraints.value key.base.value c.split_seat-facts.new.seat.id c.split_seat-facts.new.seat.me.0
    c.pass.inside.seat.me.0 words _ c.from_vec.result c.close_with-closed.ensures.values.2 (search rules)
    c.pass.invariant.live (rows_copied c ∙ c.copy_words.ensures ∙ ap (λ (n : ℕ). take n words) len)

pub invariant_of-result : goal.invariant_of-result
invariant_of-result c =
    let key = c.self.inside.table.shared.key in
    let of : c.split_seat-facts.result.me.0.constraints ≡ key.constraints.value = search rules in
    let room : length c.copy_words.new.room ≡ size_of key.constraints.value = search rules in
    let size : length c.from_vec.result ≡ size_of key.constraints.value =
    ap (λ (ws : List ℕ). length ws) (rows_copied c) ∙ room in
    answers key.constraints.value c.split_seat-facts.result.me.0.constraints key.base.value c.from_vec.result
    c.self.inside.stride of c.self.invariant.room_stride size c.self.invariant.within (rows_kept c).0

pub returns : goal.returns
returns c =
    let Kept : Opened → Held → Type 0 =
    λ opened pass.
    IsBetween opened.constraints opened.base c.from_vec.result
    × IsKept opened.constraints opened.base c.from_vec.result pass.view.worker in
    let Of : Opened → Type 0 =
    λ opened. Kept opened record { table = c.pass.inside.seat.table_id; view = c.pass.inside.seat.me.0 } in
    let With : Held → Type 0 = λ pass. Kept c.args.self pass in
    let both = subst With c.pass.view_is (subst Of c.self.view_is (rows_kept c)) in
    record {
      same_constraints = search rules;
      same_base = search rules;
      same_rounds = search rules;
      between = both.0;
      kept = both.1;
    }
