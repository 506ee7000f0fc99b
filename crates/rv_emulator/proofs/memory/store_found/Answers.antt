use Rattle.std.proofs.Common.{subst, sym, ◌≡◌, ◌∙◌, true, ℕ, arith}
use Rattle.std.specs.Prelude.{slice_index}
use Rattle.rv_form.specs.Machine.{store}
use Rattle.rv_emulator.specs.Memory.{IsWhole, has_flag, all_flagged}
use Rattle.rv_words.specs.Widths.{bytes_of}
use Rattle.rv_emulator.proofs.BytesOfNumbers.{some_bytes}
use Rattle.rv_emulator.proofs.OnePlaceEach.{whole_fits, whole_flagged}
use Rattle.rv_emulator.proofs.StoredBytes.{whole_store, store_keeps}
use Rattle.rv_emulator.proofs.memory.store_found.Goals as goal

pub put_at-requires : goal.put_at-requires
put_at-requires c =
    let fits =
    whole_fits c.args.regions.now c.args.bytes.now c.args.a (bytes_of c.args.width) c.in-Whole.at c.in-Whole.flags c.requires (some_bytes c.args.width)
    (subst (λ n. IsWhole c.args.regions.now c.args.a n c.in-Whole.at c.in-Whole.flags) c.count.ensures c.in-Whole.ensures)
    in
    let same = c.count-in-Whole.ensures in omega arith

pub returns-else-not-is_set-clause-answer : goal.returns-else-not-is_set-clause-answer
returns-else-not-is_set-clause-answer c =
    let set : has_flag c.in-Whole.flags 2 ≡ true = cc in
    sym (whole_flagged c.args.regions.now 2 (bytes_of c.args.width) c.args.a c.in-Whole.at c.in-Whole.flags (some_bytes c.args.width)
    (subst (λ n. IsWhole c.args.regions.now c.args.a n c.in-Whole.at c.in-Whole.flags) c.count.ensures c.in-Whole.ensures)
    ∙ set)

pub returns-else-not-is_set-clause-stored : goal.returns-else-not-is_set-clause-stored
returns-else-not-is_set-clause-stored c =
    whole_store c.args.regions.now c.args.bytes.now c.put_at.new.bytes c.args.a (bytes_of c.args.width) c.in-Whole.at c.in-Whole.flags c.args.value
    (subst (λ n. IsWhole c.args.regions.now c.args.a n c.in-Whole.at c.in-Whole.flags) c.count.ensures c.in-Whole.ensures)
    (subst (λ n. (k : ℕ) → slice_index c.put_at.new.bytes k ≡ store n (λ k. slice_index c.args.bytes.now k) c.in-Whole.at c.args.value k) c.count-in-Whole.ensures c.put_at.ensures.written)

pub returns-else-not-is_set-clause-fixed : goal.returns-else-not-is_set-clause-fixed
returns-else-not-is_set-clause-fixed c =
    store_keeps c.args.regions.now c.args.bytes.now c.put_at.new.bytes (bytes_of c.args.width) c.args.a c.args.value
    (sym (returns-else-not-is_set-clause-answer c))
    (returns-else-not-is_set-clause-stored c)

pub returns-else-not-may-clause-fixed : goal.returns-else-not-may-clause-fixed
returns-else-not-may-clause-fixed c =
    let usable : all_flagged c.args.regions.now 2 c.count-in-Apart-2.result c.args.a ≡ true = cc in
    store_keeps c.args.regions.now c.args.bytes.now c.store_apart.new.bytes c.count-in-Apart-2.result c.args.a c.args.value
    usable c.store_apart.ensures.stored
