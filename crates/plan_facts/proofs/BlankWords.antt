-- The members of a row, word by word: a word without a bit has none.
use Rattle.std.proofs.Common.{◌≡◌, ℕ, ◌+◌, ◌-◌, ◌*◌, ◌/◌, ◌%◌, ◌<◌, Bool, true, false, List, ◌++◌, Option, Some, None, refl, sym, ap, ◌∙◌, subst, arith, append_assoc, eqb-true}
use Rattle.std.proofs.lemmas.List.{append-nil}
use Rattle.std.specs.Prelude.{nat_eq, nat_lt, ◌&&◌, slice_get}
use Rattle.std.specs.Int.{bit_at}
use Rattle.std.specs.List.{filter}
use Rattle.std.proofs.lemmas.List.Elements.{filter-append}
use Rattle.std.proofs.lemmas.Nat.{div-mul-add}
use Rattle.std.proofs.lemmas.Nat.Bits.{bit_at-zero}
use Rattle.flow_form.specs.declared.rows.Rows.{Rows}
use Rattle.named_form.specs.Valid.{numbers_from}
use Rattle.named_form.proofs.Rising.{filter_none, numbers_append}
use Rattle.plan_facts.specs.Pairs.{bit_of, holds, is_blank}

no_bit : (o : Option ℕ) (bit : ℕ) → is_blank o ≡ true → bit_of o bit ≡ false
no_bit None bit h = refl
no_bit (Some word) bit h =
    let nought : word ≡ 0 = eqb-true word 0 h in
    ap (λ w. nat_eq (bit_at w bit) 1) nought ∙ ap (λ n. nat_eq n 1) (bit_at-zero bit)

and_false : (a b : Bool) → b ≡ false → (a && b) ≡ false
and_false true b h = h
and_false false b h = refl

no_atom : (rows : Rows) (r at a : ℕ) → is_blank (slice_get rows.words (r * rows.stride + at)) ≡ true → a / 64 ≡ at
    → holds rows r a ≡ false
no_atom rows r at a blank here =
    and_false (nat_lt (a / 64) rows.stride) (bit_of (slice_get rows.words (r * rows.stride + a / 64)) (a % 64))
    (no_bit (slice_get rows.words (r * rows.stride + a / 64)) (a % 64)
    (subst (λ n. is_blank (slice_get rows.words (r * rows.stride + n)) ≡ true) (sym here) blank))

pub blank_word : (rows : Rows) (r at : ℕ) (old : List ℕ) → is_blank (slice_get rows.words (r * rows.stride + at)) ≡ true
    → old ≡ old ++ filter (holds rows r) (numbers_from (at * 64) 64)
blank_word rows r at old blank =
    let nothing =
    filter_none (holds rows r) (at * 64) 64
    (λ a from to.
    let whole : at * 64 + (a - at * 64) ≡ a = omega (arith, from) in
    no_atom rows r at a blank (sym (ap (λ n. n / 64) whole) ∙ div-mul-add at 64 (a - at * 64) (omega (arith, from, to)))) in
    sym (ap (λ xs. old ++ xs) nothing ∙ append-nil old)

pub word_begins : (P : ℕ → Bool) (at first : ℕ) (old : List ℕ) → first ≡ at * 64
    → old ++ filter P (numbers_from first (at * 64 + 64 - first)) ≡ old ++ filter P (numbers_from (at * 64) 64)
word_begins P at first old is =
    let many : at * 64 + 64 - first ≡ 64 = omega (arith, is) in
    ap (λ n. old ++ filter P (numbers_from first n)) many ∙ ap (λ n. old ++ filter P (numbers_from n 64)) is

pub word_on : (P : ℕ → Bool) (at most : ℕ) (old new whole : List ℕ) → at < most
    → new ≡ old ++ filter P (numbers_from (at * 64) 64)
    → old ++ filter P (numbers_from (at * 64) (most * 64 - at * 64)) ≡ whole
    → new ++ filter P (numbers_from ((at + 1) * 64) (most * 64 - (at + 1) * 64)) ≡ whole
word_on P at most old new whole below puts was =
    let left : most * 64 - at * 64 ≡ 64 + (most * 64 - (at + 1) * 64) = omega (arith, below) in
    let next : at * 64 + 64 ≡ (at + 1) * 64 = omega arith in
    let rest = filter P (numbers_from ((at + 1) * 64) (most * 64 - (at + 1) * 64)) in
    let split =
    ap (λ n. filter P (numbers_from (at * 64) n)) left
    ∙ (ap (filter P) (numbers_append (at * 64) 64 (most * 64 - (at + 1) * 64))
    ∙ (filter-append P (numbers_from (at * 64) 64) (numbers_from (at * 64 + 64) (most * 64 - (at + 1) * 64))
    ∙ ap (λ n. filter P (numbers_from (at * 64) 64) ++ filter P (numbers_from n (most * 64 - (at + 1) * 64))) next)) in
    ap (λ xs. xs ++ rest) puts
    ∙ (append_assoc old (filter P (numbers_from (at * 64) 64)) rest
    ∙ (ap (λ xs. old ++ xs) (sym split) ∙ was))
