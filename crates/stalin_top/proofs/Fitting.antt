-- The values of options are in their ranges.
use Rattle.std.proofs.Common.{◌≡◌, refl, sym, subst, ◌∙◌, ℕ, ◌≤◌, ◌%◌, ◌^◌, ◌&&◌, nat_eq, Bool, true, false, if◌then◌else◌, List, Option, Some, None, arith}
use Rattle.std.specs.Option.{unwrap_or}
use Rattle.std.proofs.lemmas.Bool.{leb-true}
use Rattle.stalin_top.specs.Command.{is_in, number_in, range_of, with_setting}
use Rattle.stalin_top.specs.Given.{AreFit}
use Rattle.stalin_top.specs.declared.shape.Range.{Range}
use Rattle.stalin_top.specs.declared.shape.Setting.{Setting}
use Rattle.stalin_top.specs.declared.shape.Setting.TheVariants.{Workers, Heap, Steps}
use Rattle.stalin_top.specs.declared.shape.Settings.{Settings}

both : (a b : Bool) → (a && b) ≡ true → (a ≡ true) × (b ≡ true)
both true true is = (refl, refl)
both true false is = absurd (cc)
both false b is = absurd (cc)

equal : (a b : ℕ) → nat_eq a b ≡ true → a ≡ b
equal a b is = grind arith

workers_of : (o : Option ℕ) → ((n : ℕ) → o ≡ Some n → is_in (range_of Workers) n ≡ true) → (1 ≤ unwrap_or o 1) × (unwrap_or o 1 ≤ 32)
workers_of None fit = (omega arith, omega arith)
workers_of (Some n) fit =
    let parts = both _ _ (fit n refl) in
    (leb-true 1 n parts.0, leb-true n 32 (both _ _ parts.1).0)

pub workers_fit : (settings : Settings) → AreFit settings → (1 ≤ unwrap_or settings.workers 1) × (unwrap_or settings.workers 1 ≤ 32)
workers_fit settings fit = workers_of settings.workers (fit Workers)

heap_of : (o : Option ℕ) → ((n : ℕ) → o ≡ Some n → is_in (range_of Heap) n ≡ true)
    → (4096 ≤ unwrap_or o 67108864) × (unwrap_or o 67108864 ≤ 2 ^ 30) × (unwrap_or o 67108864 % 16 ≡ 0)
heap_of None fit = (omega arith, omega arith, refl)
heap_of (Some n) fit =
    let parts = both _ _ (fit n refl) in
    let ends = both _ _ parts.1 in
    (leb-true 4096 n parts.0, leb-true n (2 ^ 30) ends.0, equal (n % 16) 0 ends.1)

pub heap_fits : (settings : Settings) → AreFit settings
    → (4096 ≤ unwrap_or settings.heap 67108864) × (unwrap_or settings.heap 67108864 ≤ 2 ^ 30)
    × (unwrap_or settings.heap 67108864 % 16 ≡ 0)
heap_fits settings fit = heap_of settings.heap (fit Heap)

pub none_fit : AreFit (record { workers = None; heap = None; steps = None })
none_fit Workers n is = absurd (cc)
none_fit Heap n is = absurd (cc)
none_fit Steps n is = absurd (cc)

same_value : (range : Range) (v n : ℕ) → Some v ≡ Some n → is_in range v ≡ true → is_in range n ≡ true
same_value range v n is good =
    let same : v ≡ n = cc in subst (λ k. is_in range k ≡ true) same good

with_fits : (s : Setting) (v : ℕ) (settings : Settings) → is_in (range_of s) v ≡ true → AreFit settings
    → AreFit (with_setting s v settings)
with_fits Workers v settings good fit Workers n is = same_value (range_of Workers) v n is good
with_fits Workers v settings good fit Heap n is = fit Heap n is
with_fits Workers v settings good fit Steps n is = fit Steps n is
with_fits Heap v settings good fit Workers n is = fit Workers n is
with_fits Heap v settings good fit Heap n is = same_value (range_of Heap) v n is good
with_fits Heap v settings good fit Steps n is = fit Steps n is
with_fits Steps v settings good fit Workers n is = fit Workers n is
with_fits Steps v settings good fit Heap n is = fit Heap n is
with_fits Steps v settings good fit Steps n is = same_value (range_of Steps) v n is good

of_if : (b : Bool) (n v : ℕ) → (if b then Some n else None) ≡ Some v → (b ≡ true) × (n ≡ v)
of_if true n v is = (refl, cc)
of_if false n v is = absurd (cc)

in_range : (range : Range) (word : List ℕ) (v : ℕ) → number_in range word ≡ Some v → is_in range v ≡ true
in_range range word v is =
    let parts = of_if _ _ v is in
    subst (λ k. is_in range k ≡ true) parts.1 (both _ _ parts.0).1

pub value_fits : (s : Setting) (range : Range) (word : List ℕ) (v : ℕ) (number : Option ℕ) (settings after : Settings)
    → range ≡ range_of s → number ≡ number_in range word → number ≡ Some v → after ≡ with_setting s v settings
    → AreFit settings → AreFit after
value_fits s range word v number settings after is_range is some is_after fit =
    subst AreFit (sym is_after)
    (with_fits s v settings (subst (λ r. is_in r v ≡ true) is_range (in_range range word v (sym is ∙ some))) fit)
