-- The earlier of two faults, and the least of many, do not hang on their order.
use Rattle.std.proofs.Common.{ℕ, ◌≡◌, List, [], ◌∷◌, ◌++◌, Option, Some, None, Bool, true, false, refl, sym, ap, ◌∙◌, arith}
use Rattle.std.specs.Prelude.{nat_lt, nat_eq, ◌&&◌, ◌||◌}
use Rattle.std.proofs.lemmas.Bool.Decides.{nat_tests}
use Rattle.scheme_expand.specs.Faults.{Fault, is_before, least}
use Rattle.scheme_expand.specs.Waiting.{earlier}

abbrev before : (a b c d e f : ℕ) → Bool
before a b c d e f = nat_lt a d || nat_eq a d && (nat_lt b e || nat_eq b e && nat_lt c f)

later_not : (a b c d e f : ℕ) → before a b c d e f ≡ true → before d e f a b c ≡ false
later_not a b c d e f h = grind (arith, nat_tests)

both : (a b c d e f g h i : ℕ) → before d e f a b c ≡ true → before g h i d e f ≡ true → before g h i a b c ≡ true
both a b c d e f g h i p q = grind (arith, nat_tests)

neither : (a b c d e f g h i : ℕ) → before d e f a b c ≡ false → before g h i d e f ≡ false → before g h i a b c ≡ false
neither a b c d e f g h i p q = grind (arith, nat_tests)

same : (a b c d e f : ℕ) → before a b c d e f ≡ false → before d e f a b c ≡ false → (a ≡ d) × (b ≡ e) × (c ≡ f)
same a b c d e f p q = (grind (arith, nat_tests), grind (arith, nat_tests), grind (arith, nat_tests))

abbrev fault_at : ℕ → ℕ → ℕ → Fault
fault_at a b c = record { place = record { line = a; col = b }; rule = c }

same_fault : (f g : Fault) → is_before f g ≡ false → is_before g f ≡ false → f ≡ g
same_fault f g p q =
    let s = same f.place.line f.place.col f.rule g.place.line g.place.col g.rule p q in
    ap (λ n. fault_at n f.place.col f.rule) s.0
    ∙ (ap (λ n. fault_at g.place.line n f.rule) s.1 ∙ ap (λ n. fault_at g.place.line g.place.col n) s.2)

earlier_two : (f g : Fault) (gf fg : Bool) → is_before g f ≡ gf → is_before f g ≡ fg
    → earlier (Some f) (Some g) ≡ earlier (Some g) (Some f)
earlier_two f g true true p q = absurd (let r : is_before f g ≡ false = later_not g.place.line g.place.col g.rule f.place.line f.place.col f.rule p in cc)
earlier_two f g true false p q = simp (p, q) refl
earlier_two f g false true p q = simp (p, q) refl
earlier_two f g false false p q = simp (p, q) (ap Some (same_fault f g q p))

pub earlier_none : (a : Option Fault) → earlier a None ≡ a
earlier_none None = refl
earlier_none (Some f) = refl

pub earlier_comm : (a b : Option Fault) → earlier a b ≡ earlier b a
earlier_comm None b = sym (earlier_none b)
earlier_comm (Some f) None = refl
earlier_comm (Some f) (Some g) = earlier_two f g (is_before g f) (is_before f g) refl refl

earlier_three : (f g h : Fault) (gf hg hf : Bool) → is_before g f ≡ gf → is_before h g ≡ hg → is_before h f ≡ hf
    → earlier (earlier (Some f) (Some g)) (Some h) ≡ earlier (Some f) (earlier (Some g) (Some h))
earlier_three f g h true true true p q r = simp (p, q, r) refl
earlier_three f g h true true false p q r =
    absurd
    (let s : is_before h f ≡ true = both f.place.line f.place.col f.rule g.place.line g.place.col g.rule h.place.line h.place.col h.rule p q in
    cc)
earlier_three f g h true false hf p q r = simp (p, q, r) refl
earlier_three f g h false true true p q r = simp (p, q, r) refl
earlier_three f g h false true false p q r = simp (p, q, r) refl
earlier_three f g h false false true p q r =
    absurd
    (let s : is_before h f ≡ false = neither f.place.line f.place.col f.rule g.place.line g.place.col g.rule h.place.line h.place.col h.rule p q in
    cc)
earlier_three f g h false false false p q r = simp (p, q, r) refl

pub earlier_assoc : (a b c : Option Fault) → earlier (earlier a b) c ≡ earlier a (earlier b c)
earlier_assoc None b c = refl
earlier_assoc (Some f) None c = refl
earlier_assoc (Some f) (Some g) None = earlier_none (earlier (Some f) (Some g))
earlier_assoc (Some f) (Some g) (Some h) =
    earlier_three f g h (is_before g f) (is_before h g) (is_before h f) refl refl refl

-- of two in the front, the second may come first
pub earlier_swap : (a b c : Option Fault) → earlier a (earlier b c) ≡ earlier b (earlier a c)
earlier_swap a b c = sym (earlier_assoc a b c) ∙ (ap (λ x. earlier x c) (earlier_comm a b) ∙ earlier_assoc b a c)

pub least_append : (xs ys : List Fault) → least (xs ++ ys) ≡ earlier (least xs) (least ys)
least_append [] ys = refl
least_append (x ∷ xs) ys =
    ap (earlier (Some x)) (least_append xs ys) ∙ sym (earlier_assoc (Some x) (least xs) (least ys))
