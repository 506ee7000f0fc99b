-- A core assigns a variable where its draft does.
use Rattle.std.proofs.Common.{◌≡◌, ℕ, zero, suc, ◌+◌, List, [], ◌∷◌, ◌++◌, Option, Some, None, Bool, true, false, not, ◌&&◌, ◌||◌, refl, sym, ap, ap₂, ◌∙◌, bytes_eq, arith}
use Rattle.std.specs.Prelude.{nat_eq, nat_le, nat_lt, ◌/◌, ◌%◌, ◌==◌, if◌then◌else◌}
use Rattle.std.specs.Fmt.{decimal, digits, digits_onto, digit_glyph}
use Rattle.std.specs.List.{list_any}
use Rattle.std.proofs.Math.Bool.{and-true, and-false}
use Rattle.scheme_base.specs.Constants.{Constant}
use Rattle.core_form.specs.Valid.{and_rest, assigns, one_assigns}
use Rattle.core_form.specs.Variables.{same_var}
use Rattle.draft_form.specs.Drafts.{Name, Draft, Drafts, Local, Fresh, Top, Library, Const, Symbols, Ref, Lambda, If, Set, Call, Prim, Seq, Fix, Define, none, item}
use Rattle.draft_form.specs.Numbers.{Given, At, var, named, all_named, maybe_named, numbered, all_numbered}
use Rattle.scheme_expand.proofs.GoodDrafts.{is_source, is_var, binds, assigned, one_assigned}

-- a text that begins with a digit, or what comes after the digits
abbrev pub BeginsDigit : List ℕ → Type 0
BeginsDigit [] = ⊥
BeginsDigit (b ∷ bytes) = nat_le 48 b ≡ true

glyph_is_digit : (d : ℕ) → nat_le 48 (digit_glyph false d) ≡ true
glyph_is_digit d = made (nat_lt d 10)
  where
    made : (b : Bool) → nat_le 48 (if b then 48 + d else (if false then 55 + d else 87 + d)) ≡ true
    made true = grind arith
    made false = grind arith

chosen_digits : (b : Bool) (d : ℕ) (acc more : List ℕ) → BeginsDigit more
    → BeginsDigit (if b then digit_glyph false d ∷ acc else more)
chosen_digits true d acc more h = glyph_is_digit d
chosen_digits false d acc more h = h

begins_onto : (k n : ℕ) (acc : List ℕ) → BeginsDigit acc → BeginsDigit (digits_onto k 10 false n acc)
begins_onto zero n acc h = h
begins_onto (suc k) n acc h =
    chosen_digits (n / 10 == 0) (n % 10) acc (digits_onto k 10 false (n / 10) (digit_glyph false (n % 10) ∷ acc))
    (begins_onto k (n / 10) (digit_glyph false (n % 10) ∷ acc) (glyph_is_digit (n % 10)))

pub begins_decimal : (n : ℕ) → BeginsDigit (decimal n)
unfolding digits
begins_decimal n =
    chosen_digits (n / 10 == 0) (n % 10) [] (digits_onto 63 10 false (n / 10) (digit_glyph false (n % 10) ∷ []))
    (begins_onto 63 (n / 10) (digit_glyph false (n % 10) ∷ []) (glyph_is_digit (n % 10)))

dot_digit : (b c d : ℕ) (e : Bool) → not (nat_eq b 46 && nat_le 48 c) ≡ true → nat_le 48 d ≡ true
    → (nat_eq b 46 && (nat_eq c d && e)) ≡ false
dot_digit b c d e h k = grind arith

digit_dot : (b c d : ℕ) (e : Bool) → not (nat_eq b 46 && nat_le 48 c) ≡ true → nat_le 48 d ≡ true
    → (nat_eq 46 b && (nat_eq d c && e)) ≡ false
digit_dot b c d e h k = grind arith

pub no_dot : (x t : List ℕ) → is_source x ≡ true → BeginsDigit t → bytes_eq x (46 ∷ t) ≡ false
no_dot [] t h k = refl
no_dot (b ∷ x) [] h k = absurd k
no_dot (b ∷ []) (d ∷ t) h k = and-false (nat_eq b 46)
no_dot (b ∷ c ∷ x) (d ∷ t) h k = dot_digit b c d (bytes_eq x t) h k

pub dot_not : (x t : List ℕ) → is_source x ≡ true → BeginsDigit t → bytes_eq (46 ∷ t) x ≡ false
dot_not [] t h k = refl
dot_not (b ∷ x) [] h k = absurd k
dot_not (b ∷ []) (d ∷ t) h k = and-false (nat_eq 46 b)
dot_not (b ∷ c ∷ x) (d ∷ t) h k = digit_dot b c d (bytes_eq t x) h k

pub same_name : (x : List ℕ) (g : Given) (y : Name) → is_source x ≡ true → same_var (var x) (named g y) ≡ is_var x y
same_name x g (Local k y) h = and-true (bytes_eq x y)
same_name x g (Fresh k) h = and-true _ ∙ no_dot x (decimal (g k)) h (begins_decimal (g k))
same_name x g (Top y) h = and-true (bytes_eq x y)
same_name x g (Library y) h = and-false (bytes_eq x y)

same_has : (x : List ℕ) (g : Given) (ys : List Name) → is_source x ≡ true
    → list_any (same_var (var x)) (all_named g ys) ≡ binds x ys
same_has x g [] h = refl
same_has x g (y ∷ ys) h = ap₂ (λ a b. a || b) (same_name x g y h) (same_has x g ys h)

pub all_named-append : (g : Given) (xs ys : List Name) → all_named g (xs ++ ys) ≡ all_named g xs ++ all_named g ys
all_named-append g [] ys = refl
all_named-append g (x ∷ xs) ys = ap (λ vs. named g x ∷ vs) (all_named-append g xs ys)

pub named_rest : (g : Given) (xs : List Name) (r : Option Name)
    → and_rest (all_named g xs) (maybe_named g r) ≡ all_named g (and_rest xs r)
named_rest g xs None = refl
named_rest g xs (Some x) = sym (all_named-append g xs (x ∷ []))

mutual
  pub assigned_same : (x : List ℕ) (symbols : Constant) (g : Given) (at : At) (e : Draft) → is_source x ≡ true
      → assigns same_var (var x) (numbered symbols g at e) ≡ assigned x e
  assigned_same x symbols g at (Const p c) h = refl
  assigned_same x symbols g at (Symbols p) h = refl
  assigned_same x symbols g at (Ref p y) h = refl
  assigned_same x symbols g at (Lambda p xs r e) h =
      ap₂ (λ a b. not a && b)
      (ap (λ vs. list_any (same_var (var x)) vs) (named_rest _ xs r) ∙ same_has x _ (and_rest xs r) h)
      (assigned_same x symbols _ _ e h)
  assigned_same x symbols g at (If p test this that) h =
      ap₂ (λ a b. a || b)
      (ap₂ (λ a b. a || b) (assigned_same x symbols _ _ test h) (assigned_same x symbols _ _ this h))
      (assigned_same x symbols _ _ that h)
  assigned_same x symbols g at (Set p y e) h =
      ap₂ (λ a b. a || b) (same_name x g y h) (assigned_same x symbols _ _ e h)
  assigned_same x symbols g at (Call p e es) h =
      ap₂ (λ a b. a || b) (assigned_same x symbols _ _ e h) (one_assigned_same x symbols _ _ es h)
  assigned_same x symbols g at (Prim p o es) h = one_assigned_same x symbols _ _ es h
  assigned_same x symbols g at (Seq p es) h = one_assigned_same x symbols _ _ es h
  assigned_same x symbols g at (Fix p xs es e) h =
      ap₂ (λ a b. not a && b) (same_has x _ xs h)
      (ap₂ (λ a b. a || b) (one_assigned_same x symbols _ _ es h) (assigned_same x symbols _ _ e h))
  assigned_same x symbols g at (Define p y e) h = assigned_same x symbols _ _ e h

  pub one_assigned_same : (x : List ℕ) (symbols : Constant) (g : Given) (at : At) (es : Drafts) → is_source x ≡ true
      → one_assigns same_var (var x) (all_numbered symbols g at es) ≡ one_assigned x es
  one_assigned_same x symbols g at none h = refl
  one_assigned_same x symbols g at (item e es) h =
      ap₂ (λ a b. a || b) (assigned_same x symbols _ _ e h) (one_assigned_same x symbols _ _ es h)
