-- The number of a range that a word is.
use Rattle.std.proofs.Common.{◌≡◌, refl, sym, ap, subst, ◌∙◌, ℕ, ◌≤◌, ◌<◌, ◌^◌, ◌&&◌, Bool, true, false, if◌then◌else◌, List, Some, None, Result, Ok, arith}
use Rattle.std.specs.Prelude.{decimal}
use Rattle.std.specs.Str.{bytes_eq}
use Rattle.std.specs.Str.Parse.{digits_value, ParsesUnsigned}
use Rattle.std.proofs.lemmas.Bool.{leb-true}
use Rattle.std.proofs.lemmas.Fmt.{decimal_is_IsNumeral, parse-decimal}
use Rattle.std.proofs.lemmas.Slice.Eq.{bytes_eq-Decides}
use Rattle.stalin_top.specs.Command.{is_in, number_in}
use Rattle.stalin_top.specs.declared.shape.Range.{Range}

if_true : {A : Type 0} (b : Bool) (x y : A) → b ≡ true → (if b then x else y) ≡ x
if_true true x y is = refl
if_true false x y is = absurd (cc)

if_not : (b : Bool) (n : ℕ) → (b ≡ true → ⊥) → (if b then Some n else None) ≡ None
if_not true n never = absurd (never refl)
if_not false n never = refl

both : (a b : Bool) → (a && b) ≡ true → (a ≡ true) × (b ≡ true)
both true true is = (refl, refl)
both true false is = absurd (cc)
both false b is = absurd (cc)

and_true : (a b : Bool) → a ≡ true → b ≡ true → (a && b) ≡ true
and_true true true one two = refl
and_true true false one two = absurd (cc)
and_true false b one two = absurd (cc)

-- a word is no number of the range where it is the decimal form of none
pub no_number : (range : Range) (word : List ℕ) → ((n : ℕ) → word ≡ decimal n → is_in range n ≡ true → ⊥)
    → number_in range word ≡ None
no_number range word none =
    if_not _ (digits_value 10 word)
    (λ is.
    let parts = both _ _ is in
    none (digits_value 10 word) ((bytes_eq-Decides word (decimal (digits_value 10 word))).0 parts.0) parts.1)

at_decimal : (range : Range) (n m : ℕ) → m ≡ n → is_in range n ≡ true
    → (if bytes_eq (decimal n) (decimal m) && is_in range m then Some m else None) ≡ Some n
at_decimal range n m same holds =
    if_true _ _ _
    (and_true _ _ ((bytes_eq-Decides (decimal n) (decimal m)).1 (ap decimal (sym same))) (ap (is_in range) same ∙ holds))
    ∙ ap Some same

at_most : (range : Range) (n : ℕ) → is_in range n ≡ true → n ≤ range.most
at_most range n holds = leb-true n range.most (both _ _ (both _ _ holds).1).0

pub is_number : (range : Range) (word : List ℕ) (n : ℕ) → word ≡ decimal n → is_in range n ≡ true → range.most < 2 ^ 64
    → number_in range word ≡ Some n
is_number range word n is holds low =
    let most : n ≤ range.most = at_most range n holds in
    subst (λ w. number_in range w ≡ Some n) (sym is)
    (at_decimal range n (digits_value 10 (decimal n)) ((decimal_is_IsNumeral n (omega arith)).1) holds)

-- of a word that is a number of the range its parse is that number
pub parsed : {E : Type 0} (range : Range) (word : List ℕ) (n : ℕ) (r : Result ℕ E) → ParsesUnsigned 64 10 word r
    → word ≡ decimal n → is_in range n ≡ true → range.most < 2 ^ 64 → r ≡ Ok n
parsed range word n r parses is holds low =
    let most : n ≤ range.most = at_most range n holds in
    parse-decimal 64 n word r (omega arith) (omega arith) is parses
