-- What a run is that is no number in range.
use Rattle.std.proofs.Common.{◌≡◌, ℕ, Bool, true, false, List, Option, Some, None, refl, ap}
use Rattle.std.specs.Prelude.{ℤ}
use Rattle.scheme_base.specs.declared.pos.Pos.{Pos}
use Rattle.scheme_base.specs.Integers.{in_range}
use Rattle.datum_form.specs.declared.token.Atom.TheVariants.{Integer}
use Rattle.datum_form.specs.declared.token.Token.TheVariants.{Atomic}
use Rattle.datum_form.specs.Words.{name_word, number_or_name}
use Rattle.datum_form.specs.declared.piece.Word.TheVariants.{IsToken, OutOfRange}
use Rattle.datum_reader.specs.declared.number.Numeral.TheVariants.{NoNumber, OutOfRange as Outside, Value}
use Rattle.datum_reader.specs.Numbers.{ranged, numeral_of}

ranged_number : (b : Bool) (z : ℤ) → ranged b z ≡ NoNumber → ⊥
ranged_number true z e = cc
ranged_number false z e = cc

pub no_number : (p : Pos) (text : List ℕ) (o : Option ℤ) → numeral_of o ≡ NoNumber
    → number_or_name p text o ≡ name_word p text
no_number p text None e = refl
no_number p text (Some z) e = absurd (ranged_number (in_range z) z e)

ranged_word : (p : Pos) (b : Bool) (z x : ℤ) → ranged b z ≡ Value x → (b ≡ true) × (z ≡ x)
ranged_word p true z x e = let same : z ≡ x = cc in (refl, same)
ranged_word p false z x e = absurd (cc)

pub one_number : (p : Pos) (text : List ℕ) (o : Option ℤ) (x : ℤ) → numeral_of o ≡ Value x
    → number_or_name p text o ≡ IsToken (Atomic p (Integer x))
one_number p text None x e = absurd (cc)
one_number p text (Some z) x e =
    let r : (in_range z ≡ true) × (z ≡ x) = ranged_word p (in_range z) z x e in
    rw r.0 (ap (λ k. IsToken (Atomic p (Integer k))) r.1)

ranged_outside : (b : Bool) (z : ℤ) → ranged b z ≡ Outside → b ≡ false
ranged_outside true z e = absurd (cc)
ranged_outside false z e = refl

pub outside : (p : Pos) (text : List ℕ) (o : Option ℤ) → numeral_of o ≡ Outside
    → number_or_name p text o ≡ OutOfRange
outside p text None e = absurd (cc)
outside p text (Some z) e = rw (ranged_outside (in_range z) z e) refl
