-- The data that can be expanded: their names are names of R4RS, and their integers those of this profile.
use Rattle.std.specs.Prelude.{◌≡◌, true}
use Rattle.datum_form.specs.declared.token.Atom.{Atom}
use Rattle.datum_form.specs.declared.token.Atom.TheVariants.{Integer, Symbol}
use Rattle.datum_form.specs.Data.{Datum, Datum as datum, Items}
use Rattle.datum_form.specs.Data.Items.{none, item}
use Rattle.datum_form.specs.Words.{is_name}
use Rattle.scheme_base.specs.Integers.{in_range}

abbrev pub IsAtom : Atom → Type 0
IsAtom (Integer z) = in_range z ≡ true
IsAtom (Symbol x) = is_name x ≡ true
IsAtom a = Unit {0}

abbrev mutual
  pub IsInput : Datum → Type 0
  IsInput (datum.Atomic p a) = IsAtom a
  IsInput (datum.List p is) = AreInputs is
  IsInput (datum.Dotted p is d) = AreInputs is × IsInput d
  IsInput (datum.Vector p is) = AreInputs is

  pub AreInputs : Items → Type 0
  AreInputs none = Unit {0}
  AreInputs (item d ds) = IsInput d × AreInputs ds
