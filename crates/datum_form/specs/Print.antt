-- How data are printed: with single spaces and without abbreviations, numbers in decimal, each datum that
-- stands in no other on a line of its own.
use Rattle.std.specs.Prelude.{ℕ, List, [], ◌++◌, codes}
use Rattle.std.specs.Fmt.{signed_decimal}
use Rattle.scheme_base.specs.AtomText.{boolean_text, character_text, string_text}
use Rattle.datum_form.specs.declared.token.Atom.{Atom}
use Rattle.datum_form.specs.declared.token.Atom.TheVariants.{Integer, Boolean, Character, String, Symbol}
use Rattle.datum_form.specs.Data.{Datum, Datum as datum, Items}
use Rattle.datum_form.specs.Data.Items.{none, item}

abbrev pub atom_text : Atom → List ℕ
atom_text (Integer z) = signed_decimal z
atom_text (Boolean b) = boolean_text b
atom_text (Character c) = character_text c
atom_text (String bytes) = string_text bytes
atom_text (Symbol bytes) = bytes

abbrev mutual
  pub text_of : Datum → List ℕ
  text_of (datum.Atomic p a) = atom_text a
  text_of (datum.List p is) = codes "(" ++ (items_text is ++ codes ")")
  text_of (datum.Dotted p is d) = codes "(" ++ (items_text is ++ (codes " . " ++ (text_of d ++ codes ")")))
  text_of (datum.Vector p is) = codes "#(" ++ (items_text is ++ codes ")")

  pub items_text : Items → List ℕ
  items_text none = []
  items_text (item d is) = text_of d ++ more_text is

  -- items after another
  pub more_text : Items → List ℕ
  more_text none = []
  more_text (item d is) = codes " " ++ (text_of d ++ more_text is)

abbrev pub lines_of : Items → List ℕ
lines_of none = []
lines_of (item d is) = text_of d ++ (codes "\n" ++ lines_of is)
