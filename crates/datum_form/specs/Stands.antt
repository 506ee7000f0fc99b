-- Which datum a node stands for.
use Rattle.std.specs.Prelude.{◌≡◌, ℕ, List as Seq, [], ◌∷◌, Some, None, slice_get}
use Rattle.scheme_base.specs.declared.pos.Pos.{Pos}
use Rattle.datum_form.specs.declared.datums.Node.{Node}
use Rattle.datum_form.specs.declared.datums.Datums.{Datums}
use Rattle.datum_form.specs.declared.datums.Kind.{Kind}
use Rattle.datum_form.specs.declared.datums.Kind.TheVariants as kind
use Rattle.datum_form.specs.declared.token.Atom.{Atom}
use Rattle.datum_form.specs.declared.token.Atom.TheVariants.{Integer, Boolean, Character, String, Symbol}
use Rattle.datum_form.specs.Data.{Datum, Datum as datum, Items}
use Rattle.datum_form.specs.Data.Items.{none, item}

abbrev pub kind_of : Atom → Kind
kind_of (Integer n) = kind.Integer n
kind_of (Boolean b) = kind.Boolean b
kind_of (Character c) = kind.Char c
kind_of (String bytes) = kind.Text bytes
kind_of (Symbol bytes) = kind.Name bytes

-- the node of this number is of this kind, at this place
abbrev pub IsNode : Seq Node → ℕ → Kind → Pos → Type 0
IsNode nodes id k p = slice_get nodes id ≡ Some (record { kind = k; pos = p })

abbrev mutual
  pub Stands : Seq Node → ℕ → Datum → Type 0
  Stands nodes id (datum.Atomic p a) = IsNode nodes id (kind_of a) p
  Stands nodes id (datum.List p is) =
      (ids : Seq ℕ) × IsNode nodes id (kind.List ids None) p × StandAll nodes ids is
  Stands nodes id (datum.Dotted p is d) =
      (ids : Seq ℕ) × (tail : ℕ) × IsNode nodes id (kind.List ids (Some tail)) p × StandAll nodes ids is
      × Stands nodes tail d
  Stands nodes id (datum.Vector p is) = (ids : Seq ℕ) × IsNode nodes id (kind.Vector ids) p × StandAll nodes ids is

  pub StandAll : Seq Node → Seq ℕ → Items → Type 0
  StandAll nodes ids none = ids ≡ []
  StandAll nodes ids (item d is) =
      (first : ℕ) × (others : Seq ℕ) × (ids ≡ first ∷ others) × Stands nodes first d × StandAll nodes others is

-- the data of a text are these
abbrev pub Holds : Datums → Items → Type 0
Holds datums is = StandAll datums.nodes datums.tops is
