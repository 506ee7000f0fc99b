-- What is still to be printed.
use Rattle.std.specs.Prelude.{◌≡◌, ℕ, List as Seq, [], ◌∷◌, ◌++◌, Some, None, reverse, codes}
use Rattle.datum_form.specs.declared.datums.Node.{Node}
use Rattle.datum_form.specs.declared.datums.Kind.{Kind}
use Rattle.datum_form.specs.declared.datums.Kind.TheVariants as kind
use Rattle.datum_form.specs.declared.text.Part.{Part}
use Rattle.datum_form.specs.declared.text.Part.TheVariants as part
use Rattle.datum_form.specs.Data.{Datum, Datum as datum}
use Rattle.datum_form.specs.Stands.{kind_of, Stands, StandAll}
use Rattle.datum_form.specs.Print.{text_of}

-- this part prints these bytes
abbrev pub Prints : Seq Node → Part → Seq ℕ → Type 0
Prints nodes (part.Datum id) bytes = (d : Datum) × Stands nodes id d × (bytes ≡ text_of d)
Prints nodes (part.Next id) bytes = (d : Datum) × Stands nodes id d × (bytes ≡ codes " " ++ text_of d)
Prints nodes (part.Tail id) bytes = (d : Datum) × Stands nodes id d × (bytes ≡ codes " . " ++ text_of d)
Prints nodes part.Close bytes = bytes ≡ codes ")"

-- these parts print these bytes, one after another
abbrev pub PrintAll : Seq Node → Seq Part → Seq ℕ → Type 0
PrintAll nodes [] bytes = bytes ≡ []
PrintAll nodes (p ∷ ps) bytes =
    (one : Seq ℕ) × (others : Seq ℕ) × (bytes ≡ one ++ others) × Prints nodes p one × PrintAll nodes ps others

-- parts of which the last is printed first
abbrev pub Pending : Seq Node → Seq Part → Seq ℕ → Type 0
Pending nodes parts bytes = PrintAll nodes (reverse parts) bytes

-- what is printed and what is pending are these bytes together
abbrev pub Left : Seq Node → Seq ℕ → Seq Part → Seq ℕ → Type 0
Left nodes text parts whole = (more : Seq ℕ) × Pending nodes parts more × (text ++ more ≡ whole)

-- a node of this kind stands for this datum
abbrev pub IsKind : Seq Node → Kind → Datum → Type 0
IsKind nodes k (datum.Atomic p a) = k ≡ kind_of a
IsKind nodes k (datum.List p is) = (ids : Seq ℕ) × (k ≡ kind.List ids None) × StandAll nodes ids is
IsKind nodes k (datum.Dotted p is d) =
    (ids : Seq ℕ) × (tail : ℕ) × (k ≡ kind.List ids (Some tail)) × StandAll nodes ids is × Stands nodes tail d
IsKind nodes k (datum.Vector p is) = (ids : Seq ℕ) × (k ≡ kind.Vector ids) × StandAll nodes ids is
