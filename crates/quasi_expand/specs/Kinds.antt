-- The kind of a node, and the lists and the names among kinds.
use Rattle.std.specs.Prelude.{ℕ, List, Option, Some, None, slice_get}
use Rattle.std.specs.Option.{option_map}
use Rattle.datum_form.specs.declared.datums.Node.{Node}
use Rattle.datum_form.specs.declared.datums.Kind.{Kind}
use Rattle.datum_form.specs.declared.datums.Kind.TheVariants as kind
use Rattle.datum_form.specs.declared.token.Atom.TheVariants.{Symbol}
use Rattle.datum_form.specs.Data.{Datum, Datum as datum}

abbrev pub node_kind : List Node → ℕ → Option Kind
node_kind nodes id = option_map (λ node. node.kind) (slice_get nodes id)

abbrev pub list_kind : Kind → Option (List ℕ)
list_kind (kind.List ids None) = Some ids
list_kind k = None

abbrev pub name_kind : Kind → Option (List ℕ)
name_kind (kind.Name bytes) = Some bytes
name_kind k = None

abbrev pub name_of : Datum → Option (List ℕ)
name_of (datum.Atomic p (Symbol x)) = Some x
name_of d = None
