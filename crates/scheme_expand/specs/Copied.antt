-- Data copied node by node, each node to the place of its form.
use Rattle.std.specs.Prelude.{ℕ, suc, ◌≡◌, List as Seq, [], ◌∷◌, ◌++◌, map, slice_get, Option, Some, None}
use Rattle.datum_form.specs.declared.datums.Kind.{Kind}
use Rattle.datum_form.specs.declared.datums.Kind.TheVariants as kind
use Rattle.datum_form.specs.declared.datums.Node.{Node}
use Rattle.scheme_expand.specs.declared.placed.Original.{Original}
use Rattle.scheme_expand.specs.Programs.{outside}

abbrev pub original : (form id : ℕ) → Original
original form id = record { id = id; form = form }

-- nodes of one form
abbrev pub all_in : (form : ℕ) → Seq ℕ → Seq Original
all_in form ids = map (original form) ids

-- the first of these nodes is form k, the second the next one, and so on
abbrev pub forms_from : (k : ℕ) → Seq ℕ → Seq Original
forms_from k [] = []
forms_from k (id ∷ ids) = original k id ∷ forms_from (suc k) ids

-- the list of what is copied, in the order of the copies, only grows
abbrev pub Grows : (old new : Seq Original) → Type 0
Grows old new = (more : Seq Original) × (new ≡ old ++ more)

-- in that list, these have these numbers
abbrev pub AreAt : (from originals : Seq Original) → (copies : Seq ℕ) → Type 0
AreAt from [] copies = copies ≡ []
AreAt from (o ∷ originals) copies =
    (first : ℕ) × (others : Seq ℕ) × (copies ≡ first ∷ others) × (slice_get from first ≡ Some o) × AreAt from originals others

abbrev pub TailIsAt : Seq Original → (form : ℕ) → (old new : Option ℕ) → Type 0
TailIsAt from form None new = new ≡ None
TailIsAt from form (Some id) new = (copy : ℕ) × (new ≡ Some copy) × (slice_get from copy ≡ Some (original form id))

-- a kind names the copies of what another names
abbrev pub KindCopies : Seq Original → (form : ℕ) → (old new : Kind) → Type 0
KindCopies from form (kind.List ids tail) new =
    (copies : Seq ℕ) × (end : Option ℕ) × (new ≡ kind.List copies end) × AreAt from (all_in form ids) copies
    × TailIsAt from form tail end
KindCopies from form (kind.Vector ids) new =
    (copies : Seq ℕ) × (new ≡ kind.Vector copies) × AreAt from (all_in form ids) copies
KindCopies from form old new = new ≡ old

-- a node is a copy, at the place of its form
pub record IsCopy (nodes : Seq Node) (from : Seq Original) (o : Original) (copy : Node) : Type 0 where
  pub node : Node
  pub there : slice_get nodes o.id ≡ Some node
  pub kind : KindCopies from o.form node.kind copy.kind
  pub place : copy.pos ≡ outside o.form

-- these are copies of the first in the list
abbrev pub AreCopies : Seq Node → Seq Original → (copies : Seq Node) → Type 0
AreCopies nodes from copies =
    (id : ℕ) (copy : Node) → slice_get copies id ≡ Some copy
    → (o : Original) × (slice_get from id ≡ Some o) × IsCopy nodes from o copy
