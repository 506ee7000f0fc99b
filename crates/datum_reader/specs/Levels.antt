-- What the reader's levels are: a frame of the machine, with the nodes that stand for its trees.
use Rattle.std.specs.Prelude.{◌≡◌, ℕ, List as Seq, [], ◌∷◌, ◌++◌, Option, Some, None}
use Rattle.scheme_base.specs.declared.pos.Pos.{Pos}
use Rattle.datum_form.specs.declared.datums.Node.{Node}
use Rattle.datum_form.specs.Data.{datum_of, data_of}
use Rattle.datum_form.specs.Stands.{Stands, StandAll}
use Rattle.datum_form.specs.Syntax.{Syntax}
use Rattle.datum_form.specs.Syntax.Syntax.{Nil, Listed, Vector}
use Rattle.datum_form.specs.Syntax.Rest.{End, Tail}
use Rattle.datum_form.specs.Syntax.Elements.{Last}
use Rattle.datum_reader.specs.declared.level.Level.{Level}
use Rattle.datum_reader.specs.declared.level.Level.TheVariants as level
use Rattle.datum_reader.specs.Machine.{Frame, rest_of, elements_of}
use Rattle.datum_reader.specs.Machine.Frame.{Opened, Listing, Dotted, Tailed, InVector, Waiting}
use Rattle.datum_reader.specs.Nodes.{Builds}

-- this level is this frame
abbrev pub HoldsLevel : Seq Node → Level → Frame → Type 0
HoldsLevel nodes (level.Opened p) (Opened q) = p ≡ q
HoldsLevel nodes (level.Listing p ids) (Listing q a is) = (p ≡ q) × StandAll nodes ids (data_of (a ∷ is))
HoldsLevel nodes (level.Dotted p ids) (Dotted q a is d) = (p ≡ q) × StandAll nodes ids (data_of (a ∷ is))
HoldsLevel nodes (level.Tailed p ids tail) (Tailed q a is d t) =
    (p ≡ q) × StandAll nodes ids (data_of (a ∷ is)) × Stands nodes tail (datum_of t)
HoldsLevel nodes (level.InVector p ids) (InVector q is) = (p ≡ q) × StandAll nodes ids (data_of is)
HoldsLevel nodes (level.Waiting p m) (Waiting q k) = (p ≡ q) × (m ≡ k)
HoldsLevel nodes l f = ⊥

-- this level is some frame
abbrev pub IsLevel : Seq Node → Level → Type 0
IsLevel nodes l = (f : Frame) × HoldsLevel nodes l f

-- a frame with one tree more; a mark stays as it is
abbrev pub with_tree : Frame → Syntax → Frame
with_tree (Opened p) s = Listing p s []
with_tree (Listing p a is) s = Listing p a (is ++ s ∷ [])
with_tree (Dotted p a is d) s = Tailed p a is d s
with_tree (Tailed p a is d t) s = Tailed p a is d s
with_tree (InVector p is) s = InVector p (is ++ s ∷ [])
with_tree (Waiting p m) s = Waiting p m

-- a node is added that stands for this tree, wherever its `)` is
abbrev pub BuildsTree : Seq Node → Seq Node → Option ℕ → (Pos → Syntax) → Type 0
BuildsTree before after (Some id) s = (q : Pos) → Builds before after id (datum_of (s q))
BuildsTree before after None s = ⊥

-- a `)` closes this frame, or cannot stand here
abbrev pub Closes : Seq Node → Seq Node → Option ℕ → Frame → Type 0
Closes before after id (Opened p) = BuildsTree before after id (λ q. Nil p q)
Closes before after id (Listing p a is) = BuildsTree before after id (λ q. Listed p a (rest_of is End) q)
Closes before after id (Dotted p a is d) = id ≡ None
Closes before after id (Tailed p a is d t) = BuildsTree before after id (λ q. Listed p a (rest_of is (Tail d t)) q)
Closes before after id (InVector p is) = BuildsTree before after id (λ q. Vector p (elements_of is Last) q)
Closes before after id (Waiting p m) = id ≡ None
