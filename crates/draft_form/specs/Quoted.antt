-- The constant that a datum is (R4RS 4.1.2), and the literals that are added for it.
use Rattle.std.specs.Prelude.{ℕ, ◌≡◌, List, [], ◌∷◌, ◌++◌, Option, Some, None, length, drop, slice_get}
use Rattle.scheme_base.specs.declared.lit.Lit.{Lit}
use Rattle.scheme_base.specs.Constants.{Constant, Constant as constant, Constants}
use Rattle.scheme_base.specs.Constants.Constants.{none as no_constant, item as constant_before}
use Rattle.datum_form.specs.declared.datums.Kind.{Kind}
use Rattle.datum_form.specs.declared.datums.Kind.TheVariants as kind
use Rattle.datum_form.specs.declared.datums.Node.{Node}
use Rattle.datum_form.specs.declared.token.Atom.{Atom}
use Rattle.datum_form.specs.declared.token.Atom.TheVariants.{Integer, Boolean, Character, String, Symbol}
use Rattle.datum_form.specs.Data.{Datum, Datum as datum, Items}
use Rattle.datum_form.specs.Data.Items.{none, item}
use Rattle.datum_form.specs.Stands.{kind_of, Stands, StandAll}
use Rattle.draft_form.specs.declared.draft.Constant.{Constant as Held}
use Rattle.draft_form.specs.declared.draft.Constant.TheVariants as held
use Rattle.draft_form.specs.Numbers.{laid}

abbrev pub atom : Atom → Constant
atom (Integer z) = constant.Integer z
atom (Boolean b) = constant.Boolean b
atom (Character byte) = constant.Character byte
atom (String bytes) = constant.String bytes
atom (Symbol x) = constant.Symbol x

abbrev mutual
  pub constant_of : Datum → Constant
  constant_of (datum.Atomic p a) = atom a
  constant_of (datum.List p is) = constant_list is constant.Nil
  constant_of (datum.Dotted p is d) = constant_list is (constant_of d)
  constant_of (datum.Vector p is) = constant.Vector (constants is)

  -- these items before a tail
  pub constant_list : Items → Constant → Constant
  constant_list none c = c
  constant_list (item d ds) c = constant.Pair (constant_of d) (constant_list ds c)

  pub constants : Items → Constants
  constants none = no_constant
  constants (item d ds) = constant_before (constant_of d) (constants ds)

-- The constants of drafts

-- no tail is the empty list
abbrev pub IsTail : List Node → Option ℕ → Constant → Type 0
IsTail nodes None t = t ≡ constant.Nil
IsTail nodes (Some id) t = (d : Datum) × Stands nodes id d × (t ≡ constant_of d)

-- the list of what a list or a vector has from an index on
abbrev pub IsRest : List Node → (from : ℕ) → Kind → Constant → Type 0
IsRest nodes from (kind.List ids tail) c =
    (is : Items) × (t : Constant) × StandAll nodes (drop from ids) is × IsTail nodes tail t × (c ≡ constant_list is t)
IsRest nodes from (kind.Vector ids) c =
    (is : Items) × StandAll nodes (drop from ids) is × (c ≡ constant_list is constant.Nil)
IsRest nodes from k c = ⊥

abbrev pub IsRestOf : List Node → ℕ → (from : ℕ) → Constant → Type 0
IsRestOf nodes id from c = (node : Node) × (slice_get nodes id ≡ Some node) × IsRest nodes from node.kind c

-- a constant of a draft over these data is this
abbrev pub IsHeld : List Node → Held → Constant → Type 0
IsHeld nodes (held.Datum id) c = (d : Datum) × Stands nodes id d × (c ≡ constant_of d)
IsHeld nodes (held.Rest id from) c = IsRestOf nodes id from c
IsHeld nodes (held.Integer z) c = c ≡ constant.Integer z
IsHeld nodes (held.Boolean b) c = c ≡ constant.Boolean b
IsHeld nodes held.Nil c = c ≡ constant.Nil
IsHeld nodes held.Unspecified c = c ≡ constant.Unspecified
IsHeld nodes held.Undefined c = c ≡ constant.Undefined
IsHeld nodes held.Symbols c = ⊥

-- the same, where the list of the core's symbols is this
abbrev pub IsHeldWith : (symbols : Constant) → List Node → Held → Constant → Type 0
IsHeldWith symbols nodes held.Symbols c = c ≡ symbols
IsHeldWith symbols nodes h c = IsHeld nodes h c

-- a list that begins with the symbols of these names
abbrev pub symbols_before : List (List ℕ) → Constant → Constant
symbols_before [] c = c
symbols_before (x ∷ xs) c = constant.Pair (constant.Symbol x) (symbols_before xs c)

-- the list of symbols of these names
abbrev pub symbol_list : List (List ℕ) → Constant
symbol_list xs = symbols_before xs constant.Nil

-- Literals that are added

-- the literals added are this constant with its parts
abbrev pub Adds : Constant → (before after : List Lit) → Type 0
Adds c before after = after ≡ before ++ laid (length before) c

abbrev pub AddsDatum : List Node → ℕ → (before after : List Lit) → Type 0
AddsDatum nodes id before after = (d : Datum) × Stands nodes id d × Adds (constant_of d) before after

abbrev pub AddsList : List Node → List ℕ → Option ℕ → (before after : List Lit) → Type 0
AddsList nodes ids tail before after =
    (is : Items) × (t : Constant) × StandAll nodes ids is × IsTail nodes tail t × Adds (constant_list is t) before after

abbrev pub AddsRow : List Node → List ℕ → (before after : List Lit) → Type 0
AddsRow nodes ids before after = (is : Items) × StandAll nodes ids is × Adds (constant.Vector (constants is)) before after

abbrev pub AddsRest : List Node → ℕ → (from : ℕ) → (before after : List Lit) → Type 0
AddsRest nodes id from before after = (c : Constant) × IsRestOf nodes id from c × Adds c before after

-- a literal without parts, of a datum of this kind
abbrev pub IsLeaf : Kind → Lit → Type 0
IsLeaf k l = (a : Atom) × (k ≡ kind_of a) × ((i : ℕ) → laid i (atom a) ≡ l ∷ [])

abbrev pub AddsHeld : (symbols : Constant) → List Node → Held → (before after : List Lit) → Type 0
AddsHeld symbols nodes h before after = (c : Constant) × IsHeldWith symbols nodes h c × Adds c before after

-- with a constant behind these literals, there is the list of some items before it
abbrev pub Leads : Items → (before after : List Lit) → Type 0
Leads is before after =
    (t : Constant) → before ++ laid (length before) (constant_list is t) ≡ after ++ laid (length after) t
