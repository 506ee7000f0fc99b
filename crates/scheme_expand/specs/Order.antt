-- The expressions of drafts in the order of their text, and the part of the text that each is.
use Rattle.std.specs.Prelude.{ℕ, ◌≡◌, List, [], ◌∷◌, ◌++◌, Option, Some, None, slice_get}
use Rattle.scheme_base.specs.declared.pos.Pos.{Pos}
use Rattle.scheme_base.specs.Constants.{Constant}
use Rattle.core_form.specs.declared.program.Node.{Node}
use Rattle.core_form.specs.declared.program.What.{What}
use Rattle.core_form.specs.declared.program.What.TheVariants as form
use Rattle.core_form.specs.Trees.{IsNode}
use Rattle.draft_form.specs.declared.draft.Constant.{Constant as Quoted}
use Rattle.draft_form.specs.declared.draft.Constant.TheVariants as quoted
use Rattle.draft_form.specs.declared.draft.Drafts.{Drafts as Table}
use Rattle.draft_form.specs.declared.draft.Variable.{Variable}
use Rattle.draft_form.specs.Drafts.{Part, Held, ListsSymbols, Referred, Changed}
use Rattle.draft_form.specs.Drawn.{name_of, Names, Data}
use Rattle.draft_form.specs.Quoted.{IsHeld}

-- the variable that an expression refers to, assigns or defines
abbrev pub variable_in : What Variable → Option Variable
variable_in (form.Ref v) = Some v
variable_in (form.Set v value) = Some v
variable_in (form.Define v value) = Some v
variable_in what = None

abbrev pub variable_of : Option (Node Variable) → Option Variable
variable_of None = None
variable_of (Some node) = variable_in node.what

abbrev pub variable_at : List (Node Variable) → ℕ → Option Variable
variable_at nodes id = variable_of (slice_get nodes id)

-- the part that a constant is
abbrev pub IsQuoted : Data → Quoted → List Part → Type 0
IsQuoted data_nodes quoted.Symbols found = found ≡ ListsSymbols ∷ []
IsQuoted data_nodes h found = (c : Constant) × IsHeld data_nodes h c × (found ≡ Held c ∷ [])

-- the part that an expression itself is, if it is one
abbrev pub IsPart : Names → Data → Table → What Variable → List Part → Type 0
IsPart names data_nodes t (form.Const k) found =
    (h : Quoted) × (slice_get t.constants.items k ≡ Some h) × IsQuoted data_nodes h found
IsPart names data_nodes t (form.Ref v) found = found ≡ Referred (name_of names v) ∷ []
IsPart names data_nodes t (form.Set v value) found = found ≡ Changed (name_of names v) ∷ []
IsPart names data_nodes t (form.Define v value) found = found ≡ Changed (name_of names v) ∷ []
IsPart names data_nodes t what found = found ≡ []

-- these expressions, one after another, are the parts of a text
abbrev pub AreParts : Names → Data → Table → List ℕ → List Part → Type 0
AreParts names data_nodes t [] found = found ≡ []
AreParts names data_nodes t (id ∷ ids) found =
    (what : What Variable) × (p : Pos) × (first : List Part) × (others : List Part) × IsNode t.exprs.items id what p
    × IsPart names data_nodes t what first × (found ≡ first ++ others) × AreParts names data_nodes t ids others

-- behind these numbers are those of the expressions that are the parts
abbrev pub Lists : Names → Data → Table → (before after : List ℕ) → List Part → Type 0
Lists names data_nodes t before after found =
    (ids : List ℕ) × (after ≡ before ++ ids) × AreParts names data_nodes t ids found
