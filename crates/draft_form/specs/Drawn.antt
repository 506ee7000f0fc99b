-- Which draft a number in a table of expressions stands for.
use Rattle.std.specs.Prelude.{ℕ, ◌≡◌, List, [], ◌∷◌, Option, Some, None, map, slice_get}
use Rattle.std.specs.Option.{option_map}
use Rattle.std.specs.Borrow.{Bor}
use Rattle.datum_form.specs.declared.datums.Node.{Node as DatumNode}
use Rattle.core_form.specs.declared.program.What.TheVariants as form
use Rattle.core_form.specs.Trees.{IsNode}
use Rattle.draft_form.specs.declared.draft.Constant.{Constant as Held}
use Rattle.draft_form.specs.declared.draft.Constant.TheVariants as held
use Rattle.draft_form.specs.declared.draft.Drafts.{Drafts as Table}
use Rattle.draft_form.specs.declared.draft.Variable.{Variable}
use Rattle.draft_form.specs.declared.draft.Variable.TheVariants as variable
use Rattle.draft_form.specs.Drafts.{Name, Draft, Drafts, Local, Fresh, Top, Library, Const, Symbols, Ref, Lambda, If, Set, Call, Prim, Seq, Fix, Define, none, item}
use Rattle.draft_form.specs.Quoted.{IsHeld}

-- the names of words by their numbers, and the data that constants are parts of
abbrev pub Names : Type 0
Names = List (Bor (List ℕ))

abbrev pub Data : Type 0
Data = List DatumNode

-- Names

abbrev pub name_or_none : Option (Bor (List ℕ)) → List ℕ
name_or_none None = []
name_or_none (Some x) = x.now

-- the name of a word, by its number in a list of names
abbrev pub word_name : List (Bor (List ℕ)) → ℕ → List ℕ
word_name names w = name_or_none (slice_get names w)

abbrev pub name_of : List (Bor (List ℕ)) → Variable → Name
name_of names (variable.Local k w) = Local k (word_name names w)
name_of names (variable.Fresh k) = Fresh k
name_of names (variable.Top w) = Top (word_name names w)
name_of names (variable.Library w) = Library (word_name names w)

-- Drafts

abbrev mutual
  pub Drawn : List (Bor (List ℕ)) → List DatumNode → Table → ℕ → Draft → Type 0
  Drawn names nodes t id (Const p c) =
      (k : ℕ) × (h : Held) × IsNode t.exprs.items id (form.Const k) p × (slice_get t.constants.items k ≡ Some h)
      × IsHeld nodes h c
  Drawn names nodes t id (Symbols p) =
      (k : ℕ) × IsNode t.exprs.items id (form.Const k) p × (slice_get t.constants.items k ≡ Some held.Symbols)
  Drawn names nodes t id (Ref p x) =
      (v : Variable) × IsNode t.exprs.items id (form.Ref v) p × (x ≡ name_of names v)
  Drawn names nodes t id (Lambda p xs r e) =
      (vs : List Variable) × (rest : Option Variable) × (body : ℕ) × IsNode t.exprs.items id (form.Lambda vs rest body) p
      × (xs ≡ map (name_of names) vs) × (r ≡ option_map (name_of names) rest) × Drawn names nodes t body e
  Drawn names nodes t id (If p d e f) =
      (test : ℕ) × (this : ℕ) × (that : ℕ) × IsNode t.exprs.items id (form.If test this that) p
      × Drawn names nodes t test d × Drawn names nodes t this e × Drawn names nodes t that f
  Drawn names nodes t id (Set p x e) =
      (v : Variable) × (value : ℕ) × IsNode t.exprs.items id (form.Set v value) p × (x ≡ name_of names v)
      × Drawn names nodes t value e
  Drawn names nodes t id (Call p f es) =
      (operator : ℕ) × (operands : List ℕ) × IsNode t.exprs.items id (form.Call operator operands) p
      × Drawn names nodes t operator f × AllDrawn names nodes t operands es
  Drawn names nodes t id (Prim p o es) =
      (operands : List ℕ) × IsNode t.exprs.items id (form.Prim o operands) p × AllDrawn names nodes t operands es
  Drawn names nodes t id (Seq p es) =
      (items : List ℕ) × IsNode t.exprs.items id (form.Seq items) p × AllDrawn names nodes t items es
  Drawn names nodes t id (Fix p xs es e) =
      (vs : List Variable) × (lambdas : List ℕ) × (body : ℕ) × IsNode t.exprs.items id (form.Fix vs lambdas body) p
      × (xs ≡ map (name_of names) vs) × AllDrawn names nodes t lambdas es × Drawn names nodes t body e
  Drawn names nodes t id (Define p x e) =
      (v : Variable) × (value : ℕ) × IsNode t.exprs.items id (form.Define v value) p × (x ≡ name_of names v)
      × Drawn names nodes t value e

  pub AllDrawn : List (Bor (List ℕ)) → List DatumNode → Table → List ℕ → Drafts → Type 0
  AllDrawn names nodes t ids none = ids ≡ []
  AllDrawn names nodes t ids (item e es) =
      (first : ℕ) × (others : List ℕ) × (ids ≡ first ∷ others) × Drawn names nodes t first e
      × AllDrawn names nodes t others es
