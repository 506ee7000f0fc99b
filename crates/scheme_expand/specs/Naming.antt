-- Names get numbers: those of a table, and those of the nodes of some data.
use Rattle.std.specs.Prelude.{ℕ, ◌≡◌, List, [], ◌∷◌, ◌++◌, map, slice_get, Option, Some, None, false, if◌then◌else◌, codes}
use Rattle.std.specs.Borrow.{Bor}
use Rattle.scheme_base.specs.Operands as operands
use Rattle.datum_form.specs.declared.datums.Kind.{Kind}
use Rattle.datum_form.specs.declared.datums.Kind.TheVariants as kind
use Rattle.datum_form.specs.declared.datums.Node.{Node}
use Rattle.scheme_expand.specs.declared.words.Helpers.{Helpers}
use Rattle.scheme_expand.specs.declared.words.Known.{Known}
use Rattle.scheme_expand.specs.declared.words.Words.{Words}
use Rattle.scheme_expand.specs.Calls.{operations, public_calls}
use Rattle.scheme_expand.specs.Grammar.{Reading, form}
use Rattle.scheme_expand.specs.Programs.{outside}
use Rattle.scheme_expand.specs.Rewriting.{has_name}
use Rattle.scheme_expand.specs.Waiting.{keyword_table, name_of}
use Rattle.draft_form.specs.Drafts.{none}

-- Tables of names

abbrev pub keyword_names : List (List ℕ)
keyword_names = map name_of keyword_table

abbrev pub word_of : {A : Type 0} → Reading A → List ℕ
word_of (form x e) = x

-- the name of an item of a table of calls
abbrev pub call_name : Bor (List ℕ) × Known → List ℕ
call_name entry = entry.0.now

-- the names whose calls become operations at once
abbrev pub known_names : List (List ℕ)
known_names = map word_of (public_calls (outside 0) 0 none) ++ codes "%symbols" ∷ []

abbrev pub operation_names : List (List ℕ)
operation_names = map operands.name_of operations

-- by number
abbrev pub table_names : List (List ℕ)
table_names = keyword_names ++ (known_names ++ operation_names)

-- Lists of names

abbrev pub name_list : Words → List (List ℕ)
name_list words = map (λ name. name.now) words.names.keys

-- each name has one number
abbrev pub AreDistinct : List (List ℕ) → Type 0
AreDistinct names = (v w : ℕ) (x : List ℕ) → slice_get names v ≡ Some x → slice_get names w ≡ Some x → v ≡ w

-- no name is empty
abbrev pub AreNamed : List (List ℕ) → Type 0
AreNamed names = has_name names [] ≡ false

-- the names of the table have the first numbers
pub record IsTable (names : List (List ℕ)) : Type 0 where
  pub more : List (List ℕ)
  pub begins : names ≡ table_names ++ more
  pub distinct : AreDistinct names
  pub named : AreNamed names

-- names stay when these are added behind them
pub record Adds (old more new : List (List ℕ)) : Type 0 where
  pub longer : new ≡ old ++ more
  pub distinct : AreDistinct old → AreDistinct new
  pub named : AreNamed old → AreNamed new

pub record Grows (old new : List (List ℕ)) : Type 0 where
  pub more : List (List ℕ)
  pub adds : Adds old more new

-- the name gets this number, behind the others if it has none
pub record IsNumbered (old new : List (List ℕ)) (x : List ℕ) (w : ℕ) : Type 0 where
  pub grows : Grows old new
  pub is : slice_get new w ≡ Some x
  pub added : new ≡ (if has_name old x then old else old ++ x ∷ [])

-- the numbers of the names that rewritten forms call
pub record HasHelpers (names : List (List ℕ)) (h : Helpers) : Type 0 where
  pub join : slice_get names h.join ≡ Some (codes "%join")
  pub list_to_vector : slice_get names h.list_to_vector ≡ Some (codes "list->vector")

-- Data

-- the number of a node that is a name
abbrev pub IsWordOf : List (List ℕ) → Option ℕ → Kind → Type 0
IsWordOf names found (kind.Name x) = (w : ℕ) × (found ≡ Some w) × (slice_get names w ≡ Some x)
IsWordOf names found k = found ≡ None

abbrev pub AreWordsOf : List (List ℕ) → List (Option ℕ) → List Node → Type 0
AreWordsOf names found [] = found ≡ []
AreWordsOf names found (node ∷ nodes) =
    (one : Option ℕ) × (others : List (Option ℕ)) × (found ≡ one ∷ others) × IsWordOf names one node.kind
    × AreWordsOf names others nodes

-- nodes get the numbers of their names
pub record Names (old new : List (List ℕ)) (found : List (Option ℕ)) (nodes : List Node) : Type 0 where
  pub grows : Grows old new
  pub words : AreWordsOf new found nodes
