-- What is known of names by the numbers of their words.
use Rattle.std.specs.Prelude.{ℕ, ◌≡◌, List, [], ◌∷◌, ◌++◌, map, slice_get, slice_set, Option, Some, None, Bool, true, false, not, ◌&&◌, ◌||◌, if◌then◌else◌}
use Rattle.datum_form.specs.Data.{Datum, Items}
use Rattle.prelude_text.specs.Closure.{closure}
use Rattle.core_form.specs.declared.program.Node.{Node}
use Rattle.draft_form.specs.declared.draft.Variable.{Variable}
use Rattle.draft_form.specs.declared.draft.Variable.TheVariants as variable
use Rattle.draft_form.specs.Drafts.{Name, Drafts, Part, parts, Held, ListsSymbols, Referred, Changed}
use Rattle.draft_form.specs.Drawn.{word_name, Names}
use Rattle.scheme_expand.specs.declared.first.Firsts.{Firsts}
use Rattle.scheme_expand.specs.Forms.{no_binding}
use Rattle.scheme_expand.specs.Grammar.{definitions_before, forms, is_define}
use Rattle.scheme_expand.specs.Order.{variable_at}
use Rattle.scheme_expand.specs.Programs.{as_list, binding_names, defined as names_defined, libraries, number_of, numbers_of, those_of, unlisted}
use Rattle.scheme_expand.specs.Rewriting.{has_name}

abbrev pub all_names : Names → List (List ℕ)
all_names names = map (λ name. name.now) names

-- Flags

abbrev pub flag_of : Option Bool → Bool
flag_of None = false
flag_of (Some b) = b

abbrev pub flag_at : List Bool → ℕ → Bool
flag_at flags w = flag_of (slice_get flags w)

-- the flags of one list that stand where another has this one
abbrev pub flags_where : (wanted : Bool) → (all some : List Bool) → List Bool
flags_where wanted [] some = []
flags_where wanted (f ∷ all) [] = []
flags_where wanted (f ∷ all) (g ∷ some) = (f && (if wanted then g else not g)) ∷ flags_where wanted all some

abbrev pub one_flag : List Bool → Bool
one_flag [] = false
one_flag (f ∷ flags) = f || one_flag flags

-- each of these names is the name of one word at most
abbrev pub HaveOneWord : Names → List (List ℕ) → Type 0
HaveOneWord names listed =
    (v w : ℕ) → has_name listed (word_name names v) ≡ true → word_name names v ≡ word_name names w → v ≡ w

-- the words that are marked are those of these names
abbrev pub Marks : Names → List (List ℕ) → List Bool → Type 0
Marks names listed flags = (w : ℕ) → flag_at flags w ≡ has_name listed (word_name names w)

-- each of these names has a word, and none is empty
pub record AreListed (names : Names) (listed : List (List ℕ)) : Type 0 where
  pub words : (x : List ℕ) → has_name listed x ≡ true → (w : ℕ) × (word_name names w ≡ x)
  pub named : has_name listed [] ≡ false

-- of a text of names those that are listed are taken, each where it first stands
pub record AreTaken (names : Names) (listed text : List (List ℕ)) (f : Firsts) : Type 0 where
  pub taken : map (word_name names) f.taken.items ≡ those_of listed (unlisted [] text)
  pub left : (w : ℕ) → flag_at f.left.items w ≡ (has_name listed (word_name names w) && not (has_name text (word_name names w)))

-- Variables

abbrev pub at_most_one : {A : Type 0} → Option A → List A
at_most_one None = []
at_most_one (Some x) = x ∷ []

-- the variables that these expressions are, assign or define
abbrev pub variables_at : List (Node Variable) → List ℕ → List Variable
variables_at nodes [] = []
variables_at nodes (id ∷ ids) = at_most_one (variable_at nodes id) ++ variables_at nodes ids

abbrev pub names_in : List Part → List Name
names_in [] = []
names_in (Held c ∷ found) = names_in found
names_in (ListsSymbols ∷ found) = names_in found
names_in (Referred x ∷ found) = x ∷ names_in found
names_in (Changed x ∷ found) = x ∷ names_in found

-- the words of the top-level variables, and of the library's
abbrev pub top_words : List Variable → List ℕ
top_words [] = []
top_words (variable.Top w ∷ vs) = w ∷ top_words vs
top_words (v ∷ vs) = top_words vs

abbrev pub library_words : List Variable → List ℕ
library_words [] = []
library_words (variable.Library w ∷ vs) = w ∷ library_words vs
library_words (v ∷ vs) = library_words vs

-- Definitions

abbrev pub joined : {A : Type 0} → Option (Option A) → Option A
joined None = None
joined (Some o) = o

-- a definition defines the name of a word
pub record DefinesWord (names : Names) (word : ℕ) (d : Datum) : Type 0 where
  pub define : is_define d ≡ true
  pub name : binding_names (definitions_before d no_binding) ≡ word_name names word ∷ []
  pub listed : has_name (all_names names) (word_name names word) ≡ true

-- data define the names of these words, none of which is empty where no word's name is
pub record AreDefined (names : Names) (words : List ℕ) (ds : Items) : Type 0 where
  pub are : map (word_name names) words ≡ names_defined (forms ds)
  pub named : has_name (all_names names) [] ≡ false → has_name (names_defined (forms ds)) [] ≡ false

-- by word, the number of the first definition of its name
abbrev pub IsIndex : Names → List (List ℕ) → List (Option ℕ) → Type 0
IsIndex names defined numbers =
    (w : ℕ) → at_most_one (joined (slice_get numbers w)) ≡ number_of 1 defined (word_name names w)

-- the numbers of words, where one that has none gets this
abbrev pub with_number : Option (Option ℕ) → (w number : ℕ) → List (Option ℕ) → List (Option ℕ)
with_number (Some None) w number numbers = slice_set numbers w (Some number)
with_number found w number numbers = numbers

-- for each definition, the numbers of those whose variables stand in it
abbrev pub uses_in : (defined : List (List ℕ)) → Drafts → List (List ℕ)
uses_in defined es = map (λ e. numbers_of defined (libraries (parts e))) (as_list es)

-- the numbers of the definitions that are reached from those of these names
abbrev pub reached_from : (defined : List (List ℕ)) → Drafts → List (List ℕ) → List ℕ
reached_from defined es xs = closure (uses_in defined es) (numbers_of defined xs)
