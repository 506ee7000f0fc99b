-- What a core is assembled of: drafts after others, and the definitions that are chosen.
use Rattle.std.specs.Prelude.{ℕ, ◌+◌, ◌≡◌, nat_lt, List, [], ◌∷◌, length, map, Some, slice_get}
use Rattle.scheme_base.specs.Constants.{Constant}
use Rattle.core_form.specs.declared.program.Var.{Var}
use Rattle.core_form.specs.declared.program.Program.{Program}
use Rattle.core_form.specs.Trees.{Holds}
use Rattle.draft_form.specs.Drafts.{Drafts, all_parts}
use Rattle.draft_form.specs.Drawn.{word_name, Names, AllDrawn}
use Rattle.draft_form.specs.Numbered.{trees_with}
use Rattle.draft_form.specs.Numbers.{constants, laid_list}
use Rattle.scheme_expand.specs.declared.answer.Forms.{Forms as Expansion}
use Rattle.scheme_expand.specs.declared.answer.Program.{Program as Own}
use Rattle.scheme_expand.specs.declared.answer.Texts.{Texts}
use Rattle.scheme_expand.specs.declared.assemble.Whole.{Whole}
use Rattle.scheme_expand.specs.declared.source.Source.{Source}
use Rattle.scheme_expand.specs.declared.words.Words.{Words}
use Rattle.scheme_expand.specs.ByWord.{all_names, HaveOneWord, Marks}
use Rattle.scheme_expand.specs.Naming.{name_list, AreWordsOf, HasHelpers, IsTable}
use Rattle.scheme_expand.specs.Programs.{after_library, as_list, library_with, started}
use Rattle.scheme_expand.specs.Rewriting.{has_name}
use Rattle.scheme_expand.specs.Symbols.{AreSpelled}

-- a core holds these drafts, where this is the list of its symbols
pub record IsMadeOf (symbols : Constant) (es : Drafts) (core : Program Var) : Type 0 where
  pub forms : Holds core (trees_with symbols es)
  pub literals : core.lits ≡ laid_list 0 (constants symbols (all_parts es))

-- these are the forms of the definitions with these numbers, of which the first of all has the number k
abbrev pub ArePicked : (k : ℕ) → (all numbers forms : List ℕ) → Type 0
ArePicked k all [] forms = forms ≡ []
ArePicked k all (n ∷ numbers) forms =
    (i : ℕ) × (form : ℕ) × (others : List ℕ) × (n ≡ k + i) × (slice_get all i ≡ Some form) × (forms ≡ form ∷ others)
    × ArePicked k all numbers others

abbrev pub names_of : Whole → Names
names_of w = w.words.now.names.keys

-- the names that the library's definitions define
abbrev pub defined_in : Whole → List (List ℕ)
defined_in w = map (word_name (names_of w)) w.defined.now

-- A core is made of the library's definitions and the program's forms, where these are the program's own names:
-- each name has one word, and the expressions stand for the drafts.
pub record IsWhole (own : List (List ℕ)) (definitions forms : Drafts) (w : Whole) : Type 0 where
  pub library : AllDrawn (names_of w) w.library.source.nodes.now w.library.drafts.now w.library.forms.now definitions
  pub program : AllDrawn (names_of w) w.program.source.nodes.now w.program.drafts.now w.program.forms.now forms
  pub library_words : AreSpelled (names_of w) w.library.source.nodes.now w.library.source.words.now
  pub program_words : AreSpelled (names_of w) w.program.source.nodes.now w.program.source.words.now
  pub defined : HaveOneWord (names_of w) (defined_in w)
  pub count : length w.defined.now ≡ length w.library.forms.now
  pub own_words : HaveOneWord (names_of w) own
  pub own_marks : Marks (names_of w) own w.own.now
  pub words : HaveOneWord (names_of w) (all_names (names_of w))
  pub listed : (n : ℕ) → nat_lt n (length (names_of w)) ≡ has_name (all_names (names_of w)) (word_name (names_of w) n)

-- the definitions of these names that are reached, the own variables, and the forms
abbrev pub whole_with : (own : List (List ℕ)) → (definitions forms : Drafts) → (defined : List (List ℕ)) → Drafts
whole_with own definitions forms defined = after_library (library_with defined (as_list definitions)) (started own forms)

abbrev pub whole_of : (own : List (List ℕ)) → (definitions forms : Drafts) → Whole → Drafts
whole_of own definitions forms w = whole_with own definitions forms (defined_in w)

-- what the library and the program were expanded to is what a core is made of
pub record AreJoined (own : List (List ℕ)) (definitions forms : Drafts) (t : Texts) (l : Expansion) (ns : List ℕ) (p : Own) : Type 0 where
  pub library : AllDrawn t.words.now.names.keys t.library.nodes.now l.drafts l.forms.items definitions
  pub program : AllDrawn t.words.now.names.keys t.program.nodes.now p.forms.drafts p.forms.forms.items forms
  pub library_words : AreSpelled t.words.now.names.keys t.library.nodes.now t.library.words.now
  pub program_words : AreSpelled t.words.now.names.keys t.program.nodes.now t.program.words.now
  pub defined : HaveOneWord t.words.now.names.keys (map (word_name t.words.now.names.keys) ns)
  pub count : length ns ≡ length l.forms.items
  pub own_words : HaveOneWord t.words.now.names.keys own
  pub own_marks : Marks t.words.now.names.keys own p.own.items
  pub words : HaveOneWord t.words.now.names.keys (all_names t.words.now.names.keys)
  pub listed : (n : ℕ) → nat_lt n (length t.words.now.names.keys) ≡ has_name (all_names t.words.now.names.keys) (word_name t.words.now.names.keys n)

-- the names of two texts have words, in a table
pub record AreNumbered (w : Words) (library program : Source) : Type 0 where
  pub table : IsTable (name_list w)
  pub helpers : HasHelpers (name_list w) w.helpers
  pub definitions : AreWordsOf (name_list w) library.words.now library.nodes.now
  pub forms : AreWordsOf (name_list w) program.words.now program.nodes.now
