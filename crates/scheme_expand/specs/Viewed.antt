-- An expander, a scope and a maker are what a view says, and what a call does to it.
use Rattle.std.specs.Prelude.{ℕ, ◌≡◌, List, [], ◌∷◌, ◌++◌, length, slice_get, nat_lt, Option, Some, None, Bool, true, false, codes}
use Rattle.datum_form.specs.Data.{Datum}
use Rattle.datum_form.specs.Stands.{Stands}
use Rattle.scheme_expand.specs.declared.expander.Expander.{Expander}
use Rattle.scheme_expand.specs.declared.make.Maker.{Maker}
use Rattle.scheme_expand.specs.declared.scope.Bound.{Bound as Kept}
use Rattle.scheme_expand.specs.declared.scope.Scope.{Scope as Variables}
use Rattle.scheme_expand.specs.declared.source.Source.{Source}
use Rattle.scheme_expand.specs.declared.step.Step.{Step}
use Rattle.scheme_expand.specs.declared.words.Helpers.{Helpers}
use Rattle.scheme_expand.specs.declared.words.Words.{Words}
use Rattle.scheme_expand.specs.ByWord.{all_names}
use Rattle.scheme_expand.specs.Making.{AllCome}
use Rattle.scheme_expand.specs.Naming.{IsTable}
use Rattle.scheme_expand.specs.Noted.{level_in, free as free_variable}
use Rattle.scheme_expand.specs.Rewriting.{Side, found, free, has_name}
use Rattle.scheme_expand.specs.Views.{Context, View, Bound, bound_names}
use Rattle.scheme_expand.specs.Waiting.{HasWord}
use Rattle.draft_form.specs.declared.draft.Drafts.{Drafts as Table}
use Rattle.draft_form.specs.Drafts.{Draft}
use Rattle.draft_form.specs.Drawn.{Names, Data, Drawn, name_of, word_name}

-- the names of a text have words, whose numbers have names
pub record Fits (c : Context) : Type 0 where
  pub words : (id : ℕ) (d : Datum) → Stands c.source.nodes.now id d
      → HasWord (all_names c.names) (level_in (slice_get c.source.words.now id)) d
  pub table : IsTable (all_names c.names)
  pub named : has_name (all_names c.names) [] ≡ false

-- a number of a name
abbrev pub Spells : Names → (w : ℕ) → List ℕ → Type 0
Spells names w x = (nat_lt w (length names) ≡ true) × (word_name names w ≡ x)

-- the names of words are all different, and none is empty
pub record AreWords (names : Names) : Type 0 where
  pub named : has_name (all_names names) [] ≡ false
  pub distinct : (v w : ℕ) → nat_lt v (length names) ≡ true → word_name names v ≡ word_name names w → v ≡ w

-- Scopes

-- a variable has this name, or none
abbrev pub IsCalled : Names → Option ℕ → List ℕ → Type 0
IsCalled names None x = x ≡ []
IsCalled names (Some w) x = Spells names w x

-- the level of the variable that it hides
abbrev pub Hides : Names → Option ℕ → (hidden : Option ℕ) → List (List ℕ) → Type 0
Hides names None hidden xs = Unit {0}
Hides names (Some w) hidden xs = hidden ≡ found xs (word_name names w)

pub record IsBound (names : Names) (k : Kept) (b : Bound) (inside : List Bound) : Type 0 where
  pub called : IsCalled names k.word b.name
  pub hides : Hides names k.word k.hidden (bound_names inside)
  pub assigned : k.assigned ≡ b.assigned

-- variables, of which the last is the innermost
abbrev pub AreBound : Names → List Kept → List Bound → Type 0
AreBound names ks [] = ks ≡ []
AreBound names ks (b ∷ bs) =
    (before : List Kept) × (k : Kept) × (ks ≡ before ++ k ∷ []) × IsBound names k b bs × AreBound names before bs

pub record IsScope (names : Names) (s : Variables) (bs : List Bound) : Type 0 where
  pub bound : AreBound names s.bound.items bs
  pub size : length s.innermost.items ≡ length names
  pub finds : (w : ℕ) → nat_lt w (length names) ≡ true
      → level_in (slice_get s.innermost.items w) ≡ found (bound_names bs) (word_name names w)

-- Makers

-- drafts, of which the last stands first
abbrev pub AreMade : Names → Data → Table → List ℕ → List Draft → Type 0
AreMade names nodes t ids [] = ids ≡ []
AreMade names nodes t ids (d ∷ ds) =
    (before : List ℕ) × (id : ℕ) × (ids ≡ before ++ id ∷ []) × Drawn names nodes t id d × AreMade names nodes t before ds

-- the words of the library's procedures that rewritten forms call
pub record AreHelpers (names : Names) (h : Helpers) : Type 0 where
  pub join : word_name names h.join ≡ codes "%join"
  pub list_to_vector : word_name names h.list_to_vector ≡ codes "list->vector"

-- what is made, and the variables that are bound, are those of a view
pub record IsMade (c : Context) (m : Maker) (v : View) : Type 0 where
  pub words : AreWords c.names
  pub scope : IsScope c.names m.scope v.bound
  pub made : AreMade c.names c.source.nodes.now m.drafts m.made.items v.made
  pub helpers : AreHelpers c.names m.helpers

-- Expanders

-- by word, whether a name is the library's where nothing binds it
abbrev pub AreFree : Names → Side → List Bool → Type 0
AreFree names side flags =
    (w : ℕ) → nat_lt w (length names) ≡ true → name_of names (free_variable (slice_get flags w) w) ≡ free side (word_name names w)

pub record IsView (c : Context) (x : Expander) (v : View) : Type 0 where
  pub fits : Fits c
  pub source : x.source ≡ c.source
  pub library : AreFree c.names c.side x.library.now
  pub flags : x.changed.items ≡ v.flags
  pub size : length v.flags ≡ length c.names
  pub made : IsMade c x.maker v

-- a context has these words and this text
pub record Suits (c : Context) (w : Words) (s : Source) : Type 0 where
  pub fits : Fits c
  pub source : s ≡ c.source
  pub names : c.names ≡ w.names.keys
  pub helpers : AreHelpers c.names w.helpers

-- Calls

-- all but what is noted and what waits stays
pub record Same (before after : Expander) : Type 0 where
  pub source : after.source ≡ before.source
  pub library : after.library ≡ before.library
  pub changed : after.changed ≡ before.changed
  pub maker : after.maker ≡ before.maker

-- a call puts these steps behind the others
pub record Puts (before after : Expander) (put : List Step) : Type 0 where
  pub same : Same before after
  pub steps : after.steps.items ≡ before.steps.items ++ put

-- a call comes to this at once
pub record Leaves (c : Context) (before after : Expander) (v : View) : Type 0 where
  pub steps : after.steps.items ≡ before.steps.items
  pub view : IsView c after v

-- a call comes to this, in part at once, and in part by the steps that it puts behind the others
pub record Turns (c : Context) (before after : Expander) (w : View) : Type 0 where
  pub put : List Step
  pub steps : after.steps.items ≡ before.steps.items ++ put
  pub now : View
  pub view : IsView c after now
  pub comes : AllCome c put now w

-- all steps are done
pub record Ends (c : Context) (after : Expander) (v : View) : Type 0 where
  pub steps : after.steps.items ≡ []
  pub view : IsView c after v
