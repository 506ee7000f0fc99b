-- What an expansion has come to, seen as the definitions see it: drafts, and variables with their names.
use Rattle.std.specs.Prelude.{ℕ, zero, suc, List, [], ◌∷◌, ◌++◌, length, map, Bool, false, ◌||◌, nat_lt, if◌then◌else◌}
use Rattle.scheme_expand.specs.declared.source.Source.{Source}
use Rattle.scheme_expand.specs.Forms.{Exp, Exps, Bindings, no_exp, exp, no_binding, binding, broken}
use Rattle.scheme_expand.specs.Programs.{changed}
use Rattle.scheme_expand.specs.Rewriting.{Side, Scope, core, has_name}
use Rattle.draft_form.specs.Drafts.{Draft, Drafts, none, item, Part, parts, changes}
use Rattle.draft_form.specs.Drawn.{Names}

-- the data of a text, the names of words by their numbers, and whose text it is
pub record Context : Type 0 where
  pub source : Source
  pub names : Names
  pub side : Side

-- a bound variable; a fresh one has no name
pub record Bound : Type 0 where
  pub name : List ℕ
  pub assigned : Bool

pub record View : Type 0 where
  -- the drafts that are made and stand in none yet, the last first
  pub made : List Draft
  -- the variables that are bound, the innermost first
  pub bound : List Bound
  -- by word, whether the library's variable is assigned or defined
  pub flags : List Bool

abbrev pub bound_names : List Bound → List (List ℕ)
bound_names bs = map (λ b. b.name) bs

abbrev pub scope_of : Context → View → Scope
scope_of c v = record { side = c.side; bound = bound_names v.bound }

abbrev pub height : View → ℕ
height v = length v.bound

-- Changes

-- the variables with what these parts assign
abbrev pub raised : List Part → List Bound → List Bound
raised ps [] = []
raised ps (b ∷ bs) = record { name = b.name; assigned = b.assigned || changes (length bs) 1 ps } ∷ raised ps bs

-- the library's variables with what these parts assign or define
abbrev pub marked : List Part → Names → List Bool → List Bool
marked ps [] fs = fs
marked ps (x ∷ xs) [] = []
marked ps (x ∷ xs) (f ∷ fs) = (f || has_name (changed ps) x.now) ∷ marked ps xs fs

-- what these parts change is noted
abbrev pub noting : Context → List Part → View → View
noting c ps v = record { made = v.made; bound = raised ps v.bound; flags = marked ps c.names v.flags }

-- Drafts

-- a draft is made
abbrev pub pushed : Draft → View → View
pushed d v = record { made = d ∷ v.made; bound = v.bound; flags = v.flags }

-- a draft is made, and what it changes is noted
abbrev pub visit : Context → Draft → View → View
visit c d v = record { made = d ∷ v.made; bound = raised (parts d) v.bound; flags = marked (parts d) c.names v.flags }

-- the same of several, one after another
abbrev pub visit_all : Context → Drafts → View → View
visit_all c none v = v
visit_all c (item d ds) v = visit_all c ds (visit c d v)

-- an expression is made where it stands
abbrev pub seen : Context → Exp → View → View
seen c e v = visit c (core e (scope_of c v)) v

-- the same of several, one after another
abbrev pub all_seen : Context → Exps → View → View
all_seen c no_exp v = v
all_seen c (exp e es) v = all_seen c es (seen c e v)

-- the same of the values of bindings
abbrev pub values_seen : Context → Bindings → View → View
values_seen c no_binding v = v
values_seen c (binding p w e bs) v = values_seen c bs (seen c e v)
values_seen c (broken p n bs) v = values_seen c bs v

-- Variables

abbrev pub put_inside : List (List ℕ) → List Bound → List Bound
put_inside [] bs = bs
put_inside (x ∷ xs) bs = put_inside xs (record { name = x; assigned = false } ∷ bs)

-- variables of these names are bound, the last one innermost
abbrev pub bind : List (List ℕ) → View → View
bind xs v = record { made = v.made; bound = put_inside xs v.bound; flags = v.flags }

-- the variables below a level
abbrev pub lowered : (level : ℕ) → List Bound → List Bound
lowered k [] = []
lowered k (b ∷ bs) = if nat_lt (length bs) k then b ∷ bs else lowered k bs

-- the variables from a level on are left
abbrev pub leave : (level : ℕ) → View → View
leave k v = record { made = v.made; bound = lowered k v.bound; flags = v.flags }

abbrev pub below : ℕ → ℕ
below zero = zero
below (suc k) = k

-- nothing is made or bound
abbrev pub empty_view : Names → View
empty_view names = record { made = []; bound = []; flags = map (λ x. false) names }
