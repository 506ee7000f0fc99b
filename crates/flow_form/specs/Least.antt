-- What rules give in a set of (row, atom) pairs, and the least set that has all that they give.
use Rattle.std.specs.Prelude.{ℕ, zero, suc, List, Option, Some, None, ◌≡◌, ◌≢◌, ◌/◌, ◌<◌, ◌⊎◌, ◌↔◌, slice_get}
use Rattle.flow_form.specs.declared.rule.Give.{Give}
use Rattle.flow_form.specs.declared.rule.Give.TheVariants.{Atom, Row}
use Rattle.flow_form.specs.declared.rule.Rule.{Rule}
use Rattle.flow_form.specs.declared.rule.Test.{Test}
use Rattle.flow_form.specs.declared.rule.Test.TheVariants.{Has, Other}

-- a set of pairs of a row and an atom
abbrev pub Pairs : Type 1
Pairs = ℕ → ℕ → Type 0

-- the set of no pair
abbrev pub Nothing : Pairs
Nothing row atom = ⊥

abbrev pub Within : Pairs → Pairs → Type 0
Within S T = (row atom : ℕ) → S row atom → T row atom

abbrev pub SameSet : Pairs → Pairs → Type 0
SameSet S T = (row atom : ℕ) → S row atom ↔ T row atom

-- `Has` wants the atom in the row, `Other` some other atom; no test holds
abbrev pub TestHolds : Pairs → Option Test → Type 0
TestHolds S None = Unit {0}
TestHolds S (Some (Has row atom)) = S row atom
TestHolds S (Some (Other row atom)) = (other : ℕ) × (other ≢ atom) × S row other

abbrev pub GivesAtom : Pairs → Give → ℕ → Type 0
GivesAtom S (Atom given) atom = atom ≡ given
GivesAtom S (Row row) atom = S row atom

-- a rule gives a pair in a set: both tests hold in the set, and the pair is in the row that it names
pub record Gives (S : Pairs) (rule : Rule) (row atom : ℕ) : Type 0 where
  pub first : TestHolds S rule.first
  pub second : TestHolds S rule.second
  pub to : row ≡ rule.to
  pub gives : GivesAtom S rule.give atom

-- some rule of a list gives it
pub record Given (rules : List Rule) (S : Pairs) (row atom : ℕ) : Type 0 where
  pub index : ℕ
  pub rule : Rule
  pub listed : slice_get rules index ≡ Some rule
  pub gives : Gives S rule row atom

-- some rule of a block gives it; a block is 1,024 consecutive rules, the last may be shorter
pub record GivenByBlock (rules : List Rule) (block : ℕ) (S : Pairs) (row atom : ℕ) : Type 0 where
  pub given : Given rules S row atom
  pub in_block : given.index / 1024 ≡ block

-- the plain step: a set, with all that the rules give in it
abbrev pub Plain : List Rule → Pairs → Pairs
Plain rules S row atom = S row atom ⊎ Given rules S row atom

-- a set that has all that the rules give in it
abbrev pub Closed : List Rule → Pairs → Type 0
Closed rules S = Within (Given rules S) S

-- the set after some number of plain steps from a base
abbrev pub Stage : List Rule → Pairs → ℕ → Pairs
Stage rules base zero = base
Stage rules base (suc steps) = Plain rules (Stage rules base steps)

-- the least solution from a base: the pairs that some number of plain steps reaches
abbrev pub LeastFrom : List Rule → Pairs → Pairs
LeastFrom rules base row atom = (steps : ℕ) × Stage rules base steps row atom

-- the least solution
abbrev pub Least : List Rule → Pairs
Least rules = LeastFrom rules Nothing

-- the number of plain steps from nothing that add a pair
pub record IsChain (rules : List Rule) (steps : ℕ) : Type 0 where
  pub ends : Closed rules (Stage rules Nothing steps)
  pub goes_on : (fewer : ℕ) → fewer < steps → ¬ Closed rules (Stage rules Nothing fewer)
