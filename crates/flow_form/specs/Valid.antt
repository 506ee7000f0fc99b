-- Which rows, atoms and rules make constraints: few enough of each, and rules that name what is there.
use Rattle.std.specs.Prelude.{ℕ, List, Option, Some, None, ◌≡◌, ◌+◌, ◌*◌, ◌/◌, ◌^◌, ◌<◌, ◌≤◌, length, slice_get}
use Rattle.std.specs.Coded.{×_prop, Unit-prop, le_prop}
use Rattle.flow_form.specs.declared.rule.Give.{Give}
use Rattle.flow_form.specs.declared.rule.Give.TheVariants.{Atom, Row}
use Rattle.flow_form.specs.declared.rule.Rule.{Rule}
use Rattle.flow_form.specs.declared.rule.Test.{Test}
use Rattle.flow_form.specs.declared.rule.Test.TheVariants.{Has, Other}

-- the words of a row: one for 64 atoms, the last for fewer
abbrev pub words_of_row : (atoms : ℕ) → ℕ
words_of_row atoms = (atoms + 63) / 64

-- a test names a row and an atom that are there
abbrev pub TestNames : (rows atoms : ℕ) → Option Test → Type 0
TestNames rows atoms None = Unit {0}
TestNames rows atoms (Some (Has row atom)) = (row < rows) × (atom < atoms)
TestNames rows atoms (Some (Other row atom)) = (row < rows) × (atom < atoms)

-- so does what a rule gives
abbrev pub GiveNames : (rows atoms : ℕ) → Give → Type 0
GiveNames rows atoms (Atom atom) = atom < atoms
GiveNames rows atoms (Row row) = row < rows

pub record RuleNames (rows atoms : ℕ) (rule : Rule) : Type 0 where
  pub first : TestNames rows atoms rule.first
  pub second : TestNames rows atoms rule.second
  pub give : GiveNames rows atoms rule.give
  pub to : rule.to < rows

-- each rule of a list does
abbrev pub AllNamed : (rows atoms : ℕ) → List Rule → Type 0
AllNamed rows atoms rules = (at : ℕ) (rule : Rule) → slice_get rules at ≡ Some rule → RuleNames rows atoms rule

-- 1 to 65,536 rows, 1 to 8,192 atoms, at most 2^22 words and 2^23 rules
pub record IsFewEnough (rows atoms rules : ℕ) : Type 0 where
  pub some_rows : 1 ≤ rows
  pub few_rows : rows ≤ 65536
  pub some_atoms : 1 ≤ atoms
  pub few_atoms : atoms ≤ 8192
  pub few_words : rows * words_of_row atoms ≤ 2 ^ 22
  pub few_rules : rules ≤ 2 ^ 23

pub record IsValid (rows atoms : ℕ) (rules : List Rule) : Type 0 where
  pub few : IsFewEnough rows atoms (length rules)
  pub named : AllNamed rows atoms rules

-- ---- what is valid has one proof, so that constraints that hold it are plain data
pub TestNames-prop : (rows atoms : ℕ) (test : Option Test) → IsProp (TestNames rows atoms test)
TestNames-prop rows atoms None = Unit-prop
TestNames-prop rows atoms (Some (Has row atom)) = ×_prop le_prop le_prop
TestNames-prop rows atoms (Some (Other row atom)) = ×_prop le_prop le_prop

pub GiveNames-prop : (rows atoms : ℕ) (give : Give) → IsProp (GiveNames rows atoms give)
GiveNames-prop rows atoms (Atom atom) = le_prop
GiveNames-prop rows atoms (Row row) = le_prop

pub IsValid-prop : (rows atoms : ℕ) (rules : List Rule) → IsProp (IsValid rows atoms rules)
IsValid-prop rows atoms rules = hlevel (le_prop, TestNames-prop, GiveNames-prop)
