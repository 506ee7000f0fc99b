-- What a pass knows after some steps on its table.
use Rattle.std.specs.Prelude.{ℕ, List, Some, ◌≡◌, slice_get}
use Rattle.bit_rows.specs.Members.{IsMember}
use Rattle.flow_form.specs.declared.constraints.Constraints.{Constraints}
use Rattle.flow_form.specs.declared.rule.Rule.{Rule}
use Rattle.flow_form.specs.Least.{Gives, Pairs, TestHolds, Within}
use Rattle.flow_form.specs.Shape.{In}
use Rattle.type_table.specs.Tables.{Held, IsOf, Opened}

-- a pass that has stepped on: it knows and has done at least what it did
pub record StepsOn (c : Constraints) (before after : Held) : Type 0 where
  pub loaded : Within (In c before.view.worker.loaded) (In c after.view.worker.loaded)
  pub grown : Within (In c before.view.worker.grown) (In c after.view.worker.grown)
  pub done : (block : ℕ) → IsMember before.view.worker.done block → IsMember after.view.worker.done block

-- the same, and it is still a pass of the table
pub record Steps (c : Constraints) (table : Opened) (before after : Held) : Type 0 where
  pub of : IsOf after table
  pub on : StepsOn c before after

-- a rule of the constraints
pub record IsListed (c : Constraints) (rule : Rule) : Type 0 where
  pub index : ℕ
  pub listed : slice_get c.rules index ≡ Some rule

-- both tests of a rule hold in a set
pub record HoldsIn (S : Pairs) (rule : Rule) : Type 0 where
  pub first : TestHolds S rule.first
  pub second : TestHolds S rule.second

-- what the rule at a place of a list gives in a set
pub record GivenAt (rules : List Rule) (index : ℕ) (S : Pairs) (row atom : ℕ) : Type 0 where
  pub rule : Rule
  pub listed : slice_get rules index ≡ Some rule
  pub gives : Gives S rule row atom
