-- What one rule gives to its row, and what one plain step of all rules does to words.
use Rattle.std.specs.Prelude.{ℕ, List, Bool, ◌≡◌}
use Rattle.std.specs.Bool.{MatchBool}
use Rattle.flow_form.specs.declared.constraints.Constraints.{Constraints}
use Rattle.flow_form.specs.declared.rule.Rule.{Rule}
use Rattle.flow_form.specs.Least.{Closed, GivesAtom, Plain, SameSet}
use Rattle.flow_form.specs.Shape.{In}

-- the pair is in the row that the rule names, and its atom is one that the rule gives
pub record GivesTo (c : Constraints) (words : List ℕ) (rule : Rule) (row atom : ℕ) : Type 0 where
  pub to : row ≡ rule.to
  pub given : GivesAtom (In c words) rule.give atom

-- words take a plain step, of which the second words are then a copy, and it is told whether they were
-- not closed before
pub record TakesStep (c : Constraints) (before words copy : List ℕ) (added : Bool) : Type 0 where
  pub same : SameSet (In c copy) (In c words)
  pub step : SameSet (In c words) (Plain c.rules (In c before))
  pub tells : MatchBool added (¬ Closed c.rules (In c before)) (Closed c.rules (In c before))
