use Rattle.flow_constraints.proofs.ProgramFits.{all_named, rules_valid}
use Rattle.flow_constraints.proofs.law.rules_are_valid.Goals as goal

pub returns-clause-named : goal.returns-clause-named
returns-clause-named c = all_named

pub returns-clause-valid : goal.returns-clause-valid
returns-clause-valid c = rules_valid
