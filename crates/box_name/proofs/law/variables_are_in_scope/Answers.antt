use Rattle.box_name.proofs.ScopesWell.{each_scope}
use Rattle.box_name.proofs.law.variables_are_in_scope.Goals as goal

pub returns : goal.returns
returns c = each_scope
