use Rattle.box_name.proofs.NumbersInOrder.{all_numbered}
use Rattle.box_name.proofs.law.variables_are_numbered.Goals as goal

pub returns : goal.returns
returns c = all_numbered
