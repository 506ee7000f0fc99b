use Rattle.box_name.proofs.NumbersNamed.{each_names}
use Rattle.box_name.proofs.law.numbers_are_named.Goals as goal

pub returns : goal.returns
returns c = each_names
