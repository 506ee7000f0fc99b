use Rattle.box_name.proofs.LiteralsNamed.{literals_are}
use Rattle.box_name.proofs.law.literals_are_named_once.Goals as goal

pub returns : goal.returns
returns c = literals_are
