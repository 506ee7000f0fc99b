use Rattle.box_name.proofs.MadeOnce.{all_made_once}
use Rattle.box_name.proofs.law.procedures_are_made_once.Goals as goal

pub returns : goal.returns
returns c = all_made_once
