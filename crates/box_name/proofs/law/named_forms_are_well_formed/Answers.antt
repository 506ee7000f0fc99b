use Rattle.box_name.proofs.AllParts.{all_parts}
use Rattle.box_name.proofs.law.named_forms_are_well_formed.Goals as goal

pub returns : goal.returns
returns c = all_parts
