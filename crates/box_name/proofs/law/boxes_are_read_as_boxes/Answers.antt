use Rattle.box_name.proofs.BoxesWell.{each_box}
use Rattle.box_name.proofs.law.boxes_are_read_as_boxes.Goals as goal

pub returns : goal.returns
returns c = each_box
