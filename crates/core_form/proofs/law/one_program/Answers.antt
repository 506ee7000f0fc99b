use Rattle.core_form.proofs.OneTree.{one_list}
use Rattle.core_form.proofs.law.one_program.Goals as goal

pub returns : goal.returns
returns g c = λ program forms others h k. one_list program.exprs program.forms forms others h k
