use Rattle.std.proofs.Common.{refl}
use Rattle.datum_form.proofs.OneDatum.{one_node, one_list}
use Rattle.datum_form.proofs.law.one_datum.Goals as goal

pub returns-clause-node : goal.returns-clause-node
returns-clause-node c = one_node

pub returns-clause-all : goal.returns-clause-all
returns-clause-all c = λ nodes ids d e. one_list nodes ids ids refl d e
