use Rattle.datum_form.proofs.DataStay.{grown, grown_all}
use Rattle.datum_form.proofs.law.data_stay.Goals as goal

pub returns-clause-node : goal.returns-clause-node
returns-clause-node c = grown

pub returns-clause-all : goal.returns-clause-all
returns-clause-all c = grown_all
