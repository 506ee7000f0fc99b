use Rattle.prelude_text.proofs.Spreading.{one, found}
use Rattle.prelude_text.proofs.law.one_closure.Goals as goal

pub returns-clause-one : goal.returns-clause-one
returns-clause-one c = one

pub returns-clause-found : goal.returns-clause-found
returns-clause-found c = found
