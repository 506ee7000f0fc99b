use Rattle.scheme_base.proofs.RunLaws.{writes_more, runs_compose}
use Rattle.scheme_base.proofs.law.runs.Goals as goal

pub returns-clause-writes : goal.returns-clause-writes
returns-clause-writes g c = writes_more

pub returns-clause-compose : goal.returns-clause-compose
returns-clause-compose g c = runs_compose
