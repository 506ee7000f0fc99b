use Rattle.stalin_outside.proofs.SomeEnvironment.{some_env}
use Rattle.stalin_outside.proofs.law.answers_are_of_an_environment.Goals as goal

pub returns : goal.returns
returns c = some_env
