use Rattle.named_form.proofs.StoppedStates.{holds}
use Rattle.named_form.proofs.law.named_steps.Goals as goal

pub returns-clause-holds : goal.returns-clause-holds
returns-clause-holds c = holds
