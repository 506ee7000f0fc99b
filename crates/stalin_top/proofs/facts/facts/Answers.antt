use Rattle.stalin_top.proofs.TablesPrinted.{printed, unprinted}
use Rattle.stalin_top.proofs.facts.facts.Goals as goal

pub returns-in-Err-clause-outcome : goal.returns-in-Err-clause-outcome
returns-in-Err-clause-outcome g c = unprinted _ _ _ _ c.in-Err.ensures.content
