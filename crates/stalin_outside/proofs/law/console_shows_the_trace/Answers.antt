use Rattle.stalin_outside.proofs.ShowsTrace.{shows}
use Rattle.stalin_outside.proofs.law.console_shows_the_trace.Goals as goal

pub returns : goal.returns
returns c = shows
