use Rattle.scheme_expand.proofs.Reading.{read_inputs}
use Rattle.scheme_expand.proofs.law.readable_inputs.Goals as goal

pub returns : goal.returns
returns c = read_inputs
