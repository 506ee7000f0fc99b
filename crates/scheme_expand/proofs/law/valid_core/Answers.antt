use Rattle.scheme_expand.proofs.Expansions.{core_is_valid}
use Rattle.scheme_expand.proofs.law.valid_core.Goals as goal

pub returns : goal.returns
returns c = core_is_valid
