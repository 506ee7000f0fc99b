use Rattle.alpha_core.proofs.RenamedCores.{renamed_core_is_valid}
use Rattle.alpha_core.proofs.law.renamed_cores_are_valid.Goals as goal

pub returns : goal.returns
returns c = renamed_core_is_valid
