use Rattle.datum_reader.proofs.law.no_token.Goals as goal
use Rattle.datum_reader.proofs.StopsHaveCauses.{no_token}

pub returns : goal.returns
returns c = no_token (record { line = 1; col = 1 })
