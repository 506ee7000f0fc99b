use Rattle.datum_reader.proofs.OneReading.{outcome}
use Rattle.datum_reader.proofs.law.one_reading.Goals as goal

pub returns-clause-some : goal.returns-clause-some
returns-clause-some c = outcome
