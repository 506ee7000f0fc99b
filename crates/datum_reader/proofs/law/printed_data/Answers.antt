use Rattle.datum_reader.proofs.ReadDataAreValid.{reads_again}
use Rattle.datum_reader.proofs.law.printed_data.Goals as goal

pub returns : goal.returns
returns c = reads_again
