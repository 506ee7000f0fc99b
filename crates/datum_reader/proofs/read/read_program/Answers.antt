use Rattle.datum_reader.proofs.AnswerFollows.{only_data, only_fault}
use Rattle.datum_reader.proofs.read.read_program.Goals as goal

pub returns-clause-data : goal.returns-clause-data
returns-clause-data c = λ d. only_data c.args.bytes.now c.read_short.result d c.read_short.ensures

pub returns-clause-fault : goal.returns-clause-fault
returns-clause-fault c = λ e. only_fault c.args.bytes.now c.read_short.result e c.read_short.ensures
