use Rattle.datum_reader.proofs.OneAnswer.{same_data, data_or_fault, some_answer}
use Rattle.datum_reader.proofs.law.one_answer.Goals as goal

pub returns-clause-same_data : goal.returns-clause-same_data
returns-clause-same_data c = same_data

pub returns-clause-apart : goal.returns-clause-apart
returns-clause-apart c = data_or_fault

pub returns-clause-some : goal.returns-clause-some
returns-clause-some c = some_answer
