use Rattle.elf_write.proofs.Answers.{one_answer}
use Rattle.elf_write.proofs.reading.one_answer.Goals as goal

pub returns : goal.returns
returns c = one_answer c.args.bytes.now
