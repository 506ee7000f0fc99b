use Rattle.std.proofs.Common.{rules}
use Rattle.elf_write.proofs.Validity.{valid}
use Rattle.elf_write.proofs.reading.read.Goals as goal

pub returns-clause-valid : goal.returns-clause-valid
returns-clause-valid c = valid c.args.bytes.now _ (search rules)
