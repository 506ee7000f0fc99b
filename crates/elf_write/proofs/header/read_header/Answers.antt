use Rattle.std.proofs.Common.{rules, inr, arith}
use Rattle.elf_write.proofs.header.read_header.Goals as goal

pub returns-then-not-has_headers-clause-fault : goal.returns-then-not-has_headers-clause-fault
returns-then-not-has_headers-clause-fault c = inr (omega arith, search rules, search rules, search rules)
