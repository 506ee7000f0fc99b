use Rattle.std.proofs.Common.{refl}
use Rattle.stalin_top.proofs.Emulations.{emulation}
use Rattle.stalin_top.proofs.emulate.emulate.Goals as goal

pub returns-in-Whole-clause-run : goal.returns-in-Whole-clause-run
returns-in-Whole-clause-run g c = emulation _ _ _ _ _ _ _ _ c.in-Whole.ensures.content refl c.emulate_file.ensures
