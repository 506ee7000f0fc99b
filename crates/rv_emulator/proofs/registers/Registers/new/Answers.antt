use Rattle.std.proofs.Math.Path.{fun_ext}
use Rattle.rv_emulator.proofs.BytesOfNumbers.{zeros_at}
use Rattle.rv_emulator.proofs.registers.Registers.new.Goals as goal

pub returns : goal.returns
returns c = fun_ext (λ r. zeros_at 33 r)
