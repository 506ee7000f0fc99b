use Rattle.std.proofs.Common.{◌≡◌, subst, arith}
use Rattle.rv_words.specs.Packed.{IsReady}
use Rattle.rv_emulator.proofs.CodeStays.{loaded_low}
use Rattle.rv_emulator.proofs.memory.fetch.Goals as goal

pub returns-in-Some-clause-ready : goal.returns-in-Some-clause-ready
returns-in-Some-clause-ready c = λ word is. (
  let same : c.decoded.result ≡ word = cc in subst IsReady same c.decoded.ensures.ready,
  loaded_low c.args.regions.now c.args.bytes.now 1 3 c.args.pc c.in-Some.number c.requires.low (omega arith) c.in-Some.ensures.value,
)
