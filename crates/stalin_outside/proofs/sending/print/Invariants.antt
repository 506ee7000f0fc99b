use Rattle.std.proofs.Common.{take, true}
use Rattle.stalin_outside.specs.Sending.{Prints}
use Rattle.stalin_outside.proofs.sending.print.Given as goal

abbrev pub invariant-loop-byte : goal.invariant-loop-byte
invariant-loop-byte g l =
    Prints (take l.byte-index l.text) true (g.C.Console.told l.initial.console) (g.C.Console.told l.console)
