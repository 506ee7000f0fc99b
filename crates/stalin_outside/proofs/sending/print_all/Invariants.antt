use Rattle.std.proofs.Common.{take, true}
use Rattle.stalin_outside.specs.Sending.{Prints, joined}
use Rattle.stalin_outside.proofs.sending.print_all.Given as goal

abbrev pub invariant-loop-part : goal.invariant-loop-part
invariant-loop-part g l =
    Prints (joined (take l.part-index l.parts)) true (g.C.Console.told l.initial.console) (g.C.Console.told l.console)
