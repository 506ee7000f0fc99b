use Rattle.std.proofs.Common.{true, false}
use Rattle.stalin_top.proofs.NumbersTold.{told, untold}
use Rattle.stalin_top.proofs.make.make.Goals as goal

pub returns-in-Err : goal.returns-in-Err
returns-in-Err g c = untold _ _ _ _ c.in-Err.ensures

pub returns-then-print : goal.returns-then-print
returns-then-print g c =
    let printed = rw c.if-print.true at c.print.ensures in
    told c.args.count c.args.heap _ _ true _ _ c.in-Ok.ensures c.as_slice.ensures.value printed

pub returns : goal.returns
returns g c =
    let printed = rw c.if-print.false at c.print.ensures in
    told c.args.count c.args.heap _ _ false _ _ c.in-Ok.ensures c.as_slice.ensures.value printed
