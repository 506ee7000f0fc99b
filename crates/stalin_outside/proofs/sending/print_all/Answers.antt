use Rattle.std.proofs.Common.{[]}
use Rattle.stalin_outside.proofs.TextsWritten.{prints_cut}
use Rattle.stalin_outside.proofs.sending.print_all.Goals as goal

pub returns-then-not-print : goal.returns-then-not-print
returns-then-not-print g c =
    let cut = rw c.if-not-print.true at c.print.ensures in
    prints_cut c.args.parts.now c.loop-part.part-index (record { ref_ptr = (0, 0); now = [] }) _ _ _ c.loop-part-test.true
    c.loop-part.invariant cut
