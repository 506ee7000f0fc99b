use Rattle.std.proofs.Common.{[]}
use Rattle.stalin_outside.proofs.TextsWritten.{sends_cut}
use Rattle.stalin_outside.proofs.sending.send_all.Goals as goal

pub returns-then-not-send : goal.returns-then-not-send
returns-then-not-send g c =
    let cut = rw c.if-not-send.true at c.send.ensures in
    sends_cut c.args.parts.now c.loop-part.part-index (record { ref_ptr = (0, 0); now = [] }) _ _ _ c.loop-part-test.true
    c.loop-part.invariant cut
