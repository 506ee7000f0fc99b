use Rattle.closure_conv.proofs.Programs.{lists_one}
use Rattle.closure_conv.proofs.program.rest_lists.Goals as goal

pub loop-proc-preserved : goal.loop-proc-preserved
loop-proc-preserved c =
    lists_one c.as_slice-proc-items.result.now c.loop-proc.proc-index c.proc-item.result c.loop-proc.lists c.in_ok-lists.lists _
    c.loop-proc-test.true c.proc-item.is c.in_ok-lists.ensures c.loop-proc.invariant
