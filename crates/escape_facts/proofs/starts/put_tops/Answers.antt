use Rattle.std.specs.Prelude.{None}
use Rattle.least_set.specs.Search.{listed}
use Rattle.escape_facts.proofs.InOrder.{one_row}
use Rattle.escape_facts.proofs.starts.put_tops.Goals as goal

pub loop-top-preserved : goal.loop-top-preserved
loop-top-preserved c =
    one_row (listed c.args.owners.now) c.args.rows.now None c.loop-top.top c.args.tops c.loop-top.sites c.put_row.new.sites _
    c.loop-top-test.true c.in_ok-put_row.ensures c.loop-top.invariant
