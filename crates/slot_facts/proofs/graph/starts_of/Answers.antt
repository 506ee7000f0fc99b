use Rattle.std.proofs.Common.{◌+◌, length}
use Rattle.plan_facts.proofs.OneByOne.{one_listed}
use Rattle.slot_facts.specs.Graph.{start_by, value_at}
use Rattle.slot_facts.proofs.Choosing.{start_put}
use Rattle.slot_facts.proofs.graph.starts_of.Goals as goal

pub loop-var-preserved : goal.loop-var-preserved
loop-var-preserved c =
    let values = c.args.values.now in
    one_listed (λ x. start_by (c.args.procs + x) (value_at values x)) c.loop-var.var (length values) c.loop-var.starts c.put_if.new.numbers _
    c.loop-var-test.true
    (start_put c.loop-var.starts c.put_if.new.numbers c.in_ok-node.field-0 (c.args.procs + c.loop-var.var) c.is_none.result c.known.result
    (value_at values c.loop-var.var) c.in_ok-node.ensures c.known.ensures c.is_none.ensures c.in_ok-put_if.ensures)
    c.loop-var.invariant
