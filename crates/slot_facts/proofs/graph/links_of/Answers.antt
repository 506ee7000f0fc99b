use Rattle.std.proofs.Common.{◌+◌, ◌++◌, length, ap, ◌∙◌}
use Rattle.std.specs.List.{flat_map}
use Rattle.least_set.specs.Search.{listed}
use Rattle.plan_facts.proofs.OneByOne.{one_listed}
use Rattle.slot_facts.specs.Graph.{link_by, need_link, value_at}
use Rattle.slot_facts.specs.Marks.{is_marked}
use Rattle.slot_facts.proofs.Lists.{read_list}
use Rattle.slot_facts.proofs.graph.links_of.Goals as goal

pub loop-var-preserved : goal.loop-var-preserved
loop-var-preserved c =
    let values = c.args.values.now in
    let links = c.loop-var.links in
    let at = c.args.procs + c.loop-var.var in
    one_listed (λ x. link_by (c.args.procs + x) (value_at values x)) c.loop-var.var (length values) links c.put_closure.new.links _
    c.loop-var-test.true
    (c.in_ok-put_closure.ensures
    ∙ (ap (λ n. links ++ link_by n c.known.result) c.in_ok-node.ensures ∙ ap (λ o. links ++ link_by at o) c.known.ensures))
    c.loop-var.invariant

pub loop-proc-preserved : goal.loop-proc-preserved
loop-proc-preserved c =
    let needed = c.args.needed.now in
    let links = c.loop-proc.links in
    let proc = c.loop-proc.proc in
    let need = need_link c.args.procs (length c.args.values.now) (is_marked c.args.own.now) in
    one_listed (λ q. flat_map (need q) (listed needed q)) proc (length needed) links c.put_needed.new.links _ c.loop-proc-test.true
    (c.in_ok-put_needed.ensures
    ∙ (ap (λ q. links ++ flat_map (need q) c.as_slice.result.now) c.in_ok-to.ensures
    ∙ ap (λ xs. links ++ flat_map (need proc) xs)
    (c.as_slice.ensures ∙ read_list needed proc c.index-needed-proc.result c.loop-proc-test.true c.index-needed-proc.is)))
    c.loop-proc.invariant
