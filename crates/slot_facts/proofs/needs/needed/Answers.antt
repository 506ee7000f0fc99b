use Rattle.std.proofs.Common.{◌-◌, ◌<◌, ◌∙◌, arith}
use Rattle.slot_facts.proofs.Lists.{read_list}
use Rattle.slot_facts.proofs.NeededLists.{made_of, one_needed}
use Rattle.slot_facts.proofs.needs.needed.Goals as goal

pub loop-q-preserved : goal.loop-q-preserved
loop-q-preserved c =
    let free = c.args.free.now in
    let references = c.args.references.now in
    let makings = c.args.makings.now in
    let needed = c.loop-q.needed.items in
    let q = c.loop-q.q - 1 in
    let low = c.loop-q.invariant.low in
    let there : q < c.args.many = omega (arith, c.loop-q-test.true, low) in
    one_needed c.args.many free references makings needed c.loop-q.q c.in_ok-needed-2.field-0 c.loop-q-test.true c.loop-q.invariant
    (made_of free references makings needed q c.in_ok-needed-2.field-0 c.in_ok-wanted.wanted.items c.as_slice.result.now c.as_slice-in-loop-q.result.now
    c.as_slice-in-loop-q-2.result.now
    (c.as_slice.ensures ∙ read_list references q c.index-references-q.result (omega (arith, c.requires.references, there)) c.index-references-q.is)
    (c.as_slice-in-loop-q.ensures ∙ read_list makings q c.index-makings-q.result (omega (arith, c.requires.makings, there)) c.index-makings-q.is)
    c.as_slice-in-loop-q-2.ensures.value c.in_ok-wanted.ensures c.in_ok-needed-2.ensures)
