use Rattle.datum_form.proofs.PrintedByParts.{none_left}
use Rattle.quasi_expand.specs.Shapes.{all_items, is_step}
use Rattle.quasi_expand.proofs.EachIsABinding.{all_bindings, no_binding, one_binding}
use Rattle.quasi_expand.proofs.do_loop.each_is_binding.Goals as goal

pub returns-then-is_none : goal.returns-then-is_none
returns-then-is_none c = λ ds h.
    no_binding c.args.nodes.now c.loop-binding.rest.now c.in-Some.others.now c.in-Some.binding.now (all_items is_step ds)
    c.do_binding.result c.in-Some.ensures.cases.0 c.do_binding.ensures c.if-is_none.ensures (c.loop-binding.invariant ds h)

pub loop-binding-preserved : goal.loop-binding-preserved
loop-binding-preserved c = λ ds h.
    one_binding c.args.nodes.now c.loop-binding.rest.now c.in-Some.others.now c.in-Some.binding.now (all_items is_step ds)
    c.do_binding.result c.in-Some.ensures.cases.0 c.do_binding.ensures c.if-is_none.ensures (c.loop-binding.invariant ds h)

pub returns : goal.returns
returns c = λ ds h.
    all_bindings c.args.nodes.now c.loop-binding.rest.now (all_items is_step ds)
    (none_left c.loop-binding.rest.now c.in_default.ensures.cases) (c.loop-binding.invariant ds h)
