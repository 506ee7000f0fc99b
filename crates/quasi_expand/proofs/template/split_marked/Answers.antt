use Rattle.datum_form.proofs.PrintedByParts.{none_left}
use Rattle.quasi_expand.proofs.TemplateEnds.{none_split, one_split, plain_split, marked_split}
use Rattle.quasi_expand.proofs.template.split_marked.Goals as goal

pub returns-in_default : goal.returns-in_default
returns-in_default c = λ ds h.
    none_split c.args.nodes.now c.args.items.now ds h (none_left c.args.items.now c.in_default.ensures.cases)

pub returns-in_default-split_last : goal.returns-in_default-split_last
returns-in_default-split_last c = λ ds h.
    one_split c.args.nodes.now c.args.items.now c.in-Some.others.now c.in-Some.operand.now ds h c.in-Some.ensures.cases.0
    (none_left c.in-Some.others.now c.in_default-split_last.ensures.cases)

pub returns-in-None : goal.returns-in-None
returns-in-None c = λ ds h.
    plain_split c.args.nodes.now c.args.items.now c.in-Some.others.now c.in-Some-split_last.before.now c.in-Some.operand.now
    c.in-Some-split_last.name.now ds h c.in-Some.ensures.cases.0 c.in-Some-split_last.ensures.cases.0 c.mark_of.result
    c.mark_of.ensures c.in-None.is

pub returns-in-Some-mark_of : goal.returns-in-Some-mark_of
returns-in-Some-mark_of c = λ ds h.
    marked_split c.args.nodes.now c.args.items.now c.in-Some.others.now c.in-Some-split_last.before.now c.in-Some.operand.now
    c.in-Some-split_last.name.now ds c.in-Some-mark_of.mark h c.in-Some.ensures.cases.0 c.in-Some-split_last.ensures.cases.0
    c.mark_of.result c.mark_of.ensures c.in-Some-mark_of.is
