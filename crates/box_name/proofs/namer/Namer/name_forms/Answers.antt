use Rattle.std.proofs.Common.{rules}
use Rattle.std.proofs.lemmas.List.{nil_from_length}
use Rattle.box_name.proofs.Forming.{running_begins, running_on, running_ends}
use Rattle.box_name.proofs.namer.Namer.name_forms.Goals as goal

pub loop-expr-init : goal.loop-expr-init
loop-expr-init c = λ forms holds knows at proc_at empty.
    running_begins c.args.core.now.exprs c.args.core.now.lits forms c.args.self.now c.args.steps.now.items c.args.core.now.forms _ holds
    (search rules) at proc_at empty

pub loop-expr-preserved : goal.loop-expr-preserved
loop-expr-preserved c =
    λ forms holds knows at proc_at empty.
    running_on c.args.core.now.exprs c.args.core.now.lits forms c.args.self.now c.loop-expr.self c.name_expr.new.self c.loop-expr.steps.items
    c.name_expr.new.steps.items c.loop-expr.form c.in-Some-checked_add.next c.in-Some.expr.now c.in_ok-name_expr.field-0 c.loop-expr.left.now
    c.in-Some.others.now (c.loop-expr.invariant forms holds knows at proc_at empty) (search rules) (search rules)
    (λ e st. c.in_ok-name_expr.ensures e st _ (knows c.loop-expr.form))

pub returns : goal.returns
returns c =
    λ forms holds knows none_noted at proc_at empty.
    running_ends c.args.core.now.exprs c.args.core.now.lits forms c.args.self.now c.loop-expr.self c.loop-expr.steps.items c.loop-expr.form
    c.loop-expr.left.now (c.loop-expr.invariant forms holds knows at proc_at empty) (nil_from_length _ c.in_default.ensures.cases) none_noted
