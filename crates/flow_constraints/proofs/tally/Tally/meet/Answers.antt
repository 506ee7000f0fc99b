use Rattle.std.proofs.Common.{◌≡◌, ◌+◌, ap, arith}
use Rattle.named_form.specs.declared.program.Block.{out-Block}
use Rattle.named_form.specs.Written.{act_of}
use Rattle.flow_constraints.specs.Counting.{own_count, value_count}
use Rattle.flow_constraints.proofs.BlockCounts.{choice_counted}
use Rattle.flow_constraints.proofs.tally.Tally.meet.Goals as goal

pub returns-in-If-clause-rules : goal.returns-in-If-clause-rules
returns-in-If-clause-rules c =
    let counted :
    own_count c.args.flow.now c.args.lits.now c.args.vars (act_of c.args.act.now)
    ≡ (2 + value_count (out-Block c.in-If.yes).value) + value_count (out-Block c.in-If.no).value =
    choice_counted c.args.flow.now c.args.lits.now c.args.vars c.in-If.test c.args.act.now c.in-If.yes c.in-If.no c.in-If.is in
    omega (arith, counted, ap (λ t. t.rules) c.meet_value-in-If.ensures, ap (λ t. t.rules) c.meet_value.ensures, ap (λ t. t.rules) c.add-in-If.ensures)
