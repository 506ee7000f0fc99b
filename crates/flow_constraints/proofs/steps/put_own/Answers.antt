use Rattle.std.proofs.Common.{◌≡◌, ◌++◌, OnOk, sym, subst}
use Rattle.named_form.specs.Written.{act_of}
use Rattle.flow_constraints.specs.Table.{own_rules}
use Rattle.flow_constraints.proofs.Endings.{arms_end}
use Rattle.flow_constraints.proofs.steps.put_own.Goals as goal

pub returns-in-If : goal.returns-in-If
returns-in-If c =
    let f = c.args.flow.now in
    let lits = c.args.lits.now in
    let vars = c.args.vars.now in
    let old = c.args.rules.now in
    let new = c.put_choice.new.rules in
    subst (λ a. OnOk c.put_choice.result (new ≡ old ++ own_rules f lits c.args.spot vars (act_of a))) (sym c.in-If.is)
    (arms_end f lits c.args.spot vars c.in-If.test c.in-If.yes c.in-If.no (λ rs. OnOk c.put_choice.result (new ≡ old ++ rs))
    c.put_choice.ensures)
