use Rattle.std.proofs.Common.{[], ◌∷◌, ◌++◌, length, ap, ◌∙◌, arith}
use Rattle.plan_facts.proofs.OneByOne.{one_more}
use Rattle.slot_facts.specs.Values.{stated_of}
use Rattle.slot_facts.proofs.values.values.Goals as goal

pub loop-var-preserved : goal.loop-var-preserved
loop-var-preserved c =
    let value = stated_of c.args.procs c.args.flow.now c.args.rows.now in
    one_more value c.loop-var.var (length c.args.flow.now.vars) c.loop-var.values c.push.new.self _ (omega (arith, c.len-var-end.ensures, c.loop-var-test.true))
    (c.in_ok-push.ensures.ok ∙ ap (λ v. c.loop-var.values ++ v ∷ []) (c.in_ok-value.ensures ∙ ap value c.in_ok-number_of.ensures))
    c.loop-var.invariant
