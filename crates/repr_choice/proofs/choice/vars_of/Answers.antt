use Rattle.std.proofs.Common.{◌≡◌, ◌<◌, ◌++◌, length, arith, rules, ap, ◌∙◌}
use Rattle.std.specs.Prelude.{[], ◌∷◌, is_some}
use Rattle.named_form.specs.ValidPlan.{fiction_of}
use Rattle.plan_facts.specs.Represented.{are_integers, atoms, repr_in, repr_of}
use Rattle.plan_facts.proofs.OneByOne.{one_more}
use Rattle.repr_choice.proofs.choice.vars_of.Goals as goal

pub loop-var-preserved : goal.loop-var-preserved
loop-var-preserved c =
    let flow = c.args.flow.now in
    let x = c.loop-var.var in
    let below : x < length flow.vars = omega (arith, c.loop-var-test.true, c.len-many.ensures) in
    let is_fictitious : c.index.result.now ≡ is_some (fiction_of c.args.fictions.now x) =
    c.index.ensures ∙ c.in_ok-marks.ensures.same x c.index.result.now c.loop-var-test.true
    in
    let integers : c.in_ok-are_integers.field-0 ≡ are_integers (atoms flow c.args.rows.now x) = search rules in
    one_more (repr_of flow c.args.rows.now c.args.fictions.now) x (length flow.vars) c.loop-var.vars c.push.new.self _ below
    (c.in_ok-push.ensures.ok
    ∙ (ap (λ r. c.loop-var.vars ++ r ∷ []) c.repr_of.ensures
    ∙ (ap (λ b. c.loop-var.vars ++ repr_in b c.in_ok-are_integers.field-0 ∷ []) is_fictitious
    ∙ ap (λ b. c.loop-var.vars ++ repr_in (is_some (fiction_of c.args.fictions.now x)) b ∷ []) integers)))
    c.loop-var.invariant
