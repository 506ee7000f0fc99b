use Rattle.std.proofs.Common.{◌≡◌, List, false, true, length, ◌==◌, sym, ap, ◌∙◌}
use Rattle.named_form.specs.declared.program.Step.{Step}
use Rattle.named_form.proofs.Folds.{goes_on}
use Rattle.plan_facts.proofs.walk.ends_with.Goals as goal

never : false ≡ true → ⊥
never h = cc

pub returns-else-is_empty : goal.returns-else-is_empty
returns-else-is_empty c =
    c.if-is_empty.false
    ∙ sym
    (goes_on c.args.steps.now c.args.value c.args.vars.now
    (λ e. never (c.if-is_empty.ensures ∙ ap (λ (steps : List Step). length steps == 0) e)))
