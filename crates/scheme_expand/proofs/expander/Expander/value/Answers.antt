use Rattle.std.proofs.Common.{◌∷◌, [], refl, sym, ap, ◌∙◌}
use Rattle.scheme_expand.specs.declared.step.Step.TheVariants as step
use Rattle.scheme_expand.specs.Faults.{fault, least, in_bindings}
use Rattle.scheme_expand.specs.Forms.{no_binding}
use Rattle.scheme_expand.specs.Noted.{number_of}
use Rattle.scheme_expand.specs.Waiting.{in_values}
use Rattle.scheme_expand.proofs.Adding.{due, one_waits}
use Rattle.scheme_expand.proofs.Definitions.{value_of}
use Rattle.scheme_expand.proofs.Due.{on_ok}
use Rattle.scheme_expand.proofs.expander.Expander.value.Goals as goal

pub returns-in-Ok-clause-fault : goal.returns-in-Ok-clause-fault
returns-in-Ok-clause-fault c =
    on_ok c.wait.result
    (λ w d h t.
    w (value_of d) (one_waits c.args.self.now.source (step.Defined c.args.id) (value_of d) (d, h, t, refl)))
    c.wait.ensures.fault

pub returns-in-Err-clause-fault : goal.returns-in-Err-clause-fault
returns-in-Err-clause-fault c = λ d h t.
    due c.args.self.now c.note.new.self (least (fault c.pos-pos.result (number_of c.in-Err.rule) ∷ [])) (value_of d)
    (ap (λ p. least (fault p (number_of c.in-Err.rule) ∷ [])) (c.pos-pos.ensures d h)
    ∙ ap (λ bs. least (in_values bs)) (sym (c.in-Err.ensures d h t no_binding)))
    c.note.ensures.fault

pub returns-in-Ok-clause-core : goal.returns-in-Ok-clause-core
returns-in-Ok-clause-core c = on_ok c.wait.result (λ w d h t r. w) c.wait.ensures.core

pub returns-in-Err-clause-core : goal.returns-in-Err-clause-core
returns-in-Err-clause-core c = λ d h t r.
    let none = sym (ap in_bindings (c.in-Err.ensures d h t no_binding)) ∙ r in absurd (cc)
