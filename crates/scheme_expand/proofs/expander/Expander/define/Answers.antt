use Rattle.scheme_expand.proofs.Due.{any_ok}
use Rattle.scheme_expand.proofs.MadeBodies.{good_of, not_good}
use Rattle.scheme_expand.proofs.MadePrograms.{define_turns, left_named, not_local, same_word}
use Rattle.std.proofs.Common.{◌∷◌, [], None, refl, sym, ap, ◌∙◌}
use Rattle.scheme_expand.specs.Faults.{fault, least, in_bindings, in_word}
use Rattle.scheme_expand.specs.Forms.{no_binding}
use Rattle.scheme_expand.specs.Rewriting.{meaning}
use Rattle.scheme_expand.specs.Views.{scope_of}
use Rattle.scheme_expand.proofs.Coming.{view_kept}
use Rattle.scheme_expand.specs.Grammar.{definitions_before}
use Rattle.scheme_expand.specs.Noted.{number_of}
use Rattle.scheme_expand.specs.declared.step.Step.TheVariants as step
use Rattle.scheme_expand.proofs.Adding.{both, both_kept, due, one_waits}
use Rattle.scheme_expand.proofs.Parts.{read_in}
use Rattle.scheme_expand.proofs.Definitions.{value_of}
use Rattle.scheme_expand.proofs.Due.{on_ok}
use Rattle.scheme_expand.proofs.FormsDone.{name_and_value}
use Rattle.scheme_expand.proofs.expander.Expander.define.Goals as goal

pub returns-in_ok-word-in-Ok-clause-fault : goal.returns-in_ok-word-in-Ok-clause-fault
returns-in_ok-word-in-Ok-clause-fault c =
    let a = c.args.self.now in
    let b = c.change.new.self in
    on_ok c.wait.result
    (λ w d h t.
    let i = c.in-Ok.ensures d h t in
    let x = least (in_word i.word) in
    let named = both_kept a c.name.new.self b x (c.in_ok-word-in-Ok.ensures.fault i.word i.name) c.change.ensures.fault in
    due a c.wait.new.self _ (least (in_bindings (definitions_before d no_binding))) (name_and_value a.source c.in-Ok.definition d i)
    (both a b c.wait.new.self x (value_of d) named
    (w (value_of d) (
      None,
      value_of d,
      refl,
      one_waits b.source (step.Defined c.args.id) (value_of d) (d, read_in a.source b.source c.args.id d (sym named.source) h, t, refl),
      refl,
    ))))
    c.wait.ensures.fault

pub returns-in-Err-clause-fault : goal.returns-in-Err-clause-fault
returns-in-Err-clause-fault c =
    let a = c.args.self.now in
    on_ok c.broken.result
    (λ w d h t.
    due a c.broken.new.self (least (fault c.pos-pos.result (number_of c.in-Err.rule) ∷ [])) (least (in_bindings (definitions_before d no_binding)))
    (ap (λ p. least (fault p (number_of c.in-Err.rule) ∷ [])) (c.pos-pos.ensures d h)
    ∙ ap (λ bs. least (in_bindings bs)) (sym (c.in-Err.ensures d h t no_binding)))
    w)
    c.broken.ensures

pub returns-in_ok-word-in-Ok-clause-core : goal.returns-in_ok-word-in-Ok-clause-core
returns-in_ok-word-in-Ok-clause-core c =
    let a = c.args.self.now in
    let b = c.name.new.self in
    on_ok c.wait.result
    (λ p κ v d i h t r n.
    let own = read_in κ.source a.source c.args.id d (sym i.source) h in
    let def = c.in-Ok.ensures d own t in
    let g = good_of d t r in
    let spelled = c.in_ok-word-in-Ok.ensures.core.1 κ def.word i.fits (read_in a.source κ.source _ _ i.source def.name) i.source in
    let j = view_kept κ a b v c.in_ok-word-in-Ok.ensures.core.0.same i in
    let means = c.variable-variable.ensures.core κ v j spelled.0 in
    define_turns κ a c.change.new.self c.wait.new.self c.pos-pos.result c.args.id c.variable-variable.result d v h t (c.pos-pos.ensures d own) g
    (means ∙ (ap (meaning (scope_of κ v)) spelled.1 ∙ ap (λ w. meaning (scope_of κ v) w.name) (same_word d def.word g.word _ _ def.exp g.exp (def.binds no_binding) (g.binds no_binding))))
    (left_named κ a b c.change.new.self _ c.in_ok-word-in-Ok.ensures.core.0 (c.change.ensures.core κ v j (not_local κ v _ _ n means)))
    p)
    c.wait.ensures.core

pub returns-in-Err-clause-core : goal.returns-in-Err-clause-core
returns-in-Err-clause-core c =
    let a = c.args.self.now in
    any_ok c.broken.result
    (λ κ v d i h t r n.
    absurd (not_good d _ _ (c.in-Err.ensures d (read_in κ.source a.source c.args.id d (sym i.source) h) t) r))
