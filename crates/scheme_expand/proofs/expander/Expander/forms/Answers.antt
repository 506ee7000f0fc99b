use Rattle.scheme_expand.proofs.Due.{none_left}
use Rattle.scheme_expand.proofs.FormsDone.{no_forms_done, one_form_done, forms_done}
use Rattle.scheme_expand.proofs.MadePrograms.{no_forms_made, one_form_made, forms_made}
use Rattle.scheme_expand.proofs.expander.Expander.forms.Goals as goal

pub loop-first-init : goal.loop-first-init
loop-first-init c =
    let a = c.args.self.now in
    (λ ds h e. no_forms_done a c.args.tops.now ds h e, λ κ v ds i h e r n. no_forms_made κ a v c.args.tops.now ds i h e r n)

pub loop-first-preserved : goal.loop-first-preserved
loop-first-preserved c =
    let b = c.loop-first.self in
    let rest = c.loop-first.rest.now in
    let split = c.in-Some.ensures.cases.0 in (
      λ ds h e.
          one_form_done c.args.self.now b c.one_form.new.self rest c.in-Some.others.now c.in-Some.first.now ds
          (c.loop-first.invariant.0 ds h e) split c.in_ok-one_form.ensures.fault,
      λ κ v ds i h e r n.
          one_form_made κ b c.one_form.new.self v rest c.in-Some.others.now c.in-Some.first.now ds
          (c.loop-first.invariant.1 κ v ds i h e r n) split c.in_ok-one_form.ensures.core,
    )

pub returns-clause-fault : goal.returns-clause-fault
returns-clause-fault c = λ ds h e.
    forms_done c.args.self.now c.loop-first.self c.loop-first.rest.now ds (c.loop-first.invariant.0 ds h e)
    (none_left c.loop-first.rest.now c.in_default.ensures.cases)

pub returns-clause-core : goal.returns-clause-core
returns-clause-core c = λ κ v ds i h e r n.
    forms_made κ c.loop-first.self v c.loop-first.rest.now ds (c.loop-first.invariant.1 κ v ds i h e r n)
    (none_left c.loop-first.rest.now c.in_default.ensures.cases)
