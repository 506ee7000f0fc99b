use Rattle.std.proofs.Common.{arith}
use Rattle.scheme_expand.proofs.FormsBehind.{no_form_added, form_added, forms_added}
use Rattle.scheme_expand.proofs.assemble.add_forms.Goals as goal

pub loop-form-init : goal.loop-form-init
loop-form-init c =
    record { ready = λ h. h; adds = no_form_added c.args.text c.args.levels.now c.args.growing.now }

pub loop-form-preserved : goal.loop-form-preserved
loop-form-preserved c =
    record {
      ready = λ h. c.in_ok-add_form.ensures.ready (c.loop-form.invariant.ready h);
      adds =
          form_added c.args.text c.args.forms.now c.loop-form.form-index c.args.levels.now c.loop-form.levels c.add_form.new.levels
          c.args.growing.now c.loop-form.growing c.add_form.new.growing c.loop-form-test.true c.loop-form.invariant.adds
          c.in_ok-add_form.ensures.numbered;
    }

pub returns-clause-numbered : goal.returns-clause-numbered
returns-clause-numbered c =
    forms_added c.args.text c.args.forms.now c.loop-form.form-index c.args.levels.now c.loop-form.levels c.args.growing.now
    c.loop-form.growing (omega (arith, c.loop-form-test.false)) c.loop-form.invariant.adds
