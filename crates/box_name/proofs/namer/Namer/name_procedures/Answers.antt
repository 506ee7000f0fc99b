use Rattle.std.proofs.Common.{refl, rules, arith}
use Rattle.std.proofs.lemmas.List.{nil_from_length}
use Rattle.box_name.specs.NamingSteps.{with_proc}
use Rattle.box_name.specs.Whole.{setting}
use Rattle.box_name.proofs.Forming.{making_begins, making_on, making_ends, making_fits}
use Rattle.box_name.proofs.namer.Namer.name_procedures.Goals as goal

pub loop-origin-init : goal.loop-origin-init
loop-origin-init c =
    record {
      making = λ all ls knows placed n at.
          making_begins c.args.core.now all c.args.self.now c.args.procs.now ls n c.args.facts.now.survey.procs.items _ placed (search rules) at;
      fits = omega arith;
    }

pub loop-origin-preserved : goal.loop-origin-preserved
loop-origin-preserved c =
    record {
      making =
          λ all ls knows placed n at.
          making_on c.args.core.now all c.args.self.now c.args.procs.now ls n c.loop-origin.self (with_proc c.loop-origin.self c.in-Some-checked_add.next) c.name_procedure.new.self c.loop-origin.procs
          c.push.new.self c.loop-origin.after c.in-Some-checked_add.next c.in-Some.origin.now c.loop-origin.left.now c.in-Some.others.now
          c.in_ok-name_procedure.field-0 (c.loop-origin.invariant.making all ls knows placed n at) (search rules) (search rules) refl refl (search rules)
          (λ e st. c.in_ok-name_procedure.ensures e st _ (knows c.in-Some.origin.now.form)) (search rules);
      fits = search rules;
    }

pub returns-clause-are_named : goal.returns-clause-are_named
returns-clause-are_named c =
    λ all ls knows placed n at.
    making_ends c.args.core.now all c.args.self.now c.args.procs.now ls n c.loop-origin.self c.loop-origin.procs c.loop-origin.after
    c.loop-origin.left.now (c.loop-origin.invariant.making all ls knows placed n at) (nil_from_length _ c.in_default.ensures.cases)

pub returns-clause-fit : goal.returns-clause-fit
returns-clause-fit c =
    λ all ls knows placed.
    making_fits c.args.core.now all c.args.self.now c.args.procs.now ls c.args.self.now.next_var c.loop-origin.self c.loop-origin.procs
    c.loop-origin.after c.loop-origin.left.now (c.loop-origin.invariant.making all ls knows placed c.args.self.now.next_var refl)
    (nil_from_length _ c.in_default.ensures.cases) c.loop-origin.invariant.fits (search rules)
