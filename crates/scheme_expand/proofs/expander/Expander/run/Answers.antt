use Rattle.std.proofs.Common.{◌≡◌, [], refl, arith}
use Rattle.std.proofs.lemmas.Grind.{common_steps}
use Rattle.scheme_expand.proofs.Coming.{step_reached, all_reached, view_kept}
use Rattle.scheme_expand.proofs.Running.{all_left, one_done, all_done}
use Rattle.scheme_expand.proofs.expander.Expander.run.Goals as goal

pub loop-turn-init : goal.loop-turn-init
loop-turn-init c = record {
  fault = λ due w. all_left c.args.self.now due w;
  core = λ κ v w i h. record { now = v; view = i; comes = h };
}

pub loop-turn-preserved : goal.loop-turn-preserved
loop-turn-preserved c = record {
  fault =
      λ due w. one_done c.args.self.now c.loop-turn.self _ c.step.new.self c.in-Some.step due
      (c.loop-turn.invariant.fault due w) c.in-Some.ensures.items refl refl c.in_ok-step.ensures.fault;
  core =
      λ κ v w i h. step_reached κ c.loop-turn.self _ c.step.new.self c.in-Some.step w
      (c.loop-turn.invariant.core κ v w i h) c.in-Some.ensures.items
      (record { source = refl; library = refl; changed = refl; maker = refl }) (c.in_ok-step.ensures.core κ);
}

pub returns-in_default-clause-fault : goal.returns-in_default-clause-fault
returns-in_default-clause-fault c = λ due w.
    let none : c.loop-turn.self.steps.items ≡ [] = grind (arith, common_steps, c.in_default.ensures.cases) in
    let done = all_done c.args.self.now c.loop-turn.self due (c.loop-turn.invariant.fault due w) none in
    record { source = done.source; steps = grind (arith, common_steps, c.in_default.ensures.cases); total = done.total }

pub returns-in_default-clause-core : goal.returns-in_default-clause-core
returns-in_default-clause-core c = λ κ v w i h.
    let none : c.loop-turn.self.steps.items ≡ [] = grind (arith, common_steps, c.in_default.ensures.cases) in
    record {
      steps = grind (arith, common_steps, c.in_default.ensures.cases);
      view =
          view_kept κ c.loop-turn.self _ w (record { source = refl; library = refl; changed = refl; maker = refl })
          (all_reached κ c.loop-turn.self w (c.loop-turn.invariant.core κ v w i h) none);
    }
