use Rattle.std.proofs.Common.{length, refl, ap, ◌∙◌}
use Rattle.scheme_expand.specs.Putting.{next_steps}
use Rattle.scheme_expand.proofs.MadeBodies.{puts_as}
use Rattle.scheme_expand.specs.Shapes.{those}
use Rattle.scheme_expand.proofs.Backwards.{none_put, all_put}
use Rattle.scheme_expand.proofs.NextValues.{last_next_put, none_those, no_steps}
use Rattle.scheme_expand.proofs.NextsPut.{no_nexts_put, last_nexts_put, all_nexts_put, as_many}
use Rattle.scheme_expand.proofs.expander.Expander.next_values.Goals as goal

pub loop-last-init : goal.loop-last-init
loop-last-init c = (
  λ ds h. none_put c.args.self.now (those c.args.steps.now) ds h,
  no_nexts_put c.args.self.now c.args.pos c.args.steps.now _ _ refl,
)

pub loop-last-preserved : goal.loop-last-preserved
loop-last-preserved c =
    let a = c.args.self.now in
    let b = c.loop-last.self in
    let d = c.next_value.new.self in (
      λ ds h.
          last_next_put a b d c.loop-last.rest.now c.in-Some.others.now c.in-Some.last.now ds
          (c.loop-last.invariant.0 ds h) c.in-Some.ensures.cases.0 c.in_ok-next_value.ensures.fault,
      last_nexts_put a b d c.args.pos c.args.steps.now c.loop-last.rest.now c.in-Some.others.now _
          c.loop-last.later.now c.in-Some-split_last.before.now c.in-Some.last.now c.in-Some-split_last.variable.now c.loop-last.invariant.1
          c.in-Some.ensures.cases.0 c.in-Some-split_last.ensures.cases.0 c.in_ok-next_value.ensures.core,
    )

pub returns-clause-fault : goal.returns-clause-fault
returns-clause-fault c = λ ds h.
    all_put c.args.self.now c.loop-last.self (those c.loop-last.rest.now) ds (c.loop-last.invariant.0 ds h)
    (none_those c.loop-last.rest.now c.in_default.ensures.cases)

pub returns-clause-core : goal.returns-clause-core
returns-clause-core c = λ κ v i h many.
    let vars = c.in_ok-variables.variables.items in
    let named = c.in_ok-variables.ensures κ.names v.bound i.made.words i.made.scope in (
      vars,
      named,
      puts_as c.args.self.now c.loop-last.self _ _ (ap (next_steps c.args.pos c.args.steps.now) c.as_slice-later.ensures.value)
          (all_nexts_put c.args.self.now c.loop-last.self c.args.pos c.args.steps.now c.loop-last.rest.now _ c.loop-last.later.now
          c.loop-last.invariant.1 (no_steps c.loop-last.rest.now c.in_default.ensures.cases)
          (ap (λ l. length l) c.as_slice-later.ensures.value ∙ (as_many κ.names vars c.args.level _ named ∙ many))),
    )
