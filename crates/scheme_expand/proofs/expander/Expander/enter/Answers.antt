use Rattle.std.proofs.Common.{refl}
use Rattle.scheme_expand.proofs.Adding.{both_kept}
use Rattle.scheme_expand.proofs.Due.{none_left}
use Rattle.scheme_expand.proofs.Entering.{none_entered, name_entered, names_entered}
use Rattle.scheme_expand.proofs.Expanding.{named_bound, no_names_bound, name_bound, names_bound}
use Rattle.scheme_expand.proofs.expander.Expander.enter.Goals as goal

pub loop-first-init : goal.loop-first-init
loop-first-init c = record {
  fault = λ ws h. none_entered c.args.self.now c.args.names.now ws h;
  core = λ κ v ws i h. no_names_bound κ c.args.self.now c.args.names.now ws v i h;
}

pub loop-first-preserved : goal.loop-first-preserved
loop-first-preserved c =
    let b = c.loop-first.self in
    record {
      fault =
          λ ws h. name_entered c.args.self.now b _ c.loop-first.rest.now c.in-Some.others.now c.in-Some.first.now ws
          (c.loop-first.invariant.fault ws h) c.in-Some.ensures.cases.0
          (λ w k.
          both_kept b c.name.new.self _ _ (c.in_ok-word.ensures.fault w k)
          (record { source = refl; steps = refl; fault = refl }));
      core =
          λ κ v ws i h. name_bound κ c.args.self.now b _ c.loop-first.rest.now c.in-Some.others.now c.in-Some.first.now ws v
          (c.loop-first.invariant.core κ v ws i h) c.in-Some.ensures.cases.0
          (λ u w j k.
          named_bound κ b c.name.new.self _ _ w u j c.in_ok-word.ensures.core.0
          (c.in_ok-word.ensures.core.1 κ w j.fits k j.source) (record { source = refl; library = refl; changed = refl })
          (record { made = refl; drafts = refl; helpers = refl }) refl c.in_ok-bind.ensures);
    }

pub returns-clause-fault : goal.returns-clause-fault
returns-clause-fault c = λ ws h.
    names_entered c.args.self.now c.loop-first.self c.loop-first.rest.now ws (c.loop-first.invariant.fault ws h)
    (none_left c.loop-first.rest.now c.in_default.ensures.cases)

pub returns-clause-core : goal.returns-clause-core
returns-clause-core c = λ κ v ws i h.
    names_bound κ c.args.self.now c.loop-first.self c.loop-first.rest.now ws v (c.loop-first.invariant.core κ v ws i h)
    (none_left c.loop-first.rest.now c.in_default.ensures.cases)
