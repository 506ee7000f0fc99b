use Rattle.std.proofs.Common.{◌≡◌, ◌++◌, drop, map}
use Rattle.flow_constraints.specs.Walk.{counts}
use Rattle.named_form.specs.Code.{past_all}
use Rattle.named_form.specs.Written.{procedure}
use Rattle.plan_facts.specs.Walk.{walk_from}
use Rattle.plan_facts.proofs.walk.places.Given as goal

abbrev pub invariant-loop-number : goal.invariant-loop-number
invariant-loop-number l =
    record {
      listed :
          l.steps ++ walk_from l.number (counts l.before) (map procedure (drop l.number l.procs))
          ≡ walk_from 0 (counts l.initial.before) (map procedure l.procs);
      moved :
          past_all (counts l.before) (map procedure (drop l.number l.procs))
          ≡ past_all (counts l.initial.before) (map procedure l.procs);
    }
