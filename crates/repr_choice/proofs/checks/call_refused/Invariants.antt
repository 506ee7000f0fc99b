use Rattle.std.proofs.Common.{◌≡◌, false, map, take}
use Rattle.std.specs.List.{list_any}
use Rattle.std.specs.Prelude.{slice_get}
use Rattle.named_form.specs.Written.{procedure}
use Rattle.plan_facts.specs.Represented.{takes_not}
use Rattle.repr_choice.proofs.checks.call_refused.Given as goal

abbrev pub invariant-loop-atom : goal.invariant-loop-atom
invariant-loop-atom l =
    list_any (λ a. takes_not (map procedure l.procs) l.operands (slice_get l.flow.kinds a)) (take l.atom-index l.atom-items)
    ≡ false
