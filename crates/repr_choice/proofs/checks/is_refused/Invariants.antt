use Rattle.std.proofs.Common.{◌≡◌, false, take}
use Rattle.std.specs.List.{list_any}
use Rattle.std.specs.Prelude.{not, slice_get}
use Rattle.plan_facts.specs.Represented.{suits}
use Rattle.repr_choice.specs.Wanted.{kind_of}
use Rattle.repr_choice.proofs.checks.is_refused.Given as goal

abbrev pub invariant-loop-atom : goal.invariant-loop-atom
invariant-loop-atom l =
    list_any (λ a. not (suits (kind_of l.wanted) a (slice_get l.flow.kinds a))) (take l.atom-index l.atom-items) ≡ false
