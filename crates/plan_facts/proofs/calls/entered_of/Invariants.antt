use Rattle.std.proofs.Common.{◌≡◌, ◌++◌, drop, map}
use Rattle.std.specs.List.{flat_map}
use Rattle.named_form.specs.Code.{option_list}
use Rattle.named_form.specs.Written.{procedure}
use Rattle.plan_facts.specs.Calls.{entered_at}
use Rattle.plan_facts.proofs.calls.entered_of.Given as goal

abbrev pub invariant-loop-atom : goal.invariant-loop-atom
invariant-loop-atom l =
    l.numbers ++ flat_map (λ a. option_list (entered_at (map procedure l.procs) l.flow l.action a)) (drop l.atom-index l.atoms)
    ≡ flat_map (λ a. option_list (entered_at (map procedure l.procs) l.flow l.action a)) l.atoms
