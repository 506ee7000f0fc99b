use Rattle.std.proofs.Common.{◌≡◌, ◌++◌, drop, map}
use Rattle.named_form.specs.Written.{procedure}
use Rattle.plan_facts.specs.Represented.{use_in}
use Rattle.repr_choice.proofs.choice.steps_of.Given as goal

abbrev pub invariant-loop-place : goal.invariant-loop-place
invariant-loop-place l =
    l.uses ++ map (use_in (map procedure l.procs) l.flow l.rows) (drop l.place-index l.places)
    ≡ map (use_in (map procedure l.procs) l.flow l.rows) l.places
