use Rattle.std.proofs.Common.{◌≡◌, ◌++◌, ◌-◌}
use Rattle.std.specs.List.{filter}
use Rattle.named_form.specs.Valid.{numbers_from}
use Rattle.slot_facts.specs.Choice.{global_by}
use Rattle.slot_facts.proofs.choice.globals_of.Given as goal

abbrev pub invariant-loop-at : goal.invariant-loop-at
invariant-loop-at l =
    l.globals ++ filter (global_by l.placed l.own) (numbers_from l.at (l.vars - l.at))
    ≡ filter (global_by l.placed l.own) (numbers_from 0 l.vars)
