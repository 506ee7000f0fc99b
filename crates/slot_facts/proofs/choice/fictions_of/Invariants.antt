use Rattle.std.proofs.Common.{◌≡◌, ◌++◌, ◌-◌, length}
use Rattle.std.specs.List.{flat_map}
use Rattle.named_form.specs.Valid.{numbers_from}
use Rattle.slot_facts.specs.Choice.{fictions_at}
use Rattle.slot_facts.proofs.choice.fictions_of.Given as goal

abbrev pub invariant-loop-at : goal.invariant-loop-at
invariant-loop-at l =
    l.fictions ++ flat_map (fictions_at l.values l.placed) (numbers_from l.at (length l.values - l.at))
    ≡ flat_map (fictions_at l.values l.placed) (numbers_from 0 (length l.values))
