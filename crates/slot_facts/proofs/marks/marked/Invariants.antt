use Rattle.std.proofs.Common.{◌≡◌, ◌++◌, ◌-◌}
use Rattle.std.specs.List.{filter}
use Rattle.named_form.specs.Valid.{numbers_from}
use Rattle.slot_facts.specs.Marks.{is_marked}
use Rattle.slot_facts.proofs.marks.marked.Given as goal

abbrev pub invariant-loop-at : goal.invariant-loop-at
invariant-loop-at l =
    l.numbers ++ filter (is_marked l.marks) (numbers_from l.at (l.many - l.at))
    ≡ filter (is_marked l.marks) (numbers_from 0 l.many)
