use Rattle.std.proofs.Common.{◌≡◌, ◌++◌, ◌+◌, ◌-◌, map}
use Rattle.named_form.specs.Valid.{numbers_from}
use Rattle.slot_facts.specs.Choice.{placed_by}
use Rattle.slot_facts.specs.Marks.{is_marked}
use Rattle.slot_facts.proofs.choice.placed_of.Given as goal

abbrev pub invariant-loop-var : goal.invariant-loop-var
invariant-loop-var l =
    l.placed.items ++ map (λ x. is_marked l.marks (l.procs + x)) (numbers_from l.var (l.vars - l.var)) ≡ placed_by l.procs l.vars l.marks
