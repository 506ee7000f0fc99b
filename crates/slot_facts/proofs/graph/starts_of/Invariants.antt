use Rattle.std.proofs.Common.{◌≡◌, ◌++◌, ◌+◌, ◌-◌, length}
use Rattle.std.specs.List.{flat_map}
use Rattle.named_form.specs.Valid.{numbers_from}
use Rattle.slot_facts.specs.Graph.{all_starts, start_by, value_at}
use Rattle.slot_facts.proofs.graph.starts_of.Given as goal

abbrev pub invariant-loop-var : goal.invariant-loop-var
invariant-loop-var l =
    l.starts ++ flat_map (λ x. start_by (l.procs + x) (value_at l.values x)) (numbers_from l.var (length l.values - l.var))
    ≡ all_starts l.procs (length l.values) l.compared (value_at l.values)
