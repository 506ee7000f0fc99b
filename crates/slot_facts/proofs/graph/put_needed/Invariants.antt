use Rattle.std.proofs.Common.{◌≡◌, ◌++◌, drop}
use Rattle.std.specs.List.{flat_map}
use Rattle.slot_facts.specs.Graph.{need_link}
use Rattle.slot_facts.specs.Marks.{is_marked}
use Rattle.slot_facts.proofs.graph.put_needed.Given as goal

abbrev pub invariant-loop-var : goal.invariant-loop-var
invariant-loop-var l =
    l.links ++ flat_map (need_link l.procs l.vars (is_marked l.own) l.proc) (drop l.var-index l.needs)
    ≡ l.initial.links ++ flat_map (need_link l.procs l.vars (is_marked l.own) l.proc) l.needs
