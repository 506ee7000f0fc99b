use Rattle.std.proofs.Common.{◌≡◌, ◌++◌, drop, map}
use Rattle.std.specs.List.{filter}
use Rattle.slot_facts.specs.Choice.{kept_by}
use Rattle.slot_facts.proofs.choice.kept_of.Given as goal

abbrev pub invariant-loop-vars : goal.invariant-loop-vars
invariant-loop-vars l =
    l.kept ++ map (filter (kept_by l.placed l.own)) (drop l.vars-index l.needed) ≡ map (filter (kept_by l.placed l.own)) l.needed
