use Rattle.std.proofs.Common.{◌≡◌, ◌++◌, drop}
use Rattle.std.specs.List.{filter}
use Rattle.slot_facts.specs.Choice.{kept_by}
use Rattle.slot_facts.proofs.choice.kept_in.Given as goal

abbrev pub invariant-loop-var : goal.invariant-loop-var
invariant-loop-var l =
    l.kept ++ filter (kept_by l.placed l.own) (drop l.var-index l.vars) ≡ filter (kept_by l.placed l.own) l.vars
