use Rattle.std.proofs.Common.{◌≡◌, ◌++◌, drop}
use Rattle.std.specs.List.{flat_map}
use Rattle.least_set.specs.Search.{listed}
use Rattle.escape_facts.specs.Reached.{var_sites}
use Rattle.escape_facts.proofs.starts.put_vars.Given as goal

abbrev pub invariant-loop-var : goal.invariant-loop-var
invariant-loop-var l =
    l.sites ++ flat_map (var_sites (listed l.owners) l.flow l.rows l.whose) (drop l.var-index l.vars)
    ≡ l.initial.sites ++ flat_map (var_sites (listed l.owners) l.flow l.rows l.whose) l.vars
