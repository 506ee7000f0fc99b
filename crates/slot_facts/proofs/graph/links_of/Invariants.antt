use Rattle.std.proofs.Common.{◌≡◌, ◌++◌, ◌+◌, ◌-◌, length}
use Rattle.std.specs.List.{flat_map}
use Rattle.least_set.specs.Search.{listed}
use Rattle.named_form.specs.Valid.{numbers_from}
use Rattle.slot_facts.specs.Graph.{all_links, link_by, need_link, value_at, value_links}
use Rattle.slot_facts.specs.Marks.{is_marked}
use Rattle.slot_facts.proofs.graph.links_of.Given as goal

abbrev pub invariant-loop-var : goal.invariant-loop-var
invariant-loop-var l =
    l.links ++ flat_map (λ x. link_by (l.procs + x) (value_at l.values x)) (numbers_from l.var (length l.values - l.var))
    ≡ value_links l.procs (length l.values) (value_at l.values)

abbrev pub invariant-loop-proc : goal.invariant-loop-proc
invariant-loop-proc l =
    l.links
    ++ flat_map (λ q. flat_map (need_link l.procs (length l.values) (is_marked l.own) q) (listed l.needed q)) (numbers_from l.proc (length l.needed - l.proc))
    ≡ all_links l.procs (length l.values) (value_at l.values) (is_marked l.own) l.needed
