use Rattle.std.proofs.Common.{◌≡◌, ◌++◌, drop, map}
use Rattle.slot_facts.specs.Needs.{link}
use Rattle.slot_facts.proofs.needs.put_links.Given as goal

abbrev pub invariant-loop-to : goal.invariant-loop-to
invariant-loop-to l = l.links ++ map (link l.from) (drop l.to-index l.numbers) ≡ l.initial.links ++ map (link l.from) l.numbers
