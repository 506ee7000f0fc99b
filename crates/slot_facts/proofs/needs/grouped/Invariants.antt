use Rattle.std.proofs.Common.{take}
use Rattle.least_set.specs.Search.{IsNext}
use Rattle.slot_facts.proofs.needs.grouped.Given as goal

abbrev pub invariant-loop-link : goal.invariant-loop-link
invariant-loop-link l = IsNext l.many (take l.link-index l.links) l.lists.items
