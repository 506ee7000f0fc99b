use Rattle.std.specs.Prelude.{[]}
use Rattle.least_set.specs.Search.{IsNext}
use Rattle.slot_facts.proofs.needs.empty_lists.Given as goal

abbrev pub invariant-loop : goal.invariant-loop
invariant-loop l = IsNext l.counter [] l.lists.items
