use Rattle.std.specs.Prelude.{[]}
use Rattle.least_set.specs.Search.{IsNext}
use Rattle.least_set.proofs.links.no_numbers.Given as goal

abbrev pub invariant-loop : goal.invariant-loop
invariant-loop l = IsNext l.counter [] l.next.items
