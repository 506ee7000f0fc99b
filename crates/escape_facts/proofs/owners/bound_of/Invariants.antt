use Rattle.std.proofs.Common.{◌≡◌, drop}
use Rattle.escape_facts.specs.Owners.{bound_from}
use Rattle.escape_facts.proofs.owners.bound_of.Given as goal

abbrev pub invariant-loop-link : goal.invariant-loop-link
invariant-loop-link l = bound_from l.many (drop l.link-index l.links) ≡ bound_from 0 l.links
