use Rattle.std.proofs.Common.{◌≡◌, ◌++◌, drop}
use Rattle.escape_facts.specs.Owners.{turned}
use Rattle.escape_facts.proofs.owners.turned.Given as goal

abbrev pub invariant-loop-link : goal.invariant-loop-link
invariant-loop-link l = l.others ++ turned (drop l.link-index l.links) ≡ turned l.links
