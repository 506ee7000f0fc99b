use Rattle.std.proofs.Common.{◌≡◌, ◌++◌, drop}
use Rattle.slot_facts.specs.Needs.{makings}
use Rattle.slot_facts.proofs.needs.makings.Given as goal

abbrev pub invariant-loop-place : goal.invariant-loop-place
invariant-loop-place l = l.links ++ makings l.flow l.rows (drop l.place-index l.places) ≡ makings l.flow l.rows l.places
