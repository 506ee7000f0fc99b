use Rattle.slot_facts.proofs.NeededLists.{NeededFrom}
use Rattle.slot_facts.proofs.needs.needed.Given as goal

abbrev pub invariant-loop-q : goal.invariant-loop-q
invariant-loop-q l = NeededFrom l.many l.free l.references l.makings l.q l.needed.items
