-- The parts so far are to be visited.
use Rattle.std.proofs.Common.{◌≡◌, ◌++◌, take}
use Rattle.std.specs.Prelude.{map}
use Rattle.draft_form.specs.declared.level.Visit.TheVariants.{Begin}
use Rattle.draft_form.proofs.number.push_visits.Given as goal

abbrev pub invariant-loop-part : goal.invariant-loop-part
invariant-loop-part l = l.visits.items ≡ l.fn.visits.items ++ map (λ part. Begin part) (take l.part-index l.part-items)
