use Rattle.std.proofs.Common.{◌≡◌, false, take}
use Rattle.std.specs.List.{list_any}
use Rattle.plan_facts.specs.Pairs.{holds}
use Rattle.plan_facts.proofs.calls.resumes.Given as goal

abbrev pub invariant-loop-atom : goal.invariant-loop-atom
invariant-loop-atom l = list_any (holds l.rows l.row) (take l.atom-index l.atom-items) ≡ false
