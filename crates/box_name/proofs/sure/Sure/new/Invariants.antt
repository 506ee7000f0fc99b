use Rattle.std.proofs.Common.{ℕ, length}
use Rattle.core_form.specs.declared.program.VarRef.{VarRef}
use Rattle.core_form.specs.Trees.{Trees, Holds}
use Rattle.indexmap.specs.IndexMap.{get}
use Rattle.alpha_core.specs.Names.{same_name}
use Rattle.box_name.proofs.Sureness.{Looking}
use Rattle.box_name.proofs.sure.Sure.new.Given as goal

abbrev pub invariant-loop-form : goal.invariant-loop-form
invariant-loop-form l =
    (forms : Trees VarRef) → Holds l.core forms → Looking l.core forms l.next l.since (λ k. get same_name l.sure.from k) l.left

abbrev pub decreases-loop-form : goal.decreases-loop-form
decreases-loop-form l = length l.left
