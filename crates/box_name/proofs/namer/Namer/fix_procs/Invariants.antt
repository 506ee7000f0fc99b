use Rattle.std.proofs.Common.{length}
use Rattle.core_form.specs.declared.program.VarRef.{VarRef}
use Rattle.core_form.specs.Trees.{Trees, StandAll}
use Rattle.box_name.specs.Fitting.{Fits}
use Rattle.box_name.specs.Naming.{Setting}
use Rattle.box_name.proofs.Numbering.{Counting}
use Rattle.box_name.proofs.namer.Namer.fix_procs.Given as goal

abbrev pub invariant-loop-lambda : goal.invariant-loop-lambda
invariant-loop-lambda l =
    (ls : Trees VarRef) → StandAll l.stand.core.now.exprs l.lambdas ls → (s : Setting) → Fits l.stand s
    → Counting l.stand.core.now.exprs l.stand.core.now.lits l.fn.self l.self ls l.left l.procs

abbrev pub decreases-loop-lambda : goal.decreases-loop-lambda
decreases-loop-lambda l = length l.left
