use Rattle.std.proofs.Common.{◌≡◌, ◌<◌, ◌^◌, ℕ, List, length}
use Rattle.box_name.specs.Told.{Expr, Exprs}
use Rattle.box_name.specs.Finding.{ArePlaced}
use Rattle.box_name.specs.Fitting.{KnowsAll}
use Rattle.box_name.proofs.Forming.{Making}
use Rattle.box_name.proofs.namer.Namer.name_procedures.Given as goal

abbrev pub invariant-loop-origin : goal.invariant-loop-origin
invariant-loop-origin l =
    record {
      making :
          (all : Exprs) (ls : List (ℕ × Expr)) → KnowsAll l.core l.facts all → ArePlaced l.core l.facts.survey.procs.items ls
          → (n : ℕ) → l.fn.self.next_var ≡ n → Making l.core all l.fn.self l.self l.fn.procs l.procs ls n l.after l.left;
      fits : l.after < 2 ^ 32;
    }

abbrev pub decreases-loop-origin : goal.decreases-loop-origin
decreases-loop-origin l = length l.left
