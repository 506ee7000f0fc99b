use Rattle.std.proofs.Common.{◌≡◌, ℕ, length}
use Rattle.box_name.specs.Fitting.{Fits}
use Rattle.box_name.specs.Naming.{Setting}
use Rattle.box_name.specs.Told.{numbers}
use Rattle.box_name.proofs.Listing.{Binding}
use Rattle.box_name.proofs.namer.Namer.bind_params.Given as goal

abbrev pub invariant-loop-param : goal.invariant-loop-param
invariant-loop-param l =
    (s : Setting) → Fits l.stand s → (n p : ℕ) → l.fn.self.next_var ≡ n → l.fn.self.next_proc ≡ p
    → Binding s l.pos n p l.fn.self l.self l.fn.steps.items l.steps.items (numbers l.fn.params) l.fn.values (numbers l.params) l.values

abbrev pub decreases-loop-param : goal.decreases-loop-param
decreases-loop-param l = length l.params
