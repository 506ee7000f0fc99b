use Rattle.std.proofs.Common.{◌≡◌, ℕ, length}
use Rattle.named_form.specs.Valid.{numbers_from}
use Rattle.box_name.specs.Fitting.{Fits}
use Rattle.box_name.specs.Naming.{Setting}
use Rattle.box_name.specs.Told.{numbers}
use Rattle.box_name.proofs.Boxing.{Settling}
use Rattle.box_name.proofs.namer.Namer.settle_params.Given as goal

abbrev pub invariant-loop-param : goal.invariant-loop-param
invariant-loop-param l =
    (s : Setting) → Fits l.stand s → (n p v : ℕ) → l.fn.vars ≡ numbers_from v (length l.fn.params) → l.fn.self.next_var ≡ n
    → l.fn.self.next_proc ≡ p
    → Settling s l.pos n p l.fn.self l.self l.fn.steps.items l.steps.items (numbers l.fn.params) v l.params l.vars

abbrev pub decreases-loop-param : goal.decreases-loop-param
decreases-loop-param l = length l.params
