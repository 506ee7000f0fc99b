use Rattle.std.proofs.Common.{◌∷◌, [], None, refl}
use Rattle.scheme_expand.specs.declared.step.Step.TheVariants as step
use Rattle.scheme_expand.specs.Faults.{fault, least}
use Rattle.scheme_expand.specs.Noted.{number_of}
use Rattle.scheme_expand.proofs.Adding.{both, due, one_waits}
use Rattle.scheme_expand.proofs.Due.{on_ok}
use Rattle.scheme_expand.proofs.Least.{earlier_none}
use Rattle.scheme_expand.proofs.expander.Expander.broken.Goals as goal

pub returns : goal.returns
returns c =
    let s = c.args.self.now in
    let t = c.note.new.self in
    let f = least (fault c.args.pos (number_of c.args.rule) ∷ []) in
    on_ok c.wait.result
    (λ w.
    due s c.wait.new.self _ f (earlier_none f)
    (both s t c.wait.new.self f None c.note.ensures.fault (w None (one_waits t.source (step.Unspecified c.args.pos) None refl))))
    c.wait.ensures.fault
