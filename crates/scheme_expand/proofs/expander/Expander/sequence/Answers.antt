use Rattle.std.proofs.Common.{None, refl}
use Rattle.scheme_expand.specs.declared.step.Step.TheVariants as step
use Rattle.scheme_expand.proofs.Adding.{one_waits}
use Rattle.scheme_expand.proofs.Due.{of_all, on_ok}
use Rattle.scheme_expand.proofs.MadeForms.{sequence_turns}
use Rattle.scheme_expand.proofs.expander.Expander.sequence.Goals as goal

pub returns-clause-fault : goal.returns-clause-fault
returns-clause-fault c =
    let exprs = step.Exprs c.args.exprs in
    on_ok c.wait.result
    (λ w ds h.
    w (of_all ds) (None, of_all ds, refl, one_waits c.args.self.now.source exprs (of_all ds) (ds, h, refl), refl))
    c.wait.ensures.fault

pub returns-clause-core : goal.returns-clause-core
returns-clause-core c =
    on_ok c.wait.result
    (λ put κ v ds i h r.
    sequence_turns κ c.args.self.now c.wait.new.self c.args.pos _ c.args.exprs v ds i h r refl put)
    c.wait.ensures.core
