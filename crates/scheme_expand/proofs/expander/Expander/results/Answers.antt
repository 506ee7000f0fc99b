use Rattle.std.proofs.Common.{◌≡◌, [], ◌∷◌, None, refl, sym, ap, arith}
use Rattle.std.proofs.lemmas.Grind.{common_steps}
use Rattle.scheme_expand.specs.declared.step.Step.TheVariants as step
use Rattle.scheme_expand.proofs.Adding.{one_waits}
use Rattle.scheme_expand.specs.Putting.{result_steps_of}
use Rattle.scheme_expand.proofs.MadeBodies.{puts_as}
use Rattle.scheme_expand.proofs.NextsPut.{some_results}
use Rattle.scheme_expand.proofs.NextValues.{no_results}
use Rattle.scheme_expand.proofs.Due.{of_all, on_ok}
use Rattle.scheme_expand.proofs.expander.Expander.results.Goals as goal

pub returns-then-is_empty-clause-fault : goal.returns-then-is_empty-clause-fault
returns-then-is_empty-clause-fault c =
    let a = c.args.self.now in
    let empty : c.args.exprs.now ≡ [] = grind (arith, common_steps, c.if-is_empty.ensures) in
    on_ok c.wait.result
    (λ w ds h.
    no_results a c.wait.new.self c.args.exprs.now ds h empty
    (w None (one_waits a.source (step.Unspecified c.args.pos) None refl)))
    c.wait.ensures.fault

pub returns-clause-fault : goal.returns-clause-fault
returns-clause-fault c =
    let exprs = step.Exprs c.args.exprs in
    on_ok c.wait-2.result
    (λ w ds h.
    w (of_all ds) (None, of_all ds, refl, one_waits c.args.self.now.source exprs (of_all ds) (ds, h, refl), refl))
    c.wait-2.ensures.fault

pub returns-then-is_empty-clause-core : goal.returns-then-is_empty-clause-core
returns-then-is_empty-clause-core c =
    let empty : c.args.exprs.now ≡ [] = grind (arith, common_steps, c.if-is_empty.ensures) in
    on_ok c.wait.result
    (λ put.
    puts_as c.args.self.now c.wait.new.self _ _ (sym (ap (result_steps_of c.args.pos c.args.exprs) empty)) put)
    c.wait.ensures.core

pub returns-clause-core : goal.returns-clause-core
returns-clause-core c =
    let some : c.args.exprs.now ≡ [] → ⊥ = λ e. grind (arith, common_steps, c.if-is_empty.ensures, e) in
    on_ok c.wait-2.result
    (λ put.
    puts_as c.args.self.now c.wait-2.new.self _ _
    (some_results c.args.pos c.args.exprs c.args.exprs.now some) put)
    c.wait-2.ensures.core
