use Rattle.std.proofs.Common.{refl, sym, ap}
use Rattle.scheme_expand.specs.declared.step.Step.TheVariants as step
use Rattle.scheme_expand.specs.Grammar.{exprs}
use Rattle.scheme_expand.specs.Views.{all_seen}
use Rattle.scheme_expand.proofs.Adding.{due, two_wait}
use Rattle.scheme_expand.proofs.Coming.{nothing_turns}
use Rattle.scheme_expand.proofs.Due.{of, of_all, on_ok, none_left, none_due, first_due}
use Rattle.scheme_expand.proofs.Expanding.{first_seen}
use Rattle.scheme_expand.proofs.Least.{earlier_comm}
use Rattle.scheme_expand.proofs.Parts.{no_items}
use Rattle.scheme_expand.proofs.expander.Expander.exprs.Goals as goal

pub returns-in_default-clause-fault : goal.returns-in_default-clause-fault
returns-in_default-clause-fault c = λ ds h. none_due c.args.self.now c.args.ids.now ds (none_left c.args.ids.now c.in_default.ensures.cases) h

pub returns-clause-fault : goal.returns-clause-fault
returns-clause-fault c =
    let s = c.args.self.now in
    on_ok c.wait.result
    (λ w ds h.
    first_due s c.wait.new.self c.args.ids.now c.in-Some.first.now c.in-Some.others.now ds c.in-Some.ensures.cases.0
    (λ d os p q.
    due s c.wait.new.self _ _ (earlier_comm (of_all os) (of d))
    (w _ (two_wait s.source (step.Exprs c.in-Some.others) (step.Expr c.in-Some.first.now) (of_all os) (of d) (os, q, refl) (d, p, refl))))
    h)
    c.wait.ensures.fault

pub returns-in_default-clause-core : goal.returns-in_default-clause-core
returns-in_default-clause-core c = λ κ v ds i h r.
    let empty = no_items κ.source c.args.ids.now ds (none_left c.args.ids.now c.in_default.ensures.cases) h in
    nothing_turns κ c.args.self.now v _ i (ap (λ es. all_seen κ (exprs es) v) (sym empty))

pub returns-clause-core : goal.returns-clause-core
returns-clause-core c =
    on_ok c.wait.result
    (λ p κ v ds i h r.
    first_seen κ c.args.self.now c.wait.new.self c.args.ids.now c.in-Some.first.now c.in-Some.others v ds
    c.in-Some.ensures.cases.0 i h r p)
    c.wait.ensures.core
