use Rattle.std.proofs.Common.{sym, ◌∷◌, []}
use Rattle.scheme_expand.specs.Grammar.{expr}
use Rattle.scheme_expand.specs.Views.{scope_of, seen}
use Rattle.scheme_expand.proofs.Coming.{one_comes, puts_turn}
use Rattle.scheme_expand.proofs.MadePrograms.{ran, ends_as, collects_in, definitions_drafts, definitions_right, expression_draft, expression_right}
use Rattle.scheme_expand.proofs.Parts.{read_in}
use Rattle.std.proofs.Common.{true, false, refl}
use Rattle.datum_form.specs.Data.Items.{none, item}
use Rattle.scheme_expand.specs.declared.step.Step.TheVariants as step
use Rattle.scheme_expand.proofs.Adding.{one_waits}
use Rattle.scheme_expand.proofs.Due.{of, on_ok}
use Rattle.scheme_expand.proofs.FormsDone.{of_forms, defining_of, collected_all, done_as, then_done, definitions_are, expression_is}
use Rattle.scheme_expand.proofs.Heading.{collects_as}
use Rattle.scheme_expand.proofs.expander.Expander.one_form.Goals as goal

pub returns-then-branch-clause-fault : goal.returns-then-branch-clause-fault
returns-then-branch-clause-fault c =
    let a = c.args.self.now in
    let s = a.source in
    on_ok c.definitions.result
    (λ w d h e.
    let k = collects_as s d _ _ c.in_ok-collect_definitions.field-0 true c.if-branch.true (c.in_ok-collect_definitions.ensures d h) in
    done_as a c.definitions.new.self (defining_of k.1) _ (definitions_are s d _ _ k)
    (w k.1 (collected_all s _ _ _ k.0 k.1 c.new-definitions.ensures.items k.2 c.deref.ensures.value k.3) e))
    c.definitions.ensures.fault

pub returns-clause-fault : goal.returns-clause-fault
returns-clause-fault c =
    let a = c.args.self.now in
    let s = a.source in
    on_ok c.run.result
    (λ run d h e.
    let k = collects_as s d _ _ c.in_ok-collect_definitions.field-0 false c.if-branch.false (c.in_ok-collect_definitions.ensures d h) in
    done_as a c.run.new.self (of d) (of_forms (item d none)) (expression_is d k.1)
    (then_done a c.wait.new.self c.run.new.self (of d) e (c.in_ok-wait.ensures.fault (of d) (one_waits s (step.Expr c.args.id) (of d) (d, h, refl)))
    run))
    c.run.ensures.fault

pub returns-then-branch-clause-core : goal.returns-then-branch-clause-core
returns-then-branch-clause-core c =
    let a = c.args.self.now in
    on_ok c.definitions.result
    (λ w κ v d i h e r n.
    let s = κ.source in
    let k = collects_as s d _ _ c.in_ok-collect_definitions.field-0 true c.if-branch.true (collects_in a.source s d _ _ _ i.source (c.in_ok-collect_definitions.ensures d (read_in s a.source _ d (sym i.source) h))) in
    ends_as κ c.definitions.new.self _ _ v (definitions_drafts s d _ _ k (scope_of κ v))
    (w κ v k.1 i (collected_all s _ _ _ k.0 k.1 c.new-definitions.ensures.items k.2 c.deref.ensures.value k.3) e
    (definitions_right s d _ _ k r) n))
    c.definitions.ensures.core

pub returns-clause-core : goal.returns-clause-core
returns-clause-core c =
    let a = c.args.self.now in
    on_ok c.run.result
    (λ run κ v d i h e r n.
    let s = κ.source in
    let k = collects_as s d _ _ c.in_ok-collect_definitions.field-0 false c.if-branch.false (collects_in a.source s d _ _ _ i.source (c.in_ok-collect_definitions.ensures d (read_in s a.source _ d (sym i.source) h))) in
    ends_as κ c.run.new.self _ _ v (expression_draft d (scope_of κ v) k.1)
    (ran κ a c.wait.new.self c.run.new.self _ e
    (puts_turn κ a c.wait.new.self v (seen κ (expr d) v) (step.Expr c.args.id ∷ []) i c.in_ok-wait.ensures.core
    (one_comes κ (step.Expr c.args.id) v (seen κ (expr d) v) (d, h, expression_right d k.1 r, refl)))
    (λ u z. run κ u z)))
    c.run.ensures.core
