use Rattle.std.proofs.Common.{◌∷◌, [], None, true, false, refl, sym, ◌∙◌}
use Rattle.scheme_expand.specs.Faults.{least, in_exp}
use Rattle.scheme_expand.specs.Shapes.{cond_form}
use Rattle.scheme_expand.specs.declared.step.Step.TheVariants as step
use Rattle.scheme_expand.proofs.Adding.{due, kept_both, one_waits}
use Rattle.scheme_expand.proofs.Bodies.{then_none, wrong_due, all_in}
use Rattle.scheme_expand.proofs.ClausesTurn.{wrong_right, cond_turn, among}
use Rattle.scheme_expand.proofs.Coming.{one_comes, puts_twice, rescoped}
use Rattle.scheme_expand.proofs.CondParts.{of_clauses, cond_not, cond_is, may_be}
use Rattle.scheme_expand.proofs.Due.{any_ok, on_ok}
use Rattle.scheme_expand.proofs.Least.{earlier_none}
use Rattle.scheme_expand.proofs.expander.Expander.cond.Goals as goal

pub returns-then-not-are_clauses-clause-fault : goal.returns-then-not-are_clauses-clause-fault
returns-then-not-are_clauses-clause-fault c =
    let a = c.args.self.now in
    let p = c.args.pos in
    on_ok c.broken.result
    (λ w ds h.
    wrong_due a c.broken.new.self p 6 (cond_form p ds) (cond_not p ds (sym (c.are_clauses.ensures ds h) ∙ c.if-not-are_clauses.true)) w)
    c.broken.ensures

pub returns-then-ends-clause-fault : goal.returns-then-ends-clause-fault
returns-then-ends-clause-fault c = λ ds h.
    let a = c.args.self.now in
    let p = c.args.pos in
    let e = sym (c.are_clauses.ensures ds h) ∙ c.if-not-are_clauses.false in
    due a c.wait.new.self (of_clauses ds) (least (in_exp (cond_form p ds))) (cond_is p ds e)
    (kept_both a _ c.wait.new.self (of_clauses ds) (record { source = refl; steps = refl; fault = refl })
    (c.in_ok-wait.ensures.fault (of_clauses ds)
    (of_clauses ds, None, (ds, h, may_be ds e, refl), refl, sym (earlier_none (of_clauses ds)))))

pub returns-clause-fault : goal.returns-clause-fault
returns-clause-fault c =
    let a = c.args.self.now in
    let p = c.args.pos in
    let b = c.wait.new.self in
    on_ok c.wait-2.result
    (λ w ds h.
    let e = sym (c.are_clauses.ensures ds h) ∙ c.if-not-are_clauses.false in
    then_none a b c.wait-2.new.self (least (in_exp (cond_form p ds)))
    (due a b (of_clauses ds) (least (in_exp (cond_form p ds))) (cond_is p ds e)
    (kept_both a _ b (of_clauses ds) (record { source = refl; steps = refl; fault = refl })
    (c.in_ok-wait.ensures.fault (of_clauses ds)
    (of_clauses ds, None, (ds, h, may_be ds e, refl), refl, sym (earlier_none (of_clauses ds))))))
    (w None (one_waits b.source (step.Unspecified p) None refl)))
    c.wait-2.ensures.fault

pub returns-then-not-are_clauses-clause-core : goal.returns-then-not-are_clauses-clause-core
returns-then-not-are_clauses-clause-core c =
    let p = c.args.pos in
    any_ok c.broken.result
    (λ κ v ds i h right.
    let g = all_in κ.source c.args.self.now.source c.args.clauses.now ds (sym i.source) h in
    absurd (wrong_right p 6 (cond_form p ds) (cond_not p ds (sym (c.are_clauses.ensures ds g) ∙ c.if-not-are_clauses.true)) right))

pub returns-then-ends-clause-core : goal.returns-then-ends-clause-core
returns-then-ends-clause-core c = λ κ v ds i h right.
    let a = c.args.self.now in
    let g = all_in κ.source a.source c.args.clauses.now ds (sym i.source) h in
    let e = sym (c.are_clauses.ensures ds g) ∙ c.if-not-are_clauses.false in
    let held = c.in_ok-ends.ensures ds g (may_be ds e) in
    let bound = held.bound κ.names v.bound i.made.words i.made.scope in
    cond_turn κ a _ c.wait.new.self c.args.pos c.args.clauses c.in_ok-level.level ds v true h e right
    (record {
      steps = refl;
      view =
          rescoped κ a _ v (among ds v).bound i (record { source = refl; library = refl; changed = refl })
          (record { made = refl; drafts = refl; helpers = refl }) bound;
    })
    (c.in_ok-level.ensures κ.names (among ds v).bound bound) (sym c.if-ends.true ∙ held.ends_so) [] c.in_ok-wait.ensures.core refl refl

pub returns-clause-core : goal.returns-clause-core
returns-clause-core c =
    let a = c.args.self.now in
    let p = c.args.pos in
    let ids = c.args.clauses in
    let k = c.in_ok-level.level in
    on_ok c.wait-2.result
    (λ put κ v ds i h right.
    let g = all_in κ.source a.source ids.now ds (sym i.source) h in
    let e = sym (c.are_clauses.ensures ds g) ∙ c.if-not-are_clauses.false in
    let held = c.in_ok-ends.ensures ds g (may_be ds e) in
    let bound = held.bound κ.names v.bound i.made.words i.made.scope in
    cond_turn κ a _ c.wait-2.new.self p ids k ds v false h e right
    (record {
      steps = refl;
      view =
          rescoped κ a _ v (among ds v).bound i (record { source = refl; library = refl; changed = refl })
          (record { made = refl; drafts = refl; helpers = refl }) bound;
    })
    (c.in_ok-level.ensures κ.names (among ds v).bound bound) (sym c.if-ends.false ∙ held.ends_so) (step.Unspecified p ∷ [])
    (puts_twice _ c.wait.new.self c.wait-2.new.self (step.Clauses p ids k ∷ []) (step.Unspecified p ∷ []) c.in_ok-wait.ensures.core put)
    (one_comes κ (step.Unspecified p) (among ds v) _ refl) refl)
    c.wait-2.ensures.core
