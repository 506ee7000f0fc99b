use Rattle.std.proofs.Common.{None, refl, sym}
use Rattle.scheme_expand.specs.declared.step.Step.TheVariants as step
use Rattle.scheme_expand.proofs.Adding.{due, kept}
use Rattle.scheme_expand.proofs.Coming.{leaves_turn, remade, rescoped, turns_as}
use Rattle.scheme_expand.proofs.Due.{on_ok, any_ok}
use Rattle.scheme_expand.proofs.Expanding.{maker_flags, step_as}
use Rattle.scheme_expand.specs.Views.{leave, lowered}
use Rattle.scheme_expand.proofs.Running.{waits_as, idle_step}
use Rattle.scheme_expand.proofs.expander.Expander.step.Goals as goal

pub returns-in-Expr-clause-fault : goal.returns-in-Expr-clause-fault
returns-in-Expr-clause-fault c =
    let a = c.args.self.now in
    on_ok c.expr.result
    (λ w x i.
    let j = waits_as a.source c.args.step (step.Expr c.in-Expr.id) x c.in-Expr.is i in
    due a c.expr.new.self _ x (sym j.2) (w j.0 j.1))
    c.expr.ensures.fault

pub returns-in-Exprs-clause-fault : goal.returns-in-Exprs-clause-fault
returns-in-Exprs-clause-fault c =
    let a = c.args.self.now in
    on_ok c.exprs.result
    (λ w x i.
    let j = waits_as a.source c.args.step (step.Exprs c.in-Exprs.ids) x c.in-Exprs.is i in
    due a c.exprs.new.self _ x (sym j.2) (w j.0 j.1))
    c.exprs.ensures.fault

pub returns-in-Defined-clause-fault : goal.returns-in-Defined-clause-fault
returns-in-Defined-clause-fault c =
    let a = c.args.self.now in
    on_ok c.defined.result
    (λ w x i.
    let j = waits_as a.source c.args.step (step.Defined c.in-Defined.id) x c.in-Defined.is i in
    due a c.defined.new.self _ x (sym j.3) (w j.0 j.1 j.2))
    c.defined.ensures.fault

pub returns-in-Conjuncts-clause-fault : goal.returns-in-Conjuncts-clause-fault
returns-in-Conjuncts-clause-fault c =
    let a = c.args.self.now in
    on_ok c.conjuncts.result
    (λ w x i.
    let j = waits_as a.source c.args.step (step.Conjuncts c.in-Conjuncts.pos c.in-Conjuncts.exprs) x c.in-Conjuncts.is i in
    due a c.conjuncts.new.self _ x (sym j.2) (w j.0 j.1))
    c.conjuncts.ensures.fault

pub returns-in-Alternatives-clause-fault : goal.returns-in-Alternatives-clause-fault
returns-in-Alternatives-clause-fault c =
    let a = c.args.self.now in
    on_ok c.alternatives.result
    (λ w x i.
    let j = waits_as a.source c.args.step (step.Alternatives c.in-Alternatives.pos c.in-Alternatives.exprs c.in-Alternatives.level) x c.in-Alternatives.is i in
    due a c.alternatives.new.self _ x (sym j.2) (w j.0 j.1))
    c.alternatives.ensures.fault

pub returns-in-Clauses-clause-fault : goal.returns-in-Clauses-clause-fault
returns-in-Clauses-clause-fault c =
    let a = c.args.self.now in
    on_ok c.clauses.result
    (λ w x i.
    let j = waits_as a.source c.args.step (step.Clauses c.in-Clauses.pos c.in-Clauses.clauses c.in-Clauses.level) x c.in-Clauses.is i in
    due a c.clauses.new.self _ x (sym j.3) (w j.0 j.1 j.2))
    c.clauses.ensures.fault

pub returns-in-Cases-clause-fault : goal.returns-in-Cases-clause-fault
returns-in-Cases-clause-fault c =
    let a = c.args.self.now in
    on_ok c.cases.result
    (λ w x i.
    let j = waits_as a.source c.args.step (step.Cases c.in-Cases.pos c.in-Cases.clauses c.in-Cases.level) x c.in-Cases.is i in
    due a c.cases.new.self _ x (sym j.3) (w j.0 j.1 j.2))
    c.cases.ensures.fault

pub returns-in_default-clause-fault : goal.returns-in_default-clause-fault
returns-in_default-clause-fault c =
    let a = c.args.self.now in
    any_ok c.add.result
    (λ x w.
    let n = c.in_default in
    due a _ None x
    (sym (idle_step a.source c.args.step x n.not-Expr n.not-Exprs n.not-Defined n.not-Conjuncts n.not-Alternatives n.not-Clauses n.not-Cases w))
    (kept a _ (record { source = refl; steps = refl; fault = refl })))

pub returns-in-Expr-clause-core : goal.returns-in-Expr-clause-core
returns-in-Expr-clause-core c =
    let a = c.args.self.now in
    on_ok c.expr.result
    (λ t κ v w i h.
    let j = step_as κ c.args.step (step.Expr c.in-Expr.id) v w c.in-Expr.is h in
    turns_as κ a c.expr.new.self _ w (sym j.3) (t κ v j.0 i j.1 j.2))
    c.expr.ensures.core

pub returns-in-Exprs-clause-core : goal.returns-in-Exprs-clause-core
returns-in-Exprs-clause-core c =
    let a = c.args.self.now in
    on_ok c.exprs.result
    (λ t κ v w i h.
    let j = step_as κ c.args.step (step.Exprs c.in-Exprs.ids) v w c.in-Exprs.is h in
    turns_as κ a c.exprs.new.self _ w (sym j.3) (t κ v j.0 i j.1 j.2))
    c.exprs.ensures.core

pub returns-in-Defined-clause-core : goal.returns-in-Defined-clause-core
returns-in-Defined-clause-core c =
    let a = c.args.self.now in
    on_ok c.defined.result
    (λ t κ v w i h.
    let j = step_as κ c.args.step (step.Defined c.in-Defined.id) v w c.in-Defined.is h in
    turns_as κ a c.defined.new.self _ w (sym j.5) (t κ v j.0 j.1 i j.2 j.3 j.4))
    c.defined.ensures.core

pub returns-in-Conjuncts-clause-core : goal.returns-in-Conjuncts-clause-core
returns-in-Conjuncts-clause-core c =
    let a = c.args.self.now in
    on_ok c.conjuncts.result
    (λ t κ v w i h.
    let j = step_as κ c.args.step (step.Conjuncts c.in-Conjuncts.pos c.in-Conjuncts.exprs) v w c.in-Conjuncts.is h in
    turns_as κ a c.conjuncts.new.self _ w (sym j.3) (t κ v j.0 i j.1 j.2))
    c.conjuncts.ensures.core

pub returns-in-Alternatives-clause-core : goal.returns-in-Alternatives-clause-core
returns-in-Alternatives-clause-core c =
    let a = c.args.self.now in
    on_ok c.alternatives.result
    (λ t κ v w i h.
    let j = step_as κ c.args.step (step.Alternatives c.in-Alternatives.pos c.in-Alternatives.exprs c.in-Alternatives.level) v w c.in-Alternatives.is h in
    turns_as κ a c.alternatives.new.self _ w (sym j.4) (t κ v j.0 i j.1 j.2 j.3))
    c.alternatives.ensures.core

pub returns-in-Clauses-clause-core : goal.returns-in-Clauses-clause-core
returns-in-Clauses-clause-core c =
    let a = c.args.self.now in
    on_ok c.clauses.result
    (λ t κ v w i h.
    let j = step_as κ c.args.step (step.Clauses c.in-Clauses.pos c.in-Clauses.clauses c.in-Clauses.level) v w c.in-Clauses.is h in
    turns_as κ a c.clauses.new.self _ w (sym j.5) (t κ v j.0 i j.1 j.2 j.3 j.4))
    c.clauses.ensures.core

pub returns-in-Cases-clause-core : goal.returns-in-Cases-clause-core
returns-in-Cases-clause-core c =
    let a = c.args.self.now in
    on_ok c.cases.result
    (λ t κ v w i h.
    let j = step_as κ c.args.step (step.Cases c.in-Cases.pos c.in-Cases.clauses c.in-Cases.level) v w c.in-Cases.is h in
    turns_as κ a c.cases.new.self _ w (sym j.5) (t κ v j.0 i j.1 j.2 j.3 j.4))
    c.cases.ensures.core

pub returns-in-Leave-clause-core : goal.returns-in-Leave-clause-core
returns-in-Leave-clause-core c = λ κ v w i h.
    let a = c.args.self.now in
    let j = step_as κ c.args.step (step.Leave c.in-Leave.level) v w c.in-Leave.is h in
    turns_as κ a _ (leave c.in-Leave.level v) w (sym j)
    (leaves_turn κ a _ (leave c.in-Leave.level v)
    (record {
      steps = refl;
      view =
          rescoped κ a _ v (lowered c.in-Leave.level v.bound) i (record { source = refl; library = refl; changed = refl })
          (record { made = refl; drafts = refl; helpers = refl }) (c.leave.ensures κ.names v.bound i.made.words i.made.scope);
    }))

pub returns-in_default-clause-core : goal.returns-in_default-clause-core
returns-in_default-clause-core c =
    let a = c.args.self.now in
    on_ok c.add.result
    (λ m κ v w i h.
    let n = c.in_default in
    leaves_turn κ a _ w
    (record {
      steps = refl;
      view =
          remade κ a _ v w i (record { source = refl; library = refl; changed = refl })
          (maker_flags κ c.args.step v w n.not-Expr n.not-Exprs n.not-Defined n.not-Conjuncts n.not-Alternatives n.not-Clauses n.not-Cases h)
          (m κ v w i.made h);
    }))
    c.add.ensures
