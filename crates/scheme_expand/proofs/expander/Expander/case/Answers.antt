use Rattle.std.proofs.Common.{◌∷◌, [], None, Some, true, false, refl, sym, ap, ◌∙◌}
use Rattle.datum_form.specs.Data.Items.{item}
use Rattle.scheme_expand.specs.Faults.{least, in_exp}
use Rattle.scheme_expand.specs.Grammar.{case_form}
use Rattle.scheme_expand.specs.Views.{bind, put_inside, seen}
use Rattle.scheme_expand.specs.Waiting.{earlier}
use Rattle.draft_form.specs.declared.draft.Variable.TheVariants.{Fresh}
use Rattle.scheme_expand.specs.declared.step.Step.TheVariants as step
use Rattle.scheme_expand.proofs.Adding.{due, kept_both, one_waits}
use Rattle.scheme_expand.proofs.Bodies.{then_none, wrong_due, all_in}
use Rattle.scheme_expand.proofs.CaseParts.{of_cases, case_is, case_not, case_due, case_waits, shape_may}
use Rattle.scheme_expand.proofs.CasesTurn.{case_in, case_turn}
use Rattle.scheme_expand.proofs.ClausesTurn.{wrong_right}
use Rattle.scheme_expand.proofs.Coming.{one_comes, puts_twice, rescoped, turns_as}
use Rattle.scheme_expand.proofs.Due.{of, any_ok, on_ok}
use Rattle.scheme_expand.proofs.expander.Expander.case.Goals as goal

pub returns-in_default-clause-fault : goal.returns-in_default-clause-fault
returns-in_default-clause-fault c =
    let a = c.args.self.now in
    on_ok c.broken.result
    (λ w d ds h.
    wrong_due a c.broken.new.self c.args.pos 7 (case_form c.args.pos ds)
    (case_not a.source c.args.pos d ds (c.in_default.ensures (item d ds) h.stand)) w)
    c.broken.ensures

pub returns-then-ends_with_else-clause-fault : goal.returns-then-ends_with_else-clause-fault
returns-then-ends_with_else-clause-fault c = λ d ds h.
    let a = c.args.self.now in
    let p = c.args.pos in
    let found = c.in-Some.case in
    let i = case_is a.source found d ds h.named (c.in-Some.ensures (item d ds) h.stand) in
    let x = earlier (of i.key) (of_cases i.clauses) in
    due a c.wait.new.self x (least (in_exp (case_form p ds))) (case_due a.source found p ds i)
    (kept_both a _ c.wait.new.self x (record { source = refl; steps = refl; fault = refl })
    (c.in_ok-wait.ensures.fault x
    (case_waits a.source (step.Bind p (Fresh c.in_ok-level.level)) (step.Leave c.in_ok-level.level) (step.Expr found.key)
    (step.Cases p found.clauses c.in_ok-level.level) (of i.key) (of_cases i.clauses) refl (i.key, i.read_key, refl) refl
    (i.clauses, i.read, shape_may i.clauses i.shape, refl))))

pub returns-clause-fault : goal.returns-clause-fault
returns-clause-fault c =
    let a = c.args.self.now in
    let p = c.args.pos in
    let b = c.wait.new.self in
    let found = c.in-Some.case in
    on_ok c.wait-2.result
    (λ w d ds h.
    let i = case_is a.source found d ds h.named (c.in-Some.ensures (item d ds) h.stand) in
    let x = earlier (of i.key) (of_cases i.clauses) in
    then_none a b c.wait-2.new.self (least (in_exp (case_form p ds)))
    (due a b x (least (in_exp (case_form p ds))) (case_due a.source found p ds i)
    (kept_both a _ b x (record { source = refl; steps = refl; fault = refl })
    (c.in_ok-wait.ensures.fault x
    (case_waits a.source (step.Bind p (Fresh c.in_ok-level.level)) (step.Leave c.in_ok-level.level) (step.Expr found.key)
    (step.Cases p found.clauses c.in_ok-level.level) (of i.key) (of_cases i.clauses) refl (i.key, i.read_key, refl) refl
    (i.clauses, i.read, shape_may i.clauses i.shape, refl)))))
    (w None (one_waits b.source (step.Unspecified p) None refl)))
    c.wait-2.ensures.fault

pub returns-in_default-clause-core : goal.returns-in_default-clause-core
returns-in_default-clause-core c =
    let a = c.args.self.now in
    let p = c.args.pos in
    any_ok c.broken.result
    (λ κ v d ds i h right.
    let g = all_in κ.source a.source c.args.items.now (item d ds) (sym i.source) h in
    absurd (wrong_right p 7 (case_form p ds) (case_not a.source p d ds (c.in_default.ensures (item d ds) g.stand)) right))

pub returns-then-ends_with_else-clause-core : goal.returns-then-ends_with_else-clause-core
returns-then-ends_with_else-clause-core c = λ κ v d ds i h right.
    let a = c.args.self.now in
    let p = c.args.pos in
    let k = c.in_ok-level.level in
    let found = c.in-Some.case in
    let read = case_in a.source κ.source c.args.items.now (Some found) i.source c.in-Some.ensures in
    let is = case_is κ.source found d ds h.named (read (item d ds) h.stand) in
    let same = c.in_ok-wait.ensures.core.same.source ∙ i.source in
    let g = all_in κ.source c.wait.new.self.source found.clauses.now is.clauses (sym same) is.read in
    turns_as κ a c.wait.new.self (seen κ (case_form p (item is.key is.clauses)) v) (seen κ (case_form p ds) v)
    (ap (λ l. seen κ (case_form p l) v) (sym is.are))
    (case_turn κ a _ c.wait.new.self p found.clauses found.key k is.key is.clauses v true is.read_key is.read is.shape
    (ap (λ l. in_exp (case_form p l)) (sym is.are) ∙ right)
    (record {
      steps = refl;
      view =
          rescoped κ a _ v (put_inside ([] ∷ []) v.bound) i (record { source = refl; library = refl; changed = refl })
          (record { made = refl; drafts = refl; helpers = refl })
          (c.in_ok-bind_fresh.ensures κ.names v.bound i.made.words i.made.scope);
    })
    (c.in_ok-level.ensures κ.names v.bound i.made.scope)
    (sym c.if-ends_with_else.true ∙ c.ends_with_else.ensures is.clauses g is.shape) [] c.in_ok-wait.ensures.core refl refl)

pub returns-clause-core : goal.returns-clause-core
returns-clause-core c =
    let a = c.args.self.now in
    let p = c.args.pos in
    let k = c.in_ok-level.level in
    let found = c.in-Some.case in
    on_ok c.wait-2.result
    (λ put κ v d ds i h right.
    let read = case_in a.source κ.source c.args.items.now (Some found) i.source c.in-Some.ensures in
    let is = case_is κ.source found d ds h.named (read (item d ds) h.stand) in
    let same = c.in_ok-wait.ensures.core.same.source ∙ i.source in
    let g = all_in κ.source c.wait.new.self.source found.clauses.now is.clauses (sym same) is.read in
    turns_as κ a c.wait-2.new.self (seen κ (case_form p (item is.key is.clauses)) v) (seen κ (case_form p ds) v)
    (ap (λ l. seen κ (case_form p l) v) (sym is.are))
    (case_turn κ a _ c.wait-2.new.self p found.clauses found.key k is.key is.clauses v false is.read_key is.read is.shape
    (ap (λ l. in_exp (case_form p l)) (sym is.are) ∙ right)
    (record {
      steps = refl;
      view =
          rescoped κ a _ v (put_inside ([] ∷ []) v.bound) i (record { source = refl; library = refl; changed = refl })
          (record { made = refl; drafts = refl; helpers = refl })
          (c.in_ok-bind_fresh.ensures κ.names v.bound i.made.words i.made.scope);
    })
    (c.in_ok-level.ensures κ.names v.bound i.made.scope)
    (sym c.if-ends_with_else.false ∙ c.ends_with_else.ensures is.clauses g is.shape) (step.Unspecified p ∷ [])
    (puts_twice _ c.wait.new.self c.wait-2.new.self
    (step.Bind p (Fresh k) ∷ step.Expr found.key ∷ step.Leave k ∷ step.Cases p found.clauses k ∷ []) (step.Unspecified p ∷ [])
    c.in_ok-wait.ensures.core put)
    (one_comes κ (step.Unspecified p) (bind ([] ∷ []) v) _ refl) refl))
    c.wait-2.ensures.core
