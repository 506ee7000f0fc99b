use Rattle.std.proofs.Common.{◌≡◌, ◌-◌, None, refl, sym, ap, ◌∙◌}
use Rattle.draft_form.specs.Drafts.{Ref, Fresh}
use Rattle.scheme_expand.specs.Calls.{one}
use Rattle.scheme_expand.specs.Views.{height, lowered, below}
use Rattle.scheme_expand.specs.Waiting.{earlier}
use Rattle.scheme_expand.specs.declared.clause.Clause.TheVariants as which
use Rattle.scheme_expand.specs.declared.step.Step.TheVariants as step
use Rattle.scheme_expand.proofs.Adding.{both, due, kept_both, one_waits}
use Rattle.scheme_expand.proofs.Bodies.{all_in}
use Rattle.scheme_expand.proofs.ClausesTurn.{clause_found, else_turn, then_turn, test_turn, receive_turn, reference_come, no_clause_turns}
use Rattle.scheme_expand.proofs.Coming.{rescoped}
use Rattle.scheme_expand.proofs.CondParts.{of_clauses, no_clauses_due, last_read, else_is, then_is, test_is, receiver_is, found_as}
use Rattle.scheme_expand.proofs.Due.{of, of_all, on_ok, none_left}
use Rattle.scheme_expand.proofs.LastMade.{last_clause, below_is}
use Rattle.scheme_expand.proofs.Least.{earlier_none, earlier_assoc}
use Rattle.scheme_expand.proofs.Parts.{read_in}
use Rattle.scheme_expand.proofs.expander.Expander.clauses.Goals as goal

pub returns-in_default-clause-fault : goal.returns-in_default-clause-fault
returns-in_default-clause-fault c = λ ds h may.
    no_clauses_due c.args.self.now c.args.clauses.now ds h (none_left c.args.clauses.now c.in_default.ensures.cases)

pub returns-in_ok-wait-in-Else-clause-fault : goal.returns-in_ok-wait-in-Else-clause-fault
returns-in_ok-wait-in-Else-clause-fault c =
    let a = c.args.self.now in
    let s = a.source in
    let b = c.wait.new.self in
    on_ok c.sequence.result
    (λ w ds h may.
    let r = last_read s c.args.clauses.now c.in-Some.others.now c.in-Some.last.now ds h may c.in-Some.ensures.cases.0 in
    let i = found_as s r.last _ (which.Else c.in-Else.exprs) c.in-Else.is (c.in-Some-read_clause.ensures r.last r.read) in
    let x = of_clauses r.front in
    let before =
    c.in_ok-wait-in-Else.ensures.fault x
    (one_waits s (step.Clauses c.args.pos c.in-Some.others c.args.level) x (r.front, r.rest, r.may, refl))
    in
    due a c.sequence.new.self (earlier x (of_all i.1)) (of_clauses ds)
    (ap (earlier x) (else_is s c.in-Else.exprs r.last i) ∙ r.total)
    (both a b c.sequence.new.self x (of_all i.1) before (w i.1 (all_in s b.source c.in-Else.exprs.now i.1 (sym before.source) i.2))))
    c.sequence.ensures.fault

pub returns-in_ok-wait-in-Then-clause-fault : goal.returns-in_ok-wait-in-Then-clause-fault
returns-in_ok-wait-in-Then-clause-fault c =
    let a = c.args.self.now in
    let s = a.source in
    let b = c.wait-in-Then.new.self in
    on_ok c.sequence-in-Then.result
    (λ w ds h may.
    let r = last_read s c.args.clauses.now c.in-Some.others.now c.in-Some.last.now ds h may c.in-Some.ensures.cases.0 in
    let i = found_as s r.last _ (which.Then c.in-Then.test c.in-Then.exprs) c.in-Then.is (c.in-Some-read_clause.ensures r.last r.read) in
    let x = of_clauses r.front in
    let y = of i.1 in
    let before =
    c.in_ok-wait-in-Then.ensures.fault (earlier x y) (
      x,
      y,
      (r.front, r.rest, r.may, refl),
      (None, y, refl, (y, None, (i.1, i.3, refl), refl, sym (earlier_none y)), refl),
      refl,
    )
    in
    due a c.sequence-in-Then.new.self (earlier (earlier x y) (of_all i.2)) (of_clauses ds)
    (earlier_assoc x y (of_all i.2) ∙ (ap (earlier x) (then_is s c.in-Then.test c.in-Then.exprs r.last i) ∙ r.total))
    (both a b c.sequence-in-Then.new.self (earlier x y) (of_all i.2) before
    (w i.2 (all_in s b.source c.in-Then.exprs.now i.2 (sym before.source) i.4))))
    c.sequence-in-Then.ensures.fault

pub returns-in-Test-clause-fault : goal.returns-in-Test-clause-fault
returns-in-Test-clause-fault c =
    let a = c.args.self.now in
    let s = a.source in
    on_ok c.wait-in-Test.result
    (λ w ds h may.
    let r = last_read s c.args.clauses.now c.in-Some.others.now c.in-Some.last.now ds h may c.in-Some.ensures.cases.0 in
    let i = found_as s r.last _ (which.Test c.in-Test.test) c.in-Test.is (c.in-Some-read_clause.ensures r.last r.read) in
    let x = of_clauses r.front in
    let y = of i.1 in
    due a c.wait-in-Test.new.self (earlier x y) (of_clauses ds) (ap (earlier x) (test_is s c.in-Test.test r.last i) ∙ r.total)
    (kept_both a _ c.wait-in-Test.new.self (earlier x y) (record { source = refl; steps = refl; fault = refl })
    (w (earlier x y) (
      x,
      y,
      (r.front, r.rest, r.may, refl),
      (None, y, refl, (y, None, (i.1, i.2, refl), refl, sym (earlier_none y)), refl),
      refl,
    ))))
    c.wait-in-Test.ensures.fault

pub returns-in_ok-wait-in-Receiver-clause-fault : goal.returns-in_ok-wait-in-Receiver-clause-fault
returns-in_ok-wait-in-Receiver-clause-fault c =
    let a = c.args.self.now in
    let s = a.source in
    let b = c.wait-in-Receiver.new.self in
    on_ok c.call.result
    (λ w ds h may.
    let r = last_read s c.args.clauses.now c.in-Some.others.now c.in-Some.last.now ds h may c.in-Some.ensures.cases.0 in
    let i = found_as s r.last _ (which.Receiver c.in-Receiver.test c.in-Receiver.receiver) c.in-Receiver.is (c.in-Some-read_clause.ensures r.last r.read) in
    let x = of_clauses r.front in
    let y = of i.1 in
    let z = of i.2 in
    let before =
    c.in_ok-wait-in-Receiver.ensures.fault (earlier x y) (
      x,
      y,
      (r.front, r.rest, r.may, refl),
      (None, y, refl, (y, None, (i.1, i.3, refl), (None, None, refl, refl, refl), sym (earlier_none y)), refl),
      refl,
    )
    in
    due a c.call.new.self (earlier (earlier x y) (earlier z None)) (of_clauses ds)
    (ap (earlier (earlier x y)) (earlier_none z)
    ∙ (earlier_assoc x y z ∙ (ap (earlier x) (receiver_is s c.in-Receiver.test c.in-Receiver.receiver r.last i) ∙ r.total)))
    (both a b c.call.new.self (earlier x y) (earlier z None) before
    (w i.2 None (read_in s b.source c.in-Receiver.receiver i.2 (sym before.source) i.4) refl)))
    c.call.ensures.fault

pub returns-in_default-clause-core : goal.returns-in_default-clause-core
returns-in_default-clause-core c = λ κ v ds i h may right at.
    no_clause_turns κ c.args.self.now c.args.pos c.args.clauses.now ds v i h
    (none_left c.args.clauses.now c.in_default.ensures.cases)

pub returns-in_ok-wait-in-Else-clause-core : goal.returns-in_ok-wait-in-Else-clause-core
returns-in_ok-wait-in-Else-clause-core c =
    let a = c.args.self.now in
    let p = c.args.pos in
    let others = c.in-Some.others in
    let last = c.in-Some.last.now in
    on_ok c.sequence.result
    (λ w κ v ds i h may right at.
    let r = last_clause κ p κ.source c.args.clauses.now others.now last ds h may right c.in-Some.ensures.cases.0 in
    let is = clause_found a.source κ.source _ (which.Else c.in-Else.exprs) last r.last i.source c.in-Else.is c.in-Some-read_clause.ensures r.read in
    else_turn κ a c.wait.new.self p others last ds v i r c.sequence.new.self c.args.level c.in-Else.exprs at is
    c.in_ok-wait-in-Else.ensures.core (λ es j l q. w κ v es j l q))
    c.sequence.ensures.core

pub returns-in_ok-wait-in-Then-clause-core : goal.returns-in_ok-wait-in-Then-clause-core
returns-in_ok-wait-in-Then-clause-core c =
    let a = c.args.self.now in
    let p = c.args.pos in
    let others = c.in-Some.others in
    let last = c.in-Some.last.now in
    on_ok c.sequence-in-Then.result
    (λ w κ v ds i h may right at.
    let r = last_clause κ p κ.source c.args.clauses.now others.now last ds h may right c.in-Some.ensures.cases.0 in
    let is = clause_found a.source κ.source _ (which.Then c.in-Then.test c.in-Then.exprs) last r.last i.source c.in-Then.is c.in-Some-read_clause.ensures r.read in
    then_turn κ a c.wait-in-Then.new.self p others last ds v i r c.sequence-in-Then.new.self c.args.level c.in-Then.test c.in-Then.exprs at is
    c.in_ok-wait-in-Then.ensures.core (λ es j l q. w κ v es j l q))
    c.sequence-in-Then.ensures.core

pub returns-in-Test-clause-core : goal.returns-in-Test-clause-core
returns-in-Test-clause-core c =
    let a = c.args.self.now in
    let p = c.args.pos in
    let k = c.saturating_sub-held.result in
    let others = c.in-Some.others in
    let last = c.in-Some.last.now in
    on_ok c.wait-in-Test.result
    (λ put κ v ds i h may right at.
    let r = last_clause κ p κ.source c.args.clauses.now others.now last ds h may right c.in-Some.ensures.cases.0 in
    let is = clause_found a.source κ.source _ (which.Test c.in-Test.test) last r.last i.source c.in-Test.is c.in-Some-read_clause.ensures r.read in
    let held : k ≡ below (height v) = c.saturating_sub-held.ensures ∙ (ap (λ n. n - 1) at ∙ sym (below_is (height v))) in
    test_turn κ a _ p others last ds v i r c.wait-in-Test.new.self k c.in-Test.test held is
    (record {
      steps = refl;
      view =
          rescoped κ a _ v (lowered k v.bound) i (record { source = refl; library = refl; changed = refl })
          (record { made = refl; drafts = refl; helpers = refl })
          (c.leave.ensures κ.names v.bound i.made.words i.made.scope);
    })
    put)
    c.wait-in-Test.ensures.core

pub returns-in_ok-wait-in-Receiver-clause-core : goal.returns-in_ok-wait-in-Receiver-clause-core
returns-in_ok-wait-in-Receiver-clause-core c =
    let a = c.args.self.now in
    let p = c.args.pos in
    let k = c.saturating_sub-held.result in
    let others = c.in-Some.others in
    let last = c.in-Some.last.now in
    on_ok c.call.result
    (λ w κ v ds i h may right at.
    let r = last_clause κ p κ.source c.args.clauses.now others.now last ds h may right c.in-Some.ensures.cases.0 in
    let is = clause_found a.source κ.source _ (which.Receiver c.in-Receiver.test c.in-Receiver.receiver) last r.last i.source c.in-Receiver.is c.in-Some-read_clause.ensures r.read in
    let held : k ≡ below (height v) = c.saturating_sub-held.ensures ∙ (ap (λ n. n - 1) at ∙ sym (below_is (height v))) in
    receive_turn κ a c.wait-in-Receiver.new.self p others last ds v i r c.call.new.self k c.in-Receiver.test c.in-Receiver.receiver held is
    c.in_ok-wait-in-Receiver.ensures.core
    (λ e j l q. w κ v e (one (Ref p (Fresh k))) j l q refl (λ u same. reference_come κ p k u)))
    c.call.ensures.core
