use Rattle.std.proofs.Common.{refl}
use Rattle.scheme_expand.specs.declared.step.Step.TheVariants as step
use Rattle.scheme_expand.proofs.Adding.{one_waits}
use Rattle.scheme_expand.proofs.CaseParts.{of_cases, no_cases_due, cases_due}
use Rattle.scheme_expand.proofs.CasesTurn.{case_made, clause_in, cases_turn, no_case_turns}
use Rattle.scheme_expand.proofs.Due.{on_ok, none_left}
use Rattle.scheme_expand.proofs.LastMade.{last_case}
use Rattle.scheme_expand.proofs.expander.Expander.cases.Goals as goal

pub returns-in_default-clause-fault : goal.returns-in_default-clause-fault
returns-in_default-clause-fault c = λ ds h may.
    no_cases_due c.args.self.now c.args.clauses.now ds h (none_left c.args.clauses.now c.in_default.ensures.cases)

pub returns-clause-fault : goal.returns-clause-fault
returns-clause-fault c =
    let a = c.args.self.now in
    on_ok c.sequence.result
    (λ w ds h may.
    cases_due a c.wait.new.self c.test_case.new.self c.sequence.new.self c.args.clauses.now c.in-Some.others.now c.in-Some.last.now ds
    c.in-Some-case_clause.clause h may c.in-Some.ensures.cases.0 (λ e k. c.in-Some-case_clause.ensures e k.stands)
    (λ os k m.
    c.in_ok-wait.ensures.fault (of_cases os)
    (one_waits a.source (step.Cases c.args.pos c.in-Some.others c.args.level) (of_cases os) (os, k, m, refl)))
    c.in_ok-test_case.ensures.fault w)
    c.sequence.ensures.fault

pub returns-in_default-clause-core : goal.returns-in_default-clause-core
returns-in_default-clause-core c = λ κ v ds i h may right at.
    no_case_turns κ c.args.self.now c.args.pos c.args.level c.args.clauses.now ds v i h
    (none_left c.args.clauses.now c.in_default.ensures.cases)

pub returns-clause-core : goal.returns-clause-core
returns-clause-core c =
    let a = c.args.self.now in
    let p = c.args.pos in
    let k = c.args.level in
    let others = c.in-Some.others in
    let last = c.in-Some.last.now in
    let found = c.in-Some-case_clause.clause in
    on_ok c.sequence.result
    (λ w κ v ds i h may right at.
    let r = last_case κ p k κ.source c.args.clauses.now others.now last ds h may right c.in-Some.ensures.cases.0 in
    let read = clause_in a.source κ.source last found i.source c.in-Some-case_clause.ensures in
    cases_turn κ a c.wait.new.self c.test_case.new.self c.sequence.new.self p others k last ds v found i r
    (case_made κ p k found r.last h.named (read r.last r.read.stands)) at c.in_ok-wait.ensures.core c.in_ok-test_case.ensures.core
    (λ es j l q. w κ v es j l q))
    c.sequence.ensures.core
