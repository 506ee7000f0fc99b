use Rattle.std.proofs.Common.{None, refl, sym}
use Rattle.scheme_expand.specs.Faults.{least, in_exp}
use Rattle.scheme_expand.specs.Grammar.{if_form}
use Rattle.scheme_expand.specs.Waiting.{earlier}
use Rattle.scheme_expand.proofs.Adding.{due}
use Rattle.scheme_expand.proofs.Arms.{two_read, two_due, three_read, three_due}
use Rattle.scheme_expand.proofs.Due.{of, on_ok}
use Rattle.scheme_expand.proofs.Least.{earlier_none}
use Rattle.scheme_expand.proofs.MadeForms.{if_turns, if_else_turns}
use Rattle.scheme_expand.proofs.expander.Expander.conditional.Goals as goal

pub returns-in-len2-clause-fault : goal.returns-in-len2-clause-fault
returns-in-len2-clause-fault c =
    let a = c.args.self.now in
    let p = c.args.pos in
    on_ok c.wait.result
    (λ w ds h.
    let t = two_read a.source c.args.operands.now ds c.in-len2.len_at_least c.in-len2.len_below h in
    let x = of t.test in
    let all = earlier (of t.yes) x in
    due a c.wait.new.self all (least (in_exp (if_form p ds))) (two_due p ds t.test t.yes t.are)
    (w all (
      None,
      all,
      refl,
      (None, all, refl, (of t.yes, x, (t.yes, t.read_yes, refl), (x, None, (t.test, t.read_test, refl), refl, sym (earlier_none x)), refl), refl),
      refl,
    )))
    c.wait.ensures.fault

pub returns-in-len3-clause-fault : goal.returns-in-len3-clause-fault
returns-in-len3-clause-fault c =
    let a = c.args.self.now in
    let p = c.args.pos in
    on_ok c.wait-in-len3.result
    (λ w ds h.
    let t = three_read a.source c.args.operands.now ds c.in-len3.len_at_least c.in-len3.len_below h in
    let x = of t.test in
    let most = earlier (of t.yes) x in
    let all = earlier (of t.no) most in
    due a c.wait-in-len3.new.self all (least (in_exp (if_form p ds))) (three_due p ds t.test t.yes t.no t.are)
    (w all (
      None,
      all,
      refl,
      (
        of t.no,
        most,
        (t.no, t.read_no, refl),
        (of t.yes, x, (t.yes, t.read_yes, refl), (x, None, (t.test, t.read_test, refl), refl, sym (earlier_none x)), refl),
        refl,
      ),
      refl,
    )))
    c.wait-in-len3.ensures.fault

pub returns-in-len2-clause-core : goal.returns-in-len2-clause-core
returns-in-len2-clause-core c =
    on_ok c.wait.result
    (λ put κ v ds i h r.
    if_turns κ c.args.self.now c.wait.new.self c.args.pos c.args.operands.now ds v i
    (two_read κ.source c.args.operands.now ds c.in-len2.len_at_least c.in-len2.len_below h) r put)
    c.wait.ensures.core

pub returns-in-len3-clause-core : goal.returns-in-len3-clause-core
returns-in-len3-clause-core c =
    on_ok c.wait-in-len3.result
    (λ put κ v ds i h r.
    if_else_turns κ c.args.self.now c.wait-in-len3.new.self c.args.pos c.args.operands.now ds v i
    (three_read κ.source c.args.operands.now ds c.in-len3.len_at_least c.in-len3.len_below h) r put)
    c.wait-in-len3.ensures.core
