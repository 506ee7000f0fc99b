use Rattle.scheme_expand.specs.Grammar.{let_form}
use Rattle.scheme_expand.proofs.Bodies.{wrong_due}
use Rattle.scheme_expand.proofs.Bounds.{no_let, plain_due, with_name_due}
use Rattle.scheme_expand.proofs.Due.{on_ok, none_left}
use Rattle.scheme_expand.proofs.LetTurns.{wrong_form, plain_turns, with_name_turns}
use Rattle.scheme_expand.proofs.expander.Expander.any_let.Goals as goal

pub returns-in_default-clause-fault : goal.returns-in_default-clause-fault
returns-in_default-clause-fault c =
    let a = c.args.self.now in
    let p = c.args.pos in
    on_ok c.broken.result
    (λ w ds h.
    wrong_due a c.broken.new.self p 4 (let_form p ds)
    (no_let a.source p c.args.operands.now ds h (none_left _ c.in_default.ensures.cases)) w)
    c.broken.ensures

pub returns-in-Some-word-clause-fault : goal.returns-in-Some-word-clause-fault
returns-in-Some-word-clause-fault c =
    let a = c.args.self.now in
    on_ok c.named_let.result
    (λ w ds h.
    with_name_due a c.named_let.new.self c.args.pos c.args.operands.now _ _ _ ds _ h c.in-Some.ensures.cases.0 c.word.ensures
    c.in-Some-word.is w)
    c.named_let.ensures.fault

pub returns-in-None-clause-fault : goal.returns-in-None-clause-fault
returns-in-None-clause-fault c =
    let a = c.args.self.now in
    on_ok c.plain_let.result
    (λ w ds h.
    plain_due a c.plain_let.new.self c.args.pos c.args.operands.now _ _ ds _ h c.in-Some.ensures.cases.0 c.word.ensures
    c.in-None.is (w ds h))
    c.plain_let.ensures.fault

pub returns-in_default-clause-core : goal.returns-in_default-clause-core
returns-in_default-clause-core c =
    let p = c.args.pos in
    on_ok c.broken.result
    (λ w κ v ds i h r.
    absurd
    (wrong_form p 4 (let_form p ds)
    (no_let κ.source p c.args.operands.now ds h (none_left _ c.in_default.ensures.cases)) r))
    c.broken.ensures

pub returns-in-Some-word-clause-core : goal.returns-in-Some-word-clause-core
returns-in-Some-word-clause-core c =
    on_ok c.named_let.result
    (λ w κ v ds i h r.
    with_name_turns κ c.args.self.now c.named_let.new.self c.args.pos c.args.operands.now _ _ _ ds _ v i h
    c.in-Some.ensures.cases.0 c.word.ensures c.in-Some-word.is r (λ y es k l q. w κ v y es i k l q))
    c.named_let.ensures.core

pub returns-in-None-clause-core : goal.returns-in-None-clause-core
returns-in-None-clause-core c =
    on_ok c.plain_let.result
    (λ w κ v ds i h r.
    plain_turns κ c.args.self.now c.plain_let.new.self c.args.pos c.args.operands.now _ _ ds _ v i h
    c.in-Some.ensures.cases.0 c.word.ensures c.in-None.is r (w κ v ds i h))
    c.plain_let.ensures.core
