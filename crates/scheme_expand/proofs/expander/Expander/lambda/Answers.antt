use Rattle.scheme_expand.proofs.Bodies.{all_in}
use Rattle.scheme_expand.proofs.MadeBodies.{not_right, lambda_turns}
use Rattle.scheme_expand.proofs.Due.{any_ok}
use Rattle.std.proofs.Common.{sym}
use Rattle.scheme_expand.proofs.Bodies.{no_operands, no_formals, lambda_due, wrong_due}
use Rattle.scheme_expand.proofs.Due.{on_ok, none_left}
use Rattle.scheme_expand.specs.Grammar.{lambda_form}
use Rattle.scheme_expand.proofs.expander.Expander.lambda.Goals as goal

pub returns-in_default-clause-fault : goal.returns-in_default-clause-fault
returns-in_default-clause-fault c =
    let a = c.args.self.now in
    let p = c.args.pos in
    on_ok c.broken.result
    (λ w ds h.
    wrong_due a c.broken.new.self p 3 (lambda_form p ds)
    (no_operands a.source p c.args.operands.now ds h (none_left _ c.in_default.ensures.cases)) w)
    c.broken.ensures

pub returns-in_default-read_formals-clause-fault : goal.returns-in_default-read_formals-clause-fault
returns-in_default-read_formals-clause-fault c =
    let a = c.args.self.now in
    let p = c.args.pos in
    on_ok c.broken-in_default-read_formals.result
    (λ w ds h.
    wrong_due a c.broken-in_default-read_formals.new.self p 3 (lambda_form p ds)
    (no_formals a.source p c.args.operands.now _ _ ds h c.in-Some.ensures.cases.0 c.in_default-read_formals.ensures) w)
    c.broken-in_default-read_formals.ensures

pub returns-clause-fault : goal.returns-clause-fault
returns-clause-fault c =
    let a = c.args.self.now in
    on_ok c.procedure.result
    (λ w ds h.
    lambda_due a c.procedure.new.self c.args.pos c.args.operands.now _ _ _ ds h c.in-Some.ensures.cases.0
    c.in-Some-read_formals.ensures w)
    c.procedure.ensures.fault

pub returns-in_default-clause-core : goal.returns-in_default-clause-core
returns-in_default-clause-core c =
    let p = c.args.pos in
    any_ok c.broken.result
    (λ κ v ds i h k.
    absurd (not_right p 3 (lambda_form p ds) (no_operands κ.source p c.args.operands.now ds h (none_left _ c.in_default.ensures.cases)) k))

pub returns-in_default-read_formals-clause-core : goal.returns-in_default-read_formals-clause-core
returns-in_default-read_formals-clause-core c =
    let a = c.args.self.now in
    let p = c.args.pos in
    any_ok c.broken-in_default-read_formals.result
    (λ κ v ds i h k.
    absurd
    (not_right p 3 (lambda_form p ds)
    (no_formals a.source p c.args.operands.now _ _ ds (all_in κ.source a.source _ ds (sym i.source) h) c.in-Some.ensures.cases.0 c.in_default-read_formals.ensures)
    k))

pub returns-clause-core : goal.returns-clause-core
returns-clause-core c =
    let a = c.args.self.now in
    on_ok c.procedure.result
    (λ w κ v ds i h k.
    lambda_turns κ a c.procedure.new.self c.args.pos c.args.operands.now _ _ _ v ds i h k c.in-Some.ensures.cases.0
    c.in-Some-read_formals.ensures w)
    c.procedure.ensures.core
