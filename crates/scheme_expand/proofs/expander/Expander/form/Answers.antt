use Rattle.std.proofs.Common.{Some, refl, ap, ◌∙◌}
use Rattle.scheme_expand.specs.Forms.{Wrong, And, Or}
use Rattle.scheme_expand.specs.Grammar.{quasi_form, quote_form, lambda_form, if_form, set_form, begin_form, case_form, let_form, let_star_form, letrec_form, do_form, exprs}
use Rattle.scheme_expand.specs.Shapes.{cond_form}
use Rattle.scheme_expand.specs.declared.words.Keyword.TheVariants as keyword
use Rattle.scheme_expand.proofs.Beginning.{form_due, word_due}
use Rattle.scheme_expand.proofs.Bounds.{star_form, rec_form}
use Rattle.scheme_expand.proofs.Due.{on_ok, any_ok}
use Rattle.scheme_expand.proofs.MadeForms.{form_turns, operator_not_right, wrong_not_right}
use Rattle.scheme_expand.proofs.Named.{begins}
use Rattle.scheme_expand.proofs.expander.Expander.form.Goals as goal

pub returns-in-Quote-clause-fault : goal.returns-in-Quote-clause-fault
returns-in-Quote-clause-fault c =
    let a = c.args.self.now in
    let p = c.args.pos in
    on_ok c.quote.result
    (λ w d ds h k e. form_due a c.quote.new.self p d ds keyword.Quote (quote_form p ds) (e ∙ ap Some c.in-Quote.is) (λ q. refl) (w ds k))
    c.quote.ensures.fault

pub returns-in-Lambda-clause-fault : goal.returns-in-Lambda-clause-fault
returns-in-Lambda-clause-fault c =
    let a = c.args.self.now in
    let p = c.args.pos in
    on_ok c.lambda.result
    (λ w d ds h k e. form_due a c.lambda.new.self p d ds keyword.Lambda (lambda_form p ds) (e ∙ ap Some c.in-Lambda.is) (λ q. refl) (w ds k))
    c.lambda.ensures.fault

pub returns-in-If-clause-fault : goal.returns-in-If-clause-fault
returns-in-If-clause-fault c =
    let a = c.args.self.now in
    let p = c.args.pos in
    on_ok c.conditional.result
    (λ w d ds h k e. form_due a c.conditional.new.self p d ds keyword.If (if_form p ds) (e ∙ ap Some c.in-If.is) (λ q. refl) (w ds k))
    c.conditional.ensures.fault

pub returns-in-Set-clause-fault : goal.returns-in-Set-clause-fault
returns-in-Set-clause-fault c =
    let a = c.args.self.now in
    let p = c.args.pos in
    on_ok c.assignment.result
    (λ w d ds h k e. form_due a c.assignment.new.self p d ds keyword.Set (set_form p ds) (e ∙ ap Some c.in-Set.is) (λ q. refl) (w ds k))
    c.assignment.ensures.fault

pub returns-in-Begin-clause-fault : goal.returns-in-Begin-clause-fault
returns-in-Begin-clause-fault c =
    let a = c.args.self.now in
    let p = c.args.pos in
    on_ok c.begin.result
    (λ w d ds h k e. form_due a c.begin.new.self p d ds keyword.Begin (begin_form p ds) (e ∙ ap Some c.in-Begin.is) (λ q. refl) (w ds k))
    c.begin.ensures.fault

pub returns-in-Cond-clause-fault : goal.returns-in-Cond-clause-fault
returns-in-Cond-clause-fault c =
    let a = c.args.self.now in
    let p = c.args.pos in
    on_ok c.cond.result
    (λ w d ds h k e. form_due a c.cond.new.self p d ds keyword.Cond (cond_form p ds) (e ∙ ap Some c.in-Cond.is) (λ q. refl) (w ds k))
    c.cond.ensures.fault

pub returns-in-Case-clause-fault : goal.returns-in-Case-clause-fault
returns-in-Case-clause-fault c =
    let a = c.args.self.now in
    let p = c.args.pos in
    on_ok c.case.result
    (λ w d ds h k e. form_due a c.case.new.self p d ds keyword.Case (case_form p ds) (e ∙ ap Some c.in-Case.is) (λ q. refl) (w d ds h))
    c.case.ensures.fault

pub returns-in-And-clause-fault : goal.returns-in-And-clause-fault
returns-in-And-clause-fault c =
    let a = c.args.self.now in
    let p = c.args.pos in
    on_ok c.and.result
    (λ w d ds h k e. form_due a c.and.new.self p d ds keyword.And (And p (exprs ds)) (e ∙ ap Some c.in-And.is) (λ q. refl) (w ds k))
    c.and.ensures.fault

pub returns-in-Or-clause-fault : goal.returns-in-Or-clause-fault
returns-in-Or-clause-fault c =
    let a = c.args.self.now in
    let p = c.args.pos in
    on_ok c.or.result
    (λ w d ds h k e. form_due a c.or.new.self p d ds keyword.Or (Or p (exprs ds)) (e ∙ ap Some c.in-Or.is) (λ q. refl) (w ds k))
    c.or.ensures.fault

pub returns-in-Let-clause-fault : goal.returns-in-Let-clause-fault
returns-in-Let-clause-fault c =
    let a = c.args.self.now in
    let p = c.args.pos in
    on_ok c.any_let.result
    (λ w d ds h k e. form_due a c.any_let.new.self p d ds keyword.Let (let_form p ds) (e ∙ ap Some c.in-Let.is) (λ q. refl) (w ds k))
    c.any_let.ensures.fault

pub returns-in-LetStar-clause-fault : goal.returns-in-LetStar-clause-fault
returns-in-LetStar-clause-fault c =
    let a = c.args.self.now in
    let p = c.args.pos in
    on_ok c.let_star.result
    (λ w d ds h k e. form_due a c.let_star.new.self p d ds keyword.LetStar (let_star_form p ds) (e ∙ ap Some c.in-LetStar.is) (λ q. refl) (star_form a c.let_star.new.self p ds (w ds k)))
    c.let_star.ensures.fault

pub returns-in-Letrec-clause-fault : goal.returns-in-Letrec-clause-fault
returns-in-Letrec-clause-fault c =
    let a = c.args.self.now in
    let p = c.args.pos in
    on_ok c.letrec.result
    (λ w d ds h k e. form_due a c.letrec.new.self p d ds keyword.Letrec (letrec_form p ds) (e ∙ ap Some c.in-Letrec.is) (λ q. refl) (rec_form a c.letrec.new.self p ds (w ds k)))
    c.letrec.ensures.fault

pub returns-in-Do-clause-fault : goal.returns-in-Do-clause-fault
returns-in-Do-clause-fault c =
    let a = c.args.self.now in
    let p = c.args.pos in
    on_ok c.do_loop.result
    (λ w d ds h k e. form_due a c.do_loop.new.self p d ds keyword.Do (do_form p ds) (e ∙ ap Some c.in-Do.is) (λ q. refl) (w d ds h))
    c.do_loop.ensures.fault

pub returns-in-Quasiquote-clause-fault : goal.returns-in-Quasiquote-clause-fault
returns-in-Quasiquote-clause-fault c =
    let a = c.args.self.now in
    let p = c.args.pos in
    on_ok c.quasiquote.result
    (λ w d ds h k e.
    form_due a c.quasiquote.new.self p d ds keyword.Quasiquote (quasi_form p ds) (e ∙ ap Some c.in-Quasiquote.is) (λ q. refl) (w ds k))
    c.quasiquote.ensures.fault

pub returns-in-Delay-clause-fault : goal.returns-in-Delay-clause-fault
returns-in-Delay-clause-fault c =
    let a = c.args.self.now in
    let p = c.args.pos in
    on_ok c.broken.result
    (λ w d ds h k e. form_due a c.broken.new.self p d ds keyword.Delay (Wrong p 16) (e ∙ ap Some c.in-Delay.is) (λ q. refl) w)
    c.broken.ensures

pub returns-in-Define-clause-fault : goal.returns-in-Define-clause-fault
returns-in-Define-clause-fault c =
    let a = c.args.self.now in
    let p = c.args.pos in
    on_ok c.broken-in-Define.result
    (λ w d ds h k e. form_due a c.broken-in-Define.new.self p d ds keyword.Define (Wrong p 11) (e ∙ ap Some c.in-Define.is) (λ q. refl) w)
    c.broken-in-Define.ensures

pub returns-in-Unquote-clause-fault : goal.returns-in-Unquote-clause-fault
returns-in-Unquote-clause-fault c =
    let a = c.args.self.now in
    let p = c.args.pos in
    on_ok c.broken-in-Unquote.result
    (λ w d ds h k e. form_due a c.broken-in-Unquote.new.self p d ds keyword.Unquote (Wrong p 14) (e ∙ ap Some c.in-Unquote.is) (λ q. refl) w)
    c.broken-in-Unquote.ensures

pub returns-in-Splice-clause-fault : goal.returns-in-Splice-clause-fault
returns-in-Splice-clause-fault c =
    let a = c.args.self.now in
    let p = c.args.pos in
    on_ok c.broken-in-Splice.result
    (λ w d ds h k e. form_due a c.broken-in-Splice.new.self p d ds keyword.Splice (Wrong p 14) (e ∙ ap Some c.in-Splice.is) (λ q. refl) w)
    c.broken-in-Splice.ensures

pub returns-in-Else-clause-fault : goal.returns-in-Else-clause-fault
returns-in-Else-clause-fault c =
    let a = c.args.self.now in
    on_ok c.word_call.result
    (λ w d ds h k e. word_due a c.word_call.new.self c.args.pos d ds keyword.Else (e ∙ ap Some c.in-Else.is) (λ q. refl) (w d ds h k))
    c.word_call.ensures

pub returns-in-Arrow-clause-fault : goal.returns-in-Arrow-clause-fault
returns-in-Arrow-clause-fault c =
    let a = c.args.self.now in
    on_ok c.word_call-in-Arrow.result
    (λ w d ds h k e. word_due a c.word_call-in-Arrow.new.self c.args.pos d ds keyword.Arrow (e ∙ ap Some c.in-Arrow.is) (λ q. refl) (w d ds h k))
    c.word_call-in-Arrow.ensures

pub returns-in-Quote-clause-core : goal.returns-in-Quote-clause-core
returns-in-Quote-clause-core c =
    let p = c.args.pos in
    on_ok c.quote.result
    (λ w κ v d ds i h k e r.
    form_turns κ c.args.self.now c.quote.new.self p d ds keyword.Quote (quote_form p ds) v (e ∙ ap Some c.in-Quote.is) (λ q. refl) r
    (λ q. w κ v ds i k q))
    c.quote.ensures.core

pub returns-in-Lambda-clause-core : goal.returns-in-Lambda-clause-core
returns-in-Lambda-clause-core c =
    let p = c.args.pos in
    on_ok c.lambda.result
    (λ w κ v d ds i h k e r.
    form_turns κ c.args.self.now c.lambda.new.self p d ds keyword.Lambda (lambda_form p ds) v (e ∙ ap Some c.in-Lambda.is) (λ q. refl) r
    (λ q. w κ v ds i k q))
    c.lambda.ensures.core

pub returns-in-If-clause-core : goal.returns-in-If-clause-core
returns-in-If-clause-core c =
    let p = c.args.pos in
    on_ok c.conditional.result
    (λ w κ v d ds i h k e r.
    form_turns κ c.args.self.now c.conditional.new.self p d ds keyword.If (if_form p ds) v (e ∙ ap Some c.in-If.is) (λ q. refl) r
    (λ q. w κ v ds i k q))
    c.conditional.ensures.core

pub returns-in-Set-clause-core : goal.returns-in-Set-clause-core
returns-in-Set-clause-core c =
    let p = c.args.pos in
    on_ok c.assignment.result
    (λ w κ v d ds i h k e r.
    form_turns κ c.args.self.now c.assignment.new.self p d ds keyword.Set (set_form p ds) v (e ∙ ap Some c.in-Set.is) (λ q. refl) r
    (λ q. w κ v ds i k q))
    c.assignment.ensures.core

pub returns-in-Begin-clause-core : goal.returns-in-Begin-clause-core
returns-in-Begin-clause-core c =
    let p = c.args.pos in
    on_ok c.begin.result
    (λ w κ v d ds i h k e r.
    form_turns κ c.args.self.now c.begin.new.self p d ds keyword.Begin (begin_form p ds) v (e ∙ ap Some c.in-Begin.is) (λ q. refl) r
    (λ q. w κ v ds i k q))
    c.begin.ensures.core

pub returns-in-Cond-clause-core : goal.returns-in-Cond-clause-core
returns-in-Cond-clause-core c =
    let p = c.args.pos in
    on_ok c.cond.result
    (λ w κ v d ds i h k e r.
    form_turns κ c.args.self.now c.cond.new.self p d ds keyword.Cond (cond_form p ds) v (e ∙ ap Some c.in-Cond.is) (λ q. refl) r
    (λ q. w κ v ds i k q))
    c.cond.ensures.core

pub returns-in-Case-clause-core : goal.returns-in-Case-clause-core
returns-in-Case-clause-core c =
    let p = c.args.pos in
    on_ok c.case.result
    (λ w κ v d ds i h k e r.
    form_turns κ c.args.self.now c.case.new.self p d ds keyword.Case (case_form p ds) v (e ∙ ap Some c.in-Case.is) (λ q. refl) r
    (λ q. w κ v d ds i h q))
    c.case.ensures.core

pub returns-in-And-clause-core : goal.returns-in-And-clause-core
returns-in-And-clause-core c =
    let p = c.args.pos in
    on_ok c.and.result
    (λ w κ v d ds i h k e r.
    form_turns κ c.args.self.now c.and.new.self p d ds keyword.And (And p (exprs ds)) v (e ∙ ap Some c.in-And.is) (λ q. refl) r
    (λ q. w κ v ds i k q))
    c.and.ensures.core

pub returns-in-Or-clause-core : goal.returns-in-Or-clause-core
returns-in-Or-clause-core c =
    let p = c.args.pos in
    on_ok c.or.result
    (λ w κ v d ds i h k e r.
    form_turns κ c.args.self.now c.or.new.self p d ds keyword.Or (Or p (exprs ds)) v (e ∙ ap Some c.in-Or.is) (λ q. refl) r
    (λ q. w κ v ds i k q))
    c.or.ensures.core

pub returns-in-Let-clause-core : goal.returns-in-Let-clause-core
returns-in-Let-clause-core c =
    let p = c.args.pos in
    on_ok c.any_let.result
    (λ w κ v d ds i h k e r.
    form_turns κ c.args.self.now c.any_let.new.self p d ds keyword.Let (let_form p ds) v (e ∙ ap Some c.in-Let.is) (λ q. refl) r
    (λ q. w κ v ds i k q))
    c.any_let.ensures.core

pub returns-in-LetStar-clause-core : goal.returns-in-LetStar-clause-core
returns-in-LetStar-clause-core c =
    let p = c.args.pos in
    on_ok c.let_star.result
    (λ w κ v d ds i h k e r.
    form_turns κ c.args.self.now c.let_star.new.self p d ds keyword.LetStar (let_star_form p ds) v (e ∙ ap Some c.in-LetStar.is) (λ q. refl) r
    (λ q. w κ v ds i k q))
    c.let_star.ensures.core

pub returns-in-Letrec-clause-core : goal.returns-in-Letrec-clause-core
returns-in-Letrec-clause-core c =
    let p = c.args.pos in
    on_ok c.letrec.result
    (λ w κ v d ds i h k e r.
    form_turns κ c.args.self.now c.letrec.new.self p d ds keyword.Letrec (letrec_form p ds) v (e ∙ ap Some c.in-Letrec.is) (λ q. refl) r
    (λ q. w κ v ds i k q))
    c.letrec.ensures.core

pub returns-in-Do-clause-core : goal.returns-in-Do-clause-core
returns-in-Do-clause-core c =
    let p = c.args.pos in
    on_ok c.do_loop.result
    (λ w κ v d ds i h k e r.
    form_turns κ c.args.self.now c.do_loop.new.self p d ds keyword.Do (do_form p ds) v (e ∙ ap Some c.in-Do.is) (λ q. refl) r
    (λ q. w κ v d ds i h q))
    c.do_loop.ensures.core

pub returns-in-Quasiquote-clause-core : goal.returns-in-Quasiquote-clause-core
returns-in-Quasiquote-clause-core c =
    let p = c.args.pos in
    on_ok c.quasiquote.result
    (λ w κ v d ds i h k e r.
    form_turns κ c.args.self.now c.quasiquote.new.self p d ds keyword.Quasiquote (quasi_form p ds) v (e ∙ ap Some c.in-Quasiquote.is) (λ q. refl) r
    (λ q. w κ v ds i k q))
    c.quasiquote.ensures.core

pub returns-in-Delay-clause-core : goal.returns-in-Delay-clause-core
returns-in-Delay-clause-core c =
    let p = c.args.pos in
    any_ok c.broken.result
    (λ κ v d ds i h k e r.
    absurd
    (wrong_not_right p 16 _ (begins p d ds keyword.Delay (Wrong p 16) (e ∙ ap Some c.in-Delay.is) (λ q. refl)) r))

pub returns-in-Define-clause-core : goal.returns-in-Define-clause-core
returns-in-Define-clause-core c =
    let p = c.args.pos in
    any_ok c.broken-in-Define.result
    (λ κ v d ds i h k e r.
    absurd
    (wrong_not_right p 11 _ (begins p d ds keyword.Define (Wrong p 11) (e ∙ ap Some c.in-Define.is) (λ q. refl)) r))

pub returns-in-Unquote-clause-core : goal.returns-in-Unquote-clause-core
returns-in-Unquote-clause-core c =
    let p = c.args.pos in
    any_ok c.broken-in-Unquote.result
    (λ κ v d ds i h k e r.
    absurd
    (wrong_not_right p 14 _ (begins p d ds keyword.Unquote (Wrong p 14) (e ∙ ap Some c.in-Unquote.is) (λ q. refl)) r))

pub returns-in-Splice-clause-core : goal.returns-in-Splice-clause-core
returns-in-Splice-clause-core c =
    let p = c.args.pos in
    any_ok c.broken-in-Splice.result
    (λ κ v d ds i h k e r.
    absurd
    (wrong_not_right p 14 _ (begins p d ds keyword.Splice (Wrong p 14) (e ∙ ap Some c.in-Splice.is) (λ q. refl)) r))

pub returns-in-Else-clause-core : goal.returns-in-Else-clause-core
returns-in-Else-clause-core c =
    any_ok c.word_call.result
    (λ κ v d ds i h k e r.
    absurd (operator_not_right c.args.pos d ds keyword.Else (e ∙ ap Some c.in-Else.is) (λ q. refl) r))

pub returns-in-Arrow-clause-core : goal.returns-in-Arrow-clause-core
returns-in-Arrow-clause-core c =
    any_ok c.word_call-in-Arrow.result
    (λ κ v d ds i h k e r.
    absurd (operator_not_right c.args.pos d ds keyword.Arrow (e ∙ ap Some c.in-Arrow.is) (λ q. refl) r))
