use Rattle.std.proofs.Common.{[], ◌∷◌, None}
use Rattle.draft_form.specs.Drafts.{Set, Call, Lambda, Define}
use Rattle.draft_form.specs.Drawn.{name_of}
use Rattle.draft_form.specs.Made.{either}
use Rattle.draft_form.proofs.DraftsMade.{if_ok}
use Rattle.scheme_expand.specs.declared.step.Step.TheVariants as step
use Rattle.scheme_expand.specs.Calls.{one}
use Rattle.scheme_expand.proofs.AddedDrafts.{both_ok, define_added, set_added}
use Rattle.scheme_expand.proofs.Stacks.{comes_as, makes_as, one_given, one_taken, redrawn, two_given, two_taken}
use Rattle.scheme_expand.proofs.make.Maker.make_bound.Goals as goal

pub returns-in_ok-rest-in-Either : goal.returns-in_ok-rest-in-Either
returns-in_ok-rest-in-Either c =
    both_ok c.either.result
    (λ id kept drawn k v w i h.
    let p = c.in-Either.pos in
    let level = c.in-Either.level in
    let m = c.take-in-Either.new.self in
    let value = c.in_ok-value-in-Either.value in
    let rest = c.in_ok-rest-in-Either.rest in
    two_given k m _ value rest id v w (either p level)
    (two_taken k c.args.self.now c.take.new.self m value rest v i c.in_ok-value-in-Either.ensures c.in_ok-rest-in-Either.ensures)
    (redrawn m c.either.new.self kept) (drawn k.names k.source.nodes.now) (comes_as k c.args.step (step.Either p level) v w c.in-Either.is h))
    c.either.ensures.kept c.either.ensures.drawn

pub returns-in-Receive : goal.returns-in-Receive
returns-in-Receive c =
    if_ok c.receive.result (λ id made. makes_as c.args.step (step.Receive c.in-Receive.pos c.in-Receive.level) _ _ id c.in-Receive.is made)
    c.receive.ensures

pub returns-in-IsAmong : goal.returns-in-IsAmong
returns-in-IsAmong c =
    if_ok c.is_among.result
    (λ id made. makes_as c.args.step (step.IsAmong c.in-IsAmong.pos c.in-IsAmong.data c.in-IsAmong.level) _ _ id c.in-IsAmong.is made)
    c.is_among.ensures

pub returns-in_ok-value-in-Assign : goal.returns-in_ok-value-in-Assign
returns-in_ok-value-in-Assign c =
    both_ok c.add.result
    (λ id kept added k v w i h.
    let p = c.in-Assign.pos in
    let x = c.in-Assign.var in
    let m = c.take-in-Assign.new.self in
    let value = c.in_ok-value-in-Assign.value in
    one_given k m _ value id v w (Set p (name_of k.names x)) (one_taken k c.args.self.now m value v i c.in_ok-value-in-Assign.ensures)
    (redrawn m c.add.new.self kept) (λ d drawn. set_added k.names k.source.nodes.now m.drafts c.add.new.self x value p id d added drawn)
    (comes_as k c.args.step (step.Assign p x) v w c.in-Assign.is h))
    c.add.ensures.kept c.add.ensures.added

pub returns-in_ok-value-in-Define : goal.returns-in_ok-value-in-Define
returns-in_ok-value-in-Define c =
    both_ok c.add-in-Define.result
    (λ id kept added k v w i h.
    let p = c.in-Define.pos in
    let x = c.in-Define.var in
    let m = c.take-in-Define.new.self in
    let value = c.in_ok-value-in-Define.value in
    one_given k m _ value id v w (Define p (name_of k.names x)) (one_taken k c.args.self.now m value v i c.in_ok-value-in-Define.ensures)
    (redrawn m c.add-in-Define.new.self kept)
    (λ d drawn. define_added k.names k.source.nodes.now m.drafts c.add-in-Define.new.self x value p id d added drawn)
    (comes_as k c.args.step (step.Define p x) v w c.in-Define.is h))
    c.add-in-Define.ensures.kept c.add-in-Define.ensures.added

pub returns-in-Lambda : goal.returns-in-Lambda
returns-in-Lambda c =
    if_ok c.make_lambda.result
    (λ id made. makes_as c.args.step (step.Lambda c.in-Lambda.pos c.in-Lambda.level c.in-Lambda.has_rest) _ _ id c.in-Lambda.is made)
    c.make_lambda.ensures

pub returns-in_ok-body-in-Bind : goal.returns-in_ok-body-in-Bind
returns-in_ok-body-in-Bind c =
    both_ok c.bind_one.result
    (λ id kept drawn k v w i h.
    let p = c.in-Bind.pos in
    let x = c.in-Bind.variable in
    let m = c.take-in-Bind-2.new.self in
    let value = c.in_ok-value-in-Bind.value in
    let body = c.in_ok-body-in-Bind.body in
    two_given k m _ value body id v w (λ d e. Call p (Lambda p (name_of k.names x ∷ []) None e) (one d))
    (two_taken k c.args.self.now c.take-in-Bind.new.self m value body v i c.in_ok-value-in-Bind.ensures c.in_ok-body-in-Bind.ensures)
    (redrawn m c.bind_one.new.self kept) (drawn k.names k.source.nodes.now) (comes_as k c.args.step (step.Bind p x) v w c.in-Bind.is h))
    c.bind_one.ensures.kept c.bind_one.ensures.drawn

pub returns-in-Letrec : goal.returns-in-Letrec
returns-in-Letrec c =
    if_ok c.make_letrec.result
    (λ id made. makes_as c.args.step (step.Letrec c.in-Letrec.pos c.in-Letrec.level c.in-Letrec.all_lambdas) _ _ id c.in-Letrec.is made)
    c.make_letrec.ensures
