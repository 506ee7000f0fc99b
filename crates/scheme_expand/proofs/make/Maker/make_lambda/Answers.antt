use Rattle.std.proofs.Common.{refl, sym, ap, subst, ◌∙◌}
use Rattle.draft_form.specs.Drawn.{Drawn}
use Rattle.scheme_expand.specs.Making.{lambda_made, names_from}
use Rattle.scheme_expand.specs.Views.{leave}
use Rattle.scheme_expand.proofs.AddedDrafts.{both_ok, lambda_added}
use Rattle.scheme_expand.proofs.Stacks.{made_left, one_given, one_taken, redrawn}
use Rattle.scheme_expand.proofs.make.Maker.make_lambda.Goals as goal

pub returns : goal.returns
returns c =
    both_ok c.add.result
    (λ id kept added k v w i e.
    let p = c.args.pos in
    let level = c.args.level in
    let names = k.names in
    let nodes = k.source.nodes.now in
    let body = c.in_ok-body.body in
    let made = made_left k c.args.self.now _ v level i (c.leave.ensures names v.bound i.words i.scope) refl refl refl in
    let params = c.in_ok-variables.ensures names v.bound i.words i.scope in
    one_given k c.take.new.self _ body id (leave level v) w (lambda_made p c.args.has_rest (names_from k level v))
    (one_taken k _ c.take.new.self body (leave level v) made c.in_ok-body.ensures) (redrawn c.take.new.self c.add.new.self kept)
    (λ d drawn.
    subst (Drawn names nodes c.add.new.self id)
    (sym (c.without_rest-params.ensures names p d) ∙ ap (λ xs. lambda_made p c.args.has_rest xs d) params)
    (lambda_added names nodes c.take.new.self.drafts c.add.new.self c.without_rest-params.result.0 c.without_rest-params.result.1 body p id _ _ d
    added refl refl drawn))
    e)
    c.add.ensures.kept c.add.ensures.added
