use Rattle.std.proofs.Common.{false, true, refl}
use Rattle.scheme_base.specs.Constants.{Constant as constant}
use Rattle.draft_form.proofs.DraftsMade.{if_ok}
use Rattle.scheme_expand.specs.Calls.{truth}
use Rattle.scheme_expand.proofs.make.Maker.negation.Goals as goal

pub returns-clause-drawn : goal.returns-clause-drawn
returns-clause-drawn c =
    let p = c.args.pos in
    let first = c.in_ok-yes.ensures.kept in
    let second = c.in_ok-no.ensures.kept in
    if_ok c.conditional.result
    (λ id drawn names nodes e test.
    drawn names nodes e (truth p false) (truth p true)
    (second.one names nodes c.args.test e (first.one names nodes c.args.test e test))
    (second.one names nodes c.in_ok-yes.yes (truth p false) (c.in_ok-yes.ensures.drawn names nodes (constant.Boolean false) refl))
    (c.in_ok-no.ensures.drawn names nodes (constant.Boolean true) refl))
    c.conditional.ensures.drawn
