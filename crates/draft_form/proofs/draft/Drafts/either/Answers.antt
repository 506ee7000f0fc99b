use Rattle.draft_form.specs.Drafts.{Draft, Fresh, Ref, If}
use Rattle.draft_form.proofs.DraftsMade.{if_ok}
use Rattle.draft_form.proofs.DraftsStay.{then_kept}
use Rattle.draft_form.proofs.LiteralsAdded.{on_ok}
use Rattle.draft_form.proofs.draft.Drafts.either.Goals as goal

pub returns-clause-kept : goal.returns-clause-kept
returns-clause-kept c =
    let first = c.in_ok-test.ensures.kept in
    let second = then_kept c.args.self.now c.reference.new.self c.reference-2.new.self first c.in_ok-yes.ensures.kept in
    let third = then_kept c.args.self.now c.reference-2.new.self c.conditional.new.self second c.in_ok-body.ensures.kept in
    on_ok c.bind_one.result (then_kept c.args.self.now c.conditional.new.self c.bind_one.new.self third) c.bind_one.ensures.kept

pub returns-clause-drawn : goal.returns-clause-drawn
returns-clause-drawn c =
    let first = c.in_ok-test.ensures.kept in
    let second = c.in_ok-yes.ensures.kept in
    let third = c.in_ok-body.ensures.kept in
    let held : Draft = Ref c.args.pos (Fresh c.args.level) in
    if_ok c.bind_one.result
    (λ id drawn names nodes d e value rest.
    drawn names nodes d (If c.args.pos held held e)
    (third.one names nodes c.args.value d (second.one names nodes c.args.value d (first.one names nodes c.args.value d value)))
    (c.in_ok-body.ensures.drawn names nodes held held e
    (second.one names nodes c.in_ok-test.test held (c.in_ok-test.ensures.drawn names nodes)) (c.in_ok-yes.ensures.drawn names nodes)
    (second.one names nodes c.args.rest e (first.one names nodes c.args.rest e rest))))
    c.bind_one.ensures.drawn
