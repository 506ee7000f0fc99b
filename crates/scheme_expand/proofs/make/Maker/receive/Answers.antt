use Rattle.std.proofs.Common.{[], ◌∷◌, None}
use Rattle.draft_form.specs.Drafts.{Draft, Fresh, Ref, If, Lambda, Call}
use Rattle.draft_form.proofs.DraftsStay.{then_kept}
use Rattle.scheme_expand.specs.Calls.{one}
use Rattle.scheme_expand.proofs.AddedDrafts.{both_ok}
use Rattle.scheme_expand.proofs.Stacks.{redrawn, three_given, three_taken}
use Rattle.scheme_expand.proofs.make.Maker.receive.Goals as goal

pub returns : goal.returns
returns c =
    both_ok c.bind_one.result
    (λ id kept drawn k v w i e.
    let p = c.args.pos in
    let names = k.names in
    let nodes = k.source.nodes.now in
    let held : Draft = Ref p (Fresh c.args.level) in
    let first = c.in_ok-held.ensures.kept in
    let both = then_kept c.take-3.new.self.drafts c.reference.new.self c.conditional.new.self first c.in_ok-body.ensures.kept in
    three_given k c.take-3.new.self _ c.in_ok-test.test c.in_ok-yes.yes c.in_ok-no.no id v w
    (λ test yes no. Call p (Lambda p (Fresh c.args.level ∷ []) None (If p held yes no)) (one test))
    (three_taken k c.args.self.now c.take.new.self c.take-2.new.self c.take-3.new.self c.in_ok-test.test c.in_ok-yes.yes c.in_ok-no.no v i
    c.in_ok-test.ensures c.in_ok-yes.ensures c.in_ok-no.ensures)
    (redrawn c.take-3.new.self c.bind_one.new.self (then_kept c.take-3.new.self.drafts c.conditional.new.self c.bind_one.new.self both kept))
    (λ test yes no x y z.
    drawn names nodes test (If p held yes no) (both.one names nodes c.in_ok-test.test test x)
    (c.in_ok-body.ensures.drawn names nodes held yes no (c.in_ok-held.ensures.drawn names nodes) (first.one names nodes c.in_ok-yes.yes yes y)
    (first.one names nodes c.in_ok-no.no no z)))
    e)
    c.bind_one.ensures.kept c.bind_one.ensures.drawn
