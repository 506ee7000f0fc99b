use Rattle.std.proofs.Common.{false, refl}
use Rattle.scheme_base.specs.Constants.{Constant as constant}
use Rattle.draft_form.specs.Drafts.{Ref}
use Rattle.draft_form.specs.Drawn.{name_of}
use Rattle.draft_form.proofs.DraftsStay.{then_kept}
use Rattle.scheme_expand.specs.Calls.{comparison}
use Rattle.scheme_expand.specs.Making.{comparing}
use Rattle.scheme_expand.proofs.HeldCalls.{more_drawn, no_more, next_chained, all_chained}
use Rattle.scheme_expand.proofs.Stacks.{draws_more}
use Rattle.scheme_expand.proofs.make.Maker.chain.Goals as goal

pub loop-last-preserved : goal.loop-last-preserved
loop-last-preserved c =
    let a = c.loop-last.self in
    let b = c.compare-in-Some-split_last-2.new.self in
    let t = c.constant.new.self in
    let u = c.conditional.new.self in
    let p = c.args.pos in
    let how = comparing c.args.comparison in
    let last = c.in-Some-split_last-2.last.now in
    let test = c.in_ok-test.test in
    let falsity = c.in_ok-no.ensures.kept in
    record {
      adds =
          draws_more c.args.self.now a _ c.loop-last.invariant.adds
          (draws_more a b _ c.in_ok-test.ensures.kept (more_drawn b u (then_kept b.drafts t u falsity c.in_ok-all-2.ensures.kept)));
      chains =
          λ names nodes.
          next_chained names nodes a.drafts t u p how c.loop-last.rest.now c.in-Some-split_last-2.others.now c.args.held.now
          c.loop-last.next last c.loop-last.all test c.in_ok-no.no c.in_ok-all-2.all (c.loop-last.invariant.chains names nodes)
          c.in-Some-split_last-2.ensures.cases.0 (then_kept a.drafts b.drafts t c.in_ok-test.ensures.kept.drafts falsity)
          (falsity.one names nodes test (comparison p how (Ref p (name_of names last)) (Ref p (name_of names c.loop-last.next)))
          (c.in_ok-test.ensures.drawn names nodes))
          (c.in_ok-no.ensures.drawn names nodes (constant.Boolean false) refl) (c.in_ok-all-2.ensures.drawn names nodes);
    }

pub returns-clause-drawn : goal.returns-clause-drawn
returns-clause-drawn c = λ names nodes d h.
    all_chained names nodes c.loop-last.self.drafts c.args.pos (comparing c.args.comparison) c.loop-last.rest.now c.args.held.now
    c.loop-last.next c.loop-last.all d (c.loop-last.invariant.chains names nodes)
    (no_more c.loop-last.rest.now c.in_default-split_last-2.ensures.cases) h
