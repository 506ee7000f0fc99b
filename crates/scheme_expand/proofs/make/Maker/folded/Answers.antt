use Rattle.draft_form.proofs.DraftsStay.{then_kept}
use Rattle.scheme_expand.proofs.HeldCalls.{more_drawn, no_more, next_folded, all_folded}
use Rattle.scheme_expand.proofs.Stacks.{draws_more}
use Rattle.scheme_expand.proofs.make.Maker.folded.Goals as goal

pub loop-next-preserved : goal.loop-next-preserved
loop-next-preserved c =
    let a = c.loop-next.self in
    let t = c.reference.new.self in
    let u = c.binary.new.self in
    let keeps = c.in_ok-operand.ensures.kept in
    record {
      adds =
          draws_more c.args.self.now a _ c.loop-next.invariant.adds
          (more_drawn a u (then_kept a.drafts t u keeps c.in_ok-value.ensures.kept));
      folds =
          λ names nodes e h.
          next_folded names nodes a.drafts t u c.args.pos c.args.op c.loop-next.rest.now c.in-Some.others.now c.in-Some.next.now
          c.loop-next.value c.in_ok-operand.operand c.in_ok-value.value _ (c.loop-next.invariant.folds names nodes e h)
          c.in-Some.ensures.cases.0 keeps (c.in_ok-operand.ensures.drawn names nodes) (c.in_ok-value.ensures.drawn names nodes);
    }

pub returns-clause-drawn : goal.returns-clause-drawn
returns-clause-drawn c = λ names nodes e h.
    all_folded names nodes c.loop-next.self.drafts c.args.pos c.args.op c.loop-next.rest.now c.loop-next.value _
    (c.loop-next.invariant.folds names nodes e h) (no_more c.loop-next.rest.now c.in_default.ensures.cases)
