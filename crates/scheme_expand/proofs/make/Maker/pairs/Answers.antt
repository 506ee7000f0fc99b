use Rattle.std.proofs.Common.{[], refl, sym, append-nil}
use Rattle.scheme_base.specs.Constants.{Constant as constant}
use Rattle.draft_form.proofs.DraftsStay.{then_kept}
use Rattle.scheme_expand.proofs.HeldCalls.{more_drawn, no_more, next_listed, all_listed}
use Rattle.scheme_expand.proofs.Stacks.{draws_more}
use Rattle.scheme_expand.proofs.make.Maker.pairs.Goals as goal

pub loop-last-init : goal.loop-last-init
loop-last-init c = record {
  adds = more_drawn c.args.self.now c.constant.new.self c.in_ok-list.ensures.kept;
  lists =
      λ names nodes. record {
        after = [];
        are = sym (append-nil c.args.held.now);
        drawn = c.in_ok-list.ensures.drawn names nodes constant.Nil refl;
      };
}

pub loop-last-preserved : goal.loop-last-preserved
loop-last-preserved c =
    let a = c.loop-last.self in
    let t = c.reference.new.self in
    let u = c.binary.new.self in
    let keeps = c.in_ok-car.ensures.kept in
    record {
      adds =
          draws_more c.args.self.now a _ c.loop-last.invariant.adds
          (more_drawn a u (then_kept a.drafts t u keeps c.in_ok-list-2.ensures.kept));
      lists =
          λ names nodes.
          next_listed names nodes a.drafts t u c.args.pos c.loop-last.rest.now c.in-Some.others.now c.args.held.now c.in-Some.last.now
          c.loop-last.list c.in_ok-car.car c.in_ok-list-2.list (c.loop-last.invariant.lists names nodes) c.in-Some.ensures.cases.0 keeps
          (c.in_ok-car.ensures.drawn names nodes) (c.in_ok-list-2.ensures.drawn names nodes);
    }

pub returns-clause-drawn : goal.returns-clause-drawn
returns-clause-drawn c = λ names nodes.
    all_listed names nodes c.loop-last.self.drafts c.args.pos c.loop-last.rest.now c.args.held.now c.loop-last.list
    (c.loop-last.invariant.lists names nodes) (no_more c.loop-last.rest.now c.in_default.ensures.cases)
