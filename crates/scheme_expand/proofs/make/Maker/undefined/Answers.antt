use Rattle.scheme_base.specs.Constants.{Constant as constant}
use Rattle.std.proofs.Common.{refl}
use Rattle.scheme_expand.proofs.MadeLetrecs.{undefined_more}
use Rattle.scheme_expand.proofs.Stacks.{draws_more, redrawn}
use Rattle.scheme_expand.proofs.make.Maker.undefined.Goals as goal

pub loop-value-preserved : goal.loop-value-preserved
loop-value-preserved c =
    let keeps = c.in_ok-value.ensures.kept in
    record {
      kept = draws_more c.args.self.now c.loop-value.self _ c.loop-value.invariant.kept (redrawn c.loop-value.self c.constant.new.self keeps);
      drawn =
          λ names nodes.
          undefined_more names nodes c.loop-value.self.drafts c.constant.new.self c.args.pos c.loop-value._value c.in_ok-value.value c.loop-value.values
          c.push.new.self (c.loop-value.invariant.drawn names nodes) (keeps.all names nodes c.loop-value.values)
          (c.in_ok-value.ensures.drawn names nodes constant.Undefined refl) c.in_ok-push.ensures.ok;
    }
