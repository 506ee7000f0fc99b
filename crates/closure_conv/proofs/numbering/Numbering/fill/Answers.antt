use Rattle.std.proofs.Common.{rules}
use Rattle.closure_conv.proofs.Indices.{filled}
use Rattle.closure_conv.proofs.numbering.Numbering.fill.Goals as goal

pub loop-member-preserved : goal.loop-member-preserved
loop-member-preserved c =
    record {
      numbers =
          λ x.
          filled c.args.members.now c.loop-member.member-index c.loop-member.next x _ _ (search rules)
          c.loop-member.invariant.next (c.loop-member.invariant.numbers x) (c.in_ok-give.ensures x);
      next = search rules;
    }
