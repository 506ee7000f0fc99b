use Rattle.std.proofs.Common.{rules}
use Rattle.closure_conv.proofs.Indices.{cleared, cleared_all}
use Rattle.closure_conv.proofs.numbering.Numbering.clear.Goals as goal

pub loop-member-preserved : goal.loop-member-preserved
loop-member-preserved c = λ x.
    cleared c.args.members.now c.loop-member.member-index x _ _ _ (search rules) (c.loop-member.invariant x)
    (c.take.ensures x)

pub returns : goal.returns
returns c = λ x.
    cleared_all c.args.members.now c.loop-member.member-index x _ (search rules) (c.loop-member.invariant x)
