use Rattle.std.proofs.Common.{◌/◌, ◌%◌, ap, arith, length}
use Rattle.flow_form.specs.Shape.{stride_of}
use Rattle.flow_plain.proofs.Rules.{listed_in, rule_here}
use Rattle.flow_plain.proofs.BitsFollowing.{bits_all, bits_more}
use Rattle.flow_plain.proofs.follow.following.Goals as goal

pub loop-rule-preserved : goal.loop-rule-preserved
loop-rule-preserved c =
    bits_more c.args.c.now c.args.words.now c.loop-rule.rule-index c.loop-rule.bits c.given_in-bits.result
    (c.args.word / stride_of c.args.c.now) (c.args.word % stride_of c.args.c.now)
    (rule_here c.as_slice-rule-items.result.now c.loop-rule.rule-index)
    (listed_in c.args.c.now.rules c.as_slice-rule-items.result.now c.loop-rule.rule-index c.as_slice-rule-items.ensures c.loop-rule-test.true)
    c.loop-rule.invariant c.given_in-bits.ensures

pub returns : goal.returns
returns c = λ bit below.
    let all =
    bits_all c.args.c.now c.args.words.now c.loop-rule.rule-index _ _ (omega (arith, ap length c.as_slice-rule-items.ensures)) in
    let bits = c.loop-rule.invariant bit below in
    ((λ h. all.0 (bits.0 h)), (λ h. bits.1 (all.1 h)))
