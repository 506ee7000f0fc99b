use Rattle.std.proofs.Common.{rules}
use Rattle.std.proofs.lemmas.List.{nil_from_length}
use Rattle.box_name.proofs.Finding.{pairing_begins, pairing_on, pairing_ends, pairing_breaks}
use Rattle.box_name.proofs.survey.Survey.note_holes.Goals as goal

pub loop-param-init : goal.loop-param-init
loop-param-init c =
    λ form es ses.
    pairing_begins c.args.core.now form c.args.self.now c.args.params.now _ es c.args.operands.now _ ses (search rules) (search rules)

pub loop-param-preserved : goal.loop-param-preserved
loop-param-preserved c =
    λ form es ses.
    pairing_on c.args.core.now form c.args.self.now c.loop-param.self c.note_operand.new.self c.args.params.now c.loop-param.params.now es
    c.in-Some.param.now c.in-Some.other_params.now c.in-Some-split_first.operand.now c.loop-param.operands.now c.in-Some-split_first.other_operands.now
    c.is_hole.result (c.loop-param.invariant form es ses) (search rules) (search rules) c.is_hole.ensures
    (c.in_ok-note_operand.ensures c.args.core.now form)

pub returns-in_default-split_first : goal.returns-in_default-split_first
returns-in_default-split_first c =
    λ form es ses.
    pairing_breaks c.args.core.now form c.args.self.now c.loop-param.self c.args.params.now c.loop-param.params.now es c.in-Some.param.now
    c.in-Some.other_params.now c.loop-param.operands.now (c.loop-param.invariant form es ses) (search rules) (nil_from_length _ c.in_default-split_first.ensures.cases)

pub returns : goal.returns
returns c =
    λ form es ses.
    pairing_ends c.args.core.now form c.args.self.now c.loop-param.self c.args.params.now c.loop-param.params.now es c.loop-param.operands.now
    (c.loop-param.invariant form es ses) (nil_from_length _ c.in_default.ensures.cases)
