use Rattle.std.proofs.Common.{sym, ap, ◌∙◌}
use Rattle.std.specs.Prelude.{max}
use Rattle.std.proofs.Math.Nat.{zero-max}
use Rattle.flat_form.specs.FlatWritten.{act}
use Rattle.const_data.specs.Words.{arm_code, most_in, most_in_arm, most_of}
use Rattle.const_data.proofs.Linked.{code_is, if_is, left, most_more, reached_more, unreached_more}
use Rattle.const_data.proofs.arguments.+arguments.Goals as goal
use Rattle.const_data.proofs.arguments.+arguments.Goals.{most_operands-then-step+in_ok-operands_in, most_operands-else-step}

pub most_operands-loop-step-init : goal.most_operands-loop-step-init
most_operands-loop-step-init t c =
    zero-max (most_in (left c.as_slice-step-items.result.now 0 c.args.block.now))
    ∙ ap most_in (sym (code_is c.args.block.now c.as_slice-step-items.result.now c.as_slice-step-items.ensures))

pub most_operands-loop-step-preserved : goal.most_operands-loop-step-preserved
most_operands-loop-step-preserved t c =
    let s = c.step-item.result in
    most_more c.as_slice-step-items.result.now c.loop-step.step-index s c.args.block.now c.loop-step.most c.if-step.most _
    c.loop-step-test.true c.step-item.is
    (elim c.if-step.branch [
      | most_operands-then-step+in_ok-operands_in w ↦
          reached_more s.reached c.loop-step.most (most_of (act s.act)) c.if-step.most w.if-step.true
          (w.most-is ∙ w.larger-most.ensures ∙ ap (max c.loop-step.most) w.in_ok-operands_in.ensures)
      | most_operands-else-step w ↦
          unreached_more s.reached c.loop-step.most (most_of (act s.act)) c.if-step.most w.if-step.false w.most-is
    ])
    c.loop-step.invariant

pub operands_in-returns-in_ok-that-in-If : goal.operands_in-returns-in_ok-that-in-If
operands_in-returns-in_ok-that-in-If t c =
    c.larger.ensures
    ∙ ap (λ n. max n c.in_ok-that-in-If.that) c.in_ok-this-in-If.ensures
    ∙ ap (max (most_in_arm (arm_code c.in-If.yes))) c.in_ok-that-in-If.ensures
    ∙ sym (ap most_of (ap act c.in-If.is ∙ if_is c.in-If.test c.in-If.tail c.in-If.yes c.in-If.no))
