use Rattle.std.proofs.Common.{◌≡◌, ◌+◌, ◌++◌, true, not, sym, ap, ◌∙◌}
use Rattle.flat_form.specs.FlatWritten.{act}
use Rattle.tail_codegen.specs.Items.{Puts}
use Rattle.tail_codegen.specs.Templates.{block, labels_in, labels_of, spot_of, step}
use Rattle.tail_codegen.specs.Written.{end_of, unit}
use Rattle.tail_codegen.proofs.Linked.{code_is, known_of, left, left_is}
use Rattle.tail_codegen.proofs.OneStepMore.{reached_items, reached_labels, unreached_items, unreached_labels}
use Rattle.tail_codegen.proofs.block.+code.Goals as goal
use Rattle.tail_codegen.proofs.block.+code.Goals.{block-then-step+in_ok-act, block-else-step}

pub block-loop-step-init : goal.block-loop-step-init
block-loop-step-init t c =
    let e = sym (code_is c.args.block.now c.as_slice-step-items.result.now c.as_slice-step-items.ensures) in (
      (λ rest. ap (λ b. c.args.asm.now ++ block (unit c.args.unit.now) c.args.labels.now true b (end_of c.args.end) rest) e),
      ap (λ b. c.args.labels.now + labels_in b) e,
    )

pub block-loop-step-preserved : goal.block-loop-step-preserved
block-loop-step-preserved t c =
    let next = left_is c.as_slice-step-items.result.now c.loop-step.step-index c.step-item.result c.args.block.now
    c.loop-step-test.true c.step-item.is in
    let u = unit c.args.unit.now in
    let s = c.step-item.result in
    let k = known_of s in
    let a = act s.act in
    let steps = c.as_slice-step-items.result.now in
    let i = c.loop-step.step-index in
    let whole = left steps i c.args.block.now in
    let more = left steps (i + 1) c.args.block.now in
    let n = c.loop-step.labels in
    elim c.if-step.branch [
      | block-then-step+in_ok-act w ↦
          let to = w.as_slice-then-step.ensures in
          let moves : c.if-step.labels ≡ n + labels_of a = w.labels-is ∙ w.in_ok-act.ensures.labels in
          let puts : Puts c.loop-step.asm c.if-step.asm (step u n (spot_of k) s.to a) =
          (λ rest.
          ap (λ t. t ++ rest) w.asm-is ∙ w.in_ok-act.ensures.items rest
          ∙ ap (λ xs. c.loop-step.asm ++ step u n (spot_of k) xs a rest) to) in (
            (λ rest.
                reached_items u n c.if-step.labels c.loop-step.open c.if-step.open k s.to a whole more (end_of c.args.end) _
                c.loop-step.asm c.if-step.asm rest next w.if-step.true moves
                (w.open-is ∙ ap not w.ends-open.ensures) puts (c.loop-step.invariant.0 rest)),
            reached_labels n c.if-step.labels _ k s.to a whole more next w.if-step.true moves c.loop-step.invariant.1,
          )
      | block-else-step w ↦ (
        (λ rest.
            unreached_items u n c.if-step.labels c.loop-step.open c.if-step.open k s.to a whole more (end_of c.args.end) _
            c.loop-step.asm c.if-step.asm rest next w.if-step.false w.labels-is w.open-is w.asm-is
            (c.loop-step.invariant.0 rest)),
        unreached_labels n c.if-step.labels _ k s.to a whole more next w.if-step.false w.labels-is c.loop-step.invariant.1,
      )
    ]
