use Rattle.std.proofs.Common.{◌≤◌, ◌*◌, arith}
use Rattle.flow_form.specs.Shape.{size_of}
use Rattle.flow_plain.proofs.PlainSteps.{pairs_left, progress_ends, progress_few, progress_start, progress_step}
use Rattle.flow_plain.proofs.solve.take_steps.Goals as goal

pub overflow_add-steps : goal.overflow_add-steps
overflow_add-steps c =
    let few : c.loop-steps.steps ≤ 64 * size_of c.args.c.now =
    progress_few c.args.c.now c.loop-steps.words c.loop-steps.next c.loop-steps.steps c.loop-steps.invariant in
    let valid = c.args.c.now.valid.few in
    omega arith

pub loop-steps-smaller : goal.loop-steps-smaller
loop-steps-smaller c =
    pairs_left c.args.c.now c.loop-steps.words c.step.new.words c.step.new.next c.loop-steps.invariant.size (omega arith)
    c.loop-steps-test.ensures

pub loop-steps-preserved : goal.loop-steps-preserved
loop-steps-preserved c =
    progress_step c.args.c.now c.loop-steps.words c.loop-steps.next c.step.new.words c.step.new.next c.loop-steps.steps
    c.loop-steps.invariant (omega arith) (omega arith) c.loop-steps-test.ensures

pub loop-steps-init : goal.loop-steps-init
loop-steps-init c = progress_start c.args.c.now c.args.words.now c.args.next.now c.requires.words c.requires.next

pub returns : goal.returns
returns c =
    let ends =
    progress_ends c.args.c.now c.loop-steps.words c.loop-steps.next c.step.new.words c.step.new.next c.loop-steps.steps
    c.loop-steps.invariant c.loop-steps-test.ensures in
    record { least = ends.0; chain = ends.1 }
