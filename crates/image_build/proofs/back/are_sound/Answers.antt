use Rattle.std.proofs.Common.{rules}
use Rattle.image_build.proofs.Laid.{sound_on}
use Rattle.image_build.proofs.back.are_sound.Goals as goal

pub loop-part-preserved : goal.loop-part-preserved
loop-part-preserved c =
    sound_on c.in-Some.part.now c.as_slice.result.now c.loop-part.left.now c.in-Some.others.now c.args.parts.now
    c.in-Some.ensures.cases.0 (search rules) (search rules) c.loop-part.invariant
