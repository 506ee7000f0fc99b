-- Where what is left may be laid out, all of it may.
use Rattle.std.proofs.Common.{length}
use Rattle.rv_asm.specs.Layout.{AreSound, items_of}
use Rattle.image_build.proofs.back.are_sound.Given as goal

abbrev pub invariant-loop-part : goal.invariant-loop-part
invariant-loop-part l = AreSound (items_of l.left) → AreSound (items_of l.parts)

abbrev pub decreases-loop-part : goal.decreases-loop-part
decreases-loop-part l = length l.left
