use Rattle.std.proofs.Common.{◌≡◌, drop}
use Rattle.rv_form.specs.Image.{flags_at}
use Rattle.elf_write.proofs.segments.flags_of.Given as goal

abbrev pub invariant-loop-segment : goal.invariant-loop-segment
invariant-loop-segment l = flags_at l.segments l.address ≡ flags_at (drop l.segment-index l.segments) l.address
