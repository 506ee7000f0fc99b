use Rattle.std.proofs.Common.{sym, ap, ◌∙◌, arith}
use Rattle.elf_write.specs.Reading.{top}
use Rattle.elf_write.specs.Valid.{memory_size}
use Rattle.elf_write.proofs.Loading.{top_append, memory_append}
use Rattle.elf_write.proofs.segments.Loaded.add.Goals as goal

pub invariant_of-self-2-clause-ends : goal.invariant_of-self-2-clause-ends
invariant_of-self-2-clause-ends c =
    let room = c.requires.loadable c.if-header-ne-LOADED.false in
    sym (ap top c.in_ok-push.ensures.ok ∙ top_append _ _ room.above)

pub invariant_of-self-2-clause-sized : goal.invariant_of-self-2-clause-sized
invariant_of-self-2-clause-sized c =
    sym (ap memory_size c.in_ok-push.ensures.ok ∙ (memory_append _ _ ∙ omega (arith, c.args.self.now.sized)))
