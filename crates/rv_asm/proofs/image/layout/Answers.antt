use Rattle.std.proofs.Common.{rules, sym, subst}
use Rattle.elf_write.specs.Valid.{IsValid}
use Rattle.rv_asm.proofs.Valid.{image_valid}
use Rattle.rv_asm.proofs.image.layout.Goals as goal

pub returns-in-Ok-image_of-clause-valid : goal.returns-in-Ok-image_of-clause-valid
returns-in-Ok-image_of-clause-valid c = λ some.
    subst IsValid (sym c.in-Ok-image_of.ensures)
    (image_valid c.args.parts.now c.args.words.now c.args.heap c.requires.heap (search rules) some)
