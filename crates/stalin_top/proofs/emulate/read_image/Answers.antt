use Rattle.std.proofs.Common.{subst}
use Rattle.std.specs.Prelude.{IfOk, IfErr}
use Rattle.elf_write.specs.Reading.{HoldsImage}
use Rattle.stalin_top.specs.Emulate.{IsNoImage}
use Rattle.stalin_top.proofs.emulate.read_image.Goals as goal

pub returns-clause-image : goal.returns-clause-image
returns-clause-image c = subst (λ b. IfOk c.image_of.result (HoldsImage b)) c.as_slice.ensures c.image_of.ensures.image

pub returns-clause-answer : goal.returns-clause-answer
returns-clause-answer c = subst (λ b. IfErr c.image_of.result (IsNoImage b)) c.as_slice.ensures c.image_of.ensures.answer
