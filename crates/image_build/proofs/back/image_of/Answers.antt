use Rattle.image_build.proofs.Laid.{laid, made_text, unlaid}
use Rattle.image_build.proofs.back.image_of.Goals as goal

pub returns-clause-image : goal.returns-clause-image
returns-clause-image g c =
    laid c.args.flat.now c.args.heap _ _ c.layout.result
    (made_text c.args.flat.now c.in-Ok.offsets _ c.in-Ok.ensures c.in-Ok-parts_of.ensures.text)
    c.in-Ok-static_words.ensures c.layout.ensures.image c.layout.ensures.valid

pub returns-clause-limit : goal.returns-clause-limit
returns-clause-limit g c =
    unlaid c.args.flat.now c.args.heap _ _ c.layout.result
    (made_text c.args.flat.now c.in-Ok.offsets _ c.in-Ok.ensures c.in-Ok-parts_of.ensures.text)
    c.in-Ok-static_words.ensures c.layout.ensures.image
