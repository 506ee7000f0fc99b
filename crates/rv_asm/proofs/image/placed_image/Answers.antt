use Rattle.std.proofs.Common.{ap, ◌∙◌, subst, sym, length}
use Rattle.rv_asm.specs.Layout.{items_of}
use Rattle.rv_asm.specs.Symbols.{placing_in, IsNear}
use Rattle.rv_asm.proofs.Placed.{placing_near, image_made}
use Rattle.rv_asm.proofs.image.placed_image.Goals as goal

pub text_bytes-requires-clause-near : goal.text_bytes-requires-clause-near
text_bytes-requires-clause-near c =
    subst IsNear (sym c.requires.placed)
    (placing_near (items_of c.args.parts.now) (length c.args.words.now) c.args.heap c.requires.size c.requires.heap)

pub data_bytes-requires-clause-near : goal.data_bytes-requires-clause-near
data_bytes-requires-clause-near c =
    subst IsNear (sym c.requires.placed)
    (placing_near (items_of c.args.parts.now) (length c.args.words.now) c.args.heap c.requires.size c.requires.heap)

pub returns : goal.returns
returns c =
    ap (λ segments. record { entry = 65536; segments = segments }) c.in_ok-two_segments.ensures
    ∙ image_made (items_of c.args.parts.now) c.args.words.now c.args.heap (placing_in c.args.symbols.now) c.in_ok-text.text c.in_ok-contents.contents
    c.len.result c.len-2.result c.args.symbols.now.«data» c.requires.placed c.in_ok-text.ensures c.in_ok-contents.ensures c.len.ensures c.len-2.ensures
    (ap (λ p. p.data_start) c.requires.placed)
