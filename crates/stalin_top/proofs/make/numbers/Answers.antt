use Rattle.std.proofs.Common.{rules, ◌≡◌, length, subst}
use Rattle.image_build.specs.Emitted.{Emitted, Refuses}
use Rattle.stalin_top.proofs.NumbersTold.{are_numbers, unmade}
use Rattle.stalin_top.proofs.make.numbers.Goals as goal

pub returns-in-Ok-lines : goal.returns-in-Ok-lines
returns-in-Ok-lines g c =
    let source : c.len.result ≡ length c.in-Ok.program.items = search rules in
    let image : c.len-2.result ≡ length c.in-Ok-build.file.items = search rules in
    are_numbers c.args.count c.args.heap c.len.result c.len-2.result c.in-Ok-sizes_of.sizes c.in-Ok.program.items
    c.in-Ok-build.file.items c.in-Ok-lines.text.items (c.in-Ok-sizes_of.ensures c.args.heap) c.in-Ok.ensures
    (subst (λ p. Emitted p c.args.heap c.in-Ok-build.file.items) c.as_slice-2.ensures.value c.in-Ok-build.ensures.built)
    source image c.in-Ok-lines.ensures

pub returns-in-Err-build : goal.returns-in-Err-build
returns-in-Err-build g c =
    unmade c.args.count c.args.heap c.in-Ok.program.items c.in-Err-build.error c.answer_to.result c.in-Ok.ensures
    (subst (λ p. Refuses p c.args.heap c.in-Err-build.error) c.as_slice-2.ensures.value c.in-Err-build.ensures.refused)
    c.answer_to.ensures
