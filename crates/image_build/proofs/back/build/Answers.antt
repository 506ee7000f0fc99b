use Rattle.image_build.proofs.Files.{emitted, no_file, no_image}
use Rattle.image_build.proofs.Refusals.{no_file_of}
use Rattle.image_build.proofs.back.build.Goals as goal

pub returns-in-Err-clause-refused : goal.returns-in-Err-clause-refused
returns-in-Err-clause-refused g c = no_file_of c.args.source.now c.args.heap c.in-Err.error c.in-Err.ensures.refused

pub returns-in-Ok-image_of-clause-built : goal.returns-in-Ok-image_of-clause-built
returns-in-Ok-image_of-clause-built g c =
    emitted c.file_of.result (λ file. file.items) c.args.source.now c.args.heap c.in-Ok.analysis.named c.in-Ok-flat_of.flat
    c.in-Ok-image_of.image c.in-Ok.ensures.analysed.is_named c.in-Ok-flat_of.ensures c.in-Ok-image_of.ensures.image
    c.file_of.ensures.written

pub returns-in-Ok-image_of-clause-refused : goal.returns-in-Ok-image_of-clause-refused
returns-in-Ok-image_of-clause-refused g c =
    no_file c.file_of.result c.args.source.now c.args.heap c.file_of.ensures.refused

pub returns-clause-refused : goal.returns-clause-refused
returns-clause-refused g c =
    no_image c.args.source.now c.args.heap c.in-Ok.analysis.named c.in-Ok-flat_of.flat c.in-Err-image_of.error c.limit_error.result
    c.in-Ok.ensures.analysed.is_named c.in-Ok-flat_of.ensures c.in-Err-image_of.ensures.limit c.limit_error.ensures
