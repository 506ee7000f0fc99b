use Rattle.std.proofs.Common.{subst}
use Rattle.image_build.specs.Emitted.{Emitted, Refuses}
use Rattle.stalin_top.proofs.Stops.{stops_by}
use Rattle.stalin_top.proofs.source.build_source.Goals as goal

pub returns-in-Ok-build-clause-content : goal.returns-in-Ok-build-clause-content
returns-in-Ok-build-clause-content g c =
    record {
      text = c.in-Ok.text;
      held = c.in-Ok.ensures.content;
      emitted = subst (λ t. Emitted t c.args.heap c.in-Ok-build.bytes.items) c.as_slice.ensures c.in-Ok-build.ensures.built;
    }

pub returns-in-Ok-build-clause-cause : goal.returns-in-Ok-build-clause-cause
returns-in-Ok-build-clause-cause g c = record { later = c.read_source.ensures.cause.later; rose = λ is. absurd (cc) }

pub returns-clause-content : goal.returns-clause-content
returns-clause-content g c =
    stops_by (λ text error. Refuses text c.args.heap error) (g.H.Shelf.files c.args.shelf.now) c.args.source.now
    c.in-Ok.text c.in-Err-build.error c.answer_to.result c.in-Ok.ensures.content
    (subst (λ t. Refuses t c.args.heap c.in-Err-build.error) c.as_slice.ensures c.in-Err-build.ensures.refused)
    c.answer_to.ensures
