use Rattle.std.proofs.Common.{subst}
use Rattle.image_build.specs.Emitted.{IsAnalysed, Unanalysed}
use Rattle.stalin_top.proofs.Stops.{stops_by}
use Rattle.stalin_top.proofs.source.analyse_source.Goals as goal

pub returns-in-Ok-analyse-clause-content : goal.returns-in-Ok-analyse-clause-content
returns-in-Ok-analyse-clause-content g c =
    record {
      text = c.in-Ok.text;
      held = c.in-Ok.ensures.content;
      analysed = subst (λ t. IsAnalysed t c.in-Ok-analyse.analysis) c.as_slice.ensures c.in-Ok-analyse.ensures.analysed;
    }

pub returns-in-Ok-analyse-clause-cause : goal.returns-in-Ok-analyse-clause-cause
returns-in-Ok-analyse-clause-cause g c = record { later = c.read_source.ensures.cause.later; rose = λ is. absurd (cc) }

pub returns-clause-content : goal.returns-clause-content
returns-clause-content g c =
    stops_by Unanalysed (g.H.Shelf.files c.args.shelf.now) c.args.source.now
    c.in-Ok.text c.in-Err-analyse.error c.answer_to.result c.in-Ok.ensures.content
    (subst (λ t. Unanalysed t c.in-Err-analyse.error) c.as_slice.ensures c.in-Err-analyse.ensures.refused)
    c.answer_to.ensures
