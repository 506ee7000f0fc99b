use Rattle.image_build.proofs.Refusals.{broken_text, later_text}
use Rattle.image_build.proofs.front.named_data.Goals as goal

pub returns-in-Err-clause-refused : goal.returns-in-Err-clause-refused
returns-in-Err-clause-refused c = λ source ds reads h.
    broken_text source ds c.in-Err.error c.form_error.result reads (c.in-Err.ensures.core ds h) c.form_error.ensures

pub returns-clause-is_named : goal.returns-clause-is_named
returns-clause-is_named c = λ source ds reads h.
    c.named_core.ensures.is_named source ds reads (c.in-Ok.ensures.core ds h)

pub returns-clause-refused : goal.returns-clause-refused
returns-clause-refused c = λ source ds reads h.
    later_text source c.named_core.result (c.named_core.ensures.refused source ds reads (c.in-Ok.ensures.core ds h))
