use Rattle.core_form.proofs.ValidTexts.{valid_has_text}
use Rattle.core_form.proofs.law.valid_cores.Goals as goal

pub returns : goal.returns
returns c = valid_has_text
