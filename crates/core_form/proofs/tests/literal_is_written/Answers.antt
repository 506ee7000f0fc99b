use Rattle.core_form.proofs.CoreChecks.{has_text}
use Rattle.core_form.proofs.tests.literal_is_written.Goals as goal

pub core_text-requires : goal.core_text-requires
core_text-requires g c = has_text c.in_ok-core.core c.in_ok-core.ensures.exprs c.in_ok-core.ensures.forms c.in_ok-core.ensures.lits
