use Rattle.draft_form.proofs.Ready.{core_text}
use Rattle.draft_form.proofs.growing.Growing.into_core.Goals as goal

pub returns-clause-text : goal.returns-clause-text
returns-clause-text c h = core_text c.args.self.exprs c.args.self.forms c.args.self.lits.items c.from_vec.result c.from_vec.ensures h.forms
