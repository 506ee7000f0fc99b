use Rattle.scheme_expand.proofs.DefinitionsPicked.{one_picked}
use Rattle.scheme_expand.proofs.assemble.Whole.definition.Goals as goal

pub returns : goal.returns
returns c =
    one_picked c.args.self.library.forms.now c.args.number c.in_ok-index.index c.in_ok-form.form c.in_ok-index.ensures
    c.in_ok-form.ensures
