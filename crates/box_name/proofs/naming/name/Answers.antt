use Rattle.std.proofs.lemmas.Result.{IfOk-weaker}
use Rattle.box_name.proofs.AllParts.{made_well}
use Rattle.box_name.proofs.naming.name.Goals as goal

pub returns-clause-is_named : goal.returns-clause-is_named
returns-clause-is_named c =
    IfOk-weaker c.name_known.result _ _ (λ made does forms holds. (does forms holds (c.in_ok-facts.ensures forms holds)).is)
    c.name_known.ensures

pub returns-clause-well_formed : goal.returns-clause-well_formed
returns-clause-well_formed c =
    IfOk-weaker c.name_known.result _ _
    (λ made does forms holds renamed.
    made_well c.args.core.now forms made (does forms holds (c.in_ok-facts.ensures forms holds)) renamed)
    c.name_known.ensures
