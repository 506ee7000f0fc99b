use Rattle.std.proofs.Common.{rules, refl}
use Rattle.box_name.specs.Told.{all_told}
use Rattle.box_name.proofs.Finding.{found_all}
use Rattle.box_name.proofs.survey.Survey.new.Goals as goal

pub returns : goal.returns
returns c =
    λ forms holds.
    found_all c.args.core.now _ c.survey_forms.new.self (all_told c.args.core.now.lits forms) (c.in_ok-survey_forms.ensures forms holds)
    (search rules) (search rules) (search rules) (search rules) (search rules)
