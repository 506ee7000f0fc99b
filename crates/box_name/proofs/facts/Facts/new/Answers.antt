use Rattle.box_name.specs.Told.{all_told}
use Rattle.box_name.proofs.Knowing.{knows_all}
use Rattle.box_name.proofs.facts.Facts.new.Goals as goal

pub returns : goal.returns
returns c =
    λ forms holds.
    record {
      survey = c.in_ok-survey.ensures forms holds;
      knows =
          knows_all c.args.core.now _ (all_told c.args.core.now.lits forms) (c.in_ok-survey.ensures forms holds)
          (c.in_ok-sure.ensures forms holds);
    }
