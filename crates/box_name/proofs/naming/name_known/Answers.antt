use Rattle.std.proofs.Common.{◌∙◌}
use Rattle.box_name.specs.Told.{all_told}
use Rattle.box_name.proofs.Knowing.{long_tops}
use Rattle.box_name.proofs.Whole.{named_is}
use Rattle.box_name.proofs.naming.name_known.Goals as goal

pub returns : goal.returns
returns c =
    λ forms holds knows.
    record {
      is =
          named_is (all_told c.args.core.now.lits forms) _ c.args.core.now.lits (c.in_ok-procs.ensures.are_named forms holds knows)
          (c.in_ok-tops.ensures ∙ long_tops c.args.core.now c.args.facts.now.survey (all_told c.args.core.now.lits forms) knows.survey)
          c.in_ok-lits.ensures;
      counted = c.in_ok-procs.ensures.counted forms holds knows;
    }
