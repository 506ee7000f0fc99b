use Rattle.std.proofs.Common.{◌≡◌, ◌+◌, length, map}
use Rattle.flat_form.specs.FlatWritten.{all_onto, step}
use Rattle.named_form.specs.Code.{past_code, labelled}
use Rattle.named_form.specs.Written.{code}
use Rattle.closure_conv.specs.FlatOf.{flat_code}
use Rattle.closure_conv.specs.Tables.{counts, scene}
use Rattle.closure_conv.proofs.Linked.{left}
use Rattle.closure_conv.proofs.block.+flatten.Given as goal

abbrev pub invariant-block-loop-step : goal.invariant-block-loop-step
invariant-block-loop-step l =
    record {
      done :
          all_onto (map step l.steps)
          (flat_code (scene l.plan l.tables) (labelled (counts l.at) l.tail (left l.step-items l.step-index l.from)))
          ≡ flat_code (scene l.plan l.tables) (labelled (counts l.initial.at) l.tail (code l.from));
      moved :
          past_code (counts l.at) (left l.step-items l.step-index l.from)
          ≡ past_code (counts l.initial.at) (code l.from);
      count : l.left + l.step-index ≡ length l.step-items;
    }
