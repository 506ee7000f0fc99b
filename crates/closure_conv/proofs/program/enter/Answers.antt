use Rattle.std.proofs.Common.{refl, ◌∙◌}
use Rattle.named_form.specs.Code.{bound_in}
use Rattle.named_form.specs.Written.{procedure}
use Rattle.closure_conv.proofs.Homes.{slotted_is}
use Rattle.closure_conv.proofs.Programs.{same_list}
use Rattle.closure_conv.proofs.program.enter.Goals as goal

pub returns : goal.returns
returns c =
    record {
      runs =
          record {
            tells =
                record {
                  capturing = c.requires.tells.capturing;
                  recording = c.requires.tells.recording;
                  fictitious = c.requires.tells.fictitious;
                  global = c.requires.tells.global;
                  compared = c.requires.tells.compared;
                };
            slots = same_list c.fill.new.self _ _ c.as_slice.ensures (λ x. c.in_ok-fill.ensures x);
            kept = same_list c.fill-2.new.self _ _ c.keeps.ensures (λ x. c.in_ok-fill-2.ensures x);
          };
      slotted = c.in_ok-tables.ensures ∙ slotted_is c.args.plan.now c.args.tables.now (bound_in (procedure c.args.proc.now)) c.requires.tells;
      proc = refl;
      tops = refl;
    }
