use Rattle.std.proofs.Common.{rules, ◌∙◌}
use Rattle.closure_conv.specs.Tables.{counts}
use Rattle.closure_conv.proofs.Programs.{procs_one}
use Rattle.closure_conv.proofs.program.flatten.Goals as goal

pub loop-proc-preserved : goal.loop-proc-preserved
loop-proc-preserved c =
    let now = c.in_ok-procedure.ensures in
    record {
      rests =
          record {
            tells =
                record {
                  capturing = now.rests.tells.capturing;
                  recording = now.rests.tells.recording;
                  fictitious = now.rests.tells.fictitious;
                  global = now.rests.tells.global;
                  compared = now.rests.tells.compared;
                };
            slots = now.rests.slots;
            kept = now.rests.kept;
          };
      number = search rules;
      tops = now.tops ∙ c.loop-proc.invariant.tops;
      done =
          procs_one c.args.plan.now c.args.named.now.tops c.args.named.now.procs c.args.named.now.lits
          c.as_slice-proc-items.result.now c.loop-proc.proc-index c.loop-proc.tables.proc c.loop-proc.tables.tops c.proc-item.result
          c.loop-proc.list_site c.in_ok-list_site.list_site (counts c.loop-proc.at) (counts c.procedure.new.at) c.loop-proc.procs
          c.push.new.self c.in_ok-procedure.field-0 _ c.as_slice-proc-items.ensures c.loop-proc-test.true c.proc-item.is
          c.loop-proc.invariant.number c.loop-proc.invariant.tops now.flat c.in_ok-list_site.ensures now.past c.in_ok-push.ensures.ok
          c.loop-proc.invariant.done;
    }
