use Rattle.std.proofs.Common.{◌<◌, length, ap, arith, rules}
use Rattle.flow_constraints.proofs.BlockCounts.{lambdas_more}
use Rattle.flow_constraints.proofs.tally.meet_lambdas.Goals as goal

pub loop-proc-preserved : goal.loop-proc-preserved
loop-proc-preserved c =
    let ps = c.args.lambdas.now in
    let within : c.loop-proc.proc-index < length ps = omega arith in
    let more = lambdas_more c.args.flow.now c.args.lits.now ps c.loop-proc.proc-index c.proc-item.result within c.proc-item.is in
    record {
      counted =
          omega (arith, more, ap (λ t. t.rules) c.meet_value.ensures, c.in_ok-meet_block.ensures.rules, c.loop-proc.invariant.counted);
      remembers = search rules;
    }
