use Rattle.std.proofs.Common.{arith}
use Rattle.scheme_expand.proofs.FormsBehind.{no_own_added, own_added, all_own_added}
use Rattle.scheme_expand.proofs.assemble.add_own_variables.Goals as goal

pub loop-word-init : goal.loop-word-init
loop-word-init c =
    record { ready = λ h. h; adds = no_own_added c.args.text c.args.levels.now c.args.growing.now }

pub loop-word-preserved : goal.loop-word-preserved
loop-word-preserved c =
    record {
      ready = λ h. c.in_ok-add_own_variable.ensures.ready (c.loop-word.invariant.ready h);
      adds =
          own_added c.args.text c.args.names.now c.loop-word.word-index c.args.levels.now c.args.growing.now c.loop-word.growing
          c.add_own_variable.new.growing c.loop-word-test.true c.loop-word.invariant.adds c.in_ok-add_own_variable.ensures.numbered;
    }

pub returns-clause-numbered : goal.returns-clause-numbered
returns-clause-numbered c =
    all_own_added c.args.text c.args.names.now c.loop-word.word-index c.args.levels.now c.args.growing.now c.loop-word.growing
    (omega (arith, c.loop-word-test.false)) c.loop-word.invariant.adds
