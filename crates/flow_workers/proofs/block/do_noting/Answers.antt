use Rattle.std.proofs.Common.{◌+◌, ◌*◌, ◌≤◌, ◌⊎◌, inl, inr, arith, length}
use Rattle.std.proofs.lemmas.Bool.{cases_lt}
use Rattle.flow_workers.proofs.Blocks.{block_seen, done_finish, rules_more, steps_finish}
use Rattle.flow_workers.proofs.StepsOfPass.{steps_trans}
use Rattle.flow_workers.proofs.block.do_noting.Goals as goal

pub loop-index-preserved : goal.loop-index-preserved
loop-index-preserved g c =
    rules_more c.args.c.now c.args.table.now c.args.pass.now c.loop-index.pass c.apply.new.pass (c.args.block * 1024)
    c.loop-index.index c.loop-index.invariant c.apply.ensures.steps c.apply.ensures.served

pub finish-requires-clause-seen : goal.finish-requires-clause-seen
finish-requires-clause-seen g c =
    let all : (length c.args.c.now.rules ≤ c.loop-index.index) ⊎ (c.args.block * 1024 + 1024 ≤ c.loop-index.index) =
    elim (cases_lt (length c.args.c.now.rules) (c.args.block * 1024 + 1024)) [
      | inl short ↦ inl (omega arith)
      | inr long ↦ inr (omega arith)
    ] in
    block_seen c.args.c.now c.args.table.now c.args.pass.now c.loop-index.pass c.args.block c.loop-index.index
    c.requires.opened all c.loop-index.invariant

pub returns-clause-steps : goal.returns-clause-steps
returns-clause-steps g c =
    steps_trans c.args.c.now c.args.table.now c.args.pass.now c.loop-index.pass c.finish.new.pass
    c.loop-index.invariant.steps
    (steps_finish c.args.c.now c.args.table.now c.loop-index.pass c.finish.new.pass c.args.block c.finish.ensures.of
    c.finish.ensures.knows)

pub returns-clause-done : goal.returns-clause-done
returns-clause-done g c =
    done_finish c.args.c.now c.args.table.now c.loop-index.pass c.finish.new.pass c.args.block c.requires.opened
    c.loop-index.invariant.steps.of c.requires.there c.finish.ensures.knows
