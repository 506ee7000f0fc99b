use Rattle.std.proofs.Common.{ap, arith, length}
use Rattle.scheme_expand.proofs.CopyingNodes.{grows_twice, one_copied, next_in, all_copied}
use Rattle.scheme_expand.proofs.placed.copies.Goals as goal

pub loop-turn-preserved : goal.loop-turn-preserved
loop-turn-preserved c =
    let found = c.in-Some.ensures.lookup in
    record {
      grows = grows_twice _ _ _ c.loop-turn.invariant.grows c.in_ok-copy.ensures.grows;
      copies =
          one_copied c.args.nodes.now _ _ c.in-Some.original.now _ _ c.in_ok-copy.copy c.in_ok-copy.ensures.grows
          c.loop-turn.invariant.copies
          (next_in _ c.deref.result.now c.loop-turn.copies c.len.result c.in-Some.original.now c.deref.ensures.value c.len.ensures
          found.3.0 found.1) c.in_ok-copy.ensures.copies c.in_ok-push.ensures.ok;
    }

pub returns-in_default-clause-all : goal.returns-in_default-clause-all
returns-in_default-clause-all c =
    all_copied c.args.nodes.now _ c.loop-turn.copies c.loop-turn.invariant.copies
    (omega (arith, c.in_default.ensures.lookup.3, ap length c.deref.ensures.value, c.len.ensures))
