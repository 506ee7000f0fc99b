use Rattle.std.proofs.Common.{drop, map, sym, arith, ◌∙◌}
use Rattle.repr_choice.specs.Wanted.{kind_of}
use Rattle.repr_choice.proofs.Refusing.{past_operands}
use Rattle.repr_choice.proofs.checks.any_refused.Goals as goal

pub returns-then-at-operands : goal.returns-then-at-operands
returns-then-at-operands c =
    sym
    (past_operands c.args.flow.now c.args.rows.now (map kind_of (drop c.loop-at.at c.args.wanted.now)) c.args.operands.now c.loop-at.at
    (omega (arith, c.if-at-operands.true)))
    ∙ c.loop-at.invariant
