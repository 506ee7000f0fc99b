use Rattle.std.proofs.Common.{◌≡◌, ◌++◌, length}
use Rattle.scheme_expand.specs.ByWord.{flags_where}
use Rattle.scheme_expand.proofs.answer.flags_where.Given as goal

-- what was asked of the flags before those that are left
abbrev pub invariant-loop-flag : goal.invariant-loop-flag
invariant-loop-flag l =
    l.flags.items ++ flags_where l.fn.wanted l.rest l.others ≡ flags_where l.fn.wanted l.fn.all l.fn.some

abbrev pub decreases-loop-flag : goal.decreases-loop-flag
decreases-loop-flag l = length l.rest
