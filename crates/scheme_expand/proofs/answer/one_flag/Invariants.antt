use Rattle.std.proofs.Common.{◌≡◌, length}
use Rattle.scheme_expand.specs.ByWord.{one_flag}
use Rattle.scheme_expand.proofs.answer.one_flag.Given as goal

-- no flag stands before those that are left
abbrev pub invariant-loop-flag : goal.invariant-loop-flag
invariant-loop-flag l = one_flag l.rest ≡ one_flag l.fn.flags

abbrev pub decreases-loop-flag : goal.decreases-loop-flag
decreases-loop-flag l = length l.rest
