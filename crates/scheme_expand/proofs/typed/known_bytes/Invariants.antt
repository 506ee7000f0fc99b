use Rattle.std.proofs.Common.{length}
use Rattle.std.specs.Prelude.{IsTrue}
use Rattle.scheme_base.specs.Constants.{are_bytes}
use Rattle.scheme_expand.proofs.typed.known_bytes.Given as goal

-- where what is left are bytes, all are
abbrev pub invariant-loop-byte : goal.invariant-loop-byte
invariant-loop-byte l = IsTrue (are_bytes l.rest) → IsTrue (are_bytes l.fn.bytes)

abbrev pub decreases-loop-byte : goal.decreases-loop-byte
decreases-loop-byte l = length l.rest
