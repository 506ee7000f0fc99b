use Rattle.std.proofs.Common.{◌≡◌, ℕ, None, take, if◌then◌else◌}
use Rattle.named_form.specs.Code.{has}
use Rattle.closure_conv.specs.FlatOf.{index_of}
use Rattle.closure_conv.specs.Tables.{number_of}
use Rattle.closure_conv.proofs.numbering.Numbering.clear.Given as goal

abbrev pub invariant-loop-member : goal.invariant-loop-member
invariant-loop-member l =
    (x : ℕ) → number_of l.self x ≡ (if has (take l.member-index l.members) x then None else index_of l.members x)
