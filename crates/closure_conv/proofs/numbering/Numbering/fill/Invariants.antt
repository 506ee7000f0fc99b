use Rattle.std.proofs.Common.{◌≡◌, ℕ, take}
use Rattle.closure_conv.specs.FlatOf.{index_of}
use Rattle.closure_conv.specs.Tables.{number_of}
use Rattle.closure_conv.proofs.numbering.Numbering.fill.Given as goal

abbrev pub invariant-loop-member : goal.invariant-loop-member
invariant-loop-member l =
    record {
      numbers : (x : ℕ) → number_of l.self x ≡ index_of (take l.member-index l.members) x;
      next : l.next ≡ l.member-index;
    }
