use Rattle.std.proofs.Common.{◌≡◌, take}
use Rattle.std.specs.Prelude.{vec_len}
use Rattle.least_set.specs.Search.{Grows, Tells}
use Rattle.least_set.proofs.search.mark_all.Given as goal

abbrev pub invariant-loop-number : goal.invariant-loop-number
invariant-loop-number l =
    record {
      size : vec_len l.marks ≡ vec_len l.initial.marks;
      tells : Tells l.marks.items l.found;
      grows : Grows (take l.number-index l.numbers) l.initial.found l.found;
    }
