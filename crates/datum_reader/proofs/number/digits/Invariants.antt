use Rattle.std.proofs.Common.{◌≡◌, ◌≤◌, length}
use Rattle.std.specs.Option.{option_map}
use Rattle.datum_form.specs.Words.{digits_after}
use Rattle.datum_reader.specs.Numbers.{bounded}
use Rattle.datum_reader.proofs.number.digits.Given as goal

-- what is left goes on to the same value
abbrev pub invariant-loop-first : goal.invariant-loop-first
invariant-loop-first l =
    record {
      same : option_map bounded (digits_after l.radix l.value l.rest) ≡ option_map bounded (digits_after l.radix 0 l.fn.text);
      few : l.value ≤ 2305843009213693953;
    }

abbrev pub decreases-loop-first : goal.decreases-loop-first
decreases-loop-first l = length l.rest
