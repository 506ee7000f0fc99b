use Rattle.std.proofs.Common.{◌≡◌, ◌≤◌, ◌-◌, false, length}
use Rattle.datum_form.specs.Text.{quoted}
use Rattle.datum_reader.specs.Strings.{given}
use Rattle.datum_reader.proofs.string.read_string.Given as goal

-- what has been read, and then what is left, is the string
abbrev pub invariant-loop-bytes : goal.invariant-loop-bytes
invariant-loop-bytes l =
    record {
      same :
          quoted false l.fn.text ≡ given l.bad l.bytes (length l.fn.text - length l.rest) (quoted false l.rest);
      shorter : length l.rest ≤ length l.fn.text;
    }

abbrev pub decreases-loop-bytes : goal.decreases-loop-bytes
decreases-loop-bytes l = length l.rest
