use Rattle.std.proofs.Common.{◌≡◌, length}
use Rattle.datum_form.specs.Words.{all_subsequent}
use Rattle.datum_reader.proofs.word.all_subsequent.Given as goal

abbrev pub invariant-loop-first : goal.invariant-loop-first
invariant-loop-first l = all_subsequent l.rest ≡ all_subsequent l.fn.text

abbrev pub decreases-loop-first : goal.decreases-loop-first
decreases-loop-first l = length l.rest
