use Rattle.std.proofs.Common.{◌≡◌, ◌++◌}
use Rattle.std.specs.Prelude.{replicate}
use Rattle.const_data.specs.declared.word.Word.TheVariants.{Number}
use Rattle.const_data.proofs.words.put_copies.Given as goal

abbrev pub invariant-loop-copy : goal.invariant-loop-copy
invariant-loop-copy l = l.words ≡ l.initial.words ++ replicate l._copy (Number l.number)
