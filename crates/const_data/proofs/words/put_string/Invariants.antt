use Rattle.std.proofs.Common.{◌≡◌, ◌++◌, take}
use Rattle.std.specs.Prelude.{map}
use Rattle.const_data.specs.declared.word.Word.TheVariants.{Number}
use Rattle.const_data.specs.Words.{character}
use Rattle.const_data.proofs.words.put_string.Given as goal

abbrev pub invariant-loop-byte : goal.invariant-loop-byte
invariant-loop-byte l = l.words ≡ l.initial.words ++ map (λ byte. Number (character byte)) (take l.byte-index l.bytes)
