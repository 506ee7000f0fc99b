use Rattle.std.proofs.Common.{◌≡◌, ◌++◌, drop}
use Rattle.std.specs.Prelude.{map}
use Rattle.rv_asm.specs.Layout.{number_bytes, value_of}
use Rattle.rv_asm.specs.Symbols.{placing_in}
use Rattle.rv_asm.proofs.emit.push_words.Given as goal

abbrev pub invariant-loop-word : goal.invariant-loop-word
invariant-loop-word l =
    l.bytes ++ number_bytes (map (value_of (placing_in l.symbols)) (drop l.word-index l.words))
    ≡ l.initial.bytes ++ number_bytes (map (value_of (placing_in l.symbols)) l.words)
