-- How many bytes a load or a store takes.
use Rattle.std.specs.Prelude.{ℕ}
use Rattle.rv_words.specs.declared.access.Width.{Width}
use Rattle.rv_words.specs.declared.access.Width.TheVariants.{Byte, Half, Word, Double}

abbrev pub bytes_of : Width → ℕ
bytes_of Byte = 1
bytes_of Half = 2
bytes_of Word = 4
bytes_of Double = 8

-- the number from which on the numbers of so many bytes are negative, as signed ones
abbrev pub half_of : Width → ℕ
half_of Byte = 0x80
half_of Half = 0x8000
half_of Word = 0x8000_0000
half_of Double = 0x8000_0000_0000_0000
