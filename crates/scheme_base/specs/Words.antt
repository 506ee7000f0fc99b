-- What the words of a command are to contracts: their bytes.
use Rattle.std.specs.Prelude.{ℕ, List, Option}
use Rattle.std.specs.Option.{option_map}
use Rattle.std.specs.Borrow.{Bor}

abbrev pub text_of : Option (Bor (List ℕ)) → Option (List ℕ)
text_of word = option_map (λ text. text.now) word
