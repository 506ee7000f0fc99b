-- The reader's own view of a string: what has been read of it, and what follows.
use Rattle.std.specs.Prelude.{ℕ, ◌+◌, ◌≤◌, ◌==◌, Bool, true, false, ◌||◌, not, List, ◌++◌}
use Rattle.std.specs.Str.{byte}
use Rattle.datum_form.specs.Text.{Quoted}
use Rattle.datum_form.specs.Text.Quoted.{Closed, BadEscape, NeverClosed}
use Rattle.datum_reader.specs.declared.string.Quoted.{Quoted as ReadString}
use Rattle.datum_reader.specs.declared.string.Quoted.TheVariants as read

-- a `"` or a `\` stands for itself after a `\`
abbrev pub is_escaped : ℕ → Bool
is_escaped b = b == byte "\"" || b == byte "\\"

-- any other byte stands for itself
abbrev pub is_plain : ℕ → Bool
is_plain b = not (is_escaped b)

abbrev pub quoted_of : ReadString → Quoted
quoted_of (read.Closed bytes n) = Closed bytes n
quoted_of read.BadEscape = BadEscape
quoted_of read.NeverClosed = NeverClosed

-- a string of these bytes that is closed after so many, with a bad escape or without
abbrev pub ended : (bad : Bool) → List ℕ → (length : ℕ) → Quoted
ended true bytes n = BadEscape
ended false bytes n = Closed bytes n

-- these bytes, for which so many stand, and then what follows
abbrev pub given : (bad : Bool) → List ℕ → (length : ℕ) → Quoted → Quoted
given bad bytes n (Closed more k) = ended bad (bytes ++ more) (n + k)
given bad bytes n BadEscape = BadEscape
given bad bytes n NeverClosed = NeverClosed

-- the string takes at most so many bytes
abbrev pub within : ReadString → ℕ → Type 0
within (read.Closed bytes n) room = n ≤ room
within read.BadEscape room = Unit {0}
within read.NeverClosed room = Unit {0}
