-- Positions in a text: a line and a byte in that line, both counted from 1. Byte 10 ends a line.
use Rattle.std.specs.Prelude.{ℕ, ◌+◌, ◌^◌, ◌<◌, ◌==◌, Bool, if◌then◌else◌, List, [], ◌∷◌}
use Rattle.std.specs.Str.{byte}
use Rattle.scheme_base.specs.declared.pos.Pos.{Pos}

abbrev pub is_line_end : ℕ → Bool
is_line_end b = b == byte "\n"

-- the position after a byte at this position
abbrev pub after_byte : Pos → ℕ → Pos
after_byte p b =
    if is_line_end b then (record { line = p.line + 1; col = 1 }) else (record { line = p.line; col = p.col + 1 })

-- the position after a text that begins at this position
abbrev pub position_after : Pos → List ℕ → Pos
position_after p [] = p
position_after p (b ∷ bytes) = position_after (after_byte p b) bytes

-- line and byte are numbers of 32 bits
abbrev pub IsPosition : Pos → Type 0
IsPosition p = (p.line < 2 ^ 32) × (p.col < 2 ^ 32)
