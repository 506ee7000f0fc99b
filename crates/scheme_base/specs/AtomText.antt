-- Atoms as `write` writes them (R4RS 6.10.3): an integer is its decimal digits with a minus sign before a
-- negative one, a name its own bytes.
use Rattle.std.specs.Prelude.{ℕ, List, [], ◌∷◌, ◌++◌, Bool, true, false, if◌then◌else◌, ◌==◌, ◌||◌, codes}
use Rattle.std.specs.Str.{byte}

abbrev pub boolean_text : Bool → List ℕ
boolean_text true = codes "#t"
boolean_text false = codes "#f"

abbrev pub character_text : ℕ → List ℕ
character_text b =
    if b == byte " " then codes "#\\space"
    else (if b == byte "\n" then codes "#\\newline" else codes "#\\" ++ b ∷ [])

-- the characters of a string, with a backslash before a quote and before a backslash
abbrev pub escaped_text : List ℕ → List ℕ
escaped_text [] = []
escaped_text (b ∷ bytes) =
    if b == byte "\"" || b == byte "\\" then byte "\\" ∷ b ∷ escaped_text bytes else b ∷ escaped_text bytes

abbrev pub string_text : List ℕ → List ℕ
string_text bytes = codes "\"" ++ (escaped_text bytes ++ codes "\"")
