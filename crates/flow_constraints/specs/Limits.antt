-- Which programs have too many rows, atoms, words or rules, and what is told of them.
use Rattle.std.specs.Prelude.{ℕ, ◌*◌, ◌≡◌, length, Option, Some, None, nat_le, if◌then◌else◌}
use Rattle.scheme_base.specs.declared.error.LimitErr.{LimitErr}
use Rattle.scheme_base.specs.declared.error.LimitErr.TheVariants as err
use Rattle.scheme_base.specs.declared.limit.Limit.{Limit}
use Rattle.scheme_base.specs.declared.limit.LimitKind.{LimitKind}
use Rattle.scheme_base.specs.declared.limit.LimitKind.TheVariants.{Rows, Atoms, Table, Rules}
use Rattle.flow_form.specs.Valid.{words_of_row}
use Rattle.named_form.specs.Valid.{Form}
use Rattle.flow_constraints.specs.Census.{cut}
use Rattle.flow_constraints.specs.Layout.{flow_of}
use Rattle.flow_constraints.specs.Listed.{rules_of}

-- a count that is past its most, told as 64 bits hold it
abbrev pub past : LimitKind → (count most : ℕ) → Option Limit
past which count most = if nat_le count most then None else Some (record { which = which; count = cut count })

-- the first of two limits that is passed
abbrev pub or_else : Option Limit → Option Limit → Option Limit
or_else None other = other
or_else (Some limit) other = Some limit

-- the first limit that so many rows and atoms pass
abbrev pub table_limit : (rows atoms : ℕ) → Option Limit
table_limit rows atoms =
    or_else (past Rows rows 65536) (or_else (past Atoms atoms 8192) (past Table (rows * words_of_row atoms) 4194304))

abbrev pub row_count : Form → ℕ
row_count f = (flow_of f).rows

abbrev pub atom_count : Form → ℕ
atom_count f = length (flow_of f).kinds

-- the first limit that a program passes: at most 65,536 rows, 8,192 atoms, 2^22 words and 2^23 rules
abbrev pub passed : Form → Option Limit
passed f = or_else (table_limit (row_count f) (atom_count f)) (past Rules (length (rules_of f)) 8388608)

-- A program is refused for the first limit that it passes. Want of memory alone may be told of another one, and of
-- none that has too many rows, atoms or words: these are counted without memory.
abbrev pub Refuses : Form → LimitErr → Type 0
Refuses f (err.Limit limit) = passed f ≡ Some limit
Refuses f err.NoMemory = table_limit (row_count f) (atom_count f) ≡ None
