-- What rows hold, whatever rows they are.
use Rattle.std.specs.Prelude.{ℕ, ◌+◌, ◌*◌, ◌/◌, ◌%◌, ◌&&◌, List, Bool, Option, Some, None, true, false, nat_eq, nat_lt, slice_get}
use Rattle.std.specs.Int.{bit_at}
use Rattle.std.specs.List.{filter}
use Rattle.flow_form.specs.declared.rows.Rows.{Rows}
use Rattle.named_form.specs.Valid.{numbers_from}

abbrev pub bit_of : Option ℕ → (bit : ℕ) → Bool
bit_of None bit = false
bit_of (Some word) bit = nat_eq (bit_at word bit) 1

-- atom `a` of row `r` is bit `a % 64` of word `r * stride + a / 64`
abbrev pub holds : Rows → (row atom : ℕ) → Bool
holds rows r a = nat_lt (a / 64) rows.stride && bit_of (slice_get rows.words (r * rows.stride + a / 64)) (a % 64)

-- the atoms of a row, in order
abbrev pub members_of : Rows → (row : ℕ) → List ℕ
members_of rows r = filter (holds rows r) (numbers_from 0 (rows.stride * 64))

-- whether no bit is in a word, if there is one
abbrev pub is_blank : Option ℕ → Bool
is_blank None = true
is_blank (Some word) = nat_eq word 0
