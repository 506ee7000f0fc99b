-- The text of a solved table, as `facts` prints it: for each row a line of its number, a colon, and the numbers
-- of its atoms in increasing order, each after a space.
use Rattle.std.specs.Prelude.{ℕ, zero, suc, ◌≡◌, ◌<◌, ◌/◌, ◌%◌, ◌↔◌, Bool, if◌then◌else◌, List, [], ◌∷◌, ◌++◌, nat_eq, slice_index, decimal, IsTrue}
use Rattle.std.specs.Int.{bit_at}
use Rattle.flow_form.specs.declared.constraints.Constraints.{Constraints}
use Rattle.flow_form.specs.Least.{Least}

-- the texts of the numbers below a count, in order
abbrev pub texts_below : (text : ℕ → List ℕ) → (count : ℕ) → List ℕ
texts_below text zero = []
texts_below text (suc n) = texts_below text n ++ text n

-- an atom, where a row has it
abbrev pub atom_text : (has : ℕ → Bool) → (atom : ℕ) → List ℕ
atom_text has atom = if has atom then 32 ∷ decimal atom else []

abbrev pub atoms_text : (has : ℕ → Bool) → (atoms : ℕ) → List ℕ
atoms_text has atoms = texts_below (atom_text has) atoms

abbrev pub line_text : (row : ℕ) (has : ℕ → Bool) (atoms : ℕ) → List ℕ
line_text row has atoms = (decimal row ++ 58 ∷ []) ++ (atoms_text has atoms ++ 10 ∷ [])

abbrev pub lines_text : (has : ℕ → ℕ → Bool) → (atoms rows : ℕ) → List ℕ
lines_text has atoms rows = texts_below (λ row. line_text row (has row) atoms) rows

-- the text of the least solution of constraints
pub record IsTableText (c : Constraints) (text : List ℕ) : Type 0 where
  pub has : ℕ → ℕ → Bool
  pub decides : (row atom : ℕ) → row < c.rows → atom < c.atoms → IsTrue (has row atom) ↔ Least c.rules row atom
  pub whole : text ≡ lines_text has c.atoms c.rows

-- whether a row of words has an atom
abbrev pub has_atom : List ℕ → ℕ → Bool
has_atom row atom = nat_eq (bit_at (slice_index row (atom / 64)) (atom % 64)) 1
