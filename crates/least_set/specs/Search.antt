-- What the parts of the search answer.
use Rattle.std.specs.Prelude.{ℕ, suc, ◌≡◌, ◌<◌, ◌++◌, ◌||◌, List, [], ◌∷◌, Bool, false, IsTrue, length, nat_eq, slice_index_or, if◌then◌else◌}
use Rattle.std.specs.List.{sum_by}
use Rattle.least_set.specs.declared.links.Link.{Link}
use Rattle.least_set.specs.Least.{Set, has}

-- the list of this number, if there is one
abbrev pub listed : List (List ℕ) → ℕ → List ℕ
listed next k = slice_index_or next k []

-- what a number is linked to
abbrev pub targets : List Link → ℕ → List ℕ
targets [] k = []
targets (link ∷ links) k = if nat_eq k link.from then link.to ∷ targets links k else targets links k

-- for each number below this one, all that it is linked to
pub record IsNext (many : ℕ) (links : List Link) (next : List (List ℕ)) : Type 0 where
  pub long : length next ≡ many
  pub each : (k : ℕ) → k < many → listed next k ≡ targets links k

abbrev pub is_marked : List Bool → ℕ → Bool
is_marked marks k = slice_index_or marks k false

abbrev pub one : Bool → ℕ
one b = if b then 1 else 0

-- the marks tell what is found, each once
pub record Tells (marks : List Bool) (found : List ℕ) : Type 0 where
  pub same : (x : ℕ) → is_marked marks x ≡ has found x
  pub long : length found ≡ sum_by one marks

-- what is found now is what was found, and after it what is new of these numbers
pub record Grows (numbers old new : List ℕ) : Type 0 where
  pub more : List ℕ
  pub after : new ≡ old ++ more
  pub same : (x : ℕ) → has new x ≡ (has old x || has numbers x)

-- a set has what its numbers lead to
abbrev pub GoesOn : (leads : ℕ → List ℕ) → Set ℕ → Type 0
GoesOn leads xs = (k x : ℕ) → IsTrue (xs k) → IsTrue (has (leads k) x) → IsTrue (xs x)

-- what is found at last is the least set that has what was found and goes on
pub record Spread (leads : ℕ → List ℕ) (old new : List ℕ) : Type 0 where
  pub begun : (x : ℕ) → IsTrue (has old x) → IsTrue (has new x)
  pub goes_on : GoesOn leads (has new)
  pub within :
      (other : Set ℕ) → ((x : ℕ) → IsTrue (has old x) → IsTrue (other x)) → GoesOn leads other
      → (x : ℕ) → IsTrue (has new x) → IsTrue (other x)

-- the places that are marked, numbered from this one on
abbrev pub trues : (from : ℕ) → List Bool → List ℕ
trues from [] = []
trues from (b ∷ bs) = if b then from ∷ trues (suc from) bs else trues (suc from) bs
