-- Least sets.
--
-- What a set is to have is said by clauses: a record with one field for each, of a set as a test. The least set
-- that is closed under them is within each set that is.
use Rattle.std.specs.Prelude.{ℕ, ◌&&◌, ◌||◌, not, List, [], ◌∷◌, Bool, true, IsTrue, nat_eq, nat_lt}
use Rattle.std.specs.List.{list_any, list_all}
use Rattle.least_set.specs.declared.links.Link.{Link}

-- a set, as a test
abbrev pub Set : Type 0 → Type 0
Set A = A → Bool

pub record IsLeast {A : Type 0} (Closed : Set A → Type 0) (xs : Set A) : Type 0 where
  pub closed : Closed xs
  pub within : (other : Set A) → Closed other → (x : A) → IsTrue (xs x) → IsTrue (other x)

abbrev pub has : List ℕ → ℕ → Bool
has xs x = list_any (nat_eq x) xs

-- a set that has what a link is from has what it is to
abbrev pub keeps : Set ℕ → Link → Bool
keeps xs link = not (xs link.from) || xs link.to

-- A set has these numbers, and keeps these links.
pub record IsClosed (starts : List ℕ) (links : List Link) (xs : Set ℕ) : Type 0 where
  pub begun : IsTrue (list_all xs starts)
  pub linked : IsTrue (list_all (keeps xs) links)

-- A set has these numbers, and with each all that it leads to.
pub record IsLed (starts : List ℕ) (leads : ℕ → List ℕ) (xs : Set ℕ) : Type 0 where
  pub begun : IsTrue (list_all xs starts)
  pub led : (k x : ℕ) → IsTrue (xs k) → IsTrue (has (leads k) x) → IsTrue (xs x)

abbrev pub all_below : (many : ℕ) → List ℕ → Bool
all_below many xs = list_all (λ x. nat_lt x many) xs

abbrev pub links_below : (many : ℕ) → List Link → Bool
links_below many links = list_all (λ link. nat_lt link.from many && nat_lt link.to many) links

abbrev pub rises : List ℕ → Bool
rises [] = true
rises (x ∷ []) = true
rises (x ∷ y ∷ ys) = nat_lt x y && rises (y ∷ ys)

-- a list that stands for a set of numbers below this one
pub record IsSet (many : ℕ) (xs : List ℕ) : Type 0 where
  pub in_order : IsTrue (rises xs)
  pub below : IsTrue (all_below many xs)
