-- Which definitions are reached from some of them, where definition k uses those whose numbers stand at place
-- k - 1 of a list. Definitions are numbered from 1.
use Rattle.std.specs.Prelude.{ℕ, zero, suc, ◌≡◌, ◌<◌, ◌≤◌, ◌⊎◌, nat_eq, List, [], ◌∷◌, ◌++◌, length, slice_get, Some, Bool, true, false, ◌||◌, ◌&&◌, if◌then◌else◌}
use Rattle.std.specs.List.{list_any}

-- a number stands in a list
abbrev pub In : ℕ → List ℕ → Type 0
In k [] = ⊥
In k (j ∷ ks) = (k ≡ j) ⊎ In k ks

-- the numbers of n definitions
abbrev pub AreNumbers : ℕ → List ℕ → Type 0
AreNumbers n [] = Unit {0}
AreNumbers n (k ∷ ks) = (1 ≤ k) × (k ≤ n) × AreNumbers n ks

abbrev pub AreUses : ℕ → List (List ℕ) → Type 0
AreUses n [] = Unit {0}
AreUses n (u ∷ uses) = AreNumbers n u × AreUses n uses

pub data Reached (uses : List (List ℕ)) (from : List ℕ) : ℕ → Type 0 where
  first : (k : ℕ) → In k from → Reached uses from k
  used : (i : ℕ) (u : List ℕ) (j : ℕ) → Reached uses from (suc i) → slice_get uses i ≡ Some u → In j u → Reached uses from j

-- each number is greater than those before, and than this one
abbrev pub Increases : ℕ → List ℕ → Type 0
Increases n [] = Unit {0}
Increases n (k ∷ ks) = (n < k) × Increases k ks

-- these are all that are reached, in increasing order
pub record IsClosure (uses : List (List ℕ)) (from ks : List ℕ) : Type 0 where
  pub increasing : Increases 0 ks
  pub sound : (k : ℕ) → In k ks → Reached uses from k
  pub whole : (k : ℕ) → Reached uses from k → In k ks

-- The same as a list that is computed: marks spread from definitions to those that they use.

abbrev pub has : List ℕ → ℕ → Bool
has ks k = list_any (nat_eq k) ks

-- which definitions, of which the first has the number k, stand in a list
abbrev pub marks : (k : ℕ) → (definitions : List (List ℕ)) → List ℕ → List Bool
marks k [] from = []
marks k (u ∷ uses) from = has from k ∷ marks (suc k) uses from

-- what the marked definitions use
abbrev pub in_marked : List (List ℕ) → List Bool → List ℕ
in_marked [] marked = []
in_marked (u ∷ uses) [] = []
in_marked (u ∷ uses) (true ∷ marked) = u ++ in_marked uses marked
in_marked (u ∷ uses) (false ∷ marked) = in_marked uses marked

abbrev pub both : List Bool → List Bool → List Bool
both [] cs = []
both (b ∷ bs) [] = b ∷ bs
both (b ∷ bs) (c ∷ cs) = (b || c) ∷ both bs cs

-- the marked definitions and those that they use
abbrev pub spread : List (List ℕ) → List Bool → List Bool
spread uses marked = both marked (marks 1 uses (in_marked uses marked))

abbrev pub are_same : List Bool → List Bool → Bool
are_same [] cs = true
are_same (b ∷ bs) [] = true
are_same (true ∷ bs) (c ∷ cs) = c && are_same bs cs
are_same (false ∷ bs) (c ∷ cs) = if c then false else are_same bs cs

-- so often, or until none is new
abbrev pub spread_often : ℕ → List (List ℕ) → List Bool → List Bool
spread_often zero uses marked = marked
spread_often (suc n) uses marked =
    if are_same marked (spread uses marked) then marked else spread_often n uses (spread uses marked)

abbrev pub marked_numbers : (k : ℕ) → List Bool → List ℕ
marked_numbers k [] = []
marked_numbers k (true ∷ bs) = k ∷ marked_numbers (suc k) bs
marked_numbers k (false ∷ bs) = marked_numbers (suc k) bs

-- the numbers reached from these, in increasing order
abbrev pub closure : List (List ℕ) → List ℕ → List ℕ
closure uses from = marked_numbers 1 (spread_often (length uses) uses (marks 1 uses from))
