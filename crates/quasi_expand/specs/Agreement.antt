-- What is found among nodes, and what there is.
use Rattle.std.specs.Prelude.{Option, Some, None}

-- both are none, or of both there is one and R holds of these
abbrev pub Agree : {A B : Type 0} → (A → B → Type 0) → Option A → Option B → Type 0
Agree R None None = Unit {0}
Agree R None (Some b) = ⊥
Agree R (Some a) None = ⊥
Agree R (Some a) (Some b) = R a b
