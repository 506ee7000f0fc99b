-- A number is listed where some element is equal to it.
use Rattle.std.proofs.Common.{◌≡◌, ℕ, List, [], ◌∷◌, refl, ap, nat_eq}
use Rattle.std.specs.List.{list_any}
use Rattle.std.specs.Prelude.{◌||◌}
use Rattle.scheme_base.specs.Outside.{lists}

pub list_any-lists : (numbers : List ℕ) (k : ℕ) → list_any (λ n. nat_eq n k) numbers ≡ lists numbers k
list_any-lists [] k = refl
list_any-lists (n ∷ numbers) k = ap (λ b. nat_eq n k || b) (list_any-lists numbers k)
