-- Items after the first ones of a list.
use Rattle.std.proofs.Common.{◌≡◌, List, [], ◌∷◌, ◌++◌, length, Some, refl, ap}
use Rattle.std.specs.Prelude.{slice_get, slice_set}

pub got_last : {A : Type 0} → (xs : List A) (x : A) (more : List A) → slice_get (xs ++ x ∷ more) (length xs) ≡ Some x
got_last [] x more = refl
got_last (y ∷ xs) x more = got_last xs x more

pub set_last : {A : Type 0} → (xs : List A) (x y : A) (more : List A)
    → slice_set (xs ++ x ∷ more) (length xs) y ≡ xs ++ y ∷ more
set_last [] x y more = refl
set_last (z ∷ xs) x y more = ap (λ l. z ∷ l) (set_last xs x y more)
