-- What holds of each element of lists that are put together.
use Rattle.std.proofs.Common.{◌≡◌, ℕ, zero, suc, Bool, true, false, List, [], ◌∷◌, ◌++◌, map, refl, sym, ap, ◌∙◌, subst, eqb-true}
use Rattle.std.specs.List.{AllByRecursion, flat_map}
use Rattle.std.specs.Prelude.{IsTrue, nat_eq, ◌||◌}
use Rattle.named_form.specs.Code.{has}
use Rattle.flow_constraints.specs.Rows.{number_at}

pub of_both : {X : Type 0} (P : X → Type 0) (xs ys : List X) → AllByRecursion P xs → AllByRecursion P ys
    → AllByRecursion P (xs ++ ys)
of_both P [] ys h k = k
of_both P (x ∷ xs) ys h k = (h.0, of_both P xs ys h.1 k)

pub of_mapped : {X Y : Type 0} (P : Y → Type 0) (Q : X → Type 0) (f : X → Y) → ((x : X) → Q x → P (f x)) → (xs : List X)
    → AllByRecursion Q xs → AllByRecursion P (map f xs)
of_mapped P Q f k [] h = tt
of_mapped P Q f k (x ∷ xs) h = (k x h.0, of_mapped P Q f k xs h.1)

pub of_any_mapped : {X Y : Type 0} (P : Y → Type 0) (f : X → Y) → ((x : X) → P (f x)) → (xs : List X)
    → AllByRecursion P (map f xs)
of_any_mapped P f k [] = tt
of_any_mapped P f k (x ∷ xs) = (k x, of_any_mapped P f k xs)

pub of_flat : {X Y : Type 0} (P : Y → Type 0) (Q : X → Type 0) (f : X → List Y)
    → ((x : X) → Q x → AllByRecursion P (f x)) → (xs : List X) → AllByRecursion Q xs → AllByRecursion P (flat_map f xs)
of_flat P Q f k [] h = tt
of_flat P Q f k (x ∷ xs) h = of_both P (f x) (flat_map f xs) (k x h.0) (of_flat P Q f k xs h.1)

pub of_each : {X : Type 0} (P Q : X → Type 0) → ((x : X) → P x → Q x) → (xs : List X) → AllByRecursion P xs
    → AllByRecursion Q xs
of_each P Q k [] h = tt
of_each P Q k (x ∷ xs) h = (k x h.0, of_each P Q k xs h.1)

-- a number of a list, or 0 past its end
pub of_number : (P : ℕ → Type 0) (xs : List ℕ) (n : ℕ) → P 0 → AllByRecursion P xs → P (number_at xs n)
of_number P [] n h k = h
of_number P (x ∷ xs) zero h k = k.0
of_number P (x ∷ xs) (suc n) h k = of_number P xs n h k.1

pub of_had : (P : ℕ → Type 0) (xs : List ℕ) (x : ℕ) → AllByRecursion P xs → IsTrue (has xs x) → P x
of_had P [] x h k = cc
of_had P (y ∷ ys) x h k = here (nat_eq x y) refl (λ k. of_had P ys x h.1 k) k
  where
    here : (b : Bool) → nat_eq x y ≡ b → (has ys x ≡ true → P x) → nat_eq x y || has ys x ≡ true → P x
    here true e others k = subst P (sym (eqb-true x y e)) h.0
    here false e others k = others (sym (ap (λ b. b || has ys x) e) ∙ k)
