-- Numbers are chosen one after another.
use Rattle.std.proofs.Common.{◌≡◌, ℕ, ◌+◌, ◌-◌, ◌<◌, Bool, true, false, List, [], ◌∷◌, ◌++◌, Option, Some, None, refl, ap, ◌∙◌}
use Rattle.std.specs.Prelude.{is_some, not, if◌then◌else◌}
use Rattle.std.specs.List.{filter}
use Rattle.scheme_base.specs.declared.place.Stated.{Stated}
use Rattle.named_form.specs.Valid.{numbers_from}
use Rattle.plan_facts.proofs.InOrder.{one_on}
use Rattle.slot_facts.specs.Graph.{start_by}

pub chosen_on : (P : ℕ → Bool) (at most : ℕ) (old new whole : List ℕ) (number : ℕ) (chosen : Bool) → at < most → number ≡ at → chosen ≡ P at
    → new ≡ old ++ (if chosen then number ∷ [] else []) → old ++ filter P (numbers_from at (most - at)) ≡ whole
    → new ++ filter P (numbers_from (at + 1) (most - (at + 1))) ≡ whole
chosen_on P at most old new whole number chosen below same passes puts was =
    one_on P at most old new whole below
    (puts
    ∙ (ap (λ n. old ++ (if chosen then n ∷ [] else [])) same
    ∙ ap (λ b. old ++ (if b then at ∷ [] else [])) passes))
    was

-- a variable is put among what has a place if it can have several values
pub start_put : (old new : List ℕ) (node at : ℕ) (several : Bool) (seen value : Option Stated) → node ≡ at → seen ≡ value → is_some seen ≡ not several
    → new ≡ old ++ (if several then node ∷ [] else []) → new ≡ old ++ start_by at value
start_put old new node at several seen value same_node same_value told puts =
    puts
    ∙ (ap (λ n. old ++ (if several then n ∷ [] else [])) same_node
    ∙ (ap (λ xs. old ++ xs) (by_value seen several told) ∙ ap (λ o. old ++ start_by at o) same_value))
  where
    by_value : (o : Option Stated) (b : Bool) → is_some o ≡ not b → (if b then at ∷ [] else []) ≡ start_by at o
    by_value None true h = refl
    by_value None false h = absurd (cc)
    by_value (Some v) true h = absurd (cc)
    by_value (Some v) false h = refl
