-- The workers of a state after one of them has changed, come or gone.
use Rattle.std.proofs.Common.{ℕ, zero, suc, List, [], ◌∷◌, ◌++◌, Option, Some, None, ◌≡◌, ◌⊎◌, inl, inr, refl, ap, replicate, slice_get, slice_set}
use Rattle.flow_form.specs.declared.event.Worker.{Worker}
use Rattle.flow_form.specs.Race.{changed, worker_at}

pub worker_changed :
    (change : Worker → Worker) (workers : List (Option Worker)) (k j : ℕ) (worker : Worker)
    → slice_get (changed change workers k) j ≡ Some (Some worker)
    → (slice_get workers j ≡ Some (Some worker))
    ⊎ ((j ≡ k) × ((old : Worker) × (slice_get workers j ≡ Some (Some old)) × (worker ≡ change old)))
worker_changed change [] k j worker h = inl h
worker_changed change (None ∷ workers) zero zero worker h = cc
worker_changed change (Some old ∷ workers) zero zero worker h = inr (refl, (old, refl, cc))
worker_changed change (first ∷ workers) zero (suc j) worker h = inl h
worker_changed change (first ∷ workers) (suc k) zero worker h = inl h
worker_changed change (first ∷ workers) (suc k) (suc j) worker h =
    elim (worker_changed change workers k j worker h) [
      | inl same ↦ inl same
      | inr new ↦ inr (ap suc new.0, new.1)
    ]

pub worker_came :
    (workers : List (Option Worker)) (new : Option Worker) (j : ℕ) (worker : Worker)
    → slice_get (workers ++ new ∷ []) j ≡ Some (Some worker)
    → (slice_get workers j ≡ Some (Some worker)) ⊎ (new ≡ Some worker)
worker_came [] new zero worker h = inr cc
worker_came [] new (suc j) worker h = cc
worker_came (first ∷ workers) new zero worker h = inl h
worker_came (first ∷ workers) new (suc j) worker h = worker_came workers new j worker h

pub worker_gone :
    (workers : List (Option Worker)) (k j : ℕ) (worker : Worker)
    → slice_get (slice_set workers k None) j ≡ Some (Some worker) → slice_get workers j ≡ Some (Some worker)
worker_gone [] k j worker h = h
worker_gone (first ∷ workers) zero zero worker h = cc
worker_gone (first ∷ workers) zero (suc j) worker h = h
worker_gone (first ∷ workers) (suc k) zero worker h = h
worker_gone (first ∷ workers) (suc k) (suc j) worker h = worker_gone workers k j worker h

pub worker_there :
    (workers : List (Option Worker)) (k : ℕ) (worker : Worker)
    → worker_at workers k ≡ Some worker → slice_get workers k ≡ Some (Some worker)
worker_there [] k worker h = cc
worker_there (first ∷ workers) zero worker h = ap (λ w. Some w) h
worker_there (first ∷ workers) (suc k) worker h = worker_there workers k worker h

pub worker_of_start :
    (n : ℕ) (new : Worker) (j : ℕ) (worker : Worker)
    → slice_get (replicate n (Some new)) j ≡ Some (Some worker) → worker ≡ new
worker_of_start zero new j worker h = cc
worker_of_start (suc n) new zero worker h = cc
worker_of_start (suc n) new (suc j) worker h = worker_of_start n new j worker h
