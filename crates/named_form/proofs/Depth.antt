-- A procedure makes closures of later ones alone, so more depth gives no more free variables.
use Rattle.std.proofs.Common.{◌≡◌, ℕ, zero, suc, ◌+◌, ◌<◌, ◌≤◌, List, [], ◌∷◌, ◌++◌, length, Option, Some, None, refl, sym, ap, ◌∙◌, arith}
use Rattle.std.proofs.lemmas.Option.{slice_get_past}
use Rattle.std.specs.Prelude.{slice_get, not}
use Rattle.std.specs.List.{AllByRecursion, filter, flat_map}
use Rattle.named_form.specs.Code.{Written, written_at, free_in, closes_in, reads_in, bound_in, once, has}
use Rattle.named_form.specs.Valid.{LaterOnes}
use Rattle.named_form.proofs.Labels.{makes_later}

flat_map_same : {X A : Type 0} (f g : X → List A) (xs : List X)
    → AllByRecursion (λ x. f x ≡ g x) xs → flat_map f xs ≡ flat_map g xs
flat_map_same f g [] h = refl
flat_map_same f g (x ∷ xs) h =
    let here = h.0 in
    let past = flat_map_same f g xs h.1 in
    cc

all_from : {X : Type 0} (P Q : X → Type 0) → ((x : X) → P x → Q x) → (xs : List X)
    → AllByRecursion P xs → AllByRecursion Q xs
all_from P Q f [] h = tt
all_from P Q f (x ∷ xs) h = (f x h.0, all_from P Q f xs h.1)

-- what is free of a procedure, with what is free in those that it makes
abbrev free_of : (free : ℕ → List ℕ) → Written → List ℕ
free_of free p =
    filter (λ x. not (has (bound_in p) x)) (once (reads_in p.body ++ flat_map free (closes_in p.body)))

same_free : (free more : ℕ → List ℕ) (p : Written) → AllByRecursion (λ r. free r ≡ more r) (closes_in p.body)
    → free_of free p ≡ free_of more p
same_free free more p h =
    ap (λ xs. filter (λ x. not (has (bound_in p) x)) (once (reads_in p.body ++ xs)))
    (flat_map_same free more (closes_in p.body) h)

-- no procedure has this number, so nothing is free in it
pub none_free : (n : ℕ) (ps : List Written) (q : ℕ) → slice_get ps q ≡ None → free_in n ps q ≡ []
none_free zero ps q h = refl
none_free (suc n) ps q h = ap (λ o. free_of (free_in n ps) (written_at o)) h

depth_at : (ps : List Written) → LaterOnes 0 ps → (n m q : ℕ)
    → ((r : ℕ) → q < r → free_in n ps r ≡ free_in m ps r)
    → (o : Option Written) → slice_get ps q ≡ o → free_in (suc n) ps q ≡ free_in (suc m) ps q
depth_at ps w n m q same None e =
    let one = none_free (suc n) ps q e in
    let other = none_free (suc m) ps q e in
    cc
depth_at ps w n m q same (Some p) e =
    let alike = same_free (free_in n ps) (free_in m ps) p
    (all_from (λ r. q < r) (λ r. free_in n ps r ≡ free_in m ps r) same (closes_in p.body) (makes_later ps q p w e)) in
    ap (λ o. free_of (free_in n ps) (written_at o)) e
    ∙ (alike ∙ sym (ap (λ o. free_of (free_in m ps) (written_at o)) e))

pub same_depth : (ps : List Written) → LaterOnes 0 ps → (n m q : ℕ) → length ps ≤ n + q → length ps ≤ m + q
    → free_in n ps q ≡ free_in m ps q
same_depth ps w zero m q h k = sym (none_free m ps q (slice_get_past ps q (omega arith)))
same_depth ps w (suc n) zero q h k = none_free (suc n) ps q (slice_get_past ps q (omega arith))
same_depth ps w (suc n) (suc m) q h k =
    depth_at ps w n m q (λ r late. same_depth ps w n m r (omega arith) (omega arith)) (slice_get ps q) refl

-- as deep as there are procedures from this one on is deep enough
pub deep_enough : (ps : List Written) → LaterOnes 0 ps → (n q : ℕ) → length ps ≤ n + q
    → free_in n ps q ≡ free_in (length ps) ps q
deep_enough ps w n q h = same_depth ps w n (length ps) q h (omega arith)
