-- The lists of what each procedure keeps, made from the last procedure on.
use Rattle.std.proofs.Common.{◌≡◌, ℕ, zero, suc, ◌+◌, ◌-◌, ◌<◌, ◌≤◌, List, [], ◌∷◌, length, Some, refl, sym, ap, subst, ◌∙◌, arith, length-set, get_or, eqb-true, Bool, true, false}
use Rattle.std.proofs.lemmas.Option.{slice_get-map, slice_get-get_or, get_or_from_slice_get}
use Rattle.std.proofs.lemmas.Bool.{eqb-false}
use Rattle.std.proofs.lemmas.List.{length-map}
use Rattle.std.specs.Prelude.{map, nat_eq, slice_get, slice_set}
use Rattle.std.specs.Option.{option_map}
use Rattle.named_form.specs.declared.program.Proc.{Proc}
use Rattle.named_form.specs.Code.{Written}
use Rattle.named_form.specs.Needs.{listed, needs_in, among}
use Rattle.named_form.specs.PlainPlan.{before, all_before, free_vars, all_free}
use Rattle.named_form.specs.Valid.{Numbered, Made, Scoped, numbers_from}
use Rattle.named_form.specs.Written.{code, procedure}
use Rattle.named_form.proofs.Kept.{Listed, kept_exactly, length_numbers}

at_numbers : {X : Type 0} (f : ℕ → X) (lo n k : ℕ) → k < n → slice_get (map f (numbers_from lo n)) k ≡ Some (f (lo + k))
at_numbers f lo zero k lt = absurd (omega arith)
at_numbers f lo (suc n) zero lt = let e : lo ≡ lo + 0 = omega arith in ap (λ m. Some (f m)) e
at_numbers f lo (suc n) (suc k) lt =
    let e : suc lo + k ≡ lo + suc k = omega arith in
    at_numbers f (suc lo) n k (omega arith) ∙ ap (λ m. Some (f m)) e

-- a list that has at each number what f gives there
all_numbered : {X : Type 0} (f : ℕ → X) (lo : ℕ) (xs : List X)
    → ((k : ℕ) → k < length xs → slice_get xs k ≡ Some (f (lo + k))) → xs ≡ map f (numbers_from lo (length xs))
all_numbered f lo [] h = refl
all_numbered f lo (x ∷ xs) h =
    let here : Some x ≡ Some (f (lo + 0)) = h 0 (omega arith) in
    let e : lo + 0 ≡ lo = omega arith in
    let same : f (lo + 0) ≡ f lo = ap f e in
    let first : x ≡ f lo = cc in
    let rest = all_numbered f (suc lo) xs (λ k lt.
    let next : lo + suc k ≡ suc lo + k = omega arith in
    h (suc k) (omega arith) ∙ ap (λ m. Some (f m)) next) in
    ap (λ y. y ∷ xs) first ∙ ap (λ ys. f lo ∷ ys) rest

-- what stands where the first variables' numbers of procedures stand
pub first_at : (ps : List Written) (firsts : List ℕ) (q : ℕ) (d : ℕ) → firsts ≡ all_before ps → q < length ps
    → get_or firsts q d ≡ before ps q
first_at ps firsts q d h lt =
    get_or_from_slice_get firsts q (before ps q) d
    (ap (λ xs. slice_get xs q) h
    ∙ (at_numbers (before ps) 0 (length ps) q lt ∙ (let e : 0 + q ≡ q = omega arith in ap (λ m. Some (before ps m)) e)))

pub firsts_long : (ps : List Written) (firsts : List ℕ) → firsts ≡ all_before ps → length firsts ≡ length ps
firsts_long ps firsts h =
    ap length h ∙ (rw length-map (length_numbers 0 (length ps)))

-- none of the lists is made so far
pub none_listed : (ps : List Written) (lists : List (List ℕ)) → length lists ≡ length ps → Listed ps (length ps) lists
none_listed ps lists h = record { long = h; each = λ r ge lt. absurd (omega arith) }

written_at_number : (procs : List Proc) (q : ℕ) (p : Proc) → q < length procs → p ≡ get_or procs q p
    → slice_get (map procedure procs) q ≡ Some (procedure p)
written_at_number procs q p lt e =
    slice_get-map procedure procs q
    ∙ ap (option_map procedure) (slice_get-get_or procs q p lt ∙ ap (λ r. Some r) (sym e))

set_here : {X : Type 0} (xs : List X) (k : ℕ) (x : X) → k < length xs → slice_get (slice_set xs k x) k ≡ Some x
set_here [] k x lt = absurd (omega arith)
set_here (y ∷ ys) zero x lt = refl
set_here (y ∷ ys) (suc k) x lt = set_here ys k x (omega arith)

set_there : {X : Type 0} (xs : List X) (k r : ℕ) (x : X) → (r ≡ k → ⊥) → slice_get (slice_set xs k x) r ≡ slice_get xs r
set_there [] k r x other = refl
set_there (y ∷ ys) zero zero x other = absurd (other refl)
set_there (y ∷ ys) zero (suc r) x other = refl
set_there (y ∷ ys) (suc k) zero x other = refl
set_there (y ∷ ys) (suc k) (suc r) x other = set_there ys k r x (λ e. other (ap suc e))

-- one list more
pub one_more : (procs : List Proc) → Numbered (map procedure procs) → Made (map procedure procs) → Scoped (map procedure procs)
    → (n first : ℕ) (p : Proc) (lists : List (List ℕ)) (ids : List ℕ) → 0 < n → n ≤ length procs
    → p ≡ get_or procs (n - 1) p → first ≡ before (map procedure procs) (n - 1)
    → Listed (map procedure procs) n lists → ids ≡ among first (needs_in (listed lists) (code p.body))
    → Listed (map procedure procs) (n - 1) (slice_set lists (n - 1) ids)
one_more procs numbered made_once scoped n first p lists ids some within here begins l made =
    record { long = length-set lists (n - 1) ids ∙ l.long; each = λ r ge lt. each r ge lt }
  where
    ps : List Written
    ps = map procedure procs

    next : n ≡ suc (n - 1)
    next = omega arith

    exact : ids ≡ free_vars (map procedure procs) (n - 1)
    exact =
        made
        ∙ (ap (λ k. among k (needs_in (listed lists) (code p.body))) begins
        ∙ kept_exactly (map procedure procs) numbered made_once scoped (n - 1) (procedure p)
        (written_at_number procs (n - 1) p (omega arith) here) lists
        (subst (λ m. Listed (map procedure procs) m lists) next l))

    each : (r : ℕ) → n - 1 ≤ r → r < length (map procedure procs)
        → slice_get (slice_set lists (n - 1) ids) r ≡ Some (free_vars (map procedure procs) r)
    each r ge lt = by_case (nat_eq r (n - 1)) refl
      where
        by_case : (t : Bool) → nat_eq r (n - 1) ≡ t
            → slice_get (slice_set lists (n - 1) ids) r ≡ Some (free_vars (map procedure procs) r)
        by_case true e =
            let same : r ≡ n - 1 = eqb-true r (n - 1) e in
            let long = l.long in
            ap (λ k. slice_get (slice_set lists (n - 1) ids) k) same
            ∙ (set_here lists (n - 1) ids (omega (arith, long))
            ∙ (ap (λ xs. Some xs) exact ∙ ap (λ k. Some (free_vars (map procedure procs) k)) (sym same)))
        by_case false e =
            let other = eqb-false r (n - 1) e in
            set_there lists (n - 1) r ids other ∙ l.each r (above other) lt
          where
            above : (r ≡ n - 1 → ⊥) → n ≤ r
            above other = omega arith

-- all are made
pub all_listed : (ps : List Written) (lists : List (List ℕ)) → Listed ps 0 lists → lists ≡ all_free ps
all_listed ps lists l =
    all_numbered (free_vars ps) 0 lists
    (λ k lt. let e : k ≡ 0 + k = omega arith in l.each k (omega arith) (omega (arith, l.long, lt)) ∙ ap (λ m. Some (free_vars ps m)) e)
    ∙ ap (λ n. map (free_vars ps) (numbers_from 0 n)) l.long
