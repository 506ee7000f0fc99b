-- The slots speak of the program's procedures and variables alone.
use Rattle.std.proofs.Common.{◌≡◌, ℕ, zero, suc, ◌+◌, ◌<◌, ◌≤◌, Bool, true, false, List, [], ◌∷◌, ◌++◌, cond, length, map, Option, Some, None, refl, ap, ◌∙◌, arith}
use Rattle.std.specs.Prelude.{nat_lt}
use Rattle.std.specs.List.{filter, flat_map, list_all}
use Rattle.std.proofs.lemmas.Bool.{lt-ltb, ltb-true}
use Rattle.scheme_base.specs.declared.place.Stated.{Stated}
use Rattle.scheme_base.specs.declared.place.Stated.TheVariants as stated
use Rattle.least_set.specs.Search.{listed}
use Rattle.least_set.proofs.Has.{and_cases, both}
use Rattle.named_form.specs.declared.plan.Fiction.{Fiction}
use Rattle.named_form.specs.Valid.{numbers_from}
use Rattle.named_form.specs.ValidPlan.{is_set, rises, states_procedure}
use Rattle.slot_facts.specs.Choice.{fictions_at, fictions_by}
use Rattle.slot_facts.specs.Graph.{closes_below, value_at}
use Rattle.slot_facts.specs.Marks.{is_marked}

-- some of a set are a set

drop_second : (x y : ℕ) (ys : List ℕ) → rises (x ∷ y ∷ ys) ≡ true → rises (x ∷ ys) ≡ true
drop_second x y [] h = refl
drop_second x y (z ∷ zs) h =
    let first = and_cases (nat_lt x y) (rises (y ∷ z ∷ zs)) h in
    let second = and_cases (nat_lt y z) (rises (z ∷ zs)) first.1 in
    let low = ltb-true x y first.0 in
    let high = ltb-true y z second.0 in
    both (nat_lt x z) (rises (z ∷ zs)) (lt-ltb x z (omega (arith, low, high))) second.1

drop_first : (x : ℕ) (xs : List ℕ) → rises (x ∷ xs) ≡ true → rises xs ≡ true
drop_first x [] h = refl
drop_first x (y ∷ ys) h = (and_cases (nat_lt x y) (rises (y ∷ ys)) h).1

risen_after : (p : ℕ → Bool) (x : ℕ) (xs : List ℕ) → rises (x ∷ xs) ≡ true → rises (x ∷ filter p xs) ≡ true
risen_after p x [] h = refl
risen_after p x (y ∷ ys) h =
    by_test (p y) (and_cases (nat_lt x y) (rises (y ∷ ys)) h).0 (risen_after p y ys (drop_first x (y ∷ ys) h))
    (risen_after p x ys (drop_second x y ys h))
  where
    by_test : (b : Bool) → nat_lt x y ≡ true → rises (y ∷ filter p ys) ≡ true → rises (x ∷ filter p ys) ≡ true
        → rises (x ∷ cond b (y ∷ filter p ys) (filter p ys)) ≡ true
    by_test true less with_y past = both (nat_lt x y) (rises (y ∷ filter p ys)) less with_y
    by_test false less with_y past = past

risen : (p : ℕ → Bool) (xs : List ℕ) → rises xs ≡ true → rises (filter p xs) ≡ true
risen p [] h = refl
risen p (x ∷ xs) h = by_test (p x) (risen_after p x xs h) (risen p xs (drop_first x xs h))
  where
    by_test : (b : Bool) → rises (x ∷ filter p xs) ≡ true → rises (filter p xs) ≡ true → rises (cond b (x ∷ filter p xs) (filter p xs)) ≡ true
    by_test true with_x past = with_x
    by_test false with_x past = past

some_below : (n : ℕ) (p : ℕ → Bool) (xs : List ℕ) → list_all (λ x. nat_lt x n) xs ≡ true → list_all (λ x. nat_lt x n) (filter p xs) ≡ true
some_below n p [] h = refl
some_below n p (x ∷ xs) h =
    let parts = and_cases (nat_lt x n) (list_all (λ y. nat_lt y n) xs) h in
    by_test (p x) parts.0 (some_below n p xs parts.1)
  where
    by_test : (b : Bool) → nat_lt x n ≡ true → list_all (λ y. nat_lt y n) (filter p xs) ≡ true
        → list_all (λ y. nat_lt y n) (cond b (x ∷ filter p xs) (filter p xs)) ≡ true
    by_test true less past = both (nat_lt x n) (list_all (λ y. nat_lt y n) (filter p xs)) less past
    by_test false less past = past

pub some_set : (n : ℕ) (p : ℕ → Bool) (xs : List ℕ) → is_set n xs ≡ true → is_set n (filter p xs) ≡ true
some_set n p xs h =
    let parts = and_cases (rises xs) (list_all (λ x. nat_lt x n) xs) h in
    both (rises (filter p xs)) (list_all (λ x. nat_lt x n) (filter p xs)) (risen p xs parts.0) (some_below n p xs parts.1)

numbers_rise : (from many : ℕ) → rises (numbers_from from many) ≡ true
numbers_rise from zero = refl
numbers_rise from (suc zero) = refl
numbers_rise from (suc (suc many)) =
    both (nat_lt from (suc from)) (rises (numbers_from (suc from) (suc many))) (lt-ltb from (suc from) (omega arith)) (numbers_rise (suc from) (suc many))

numbers_below : (n from many : ℕ) → from + many ≤ n → list_all (λ x. nat_lt x n) (numbers_from from many) ≡ true
numbers_below n from zero h = refl
numbers_below n from (suc many) h =
    both (nat_lt from n) (list_all (λ x. nat_lt x n) (numbers_from (suc from) many)) (lt-ltb from n (omega (arith, h)))
    (numbers_below n (suc from) many (omega (arith, h)))

pub all_set : (n : ℕ) → is_set n (numbers_from 0 n) ≡ true
all_set n =
    both (rises (numbers_from 0 n)) (list_all (λ x. nat_lt x n) (numbers_from 0 n)) (numbers_rise 0 n) (numbers_below n 0 n (omega arith))

-- the variables without a slot are some of all

abbrev states_one : (is_placed : Bool) → Option Stated → Bool
states_one b None = false
states_one true (Some v) = false
states_one false (Some v) = true

fiction_vars : (values : List (Option Stated)) (placed : List Bool) (from many : ℕ)
    → map (λ (f : Fiction). f.var) (flat_map (fictions_at values placed) (numbers_from from many))
    ≡ filter (λ x. states_one (is_marked placed x) (value_at values x)) (numbers_from from many)
fiction_vars values placed from zero = refl
fiction_vars values placed from (suc many) =
    by_one (is_marked placed from) (value_at values from) (fiction_vars values placed (suc from) many)
  where
    rest : List Fiction
    rest = flat_map (fictions_at values placed) (numbers_from (suc from) many)

    others : List ℕ
    others = filter (λ x. states_one (is_marked placed x) (value_at values x)) (numbers_from (suc from) many)

    by_one : (b : Bool) (o : Option Stated) → map (λ (f : Fiction). f.var) rest ≡ others
        → map (λ (f : Fiction). f.var) (fictions_by b from o ++ rest) ≡ cond (states_one b o) (from ∷ others) others
    by_one true None h = h
    by_one false None h = h
    by_one true (Some v) h = h
    by_one false (Some v) h = ap (λ xs. from ∷ xs) h

pub fictions_set : (values : List (Option Stated)) (placed : List Bool) (n : ℕ)
    → is_set n (map (λ (f : Fiction). f.var) (flat_map (fictions_at values placed) (numbers_from 0 n))) ≡ true
fictions_set values placed n =
    ap (is_set n) (fiction_vars values placed 0 n)
    ∙ some_set n (λ x. states_one (is_marked placed x) (value_at values x)) (numbers_from 0 n) (all_set n)

-- stated closures are of procedures that are there

states_below : (procs : ℕ) (v : Stated) → closes_below procs (Some v) ≡ true → states_procedure procs v ≡ true
states_below procs stated.False h = refl
states_below procs stated.True h = refl
states_below procs stated.Nil h = refl
states_below procs stated.Unspecified h = refl
states_below procs stated.Eof h = refl
states_below procs (stated.Closure q) h = h

pub all_stated : (procs : ℕ) (values : List (Option Stated)) (placed : List Bool) (from many : ℕ)
    → ((x : ℕ) → closes_below procs (value_at values x) ≡ true)
    → list_all (λ f. states_procedure procs f.value) (flat_map (fictions_at values placed) (numbers_from from many)) ≡ true
all_stated procs values placed from zero h = refl
all_stated procs values placed from (suc many) h =
    by_one (is_marked placed from) (value_at values from) (h from) (all_stated procs values placed (suc from) many h)
  where
    rest : List Fiction
    rest = flat_map (fictions_at values placed) (numbers_from (suc from) many)

    by_one : (b : Bool) (o : Option Stated) → closes_below procs o ≡ true → list_all (λ f. states_procedure procs f.value) rest ≡ true
        → list_all (λ f. states_procedure procs f.value) (fictions_by b from o ++ rest) ≡ true
    by_one true None low past = past
    by_one false None low past = past
    by_one true (Some v) low past = past
    by_one false (Some v) low past =
        both (states_procedure procs v) (list_all (λ f. states_procedure procs f.value) rest) (states_below procs v low) past

-- what each list is, all lists are

pub all_lists : (t : List ℕ → Bool) (lists : List (List ℕ)) → ((q : ℕ) → q < length lists → t (listed lists q) ≡ true) → list_all t lists ≡ true
all_lists t [] h = refl
all_lists t (xs ∷ lists) h =
    both (t xs) (list_all t lists) (h 0 (omega arith)) (all_lists t lists (λ q below. h (suc q) (omega (arith, below))))

pub mapped_lists : (t : List ℕ → Bool) (g : List ℕ → List ℕ) (lists : List (List ℕ)) → ((xs : List ℕ) → t xs ≡ true → t (g xs) ≡ true)
    → list_all t lists ≡ true → list_all t (map g lists) ≡ true
mapped_lists t g [] step h = refl
mapped_lists t g (xs ∷ lists) step h =
    let parts = and_cases (t xs) (list_all t lists) h in
    both (t (g xs)) (list_all t (map g lists)) (step xs parts.0) (mapped_lists t g lists step parts.1)
