-- A number that is looked at is marked from then on.
use Rattle.std.proofs.Common.{◌≡◌, ℕ, ◌+◌, ◌<◌, ◌≤◌, inl, inr, Bool, true, false, List, [], ◌∷◌, ◌++◌, length, length-append, get_or, set, take, refl, sym, ap, ◌∙◌, subst, arith, append-nil, append_assoc, eqb-true, eq-eqb, ne_eqb, get_or-set_other, get_or-set_same}
use Rattle.std.specs.Prelude.{nat_eq, ◌||◌}
use Rattle.std.specs.List.{sum_by}
use Rattle.std.proofs.lemmas.Bool.{cases_eq, cases_lt}
use Rattle.std.proofs.lemmas.List.{get_or_past}
use Rattle.std.proofs.lemmas.List.Folds.{list_any-append}
use Rattle.std.proofs.lemmas.List.Sums.{sum_by-cons, sum_by-set}
use Rattle.std.proofs.lemmas.Option.{get_or_from_slice_get, slice_get_read}
use Rattle.least_set.specs.Least.{has}
use Rattle.least_set.specs.Search.{Grows, Tells, one}
use Rattle.least_set.proofs.Has.{has_end, has_more, or_false, or_true, or_assoc}

-- a mark that was read
pub read_mark : (marks : List Bool) (x : ℕ) (was b : Bool) → x < length marks → was ≡ get_or marks x was → was ≡ b → get_or marks x false ≡ b
read_mark marks x was b within reads is =
    get_or_from_slice_get marks x was false (slice_get_read marks (length marks) x was refl within reads) ∙ is

pub nothing_new : (old : List ℕ) → Grows [] old old
nothing_new old = record { more = []; after = sym (append-nil old); same = λ x. sym (or_false (has old x)) }

pub now_marked : (marks : List Bool) (found : List ℕ) (x : ℕ) → x < length marks → get_or marks x false ≡ false
    → Tells marks found → Tells (set marks x true) (found ++ x ∷ [])
now_marked marks found x within new h =
    record {
      same = λ y. elim (cases_eq y x) [
        | inl e ↦
            let here : get_or (set marks x true) x false ≡ true = get_or-set_same marks x true false within in
            let there : has (found ++ x ∷ []) x ≡ true = has_end found x x ∙ (ap (λ b. has found x || b) (eq-eqb x x refl) ∙ or_true (has found x)) in
            subst (λ z. get_or (set marks x true) z false ≡ has (found ++ x ∷ []) z) (sym e) (here ∙ sym there)
        | inr n ↦
            get_or-set_other marks x y true false n
            ∙ (h.same y
            ∙ (sym (or_false (has found y)) ∙ (ap (λ b. has found y || b) (sym (ne_eqb y x n)) ∙ sym (has_end found x y))))
      ];
      long =
          let sums : sum_by one (set marks x true) + one (get_or marks x false) ≡ sum_by one marks + 1 = sum_by-set one marks x true false within in
          let none : one (get_or marks x false) ≡ 0 = ap one new in
          let longer : length (found ++ x ∷ []) ≡ length found + 1 = length-append found (x ∷ []) in
          omega (arith, h.long);
    }

-- a number that was marked before
pub none_new : (found : List ℕ) (x : ℕ) → has found x ≡ true → Grows (x ∷ []) found found
none_new found x marked =
    record {
      more = [];
      after = sym (append-nil found);
      same = λ y. by_same y (nat_eq y x) refl;
    }
  where
    by_same : (y : ℕ) (b : Bool) → nat_eq y x ≡ b → has found y ≡ (has found y || has (x ∷ []) y)
    by_same y true e =
        let there : has found y ≡ true = ap (has found) (eqb-true y x e) ∙ marked in
        there ∙ sym (ap (λ b. b || has (x ∷ []) y) there)
    by_same y false e = sym (ap (λ b. has found y || (b || false)) e ∙ or_false (has found y))

-- a number that is found now
pub one_new : (found : List ℕ) (x : ℕ) → Grows (x ∷ []) found (found ++ x ∷ [])
one_new found x = record { more = x ∷ []; after = refl; same = λ y. list_any-append (nat_eq y) found (x ∷ []) }

-- one number more
pub grows_on : (numbers old found new : List ℕ) (i x : ℕ) → i < length numbers → get_or numbers i 0 ≡ x
    → Grows (take i numbers) old found → Grows (x ∷ []) found new → Grows (take (i + 1) numbers) old new
grows_on numbers old found new i x within is h g =
    record {
      more = h.more ++ g.more;
      after = g.after ∙ (ap (λ ys. ys ++ g.more) h.after ∙ append_assoc old h.more g.more);
      same = λ y.
          let step : has (take (i + 1) numbers) y ≡ (has (take i numbers) y || nat_eq y x) =
          has_more numbers i y within ∙ ap (λ z. has (take i numbers) y || nat_eq y z) is in
          g.same y
          ∙ (ap (λ b. has found y || b) (or_false (nat_eq y x))
          ∙ (ap (λ b. b || nat_eq y x) (h.same y)
          ∙ (or_assoc (has old y) (has (take i numbers) y) (nat_eq y x) ∙ ap (λ b. has old y || b) (sym step))));
    }

-- what is found is below the number of marks
pub marked_below : (marks : List Bool) (found : List ℕ) (x : ℕ) → Tells marks found → has found x ≡ true → x < length marks
marked_below marks found x h there =
    elim (cases_lt x (length marks)) [
      | inl below ↦ below
      | inr past ↦
          let none : get_or marks x false ≡ false = get_or_past marks x false past in
          let same : get_or marks x false ≡ has found x = h.same x in
          absurd (cc)
    ]

pub sum_below : (marks : List Bool) → sum_by one marks ≤ length marks
sum_below [] = omega arith
sum_below (true ∷ bs) = let past = sum_below bs in omega (arith, sum_by-cons one true bs)
sum_below (false ∷ bs) = let past = sum_below bs in omega (arith, sum_by-cons one false bs)
