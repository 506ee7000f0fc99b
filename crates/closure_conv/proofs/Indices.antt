-- Indices of the members of a list: as it grows, and what they say of members.
use Rattle.std.proofs.Common.{◌≡◌, ◌<◌, ◌≤◌, ℕ, suc, ◌+◌, nat_eq, List, [], ◌∷◌, ◌++◌, length, take, get_or, Option, Some, None, is_some, Bool, true, false, ◌||◌, if◌then◌else◌, refl, sym, ◌∙◌, ap, arith}
use Rattle.std.proofs.lemmas.Grind.{common_steps}
use Rattle.std.proofs.lemmas.List.{take_more}
use Rattle.std.proofs.lemmas.List.Folds.{list_any_more}
use Rattle.std.specs.Option.{option_map}
use Rattle.named_form.specs.Code.{has}
use Rattle.closure_conv.specs.FlatOf.{index_from, index_of}
use Rattle.closure_conv.specs.Tables.{or_else}

-- a list with one more member
pub index_from-more :
    (i : ℕ) (xs : List ℕ) (y x : ℕ)
    → index_from i (xs ++ y ∷ []) x ≡ or_else (index_from i xs x) (if nat_eq x y then Some (i + length xs) else None)
index_from-more i [] y x = ap (λ n. if nat_eq x y then Some n else None) (omega arith)
index_from-more i (z ∷ zs) y x =
    elim (nat_eq x z) as (λ b. (if b then Some i else index_from (suc i) (zs ++ y ∷ []) x) ≡ or_else (if b then Some i else index_from (suc i) zs x) (if nat_eq x y then Some (i + suc (length zs)) else None)) [
      | true ↦ refl
      | false ↦ index_from-more (suc i) zs y x ∙ ap (λ n. or_else (index_from (suc i) zs x) (if nat_eq x y then Some n else None)) (omega arith)
    ]

-- a number has an index exactly where it is a member
pub index_from-has : (i : ℕ) (xs : List ℕ) (x : ℕ) → is_some (index_from i xs x) ≡ has xs x
index_from-has i [] x = refl
index_from-has i (y ∷ ys) x =
    elim (nat_eq x y) as (λ b. is_some (if b then Some i else index_from (suc i) ys x) ≡ (b || has ys x)) [
      | true ↦ refl
      | false ↦ index_from-has (suc i) ys x
    ]

-- Numbering the members one by one: each gets its number, unless it has one.
pub filled :
    (ms : List ℕ) (i n x : ℕ) (before after : Option ℕ)
    → i < length ms
    → n ≡ i
    → before ≡ index_of (take i ms) x
    → after ≡ or_else before (if nat_eq x (get_or ms i 0) then Some n else None)
    → after ≡ index_of (take (i + 1) ms) x
filled ms i n x before after within same was now =
    let long : length (take i ms) ≡ i = grind (arith, common_steps) in
    now ∙ ap (λ b. or_else b (if nat_eq x (get_or ms i 0) then Some n else None)) was
    ∙ ap (λ k. or_else (index_of (take i ms) x) (if nat_eq x (get_or ms i 0) then Some k else None)) (omega (arith, long))
    ∙ sym (index_from-more 0 (take i ms) (get_or ms i 0) x) ∙ ap (λ xs. index_of xs x) (sym (take_more ms i 0 within))

-- Taking the numbers from the members one by one.
pub cleared :
    (ms : List ℕ) (i x : ℕ) (before after at : Option ℕ)
    → i < length ms
    → before ≡ (if has (take i ms) x then None else at)
    → after ≡ (if nat_eq x (get_or ms i 0) then None else before)
    → after ≡ (if has (take (i + 1) ms) x then None else at)
cleared ms i x before after at within was now =
    now ∙ ap (λ b. if nat_eq x (get_or ms i 0) then None else b) was ∙ either (has (take i ms) x) (nat_eq x (get_or ms i 0)) at
    ∙ ap (λ b. if b then None else at) (sym (list_any_more (nat_eq x) ms i 0 within))
  where
    either : (b e : Bool) (at : Option ℕ) → (if e then None else (if b then None else at)) ≡ (if b || e then None else at)
    either true true at = refl
    either true false at = refl
    either false true at = refl
    either false false at = refl

-- what is no member has no index
pub without : (ms : List ℕ) (x : ℕ) → (if has ms x then None else index_of ms x) ≡ None
without ms x = by_case (has ms x) (index_of ms x) (index_from-has 0 ms x)
  where
    by_case : (b : Bool) (at : Option ℕ) → is_some at ≡ b → (if b then None else at) ≡ None
    by_case true at e = refl
    by_case false None e = refl
    by_case false (Some n) e = cc

pub cleared_all :
    (ms : List ℕ) (i x : ℕ) (after : Option ℕ)
    → length ms ≤ i
    → after ≡ (if has (take i ms) x then None else index_of ms x)
    → after ≡ None
cleared_all ms i x after past was =
    let whole : take i ms ≡ ms = grind (arith, common_steps) in
    was ∙ ap (λ xs. if has xs x then None else index_of ms x) whole ∙ without ms x

-- counted from one more
pub index_from-suc : (i : ℕ) (xs : List ℕ) (x : ℕ) → index_from (suc i) xs x ≡ option_map suc (index_from i xs x)
index_from-suc i [] x = refl
index_from-suc i (y ∷ ys) x =
    elim (nat_eq x y) as (λ b. (if b then Some (suc i) else index_from (suc (suc i)) ys x) ≡ option_map suc (if b then Some i else index_from (suc i) ys x)) [
      | true ↦ refl
      | false ↦ index_from-suc (suc i) ys x
    ]
