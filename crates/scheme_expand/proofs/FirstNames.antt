-- Of a text of names those that are listed are taken, each where it first stands.
use Rattle.std.proofs.Common.{◌≡◌, ℕ, zero, suc, ◌<◌, List, [], ◌∷◌, ◌++◌, length, Option, Some, None, Bool, true, false, not, ◌&&◌, ◌||◌, if◌then◌else◌, refl, sym, ap, subst, ◌∙◌, append-nil, bytes_eq, eqb-true}
use Rattle.std.specs.Prelude.{map, nat_eq, slice_get, slice_set}
use Rattle.std.proofs.lemmas.Bool.Decides.{Decides-eqb}
use Rattle.std.proofs.lemmas.List.{map-append}
use Rattle.std.proofs.lemmas.List.Folds.{list_any-append}
use Rattle.std.proofs.lemmas.Option.{slice_get_within}
use Rattle.draft_form.specs.Drawn.{word_name, Names}
use Rattle.scheme_expand.specs.ByWord.{flag_of, flag_at, HaveOneWord, Marks, AreTaken}
use Rattle.scheme_expand.specs.declared.first.Firsts.{Firsts}
use Rattle.scheme_expand.specs.Programs.{those_of, unlisted}
use Rattle.scheme_expand.specs.Rewriting.{has_name}
use Rattle.scheme_expand.proofs.Scoping.{apart, same_bytes, bytes_same}

-- Tests

or_end : (a b : Bool) → (a || (b || false)) ≡ (a || b)
or_end true b = refl
or_end false true = refl
or_end false false = refl

pub has_behind : (xs : List (List ℕ)) (x y : List ℕ) → has_name (xs ++ x ∷ []) y ≡ (has_name xs y || bytes_eq y x)
has_behind xs x y = list_any-append (bytes_eq y) xs (x ∷ []) ∙ or_end (has_name xs y) (bytes_eq y x)

abbrev one_if_not : Bool → List ℕ → List (List ℕ)
one_if_not true x = []
one_if_not false x = x ∷ []

abbrev one_if : Bool → List ℕ → List (List ℕ)
one_if true x = x ∷ []
one_if false x = []

-- Names in their order

unlisted_one : (b : Bool) (x : List ℕ) → (if b then [] else x ∷ []) ≡ one_if_not (b || false) x
unlisted_one true x = refl
unlisted_one false x = refl

unlisted_behind : (before xs : List (List ℕ)) (x : List ℕ)
    → unlisted before (xs ++ x ∷ []) ≡ unlisted before xs ++ one_if_not (has_name before x || has_name xs x) x
unlisted_behind before [] x = unlisted_one (has_name before x) x
unlisted_behind before (y ∷ ys) x =
    by_test (unlisted_behind before ys x) (unlisted_behind (y ∷ before) ys x) (has_name before y) refl
  where
    -- x is among the names before, if it is y
    among : (b : Bool) → bytes_eq x y ≡ b → has_name before y ≡ true
        → (has_name before x || has_name ys x) ≡ (has_name before x || (b || has_name ys x))
    among true e h = let P : List ℕ → Type 0 = λ z. has_name before z ≡ true in or_true (has_name before x) (subst P (sym (same_bytes x y e)) h)
      where
        or_true : (a : Bool) → a ≡ true → (a || has_name ys x) ≡ (a || true)
        or_true true h = refl
        or_true false h = absurd (apart (sym h))
    among false e h = refl

    turned : (a b c : Bool) → ((b || a) || c) ≡ (a || (b || c))
    turned true true c = refl
    turned true false c = refl
    turned false true c = refl
    turned false false c = refl

    by_test : unlisted before (ys ++ x ∷ []) ≡ unlisted before ys ++ one_if_not (has_name before x || has_name ys x) x
        → unlisted (y ∷ before) (ys ++ x ∷ []) ≡ unlisted (y ∷ before) ys ++ one_if_not ((bytes_eq x y || has_name before x) || has_name ys x) x
        → (b : Bool) → has_name before y ≡ b
        → (if b then unlisted before (ys ++ x ∷ []) else y ∷ unlisted (y ∷ before) (ys ++ x ∷ []))
        ≡ (if b then unlisted before ys else y ∷ unlisted (y ∷ before) ys) ++ one_if_not (has_name before x || (bytes_eq x y || has_name ys x)) x
    by_test same more true h =
        same
        ∙ ap (λ b. unlisted before ys ++ one_if_not b x) (among (bytes_eq x y) refl h)
    by_test same more false h =
        ap (λ l. y ∷ l)
        (more
        ∙ ap (λ b. unlisted (y ∷ before) ys ++ one_if_not b x) (turned (has_name before x) (bytes_eq x y) (has_name ys x)))

those-append : (listed xs ys : List (List ℕ)) → those_of listed (xs ++ ys) ≡ those_of listed xs ++ those_of listed ys
those-append listed [] ys = refl
those-append listed (x ∷ xs) ys = by_test (those-append listed xs ys) (has_name listed x)
  where
    by_test : those_of listed (xs ++ ys) ≡ those_of listed xs ++ those_of listed ys → (b : Bool) → (if b then x ∷ those_of listed (xs ++ ys) else those_of listed (xs ++ ys))
        ≡ (if b then x ∷ those_of listed xs else those_of listed xs) ++ those_of listed ys
    by_test same true = ap (λ l. x ∷ l) same
    by_test same false = same

those_one : (listed : List (List ℕ)) (x : List ℕ) (seen : Bool) → those_of listed (one_if_not seen x) ≡ one_if (has_name listed x && not seen) x
those_one listed x true = by_test (has_name listed x)
  where
    by_test : (b : Bool) → [] ≡ one_if (b && false) x
    by_test true = refl
    by_test false = refl
those_one listed x false = by_test (has_name listed x)
  where
    by_test : (b : Bool) → (if b then x ∷ [] else []) ≡ one_if (b && true) x
    by_test true = refl
    by_test false = refl

-- what is taken of a text with one name more
pub taken_behind : (listed xs : List (List ℕ)) (x : List ℕ)
    → those_of listed (unlisted [] (xs ++ x ∷ [])) ≡ those_of listed (unlisted [] xs) ++ one_if (has_name listed x && not (has_name xs x)) x
taken_behind listed xs x =
    ap (those_of listed) (unlisted_behind [] xs x)
    ∙ (those-append listed (unlisted [] xs) (one_if_not (has_name xs x) x)
    ∙ ap (λ l. those_of listed (unlisted [] xs) ++ l) (those_one listed x (has_name xs x)))

-- Flags

flag_set : (flags : List Bool) (w : ℕ) → flag_at (slice_set flags w false) w ≡ false
flag_set [] w = refl
flag_set (b ∷ flags) zero = refl
flag_set (b ∷ flags) (suc w) = flag_set flags w

flag_stays : (flags : List Bool) (w v : ℕ) → (v ≡ w → ⊥) → flag_at (slice_set flags w false) v ≡ flag_at flags v
flag_stays [] w v h = refl
flag_stays (b ∷ flags) zero zero h = absurd (h refl)
flag_stays (b ∷ flags) zero (suc v) h = refl
flag_stays (b ∷ flags) (suc w) zero h = refl
flag_stays (b ∷ flags) (suc w) (suc v) h = flag_stays flags w v (λ e. h (ap suc e))

pub flag_within : (flags : List Bool) (w : ℕ) → flag_at flags w ≡ true → w < length flags
flag_within flags w h = by_flag (slice_get flags w) refl h
  where
    by_flag : (o : Option Bool) → slice_get flags w ≡ o → flag_of o ≡ true → w < length flags
    by_flag None got h = absurd (apart (sym h))
    by_flag (Some b) got h = slice_get_within flags w b got

-- A name that is taken, or left

pub none_taken : (names : Names) (listed : List (List ℕ)) (f : Firsts) → f.taken.items ≡ [] → Marks names listed f.left.items
    → AreTaken names listed [] f
none_taken names listed f empty marks =
    record { taken = ap (map (word_name names)) empty; left = λ w. marks w ∙ and_true (has_name listed (word_name names w)) }
  where
    and_true : (b : Bool) → b ≡ (b && true)
    and_true true = refl
    and_true false = refl

and_not : (a b : Bool) → (a && not b) ≡ true → a ≡ true
and_not true b h = refl
and_not false b h = h

never : (a b : Bool) → (a && not (b || true)) ≡ false
never true true = refl
never true false = refl
never false b = refl

or_nothing : (b : Bool) → (b || false) ≡ b
or_nothing true = refl
or_nothing false = refl

-- with a name more that is no other's, as before
as_before : (listed text : List (List ℕ)) (x y : List ℕ) (b : Bool) → bytes_eq y x ≡ b → b ≡ false
    → (has_name listed y && not (has_name text y)) ≡ (has_name listed y && not (has_name (text ++ x ∷ []) y))
as_before listed text x y b e is_false =
    ap (λ t. has_name listed y && not t)
    (sym (has_behind text x y ∙ (ap (λ t. has_name text y || t) (e ∙ is_false) ∙ or_nothing (has_name text y))))

-- the name that is added is not left
not_left : (listed text : List (List ℕ)) (x y : List ℕ) → bytes_eq y x ≡ true
    → (has_name listed y && not (has_name (text ++ x ∷ []) y)) ≡ false
not_left listed text x y e =
    ap (λ t. has_name listed y && not t) (has_behind text x y ∙ ap (λ t. has_name text y || t) e)
    ∙ never (has_name listed y) (has_name text y)

pub word_taken : (names : Names) (listed text : List (List ℕ)) (word : ℕ) (f g : Firsts) → HaveOneWord names listed
    → AreTaken names listed text f → flag_at f.left.items word ≡ true → g.taken.items ≡ f.taken.items ++ word ∷ []
    → g.left.items ≡ slice_set f.left.items word false → AreTaken names listed (text ++ word_name names word ∷ []) g
word_taken names listed text word f g one h flag pushed cleared =
    let x : List ℕ = word_name names word in
    let free : (has_name listed x && not (has_name text x)) ≡ true = sym (h.left word) ∙ flag in
    let is_listed : has_name listed x ≡ true = and_not (has_name listed x) (has_name text x) free in
    record {
      taken =
          ap (map (word_name names)) pushed
          ∙ (map-append (word_name names) f.taken.items (word ∷ [])
          ∙ (ap (λ l. l ++ x ∷ []) h.taken
          ∙ (ap (λ b. those_of listed (unlisted [] text) ++ one_if b x) (sym free) ∙ sym (taken_behind listed text x))));
      left = λ w.
          let y : List ℕ = word_name names w in
          ap (λ l. flag_at l w) cleared ∙ by_test x y w is_listed refl refl (nat_eq w word) refl;
    }
  where
    other : (x y : List ℕ) (w : ℕ) → has_name listed x ≡ true → x ≡ word_name names word → y ≡ word_name names w → (w ≡ word → ⊥)
        → (b : Bool) → bytes_eq y x ≡ b → b ≡ false
    other x y w is_listed a b differ true e =
        let P : List ℕ → Type 0 = λ z. has_name listed z ≡ true in
        absurd (differ (sym (one word w (subst P a is_listed) (sym a ∙ (sym (same_bytes y x e) ∙ b)))))
    other x y w is_listed a b differ false e = refl

    by_test : (x y : List ℕ) (w : ℕ) → has_name listed x ≡ true → x ≡ word_name names word → y ≡ word_name names w
        → (b : Bool) → nat_eq w word ≡ b
        → flag_at (slice_set f.left.items word false) w ≡ (has_name listed y && not (has_name (text ++ x ∷ []) y))
    by_test x y w is_listed a b true e =
        let same : w ≡ word = eqb-true w word e in
        let names_same : y ≡ x = b ∙ (ap (word_name names) same ∙ sym a) in
        ap (λ v. flag_at (slice_set f.left.items word false) v) same
        ∙ (flag_set f.left.items word ∙ sym (not_left listed text x y (ap (λ z. bytes_eq z x) names_same ∙ bytes_same x)))
    by_test x y w is_listed a b false e =
        let differ : w ≡ word → ⊥ = λ same. apart (sym ((Decides-eqb w word).1 same) ∙ e) in
        let Y : List ℕ → Type 0 = λ z. flag_at f.left.items w ≡ (has_name listed z && not (has_name text z)) in
        flag_stays f.left.items word w differ
        ∙ (subst Y (sym b) (h.left w) ∙ as_before listed text x y (bytes_eq y x) refl (other x y w is_listed a b differ (bytes_eq y x) refl))

pub word_left : (names : Names) (listed text : List (List ℕ)) (word : ℕ) (f : Firsts) → AreTaken names listed text f
    → flag_at f.left.items word ≡ false → AreTaken names listed (text ++ word_name names word ∷ []) f
word_left names listed text word f h flag =
    let x : List ℕ = word_name names word in
    let gone : (has_name listed x && not (has_name text x)) ≡ false = sym (h.left word) ∙ flag in
    record {
      taken =
          h.taken
          ∙ (sym (append-nil (those_of listed (unlisted [] text)))
          ∙ (ap (λ b. those_of listed (unlisted [] text) ++ one_if b x) (sym gone) ∙ sym (taken_behind listed text x)));
      left = λ w. h.left w ∙ by_test x (word_name names w) gone (bytes_eq (word_name names w) x) refl;
    }
  where
    by_test : (x y : List ℕ) → (has_name listed x && not (has_name text x)) ≡ false → (b : Bool) → bytes_eq y x ≡ b
        → (has_name listed y && not (has_name text y)) ≡ (has_name listed y && not (has_name (text ++ x ∷ []) y))
    by_test x y gone true e =
        let P : List ℕ → Type 0 = λ z. (has_name listed z && not (has_name text z)) ≡ false in
        subst P (sym (same_bytes y x e)) gone ∙ sym (not_left listed text x y e)
    by_test x y gone false e = as_before listed text x y (bytes_eq y x) refl e
