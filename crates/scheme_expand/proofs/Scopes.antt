-- The variables of a scope, when some are bound, assigned and left.
use Rattle.std.proofs.Common.{◌≡◌, ℕ, zero, suc, ◌+◌, ◌-◌, ◌<◌, ◌≤◌, List, [], ◌∷◌, ◌++◌, length, drop, Option, Some, None, Bool, true, false, ◌||◌, ◌&&◌, if◌then◌else◌, refl, sym, ap, ap₂, subst, ◌∙◌, append-nil, append_assoc, bytes_eq, eqb-true, arith}
use Rattle.std.specs.Prelude.{map, nat_eq, nat_le, nat_lt, slice_get, slice_set}
use Rattle.std.specs.List.{list_any}
use Rattle.std.proofs.lemmas.Bool.{lt-ltb, ltb-true, ltb-false}
use Rattle.std.proofs.lemmas.Bool.Decides.{Decides-eqb}
use Rattle.std.proofs.lemmas.List.{length-append, length-map, drop-append-le, map-append, set-append_left}
use Rattle.std.proofs.lemmas.List.Folds.{list_any-append}
use Rattle.std.proofs.lemmas.Option.{slice_get_past}
use Rattle.std.proofs.Math.Seq.{set-append_seam}
use Rattle.draft_form.specs.declared.draft.Variable.{Variable}
use Rattle.draft_form.specs.Drafts.{Part, Local, Changed, changes}
use Rattle.draft_form.specs.Drawn.{Names, name_of, word_name}
use Rattle.draft_form.proofs.Ends.{got_last}
use Rattle.scheme_expand.specs.declared.scope.Bound.{Bound as Kept}
use Rattle.scheme_expand.specs.declared.scope.Scope.{Scope}
use Rattle.scheme_expand.specs.Making.{from_level, one_assigned}
use Rattle.scheme_expand.specs.Noted.{level_in}
use Rattle.scheme_expand.specs.Rewriting.{found, has_name, unnamed, variable, variables}
use Rattle.scheme_expand.specs.Viewed.{AreBound, AreWords, Hides, IsBound, IsCalled, IsScope, Spells}
use Rattle.scheme_expand.specs.Views.{Bound, bound_names, lowered, put_inside, raised}
use Rattle.scheme_expand.proofs.IndexOfNames.{set_there, set_elsewhere}
use Rattle.scheme_expand.proofs.Scoping.{apart, some_none, same_some, same_bytes, bytes_same}

-- Names

below_none : (w : ℕ) {A : Type 0} → nat_lt w 0 ≡ true → A
below_none w e = absurd (omega (arith, ltb-true w 0 e))

turned : (x : List ℕ) → bytes_eq [] x ≡ false → bytes_eq x [] ≡ false
turned [] h = h
turned (b ∷ x) h = refl

first_false : (a b : Bool) → (a || b) ≡ false → a ≡ false
first_false true b h = h
first_false false b h = refl

other_false : (a b : Bool) → (a || b) ≡ false → b ≡ false
other_false true b h = absurd (apart h)
other_false false b h = h

pub not_empty : (names : Names) (w : ℕ) → has_name (map (λ name. name.now) names) [] ≡ false → nat_lt w (length names) ≡ true
    → bytes_eq (word_name names w) [] ≡ false
not_empty [] w h e = below_none w e
not_empty (x ∷ names) zero h e = turned x.now (first_false _ _ h)
not_empty (x ∷ names) (suc w) h e =
    let less : suc w < suc (length names) = ltb-true (suc w) (suc (length names)) e in
    not_empty names w (other_false _ _ h) (lt-ltb w (length names) (omega arith))

names_differ : (names : Names) (v w : ℕ) → AreWords names → nat_lt v (length names) ≡ true → (v ≡ w → ⊥)
    → bytes_eq (word_name names v) (word_name names w) ≡ false
names_differ names v w h e differ = by_test (bytes_eq (word_name names v) (word_name names w)) refl
  where
    by_test : (b : Bool) → bytes_eq (word_name names v) (word_name names w) ≡ b
        → bytes_eq (word_name names v) (word_name names w) ≡ false
    by_test false q = q
    by_test true q = absurd (differ (h.distinct v w e (same_bytes _ _ q)))

found_here : (x : List ℕ) (xs : List (List ℕ)) → found (x ∷ xs) x ≡ Some (length xs)
found_here x xs = ap (λ b. if b then Some (length xs) else found xs x) (bytes_same x)

found_behind : (x y : List ℕ) (xs : List (List ℕ)) → bytes_eq x y ≡ false → found (y ∷ xs) x ≡ found xs x
found_behind x y xs h = ap (λ b. if b then Some (length xs) else found xs x) h

-- How many variables there are

are_many : (names : Names) (ks : List Kept) (bs : List Bound) → AreBound names ks bs → length ks ≡ length bs
are_many names ks [] h = ap length h
are_many names ks (b ∷ bs) h =
    let all : length ks ≡ length h.0 + length (h.1 ∷ []) = ap length h.2 ∙ length-append h.0 (h.1 ∷ []) in
    let others : length h.0 ≡ length bs = are_many names h.0 bs h.4 in
    omega arith

pub is_high : (names : Names) (s : Scope) (bs : List Bound) → IsScope names s bs → length s.bound.items ≡ length bs
is_high names s bs h = are_many names s.bound.items bs h.bound

-- A variable is bound

levels_set : (levels : List (Option ℕ)) (w : ℕ) (level : Option ℕ) → w < length levels
    → level_in (slice_get (slice_set levels w level) w) ≡ level
levels_set levels w level h = ap level_in (set_there levels w level h)

levels_stay : (levels : List (Option ℕ)) (w v : ℕ) (level : Option ℕ) → (v ≡ w → ⊥)
    → level_in (slice_get (slice_set levels w level) v) ≡ level_in (slice_get levels v)
levels_stay levels w v level h = ap level_in (set_elsewhere levels w v level h)

set_length : {A : Type 0} (xs : List A) (i : ℕ) (x : A) → length (slice_set xs i x) ≡ length xs
set_length [] i x = refl
set_length (y ∷ xs) zero x = refl
set_length (y ∷ xs) (suc i) x = ap suc (set_length xs i x)

pub named_bound : (names : Names) (s t : Scope) (bs : List Bound) (w : ℕ) (x : List ℕ) (hidden : Option ℕ) (level : ℕ) → AreWords names
    → IsScope names s bs → Spells names w x → hidden ≡ found (bound_names bs) (word_name names w) → level ≡ length bs
    → t.bound.items ≡ s.bound.items ++ record { word = Some w; hidden = hidden; assigned = false } ∷ []
    → t.innermost.items ≡ slice_set s.innermost.items w (Some level)
    → IsScope names t (record { name = x; assigned = false } ∷ bs)
named_bound names s t bs w x hidden level words h spells hides high items levels =
    let there : w < length s.innermost.items = omega (arith, ltb-true w (length names) spells.0, h.size) in
    record {
      bound = (s.bound.items, record { word = Some w; hidden = hidden; assigned = false }, items, record { called = spells; hides = hides; assigned = refl }, h.bound);
      size = ap length levels ∙ (set_length s.innermost.items w (Some level) ∙ h.size);
      finds = λ v e. by_test v e (nat_eq v w) refl;
    }
  where
    same_level : (v : ℕ) → level_in (slice_get t.innermost.items v) ≡ level_in (slice_get (slice_set s.innermost.items w (Some level)) v)
    same_level v = ap (λ ls. level_in (slice_get ls v)) levels

    by_test : (v : ℕ) → nat_lt v (length names) ≡ true → (b : Bool) → nat_eq v w ≡ b
        → level_in (slice_get t.innermost.items v) ≡ found (x ∷ bound_names bs) (word_name names v)
    by_test v e true q =
        let same : v ≡ w = eqb-true v w q in
        let there : w < length s.innermost.items = omega (arith, ltb-true w (length names) spells.0, h.size) in
        let here : found (x ∷ bound_names bs) (word_name names w) ≡ Some (length (bound_names bs)) =
        ap (λ y. found (x ∷ bound_names bs) y) spells.1 ∙ found_here x (bound_names bs) in
        same_level v
        ∙ (ap (λ u. level_in (slice_get (slice_set s.innermost.items w (Some level)) u)) same
        ∙ (levels_set s.innermost.items w (Some level) there
        ∙ (ap Some (high ∙ sym (length-map bs (λ b. b.name))) ∙ (sym here ∙ ap (λ u. found (x ∷ bound_names bs) (word_name names u)) (sym same)))))
    by_test v e false q =
        let differ : v ≡ w → ⊥ = λ same. apart (sym ((Decides-eqb v w).1 same) ∙ q) in
        let other : bytes_eq (word_name names v) x ≡ false =
        ap (bytes_eq (word_name names v)) (sym spells.1) ∙ names_differ names v w words e differ in
        same_level v
        ∙ (levels_stay s.innermost.items w v (Some level) differ
        ∙ (h.finds v e ∙ sym (found_behind (word_name names v) x (bound_names bs) other)))

pub fresh_bound : (names : Names) (s t : Scope) (bs : List Bound) → AreWords names → IsScope names s bs
    → t.bound.items ≡ s.bound.items ++ record { word = None; hidden = None; assigned = false } ∷ []
    → t.innermost ≡ s.innermost → IsScope names t (record { name = []; assigned = false } ∷ bs)
fresh_bound names s t bs words h items levels =
    record {
      bound = (s.bound.items, record { word = None; hidden = None; assigned = false }, items, record { called = refl; hides = tt; assigned = refl }, h.bound);
      size = ap (λ l. length l.items) levels ∙ h.size;
      finds =
          λ v e. ap (λ l. level_in (slice_get l.items v)) levels
          ∙ (h.finds v e ∙ sym (found_behind (word_name names v) [] (bound_names bs) (not_empty names v words.named e)));
    }

pub one_fresh_more : (n : ℕ) (bs : List Bound)
    → put_inside (unnamed (suc n)) bs ≡ record { name = []; assigned = false } ∷ put_inside (unnamed n) bs
one_fresh_more zero bs = refl
one_fresh_more (suc n) bs = one_fresh_more n (record { name = []; assigned = false } ∷ bs)

-- A variable is assigned

changes_here : (k j : ℕ) (x : List ℕ) → j ≡ k → changes k 1 (Changed (Local j x) ∷ []) ≡ true
changes_here k j x e = by_parts (nat_le k j) (nat_lt j (k + 1)) refl refl
  where
    by_parts : (a b : Bool) → nat_le k j ≡ a → nat_lt j (k + 1) ≡ b → ((nat_le k j && nat_lt j (k + 1)) || false) ≡ true
    by_parts a b p q = grind arith

changes_not : (k j : ℕ) (x : List ℕ) → (j ≡ k → ⊥) → changes k 1 (Changed (Local j x) ∷ []) ≡ false
changes_not k j x e = grind arith

or-false : (a : Bool) → (a || false) ≡ a
or-false true = refl
or-false false = refl

or-true : (a : Bool) → (a || true) ≡ true
or-true true = refl
or-true false = refl

-- variables below the level of one that is assigned stay
raised_below : (j : ℕ) (x : List ℕ) (bs : List Bound) → length bs ≤ j → raised (Changed (Local j x) ∷ []) bs ≡ bs
raised_below j x [] h = refl
raised_below j x (b ∷ bs) h =
    let high : suc (length bs) ≤ j = h in
    let others : raised (Changed (Local j x) ∷ []) bs ≡ bs = raised_below j x bs (omega arith) in
    let differ : j ≡ length bs → ⊥ = λ e. omega arith in
    let flag : (b.assigned || changes (length bs) 1 (Changed (Local j x) ∷ [])) ≡ b.assigned =
    ap (λ c. b.assigned || c) (changes_not (length bs) j x differ) ∙ or-false b.assigned in
    ap₂ (λ c more. record { name = b.name; assigned = c } ∷ more) flag others

pub raised_names : (ps : List Part) (bs : List Bound) → bound_names (raised ps bs) ≡ bound_names bs
raised_names ps [] = refl
raised_names ps (b ∷ bs) = ap (λ xs. b.name ∷ xs) (raised_names ps bs)

-- a variable that is kept is assigned
abbrev pub is_assigned : Kept → Kept
is_assigned k = record { word = k.word; hidden = k.hidden; assigned = true }

hides_same : (names : Names) (word hidden : Option ℕ) (xs ys : List (List ℕ)) → xs ≡ ys → Hides names word hidden xs → Hides names word hidden ys
hides_same names word hidden xs ys e h = let P : List (List ℕ) → Type 0 = λ l. Hides names word hidden l in subst P e h

raised_inside : (names : Names) (k : Kept) (b : Bound) (bs : List Bound) (ps : List Part) → changes (length bs) 1 ps ≡ false
    → IsBound names k b bs
    → IsBound names k (record { name = b.name; assigned = b.assigned || changes (length bs) 1 ps }) (raised ps bs)
raised_inside names k b bs ps e h =
    record {
      called = h.called;
      hides = hides_same names k.word k.hidden (bound_names bs) (bound_names (raised ps bs)) (sym (raised_names ps bs)) h.hides;
      assigned = h.assigned ∙ sym (ap (λ c. b.assigned || c) e ∙ or-false b.assigned);
    }

raised_here : (names : Names) (k : Kept) (b : Bound) (bs : List Bound) (ps : List Part) → changes (length bs) 1 ps ≡ true
    → IsBound names k b bs
    → IsBound names (is_assigned k) (record { name = b.name; assigned = b.assigned || changes (length bs) 1 ps }) (raised ps bs)
raised_here names k b bs ps e h =
    record {
      called = h.called;
      hides = hides_same names k.word k.hidden (bound_names bs) (bound_names (raised ps bs)) (sym (raised_names ps bs)) h.hides;
      assigned = sym (ap (λ c. b.assigned || c) e ∙ or-true b.assigned);
    }

got_before : {A : Type 0} (xs ys : List A) (i : ℕ) → i < length xs → slice_get (xs ++ ys) i ≡ slice_get xs i
got_before [] ys i h = absurd (omega (arith, h))
got_before (x ∷ xs) ys zero h = refl
got_before (x ∷ xs) ys (suc i) h = got_before xs ys i (omega (arith, h))

pub kept_raised : (names : Names) (ks : List Kept) (bs : List Bound) (j : ℕ) (x : List ℕ) (k : Kept) → AreBound names ks bs
    → slice_get ks j ≡ Some k → AreBound names (slice_set ks j (is_assigned k)) (raised (Changed (Local j x) ∷ []) bs)
kept_raised names ks [] j x k h e = absurd (some_none k (sym e ∙ ap (λ l. slice_get l j) h))
kept_raised names ks (b ∷ bs) j x k h e =
    by_order (kept_raised names h.0 bs j x k h.4) (nat_lt j (length h.0)) (nat_eq j (length h.0)) refl refl
  where
    ps : List Part
    ps = Changed (Local j x) ∷ []

    high : length h.0 ≡ length bs
    high = are_many names h.0 bs h.4

    got : slice_get (h.0 ++ h.1 ∷ []) j ≡ Some k
    got = ap (λ l. slice_get l j) (sym h.2) ∙ e

    by_order : (slice_get h.0 j ≡ Some k → AreBound names (slice_set h.0 j (is_assigned k)) (raised ps bs)) → (less same : Bool)
        → nat_lt j (length h.0) ≡ less → nat_eq j (length h.0) ≡ same
        → AreBound names (slice_set ks j (is_assigned k)) (raised ps (b ∷ bs))
    by_order others true same less is =
        let lower : j < length h.0 = ltb-true j (length h.0) less in
        let differ : j ≡ length bs → ⊥ = λ q. omega (arith, high) in (
          slice_set h.0 j (is_assigned k),
          h.1,
          ap (λ l. slice_set l j (is_assigned k)) h.2 ∙ set-append_left h.0 (h.1 ∷ []) j (is_assigned k) lower,
          raised_inside names h.1 b bs ps (changes_not (length bs) j x differ) h.3,
          others (sym (got_before h.0 (h.1 ∷ []) j lower) ∙ got),
        )
    by_order others false true less is =
        let here : j ≡ length h.0 = eqb-true j (length h.0) is in
        let same : h.1 ≡ k = same_some _ h.1 k (got_last h.0 h.1 []) (ap (slice_get (h.0 ++ h.1 ∷ [])) (sym here) ∙ got) in
        let set : slice_set ks j (is_assigned k) ≡ h.0 ++ is_assigned h.1 ∷ [] =
        ap (λ l. slice_set l j (is_assigned k)) h.2
        ∙ (ap (λ i. slice_set (h.0 ++ h.1 ∷ []) i (is_assigned k)) here
        ∙ (set-append_seam h.0 h.1 [] (is_assigned k) ∙ ap (λ q. h.0 ++ is_assigned q ∷ []) (sym same))) in
        let low : length bs ≤ j = omega (arith, high) in
        let P : List Bound → Type 0 = λ l. AreBound names h.0 l in (
          h.0,
          is_assigned h.1,
          set,
          raised_here names h.1 b bs ps (changes_here (length bs) j x (here ∙ high)) h.3,
          subst P (sym (raised_below j x bs low)) h.4,
        )
    by_order others false false less is =
        let over : length h.0 ≤ j = ltb-false j (length h.0) less in
        let differ : j ≡ length h.0 → ⊥ = λ q. apart (sym ((Decides-eqb j (length h.0)).1 q) ∙ is) in
        let many : length (h.0 ++ h.1 ∷ []) ≡ length h.0 + length (h.1 ∷ []) = length-append h.0 (h.1 ∷ []) in
        let past : length (h.0 ++ h.1 ∷ []) ≤ j = omega arith in
        absurd (some_none k (sym got ∙ slice_get_past (h.0 ++ h.1 ∷ []) j past))

pub scope_raised : (names : Names) (s t : Scope) (bs : List Bound) (j : ℕ) (x : List ℕ) (k : Kept) → IsScope names s bs
    → slice_get s.bound.items j ≡ Some k → t.bound.items ≡ slice_set s.bound.items j (is_assigned k)
    → t.innermost ≡ s.innermost → IsScope names t (raised (Changed (Local j x) ∷ []) bs)
scope_raised names s t bs j x k h got items levels =
    let P : List Kept → Type 0 = λ l. AreBound names l (raised (Changed (Local j x) ∷ []) bs) in
    record {
      bound = subst P (sym items) (kept_raised names s.bound.items bs j x k h.bound got);
      size = ap (λ l. length l.items) levels ∙ h.size;
      finds =
          λ v e. ap (λ l. level_in (slice_get l.items v)) levels
          ∙ (h.finds v e ∙ ap (λ xs. found xs (word_name names v)) (sym (raised_names (Changed (Local j x) ∷ []) bs)));
    }

-- no variable has this level
pub none_raised : (names : Names) (s : Scope) (bs : List Bound) (j : ℕ) (x : List ℕ) → IsScope names s bs → length s.bound.items ≤ j
    → IsScope names s (raised (Changed (Local j x) ∷ []) bs)
none_raised names s bs j x h past =
    let high : length s.bound.items ≡ length bs = is_high names s bs h in
    let P : List Bound → Type 0 = λ l. IsScope names s l in
    subst P (sym (raised_below j x bs (omega arith))) h

-- Variables from a level on

drop_none : {A : Type 0} (xs : List A) (n : ℕ) → xs ≡ [] → drop n xs ≡ []
drop_none [] zero e = refl
drop_none [] (suc n) e = refl
drop_none (x ∷ xs) n e = absurd (cc)

pub drop_past : {A : Type 0} (xs : List A) (n : ℕ) → length xs ≤ n → drop n xs ≡ []
drop_past [] n h = drop_none [] n refl
drop_past (x ∷ xs) zero h = absurd (omega (arith, h))
drop_past (x ∷ xs) (suc n) h = drop_past xs n (omega (arith, h))

or_behind : (a b c : Bool) → c ≡ b → (a || (c || false)) ≡ (b || a)
or_behind true true c e = refl
or_behind true false c e = refl
or_behind false true c e = ap (λ d. d || false) e
or_behind false false c e = ap (λ d. d || false) e

pub flags_from : (names : Names) (ks : List Kept) (bs : List Bound) (k : ℕ) → AreBound names ks bs
    → list_any (λ b. b.assigned) (drop k ks) ≡ one_assigned k bs
flags_from names ks [] k h =
    ap (list_any (λ b. b.assigned)) (drop_none ks k h)
flags_from names ks (b ∷ bs) k h = by_test (flags_from names h.0 bs k h.4) (nat_lt (length bs) k) refl
  where
    high : length h.0 ≡ length bs
    high = are_many names h.0 bs h.4

    by_test : list_any (λ v. v.assigned) (drop k h.0) ≡ one_assigned k bs → (t : Bool) → nat_lt (length bs) k ≡ t
        → list_any (λ v. v.assigned) (drop k ks) ≡ (if t then false else b.assigned || one_assigned k bs)
    by_test others true e =
        let low : length bs < k = ltb-true (length bs) k e in
        let many : length ks ≡ suc (length bs) = are_many names ks (b ∷ bs) h in
        let past : length ks ≤ k = omega arith in
        ap (list_any (λ v. v.assigned)) (drop_past ks k past)
    by_test others false e =
        let within : k ≤ length bs = ltb-false (length bs) k e in
        let reach : k ≤ length h.0 = omega (arith, high) in
        ap (λ l. list_any (λ v. v.assigned) (drop k l)) h.2
        ∙ (ap (list_any (λ v. v.assigned)) (drop-append-le k h.0 (h.1 ∷ []) reach)
        ∙ (list_any-append (λ v. v.assigned) (drop k h.0) (h.1 ∷ [])
        ∙ (ap (λ a. a || (h.1.assigned || false)) others
        ∙ or_behind (one_assigned k bs) b.assigned h.1.assigned h.3.assigned)))

-- variables are called by these names
abbrev pub AreCalled : Names → List Kept → List (List ℕ) → Type 0
AreCalled names [] xs = xs ≡ []
AreCalled names (k ∷ ks) [] = ⊥
AreCalled names (k ∷ ks) (x ∷ xs) = IsCalled names k.word x × AreCalled names ks xs

called_behind : (names : Names) (ks : List Kept) (xs : List (List ℕ)) (k : Kept) (x : List ℕ) → AreCalled names ks xs
    → IsCalled names k.word x → AreCalled names (ks ++ k ∷ []) (xs ++ x ∷ [])
called_behind names [] [] k x h c = (c, refl)
called_behind names [] (y ∷ xs) k x h c = absurd (cc)
called_behind names (j ∷ ks) [] k x h c = absurd h
called_behind names (j ∷ ks) (y ∷ xs) k x h c = (h.0, called_behind names ks xs k x h.1 c)

pub called_at : (names : Names) (ks js : List Kept) (xs : List (List ℕ)) → js ≡ ks → AreCalled names ks xs → AreCalled names js xs
called_at names ks js xs e h = let P : List Kept → Type 0 = λ l. AreCalled names l xs in subst P (sym e) h

pub called_from : (names : Names) (ks : List Kept) (bs : List Bound) (k : ℕ) → AreBound names ks bs
    → AreCalled names (drop k ks) (from_level k bs)
called_from names ks [] k h = called_at names [] (drop k ks) [] (drop_none ks k h) refl
called_from names ks (b ∷ bs) k h = by_test (called_from names h.0 bs k h.4) (nat_lt (length bs) k) refl
  where
    high : length h.0 ≡ length bs
    high = are_many names h.0 bs h.4

    by_test : AreCalled names (drop k h.0) (from_level k bs) → (t : Bool) → nat_lt (length bs) k ≡ t
        → AreCalled names (drop k ks) (if t then [] else from_level k bs ++ b.name ∷ [])
    by_test others true e =
        let low : length bs < k = ltb-true (length bs) k e in
        let many : length ks ≡ suc (length bs) = are_many names ks (b ∷ bs) h in
        let past : length ks ≤ k = omega arith in
        called_at names [] (drop k ks) [] (drop_past ks k past) refl
    by_test others false e =
        let within : k ≤ length bs = ltb-false (length bs) k e in
        let reach : k ≤ length h.0 = omega (arith, high) in
        called_at names (drop k h.0 ++ h.1 ∷ []) (drop k ks) _ (ap (drop k) h.2 ∙ drop-append-le k h.0 (h.1 ∷ []) reach)
        (called_behind names (drop k h.0) (from_level k bs) h.1 b.name others h.3.called)

pub called_variable : (names : Names) (w k : ℕ) (x : List ℕ) → AreWords names → Spells names w x → Local k (word_name names w) ≡ variable k x
called_variable names w k x words h =
    ap (Local k) h.1 ∙ whole x (ap (λ y. bytes_eq y []) (sym h.1) ∙ not_empty names w words.named h.0)
  where
    whole : (y : List ℕ) → bytes_eq y [] ≡ false → Local k y ≡ variable k y
    whole [] e = absurd (apart e)
    whole (b ∷ y) e = refl

pub variables_behind : (k : ℕ) (xs : List (List ℕ)) (x : List ℕ)
    → variables k (xs ++ x ∷ []) ≡ variables k xs ++ variable (k + length xs) x ∷ []
variables_behind k [] x = let here : k ≡ k + 0 = omega arith in ap (λ j. variable j x ∷ []) here
variables_behind k (y ∷ xs) x =
    let there : suc k + length xs ≡ k + suc (length xs) = omega arith in
    ap (λ more. variable k y ∷ more)
    (variables_behind (suc k) xs x ∙ ap (λ j. variables (suc k) xs ++ variable j x ∷ []) there)

-- some of these variables are listed, and others are left
pub record Listed (names : Names) (level next : ℕ) (rest : List Kept) (made : List Variable) (xs : List (List ℕ)) : Type 0 where
  pub done : List (List ℕ)
  pub left : List (List ℕ)
  pub are : xs ≡ done ++ left
  pub called : AreCalled names rest left
  pub listed : map (name_of names) made ≡ variables level done
  pub high : next ≡ level + length done

pub none_listed : (names : Names) (level : ℕ) (rest : List Kept) (xs : List (List ℕ)) → AreCalled names rest xs
    → Listed names level level rest [] xs
none_listed names level rest xs h = record { done = []; left = xs; are = refl; called = h; listed = refl; high = omega arith }

pub one_listed : (names : Names) (level next after : ℕ) (rest others : List Kept) (k : Kept) (made more : List Variable) (v : Variable)
    (xs : List (List ℕ)) → Listed names level next rest made xs → rest ≡ k ∷ others
    → ((x : List ℕ) → IsCalled names k.word x → name_of names v ≡ variable next x) → more ≡ made ++ v ∷ [] → after ≡ next + 1
    → Listed names level after others more xs
one_listed names level next after rest others k made more v xs h e is m a =
    by_left h.left h.are (let P : List Kept → Type 0 = λ l. AreCalled names l h.left in subst P e h.called)
  where
    by_left : (left : List (List ℕ)) → xs ≡ h.done ++ left → AreCalled names (k ∷ others) left
        → Listed names level after others more xs
    by_left [] are called = absurd called
    by_left (x ∷ left) are called =
        let count : length (h.done ++ x ∷ []) ≡ length h.done + length (x ∷ []) = length-append h.done (x ∷ []) in
        let at : next ≡ level + length h.done = h.high in
        record {
          done = h.done ++ x ∷ [];
          left = left;
          are = are ∙ sym (append_assoc h.done (x ∷ []) left);
          called = called.1;
          listed =
              ap (map (name_of names)) m
              ∙ (map-append (name_of names) made (v ∷ [])
              ∙ (ap₂ (λ ys y. ys ++ y ∷ []) h.listed (is x called.0 ∙ ap (λ j. variable j x) at)
              ∙ sym (variables_behind level h.done x)));
          high = omega arith;
        }

pub all_listed : (names : Names) (level next : ℕ) (rest : List Kept) (made : List Variable) (xs : List (List ℕ))
    → Listed names level next rest made xs → rest ≡ [] → map (name_of names) made ≡ variables level xs
all_listed names level next rest made xs h e =
    let P : List Kept → Type 0 = λ l. AreCalled names l h.left in
    let none : h.left ≡ [] = subst P e h.called in
    h.listed ∙ ap (variables level) (sym (h.are ∙ (ap (λ l. h.done ++ l) none ∙ append-nil h.done)))

-- Variables are left

pub lowered_is : (k : ℕ) (bs : List Bound) → lowered k bs ≡ drop (length bs - k) bs
lowered_is k [] = sym (drop_none [] (0 - k) refl)
lowered_is k (b ∷ bs) = by_test (lowered_is k bs) (nat_lt (length bs) k) refl
  where
    by_test : lowered k bs ≡ drop (length bs - k) bs → (t : Bool) → nat_lt (length bs) k ≡ t
        → (if t then b ∷ bs else lowered k bs) ≡ drop (suc (length bs) - k) (b ∷ bs)
    by_test others true e =
        let low : length bs < k = ltb-true (length bs) k e in
        let all : suc (length bs) - k ≡ 0 = omega arith in
        sym (ap (λ n. drop n (b ∷ bs)) all)
    by_test others false e =
        let within : k ≤ length bs = ltb-false (length bs) k e in
        let one : suc (length bs) - k ≡ suc (length bs - k) = omega arith in
        others ∙ sym (ap (λ n. drop n (b ∷ bs)) one)

one_dropped : {A : Type 0} (xs : List A) (n : ℕ) → drop 1 (drop n xs) ≡ drop (suc n) xs
one_dropped [] zero = refl
one_dropped [] (suc n) = refl
one_dropped (x ∷ xs) zero = refl
one_dropped (x ∷ xs) (suc n) = one_dropped xs n

pub drop_one_more : {A : Type 0} (xs : List A) (n : ℕ) → drop 1 (drop n xs) ≡ drop (n + 1) xs
drop_one_more xs n = let next : suc n ≡ n + 1 = omega arith in one_dropped xs n ∙ ap (λ m. drop m xs) next

pub not_none : {A : Type 0} (xs : List A) (x : A) → xs ++ x ∷ [] ≡ [] → ⊥
not_none [] x e = cc
not_none (y ∷ xs) x e = cc

pub last_is : {A : Type 0} (xs ys : List A) (x y : A) → xs ++ x ∷ [] ≡ ys ++ y ∷ [] → (xs ≡ ys) × (x ≡ y)
last_is [] [] x y e = (refl, cc)
last_is [] (z ∷ ys) x y e = let none : [] ≡ ys ++ y ∷ [] = cc in absurd (not_none ys y (sym none))
last_is (z ∷ xs) [] x y e = let none : xs ++ x ∷ [] ≡ [] = cc in absurd (not_none xs x none)
last_is (z ∷ xs) (u ∷ ys) x y e =
    let more : xs ++ x ∷ [] ≡ ys ++ y ∷ [] = cc in
    let first : z ≡ u = cc in
    let rest = last_is xs ys x y more in
    (ap₂ (λ v l. v ∷ l) first rest.0, rest.1)

pub named_left : (names : Names) (s t : Scope) (bs : List Bound) (k : Kept) (w : ℕ) → AreWords names → IsScope names s bs
    → s.bound.items ≡ t.bound.items ++ k ∷ [] → k.word ≡ Some w → t.innermost.items ≡ slice_set s.innermost.items w k.hidden
    → IsScope names t (drop 1 bs)
named_left names s t [] k w words h items is levels = absurd (not_none t.bound.items k (sym items ∙ h.bound))
named_left names s t (b ∷ bs) k w words h items is levels =
    let P : List Kept → Type 0 = λ l. AreBound names l bs in
    record {
      bound = subst P same.0 h.bound.4;
      size = ap length levels ∙ (set_length s.innermost.items w k.hidden ∙ h.size);
      finds = λ v e. by_test v e (nat_eq v w) refl;
    }
  where
    same : (h.bound.0 ≡ t.bound.items) × (h.bound.1 ≡ k)
    same = last_is h.bound.0 t.bound.items h.bound.1 k (sym h.bound.2 ∙ items)

    word : h.bound.1.word ≡ Some w
    word = ap (λ q. q.word) same.1 ∙ is

    spells : Spells names w b.name
    spells = let P : Option ℕ → Type 0 = λ o. IsCalled names o b.name in subst P word h.bound.3.called

    hides : k.hidden ≡ found (bound_names bs) (word_name names w)
    hides =
        let P : Option ℕ → Type 0 = λ o. Hides names o h.bound.1.hidden (bound_names bs) in
        ap (λ q. q.hidden) (sym same.1) ∙ subst P word h.bound.3.hides

    same_level : (v : ℕ) → level_in (slice_get t.innermost.items v) ≡ level_in (slice_get (slice_set s.innermost.items w k.hidden) v)
    same_level v = ap (λ ls. level_in (slice_get ls v)) levels

    by_test : (v : ℕ) → nat_lt v (length names) ≡ true → (q : Bool) → nat_eq v w ≡ q
        → level_in (slice_get t.innermost.items v) ≡ found (bound_names bs) (word_name names v)
    by_test v e true q =
        let one : v ≡ w = eqb-true v w q in
        let there : w < length s.innermost.items = omega (arith, ltb-true w (length names) spells.0, h.size) in
        same_level v
        ∙ (ap (λ u. level_in (slice_get (slice_set s.innermost.items w k.hidden) u)) one
        ∙ (levels_set s.innermost.items w k.hidden there ∙ (hides ∙ ap (λ u. found (bound_names bs) (word_name names u)) (sym one))))
    by_test v e false q =
        let differ : v ≡ w → ⊥ = λ one. apart (sym ((Decides-eqb v w).1 one) ∙ q) in
        let other : bytes_eq (word_name names v) b.name ≡ false =
        ap (bytes_eq (word_name names v)) (sym spells.1) ∙ names_differ names v w words e differ in
        same_level v
        ∙ (levels_stay s.innermost.items w v k.hidden differ
        ∙ (h.finds v e ∙ found_behind (word_name names v) b.name (bound_names bs) other))

pub fresh_left : (names : Names) (s t : Scope) (bs : List Bound) (k : Kept) → AreWords names → IsScope names s bs
    → s.bound.items ≡ t.bound.items ++ k ∷ [] → k.word ≡ None → t.innermost ≡ s.innermost → IsScope names t (drop 1 bs)
fresh_left names s t [] k words h items is levels = absurd (not_none t.bound.items k (sym items ∙ h.bound))
fresh_left names s t (b ∷ bs) k words h items is levels =
    let same = last_is h.bound.0 t.bound.items h.bound.1 k (sym h.bound.2 ∙ items) in
    let P : List Kept → Type 0 = λ l. AreBound names l bs in
    let Q : Option ℕ → Type 0 = λ o. IsCalled names o b.name in
    let none : b.name ≡ [] = subst Q (ap (λ q. q.word) same.1 ∙ is) h.bound.3.called in
    record {
      bound = subst P same.0 h.bound.4;
      size = ap (λ l. length l.items) levels ∙ h.size;
      finds =
          λ v e. ap (λ l. level_in (slice_get l.items v)) levels
          ∙ (h.finds v e
          ∙ found_behind (word_name names v) b.name (bound_names bs)
          (ap (bytes_eq (word_name names v)) none ∙ not_empty names v words.named e));
    }
