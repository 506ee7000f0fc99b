-- Spreading marks from definitions to those that they use comes to all that are reached.
use Rattle.std.proofs.Common.{◌≡◌, ◌≢◌, ℕ, zero, suc, ◌+◌, ◌-◌, ◌<◌, ◌≤◌, List, [], ◌∷◌, ◌++◌, length, get_or, Bool, true, false, ◌||◌, Some, Option, None, ◌⊎◌, inl, inr, refl, sym, ap, ap₂, subst, ◌∙◌, arith, eqb-true, eq-eqb}
use Rattle.std.specs.Prelude.{nat_eq, slice_get, if◌then◌else◌}
use Rattle.prelude_text.specs.Closure.{In, AreNumbers, AreUses, Reached, first, used, Increases, IsClosure, has, marks, in_marked, both, spread, are_same, spread_often, marked_numbers, closure}
use Rattle.prelude_text.specs.Marking.{IsMarked, unmarked}
use Rattle.prelude_text.proofs.Marked.{in_left, in_right, in_split, uses_at, Works, closed}

-- One list only

above : (n k : ℕ) (ks : List ℕ) → Increases n ks → In k ks → n < k
above n k [] h i = absurd i
above n k (j ∷ ks) h (inl e) = let lt = h.0 in omega arith
above n k (j ∷ ks) h (inr i) = let lt = above j k ks h.1 i in let l = h.0 in omega arith

different : (n k : ℕ) → n < k → k ≡ n → ⊥
different n k lt e = grind arith

-- lists that increase and have the same numbers are one
same_lists : (n : ℕ) (ks js : List ℕ) → Increases n ks → Increases n js → ((k : ℕ) → In k ks → In k js)
    → ((k : ℕ) → In k js → In k ks) → ks ≡ js
same_lists n [] [] h i f g = refl
same_lists n [] (j ∷ js) h i f g = absurd (g j (inl refl))
same_lists n (k ∷ ks) [] h i f g = absurd (f k (inl refl))
same_lists n (k ∷ ks) (j ∷ js) h i f g =
    ap₂ (λ a l. a ∷ l) heads
    (same_lists k ks js h.1 (subst (λ m. Increases m js) (sym heads) i.1) (λ m s. later m s) (λ m s. earlier m s))
  where
    least : In k (j ∷ js) → In j (k ∷ ks) → k ≡ j
    least (inl e) r = e
    least (inr l) (inl e) = sym e
    least (inr l) (inr r) = let x = above j k js i.1 l in let y = above k j ks h.1 r in absurd (both_less k j x y)
      where
        both_less : (k j : ℕ) → j < k → k < j → ⊥
        both_less k j x y = grind arith

    heads : k ≡ j
    heads = least (f k (inl refl)) (g j (inl refl))

    later : (m : ℕ) → In m ks → In m js
    later m s = tail (f m (inr s))
      where
        tail : In m (j ∷ js) → In m js
        tail (inl e) = absurd (different k m (above k m ks h.1 s) (e ∙ sym heads))
        tail (inr l) = l

    earlier : (m : ℕ) → In m js → In m ks
    earlier m s = tail (g m (inr s))
      where
        tail : In m (k ∷ ks) → In m ks
        tail (inl e) = absurd (different j m (above j m js i.1 s) (e ∙ heads))
        tail (inr l) = l

pub one : (uses : List (List ℕ)) (from ks js : List ℕ) → IsClosure uses from ks → IsClosure uses from js → ks ≡ js
one uses from ks js h i =
    same_lists 0 ks js h.increasing i.increasing (λ k s. i.whole k (h.sound k s)) (λ k s. h.whole k (i.sound k s))

-- Marks

apart : true ≡ false → ⊥
apart e = cc

or_case : (a b : Bool) → (a || b) ≡ true → (a ≡ true) ⊎ (b ≡ true)
or_case true b h = inl refl
or_case false b h = inr h

or_left : (a b : Bool) → a ≡ true → (a || b) ≡ true
or_left true b h = refl
or_left false b h = absurd (apart (sym h))

or_right : (a b : Bool) → b ≡ true → (a || b) ≡ true
or_right true b h = refl
or_right false b h = h

has_case : (j k : ℕ) (ks : List ℕ) → (has ks k ≡ true → In k ks) → (nat_eq k j ≡ true) ⊎ (has ks k ≡ true) → In k (j ∷ ks)
has_case j k ks rest (inl e) = inl (eqb-true k j e)
has_case j k ks rest (inr l) = inr (rest l)

has_in : (ks : List ℕ) (k : ℕ) → has ks k ≡ true → In k ks
has_in [] k h = absurd (apart (sym h))
has_in (j ∷ ks) k h = has_case j k ks (has_in ks k) (or_case (nat_eq k j) (has ks k) h)

in_has : (ks : List ℕ) (k : ℕ) → In k ks → has ks k ≡ true
in_has [] k h = absurd h
in_has (j ∷ ks) k (inl e) = or_left (nat_eq k j) (has ks k) (eq-eqb k j e)
in_has (j ∷ ks) k (inr l) = or_right (nat_eq k j) (has ks k) (in_has ks k l)

length-marks : (k : ℕ) (uses : List (List ℕ)) (from : List ℕ) → length (marks k uses from) ≡ length uses
length-marks k [] from = refl
length-marks k (u ∷ uses) from = ap suc (length-marks (suc k) uses from)

marks_from : (k : ℕ) (uses : List (List ℕ)) (from : List ℕ) (i : ℕ) → get_or (marks k uses from) i false ≡ true → In (k + i) from
marks_from k [] from i h = absurd (apart (sym h))
marks_from k (u ∷ uses) from zero h = subst (λ j. In j from) (omega arith) (has_in from k h)
marks_from k (u ∷ uses) from (suc i) h = subst (λ j. In j from) (omega arith) (marks_from (suc k) uses from i h)

marks_in : (k : ℕ) (uses : List (List ℕ)) (from : List ℕ) (i : ℕ) → i < length uses → In (k + i) from
    → get_or (marks k uses from) i false ≡ true
marks_in k [] from i lt h = absurd (none i lt)
  where
    none : (i : ℕ) → i < 0 → ⊥
    none i lt = grind arith
marks_in k (u ∷ uses) from zero lt h = in_has from k (subst (λ j. In j from) (omega arith) h)
marks_in k (u ∷ uses) from (suc i) lt h = marks_in (suc k) uses from i (omega arith) (subst (λ j. In j from) (omega arith) h)

number_in : (n : ℕ) (ks : List ℕ) (k : ℕ) → AreNumbers n ks → In k ks → (1 ≤ k) × (k ≤ n)
number_in n [] k h i = absurd i
number_in n (j ∷ ks) k h (inl e) = let a = h.0 in let b = h.1 in (omega arith, omega arith)
number_in n (j ∷ ks) k h (inr i) = number_in n ks k h.2 i

uses_number : (n : ℕ) (us : List (List ℕ)) (i : ℕ) (u : List ℕ) (j : ℕ) → AreUses n us → slice_get us i ≡ Some u → In j u
    → (1 ≤ j) × (j ≤ n)
uses_number n us i u j h e s = number_in n u j (uses_at n us i u h e) s

-- what marked definitions use

same_some : (u v : List ℕ) → Some v ≡ Some u → v ≡ u
same_some u v e = cc

none_some : (u : List ℕ) → None ≡ Some u → ⊥
none_some u e = cc

-- a definition that is marked, and uses this one
record Uses (uses : List (List ℕ)) (m : List Bool) (j : ℕ) : Type 0 where
  at : ℕ
  numbers : List ℕ
  marked : get_or m at false ≡ true
  is : slice_get uses at ≡ Some numbers
  uses_it : In j numbers

further : (uses : List (List ℕ)) (u : List ℕ) (m : List Bool) (b : Bool) (j : ℕ) → Uses uses m j → Uses (u ∷ uses) (b ∷ m) j
further uses u m b j r = record { at = suc r.at; numbers = r.numbers; marked = r.marked; is = r.is; uses_it = r.uses_it }

used_from : (uses : List (List ℕ)) (m : List Bool) (j : ℕ) → In j (in_marked uses m) → Uses uses m j
used_from [] m j h = absurd h
used_from (u ∷ uses) [] j h = absurd h
used_from (u ∷ uses) (true ∷ m) j h = either (used_from uses m j) (in_split j u (in_marked uses m) h)
  where
    either : (In j (in_marked uses m) → Uses uses m j) → In j u ⊎ In j (in_marked uses m) → Uses (u ∷ uses) (true ∷ m) j
    either rest (inl l) = record { at = 0; numbers = u; marked = refl; is = refl; uses_it = l }
    either rest (inr l) = further uses u m true j (rest l)
used_from (u ∷ uses) (false ∷ m) j h = further uses u m false j (used_from uses m j h)

used_in : (uses : List (List ℕ)) (m : List Bool) (i : ℕ) (u : List ℕ) (j : ℕ) → get_or m i false ≡ true → slice_get uses i ≡ Some u
    → In j u → In j (in_marked uses m)
used_in [] m i u j h e s = absurd (none_some u e)
used_in (v ∷ uses) [] i u j h e s = absurd (apart (sym h))
used_in (v ∷ uses) (true ∷ m) zero u j h e s = in_left j v (in_marked uses m) (subst (λ l. In j l) (sym (same_some u v e)) s)
used_in (v ∷ uses) (true ∷ m) (suc i) u j h e s = in_right j v (in_marked uses m) (used_in uses m i u j h e s)
used_in (v ∷ uses) (false ∷ m) zero u j h e s = absurd (apart (sym h))
used_in (v ∷ uses) (false ∷ m) (suc i) u j h e s = used_in uses m i u j h e s

-- both of two lists of marks

length-both : (a b : List Bool) → length (both a b) ≡ length a
length-both [] b = refl
length-both (x ∷ a) [] = refl
length-both (x ∷ a) (y ∷ b) = ap suc (length-both a b)

both_from : (a b : List Bool) (i : ℕ) → get_or (both a b) i false ≡ true → (get_or a i false ≡ true) ⊎ (get_or b i false ≡ true)
both_from [] b i h = inl h
both_from (x ∷ a) [] i h = inl h
both_from (x ∷ a) (y ∷ b) zero h = or_case x y h
both_from (x ∷ a) (y ∷ b) (suc i) h = both_from a b i h

both_left : (a b : List Bool) (i : ℕ) → get_or a i false ≡ true → get_or (both a b) i false ≡ true
both_left [] b i h = h
both_left (x ∷ a) [] i h = h
both_left (x ∷ a) (y ∷ b) zero h = or_left x y h
both_left (x ∷ a) (y ∷ b) (suc i) h = both_left a b i h

both_right : (a b : List Bool) (i : ℕ) → i < length a → get_or b i false ≡ true → get_or (both a b) i false ≡ true
both_right [] b i lt h = absurd (none i lt)
  where
    none : (i : ℕ) → i < 0 → ⊥
    none i lt = grind arith
both_right (x ∷ a) [] i lt h = absurd (apart (sym h))
both_right (x ∷ a) (y ∷ b) zero lt h = or_right x y h
both_right (x ∷ a) (y ∷ b) (suc i) lt h = both_right a b i (omega arith) h

-- where nothing is new, all that is marked was
same_marks : (a b : List Bool) (i : ℕ) → are_same a (both a b) ≡ true → get_or (both a b) i false ≡ true → get_or a i false ≡ true
same_marks [] b i s h = h
same_marks (x ∷ a) [] i s h = h
same_marks (true ∷ a) (y ∷ b) zero s h = refl
same_marks (true ∷ a) (y ∷ b) (suc i) s h = same_marks a b i s h
same_marks (false ∷ a) (true ∷ b) i s h = absurd (apart (sym s))
same_marks (false ∷ a) (false ∷ b) zero s h = h
same_marks (false ∷ a) (false ∷ b) (suc i) s h = same_marks a b i s h

no_more : (a b : List Bool) → unmarked (both a b) ≤ unmarked a
no_more [] b = omega arith
no_more (x ∷ a) [] = omega arith
no_more (true ∷ a) (y ∷ b) = no_more a b
no_more (false ∷ a) (true ∷ b) = let h = no_more a b in omega arith
no_more (false ∷ a) (false ∷ b) = let h = no_more a b in omega arith

same_itself : (a : List Bool) → are_same a a ≡ true
same_itself [] = refl
same_itself (true ∷ a) = same_itself a
same_itself (false ∷ a) = same_itself a

-- where something is new, fewer are not marked
fewer : (a b : List Bool) → are_same a (both a b) ≡ false → unmarked (both a b) < unmarked a
fewer [] b s = absurd (apart s)
fewer (x ∷ a) [] s = absurd (apart (sym (same_itself (x ∷ a)) ∙ s))
fewer (true ∷ a) (y ∷ b) s = fewer a b s
fewer (false ∷ a) (true ∷ b) s = let h = no_more a b in omega arith
fewer (false ∷ a) (false ∷ b) s = let h = fewer a b s in omega arith

-- where none is unmarked, all are marked
all_marked : (m : List Bool) (i : ℕ) → unmarked m ≤ 0 → i < length m → get_or m i false ≡ true
all_marked [] i none lt = absurd (below i lt)
  where
    below : (i : ℕ) → i < 0 → ⊥
    below i lt = grind arith
all_marked (true ∷ m) zero none lt = refl
all_marked (true ∷ m) (suc i) none lt = all_marked m i none (omega arith)
all_marked (false ∷ m) i none lt = absurd (below (unmarked m) none)
  where
    below : (n : ℕ) → suc n ≤ 0 → ⊥
    below n lt = grind arith

-- Spreading

record Marking (uses : List (List ℕ)) (from : List ℕ) (m : List Bool) : Type 0 where
  size : length m ≡ length uses
  sound : (i : ℕ) → get_or m i false ≡ true → Reached uses from (suc i)
  began : (k : ℕ) → In k from → IsMarked m k

begin_marks : (uses : List (List ℕ)) (from : List ℕ) → AreNumbers (length uses) from → Marking uses from (marks 1 uses from)
begin_marks uses from n = record {
  size = length-marks 1 uses from;
  sound = λ i h. first (suc i) (subst (λ k. In k from) (omega arith) (marks_from 1 uses from i h));
  began = λ k h.
      let in_range = number_in (length uses) from k n h in
      let low = in_range.0 in
      let high = in_range.1 in
      let is : k ≡ suc (k - 1) = omega arith in
      let here : k ≡ 1 + (k - 1) = omega arith in
      (k - 1, is, marks_in 1 uses from (k - 1) (omega arith) (subst (λ j. In j from) here h));
}

spread_marks : (uses : List (List ℕ)) (from : List ℕ) (m : List Bool) → Marking uses from m → Marking uses from (spread uses m)
spread_marks uses from m h = record {
  size = length-both m (marks 1 uses (in_marked uses m)) ∙ h.size;
  sound = λ i s. reached i (both_from m (marks 1 uses (in_marked uses m)) i s);
  began = λ k s. let r = h.began k s in (r.0, r.1, both_left m (marks 1 uses (in_marked uses m)) r.0 r.2);
}
  where
    reached : (i : ℕ) → (get_or m i false ≡ true) ⊎ (get_or (marks 1 uses (in_marked uses m)) i false ≡ true) → Reached uses from (suc i)
    reached i (inl s) = h.sound i s
    reached i (inr s) =
        let r = used_from uses m (1 + i) (marks_from 1 uses (in_marked uses m) i s) in
        subst (λ k. Reached uses from k) (omega arith) (used r.at r.numbers (1 + i) (h.sound r.at r.marked) r.is r.uses_it)

-- nothing waits where marks are spread
works : (uses : List (List ℕ)) (from : List ℕ) (m : List Bool) → Marking uses from m
    → ((i : ℕ) (u : List ℕ) (j : ℕ) → get_or m i false ≡ true → slice_get uses i ≡ Some u → In j u → IsMarked m j) → Works uses from m []
works uses from m h d = record {
  size = h.size;
  sound = λ k s. subst (λ j. Reached uses from j) (sym s.1) (h.sound s.0 s.2);
  waiting = λ k s. absurd s;
  began = h.began;
  done = λ i u j s e l. inr (d i u j (ap (λ n. get_or m n false) (same_suc i s.0 s.1) ∙ s.2) e l);
}
  where
    same_suc : (i j : ℕ) → suc i ≡ suc j → i ≡ j
    same_suc i j e = omega arith

end_marks : (uses : List (List ℕ)) (from : List ℕ) (m : List Bool) → AreUses (length uses) uses → Marking uses from m
    → are_same m (spread uses m) ≡ true → Works uses from m []
end_marks uses from m a h s =
    works uses from m h
    (λ i u j k e l.
    let in_range = uses_number (length uses) uses i u j a e l in
    let low = in_range.0 in
    let high = in_range.1 in
    let z = h.size in
    let is : j ≡ suc (j - 1) = omega arith in
    let here : j ≡ 1 + (j - 1) = omega arith in
    let there : get_or (marks 1 uses (in_marked uses m)) (j - 1) false ≡ true =
    marks_in 1 uses (in_marked uses m) (j - 1) (omega arith) (subst (λ n. In n (in_marked uses m)) here (used_in uses m i u j k e l)) in (
      j - 1,
      is,
      same_marks m (marks 1 uses (in_marked uses m)) (j - 1) s
          (both_right m (marks 1 uses (in_marked uses m)) (j - 1) (omega arith) there),
    ))

full_marks : (uses : List (List ℕ)) (from : List ℕ) (m : List Bool) → AreUses (length uses) uses → Marking uses from m
    → unmarked m ≤ 0 → Works uses from m []
full_marks uses from m a h none =
    works uses from m h
    (λ i u j k e l.
    let in_range = uses_number (length uses) uses i u j a e l in
    let low = in_range.0 in
    let high = in_range.1 in
    let z = h.size in
    let is : j ≡ suc (j - 1) = omega arith in
    (j - 1, is, all_marked m (j - 1) none (omega arith)))

chosen_marks : (uses : List (List ℕ)) (from : List ℕ) (m n : List Bool) (b : Bool) → (b ≡ true → Works uses from m [])
    → (b ≡ false → Works uses from n []) → Works uses from (if b then m else n) []
chosen_marks uses from m n true h k = h refl
chosen_marks uses from m n false h k = k refl

often : (n : ℕ) (uses : List (List ℕ)) (from : List ℕ) (m : List Bool) → AreUses (length uses) uses → Marking uses from m
    → unmarked m ≤ n → Works uses from (spread_often n uses m) []
often zero uses from m a h few = full_marks uses from m a h few
often (suc n) uses from m a h few =
    chosen_marks uses from m (spread_often n uses (spread uses m)) (are_same m (spread uses m))
    (λ s. end_marks uses from m a h s)
    (λ s.
    let less = fewer m (marks 1 uses (in_marked uses m)) s in
    often n uses from (spread uses m) a (spread_marks uses from m h) (omega arith))

few_unmarked : (m : List Bool) → unmarked m ≤ length m
few_unmarked [] = omega arith
few_unmarked (true ∷ m) = let h = few_unmarked m in omega arith
few_unmarked (false ∷ m) = let h = few_unmarked m in omega arith

pub found : (uses : List (List ℕ)) (from : List ℕ) → AreUses (length uses) uses → AreNumbers (length uses) from
    → IsClosure uses from (closure uses from)
found uses from a n =
    let m : List Bool = marks 1 uses from in
    let h = begin_marks uses from n in
    let few : unmarked m ≤ length uses = let x = few_unmarked m in let y = h.size in omega arith in
    closed uses from (spread_often (length uses) uses m) (often (length uses) uses from m a h few)
