-- What marking does, and what it comes to when nothing waits.
use Rattle.std.proofs.Common.{◌≡◌, ◌≢◌, ℕ, zero, suc, ◌+◌, ◌-◌, ◌<◌, ◌≤◌, List, [], ◌∷◌, ◌++◌, length, get_or, set, take, replicate, Bool, true, false, Option, Some, None, Result, Ok, Err, IfOk, ◌⊎◌, inl, inr, refl, sym, ap, subst, ◌∙◌, get_or-set_same, get_or-set_other, length-set, length-append, append_assoc, take-suc, length-take, min, add-one, append-nil, arith, eqb-true, eq-eqb}
use Rattle.std.specs.Prelude.{nat_eq, slice_get}
use Rattle.prelude_text.specs.Closure.{In, AreNumbers, AreUses, Reached, first, used, Increases, IsClosure, marked_numbers}
use Rattle.prelude_text.specs.Marking.{IsMarked, unmarked, Marks}

-- Lists of numbers

pub in_left : (k : ℕ) (xs ys : List ℕ) → In k xs → In k (xs ++ ys)
in_left k [] ys h = absurd h
in_left k (x ∷ xs) ys (inl e) = inl e
in_left k (x ∷ xs) ys (inr h) = inr (in_left k xs ys h)

pub in_right : (k : ℕ) (xs ys : List ℕ) → In k ys → In k (xs ++ ys)
in_right k [] ys h = h
in_right k (x ∷ xs) ys h = inr (in_right k xs ys h)

pub in_split : (k : ℕ) (xs ys : List ℕ) → In k (xs ++ ys) → In k xs ⊎ In k ys
in_split k [] ys h = inr h
in_split k (x ∷ xs) ys (inl e) = inl (inl e)
in_split k (x ∷ xs) ys (inr h) = further (in_split k xs ys h)
  where
    further : In k xs ⊎ In k ys → In k (x ∷ xs) ⊎ In k ys
    further (inl l) = inl (inr l)
    further (inr r) = inr r

numbers_split : (n : ℕ) (xs ys : List ℕ) → AreNumbers n (xs ++ ys) → AreNumbers n ys
numbers_split n [] ys h = h
numbers_split n (x ∷ xs) ys h = numbers_split n xs ys h.2

pub number_at : (n : ℕ) (xs : List ℕ) (i : ℕ) → AreNumbers n xs → i < length xs → (1 ≤ get_or xs i 0) × (get_or xs i 0 ≤ n)
number_at n [] i h lt = absurd (none i lt)
  where
    none : (i : ℕ) → i < 0 → ⊥
    none i lt = grind arith
number_at n (x ∷ xs) zero h lt = (h.0, h.1)
number_at n (x ∷ xs) (suc i) h lt = number_at n xs i h.2 (omega arith)

pub uses_at : (n : ℕ) (us : List (List ℕ)) (i : ℕ) (u : List ℕ) → AreUses n us → slice_get us i ≡ Some u → AreNumbers n u
uses_at n [] i u h e = absurd (none_some u e)
  where
    none_some : (u : List ℕ) → None ≡ Some u → ⊥
    none_some u e = cc
uses_at n (v ∷ us) zero u h e = subst (λ w. AreNumbers n w) (same v u e) h.0
  where
    same : (v u : List ℕ) → Some v ≡ Some u → v ≡ u
    same v u e = cc
uses_at n (v ∷ us) (suc i) u h e = uses_at n us i u h.1 e

-- One mark

unmarked_set : (m : List Bool) (i : ℕ) → i < length m → get_or m i false ≡ false → suc (unmarked (set m i true)) ≡ unmarked m
unmarked_set [] i lt h = absurd (none i lt)
  where
    none : (i : ℕ) → i < 0 → ⊥
    none i lt = grind arith
unmarked_set (true ∷ m) zero lt h = absurd (apart h)
  where
    apart : true ≡ false → ⊥
    apart e = cc
unmarked_set (false ∷ m) zero lt h = refl
unmarked_set (true ∷ m) (suc i) lt h = unmarked_set m i (omega arith) h
unmarked_set (false ∷ m) (suc i) lt h = ap suc (unmarked_set m i (omega arith) h)

pub marks_new : (id : ℕ) (m : List Bool) (w q : List ℕ) → 1 ≤ id → id ≤ length m → get_or m (id - 1) false ≡ false
    → q ≡ w ++ id ∷ [] → Marks (id ∷ []) m (set m (id - 1) true) w q
marks_new id m w q some within off is = record {
  same = length-set m at true;
  kept = λ k h. (h.0, h.1, stays h.0 h.2 (nat_eq h.0 at) refl);
  marked = λ k h. (at, this k h, get_or-set_same m at true false lt);
  came = λ k h. which k h (nat_eq h.0 at) refl;
  waits = λ k h. subst (λ l. In k l) (sym is) (in_left k w (id ∷ []) h);
  new = λ k h. waiting k (which k h (nat_eq h.0 at) refl);
  from = λ k h. in_split k w (id ∷ []) (subst (λ l. In k l) is h);
  less = fewer;
}
  where
    at : ℕ
    at = id - 1

    lt : at < length m
    lt = omega arith

    stays : (i : ℕ) → get_or m i false ≡ true → (b : Bool) → nat_eq i at ≡ b → get_or (set m at true) i false ≡ true
    stays i h true e = ap (λ j. get_or (set m at true) j false) (eqb-true i at e) ∙ get_or-set_same m at true false lt
    stays i h false e = get_or-set_other m at i true false (differs i at e) ∙ h
      where
        differs : (i j : ℕ) → nat_eq i j ≡ false → i ≢ j
        differs i j e = grind arith

    this : (k : ℕ) → In k (id ∷ []) → k ≡ suc at
    this k (inl e) = e ∙ omega arith
    this k (inr h) = absurd h

    which : (k : ℕ) (h : IsMarked (set m at true) k) (b : Bool) → nat_eq h.0 at ≡ b → IsMarked m k ⊎ In k (id ∷ [])
    which k h true e = inr (inl (h.1 ∙ (ap suc (eqb-true h.0 at e) ∙ omega arith)))
    which k h false e = inl (h.0, h.1, sym (get_or-set_other m at h.0 true false (differs h.0 at e)) ∙ h.2)
      where
        differs : (i j : ℕ) → nat_eq i j ≡ false → i ≢ j
        differs i j e = grind arith

    waiting : (k : ℕ) → IsMarked m k ⊎ In k (id ∷ []) → IsMarked m k ⊎ In k q
    waiting k (inl h) = inl h
    waiting k (inr h) = inr (subst (λ l. In k l) (sym is) (in_right k w (id ∷ []) h))

    fewer : unmarked (set m at true) + length q ≤ unmarked m + length w
    fewer =
        let e : length q ≡ length w + 1 = ap length is ∙ length-append w (id ∷ []) in
        let d : suc (unmarked (set m at true)) ≡ unmarked m = unmarked_set m at lt off in
        omega arith

pub marks_old : (id : ℕ) (m : List Bool) (w : List ℕ) → 1 ≤ id → get_or m (id - 1) false ≡ true → Marks (id ∷ []) m m w w
marks_old id m w some on = record {
  same = refl;
  kept = λ k h. h;
  marked = λ k h. (id - 1, this k h, on);
  came = λ k h. inl h;
  waits = λ k h. h;
  new = λ k h. inl h;
  from = λ k h. inl h;
  less = omega arith;
}
  where
    this : (k : ℕ) → In k (id ∷ []) → k ≡ suc (id - 1)
    this k (inl e) = e ∙ omega arith
    this k (inr h) = absurd h

-- Several marks

pub marks_none : (m : List Bool) (w : List ℕ) → Marks [] m m w w
marks_none m w = record {
  same = refl;
  kept = λ k h. h;
  marked = λ k h. absurd h;
  came = λ k h. inl h;
  waits = λ k h. h;
  new = λ k h. inl h;
  from = λ k h. inl h;
  less = omega arith;
}

pub marks_then : (xs ys : List ℕ) (a b c : List Bool) (p q r : List ℕ) → Marks xs a b p q → Marks ys b c q r
    → Marks (xs ++ ys) a c p r
marks_then xs ys a b c p q r h k = record {
  same = k.same ∙ h.same;
  kept = λ i m. k.kept i (h.kept i m);
  marked = λ i m. both i (in_split i xs ys m);
  came = λ i m. back i (k.came i m);
  waits = λ i m. k.waits i (h.waits i m);
  new = λ i m. newer i (k.new i m);
  from = λ i m. origin i (k.from i m);
  less = let x = h.less in let y = k.less in omega arith;
}
  where
    both : (i : ℕ) → In i xs ⊎ In i ys → IsMarked c i
    both i (inl m) = k.kept i (h.marked i m)
    both i (inr m) = k.marked i m

    back : (i : ℕ) → IsMarked b i ⊎ In i ys → IsMarked a i ⊎ In i (xs ++ ys)
    back i (inl m) = further (h.came i m)
      where
        further : IsMarked a i ⊎ In i xs → IsMarked a i ⊎ In i (xs ++ ys)
        further (inl l) = inl l
        further (inr l) = inr (in_left i xs ys l)
    back i (inr m) = inr (in_right i xs ys m)

    newer : (i : ℕ) → IsMarked b i ⊎ In i r → IsMarked a i ⊎ In i r
    newer i (inl m) = further (h.new i m)
      where
        further : IsMarked a i ⊎ In i q → IsMarked a i ⊎ In i r
        further (inl l) = inl l
        further (inr l) = inr (k.waits i l)
    newer i (inr m) = inr m

    origin : (i : ℕ) → In i q ⊎ In i ys → In i p ⊎ In i (xs ++ ys)
    origin i (inl m) = further (h.from i m)
      where
        further : In i p ⊎ In i xs → In i p ⊎ In i (xs ++ ys)
        further (inl l) = inl l
        further (inr l) = inr (in_left i xs ys l)
    origin i (inr m) = inr (in_right i xs ys m)

-- The whole work

-- what is marked is reached, and all that is used is marked, but for what waits
pub record Works (uses : List (List ℕ)) (from : List ℕ) (m : List Bool) (w : List ℕ) : Type 0 where
  pub size : length m ≡ length uses
  pub sound : (k : ℕ) → IsMarked m k → Reached uses from k
  pub waiting : (k : ℕ) → In k w → IsMarked m k
  pub began : (k : ℕ) → In k from → IsMarked m k
  pub done : (i : ℕ) (u : List ℕ) (j : ℕ) → IsMarked m (suc i) → slice_get uses i ≡ Some u → In j u → In (suc i) w ⊎ IsMarked m j

none_marked : (n i : ℕ) → get_or (replicate n false) i false ≡ false
none_marked zero i = refl
none_marked (suc n) zero = refl
none_marked (suc n) (suc i) = none_marked n i

many_marks : (n : ℕ) → length (replicate n false) ≡ n
many_marks zero = refl
many_marks (suc n) = ap suc (many_marks n)

pub works_first : (uses : List (List ℕ)) (from : List ℕ) (m b : List Bool) (w : List ℕ) → m ≡ replicate (length uses) false
    → Marks from m b [] w → Works uses from b w
works_first uses from m b w is h = record {
  size = h.same ∙ (ap length is ∙ many_marks (length uses));
  sound = λ k s. reached k (h.came k s);
  waiting = λ k s. waits k (h.from k s);
  began = h.marked;
  done = λ i u j s e d. inl (waits_still (suc i) (h.new (suc i) s));
}
  where
    apart : true ≡ false → ⊥
    apart e = cc

    unmarked_before : (k : ℕ) → IsMarked m k → ⊥
    unmarked_before k s = apart (sym s.2 ∙ (ap (λ l. get_or l s.0 false) is ∙ none_marked (length uses) s.0))

    reached : (k : ℕ) → IsMarked m k ⊎ In k from → Reached uses from k
    reached k (inl s) = absurd (unmarked_before k s)
    reached k (inr s) = first k s

    waits : (k : ℕ) → In k [] ⊎ In k from → IsMarked b k
    waits k (inl s) = absurd s
    waits k (inr s) = h.marked k s

    waits_still : (k : ℕ) → IsMarked m k ⊎ In k w → In k w
    waits_still k (inl s) = absurd (unmarked_before k s)
    waits_still k (inr s) = s

same_suc : (i j : ℕ) → suc i ≡ suc j → i ≡ j
same_suc i j e = omega arith

same_some : (o : Option (List ℕ)) (x y : List ℕ) → o ≡ Some x → o ≡ Some y → x ≡ y
same_some o x y h k = cc

-- a definition that waited is looked at
pub works_next : (uses : List (List ℕ)) (from : List ℕ) (m b : List Bool) (rest w : List ℕ) (at : ℕ) (u : List ℕ)
    → Works uses from m (rest ++ suc at ∷ []) → slice_get uses at ≡ Some u → Marks u m b rest w → Works uses from b w
works_next uses from m b rest w at u h e k = record {
  size = k.same ∙ h.size;
  sound = λ i s. reached i (k.came i s);
  waiting = λ i s. waits i (k.from i s);
  began = λ i s. k.kept i (h.began i s);
  done = λ i v j s f d. finished i v j (k.new (suc i) s) f d;
}
  where
    here : IsMarked m (suc at)
    here = h.waiting (suc at) (in_right (suc at) rest (suc at ∷ []) (inl refl))

    reached : (i : ℕ) → IsMarked m i ⊎ In i u → Reached uses from i
    reached i (inl s) = h.sound i s
    reached i (inr s) = used at u i (h.sound (suc at) here) e s

    waits : (i : ℕ) → In i rest ⊎ In i u → IsMarked b i
    waits i (inl s) = k.kept i (h.waiting i (in_left i rest (suc at ∷ []) s))
    waits i (inr s) = k.marked i s

    finished : (i : ℕ) (v : List ℕ) (j : ℕ) → IsMarked m (suc i) ⊎ In (suc i) w → slice_get uses i ≡ Some v → In j v
        → In (suc i) w ⊎ IsMarked b j
    finished i v j (inr s) f d = inl s
    finished i v j (inl s) f d = before (h.done i v j s f d)
      where
        before : In (suc i) (rest ++ suc at ∷ []) ⊎ IsMarked m j → In (suc i) w ⊎ IsMarked b j
        before (inr l) = inr (k.kept j l)
        before (inl l) = either (in_split (suc i) rest (suc at ∷ []) l)
          where
            either : In (suc i) rest ⊎ In (suc i) (suc at ∷ []) → In (suc i) w ⊎ IsMarked b j
            either (inl r) = inl (k.waits (suc i) r)
            either (inr (inl r)) =
                inr
                (k.marked j
                (subst (λ x. In j x)
                (same_some (slice_get uses at) v u (ap (slice_get uses) (sym (same_suc i at r)) ∙ f) e) d))
            either (inr (inr r)) = absurd r

-- Numbers of marks

numbers_in : (k : ℕ) (m : List Bool) (i : ℕ) → get_or m i false ≡ true → In (k + i) (marked_numbers k m)
numbers_in k [] i h = absurd (apart (sym h))
  where
    apart : true ≡ false → ⊥
    apart e = cc
numbers_in k (true ∷ m) zero h = inl (omega arith)
numbers_in k (false ∷ m) zero h = absurd (apart (sym h))
  where
    apart : true ≡ false → ⊥
    apart e = cc
numbers_in k (true ∷ m) (suc i) h = inr (subst (λ j. In j (marked_numbers (suc k) m)) (omega arith) (numbers_in (suc k) m i h))
numbers_in k (false ∷ m) (suc i) h = subst (λ j. In j (marked_numbers (suc k) m)) (omega arith) (numbers_in (suc k) m i h)

numbers_from : (k : ℕ) (m : List Bool) (j : ℕ) → In j (marked_numbers k m) → (i : ℕ) × (j ≡ k + i) × (get_or m i false ≡ true)
numbers_from k [] j h = absurd h
numbers_from k (true ∷ m) j (inl e) = (0, e ∙ omega arith, refl)
numbers_from k (true ∷ m) j (inr h) = let r = numbers_from (suc k) m j h in (suc r.0, r.1 ∙ omega arith, r.2)
numbers_from k (false ∷ m) j h = let r = numbers_from (suc k) m j h in (suc r.0, r.1 ∙ omega arith, r.2)

increasing_from : (n k : ℕ) (m : List Bool) → n < k → Increases n (marked_numbers k m)
increasing_from n k [] lt = tt
increasing_from n k (true ∷ m) lt = (lt, increasing_from k (suc k) m (omega arith))
increasing_from n k (false ∷ m) lt = increasing_from n (suc k) m (omega arith)

pub closed : (uses : List (List ℕ)) (from : List ℕ) (m : List Bool) → Works uses from m [] → IsClosure uses from (marked_numbers 1 m)
closed uses from m h = record {
  increasing = increasing_from 0 1 m (omega arith);
  sound = λ k s. let r = numbers_from 1 m k s in h.sound k (r.0, r.1 ∙ omega arith, r.2);
  whole = λ k s. let r = reached k s in subst (λ j. In j (marked_numbers 1 m)) (sym (r.1 ∙ omega arith)) (numbers_in 1 m r.0 r.2);
}
  where
    reached : (k : ℕ) → Reached uses from k → IsMarked m k
    reached k (first j s) = h.began k s
    reached k (used i u j r e s) = further (h.done i u k (reached (suc i) r) e s)
      where
        further : In (suc i) [] ⊎ IsMarked m k → IsMarked m k
        further (inl l) = absurd l
        further (inr l) = l

pub numbers-append : (k : ℕ) (xs ys : List Bool) → marked_numbers k (xs ++ ys) ≡ marked_numbers k xs ++ marked_numbers (k + length xs) ys
numbers-append k [] ys = ap (λ j. marked_numbers j ys) (omega arith)
numbers-append k (true ∷ xs) ys =
    ap (λ ns. k ∷ ns)
    (numbers-append (suc k) xs ys ∙ ap (λ j. marked_numbers (suc k) xs ++ marked_numbers j ys) (omega arith))
numbers-append k (false ∷ xs) ys =
    numbers-append (suc k) xs ys ∙ ap (λ j. marked_numbers (suc k) xs ++ marked_numbers j ys) (omega arith)

-- the numbers with one mark more
pub numbers_more : (m : List Bool) (i : ℕ) → i < length m
    → marked_numbers 1 (take (i + 1) m) ≡ marked_numbers 1 (take i m) ++ marked_numbers (i + 1) (get_or m i false ∷ [])
numbers_more m i lt =
    ap (λ n. marked_numbers 1 (take n m)) (add-one i) ∙ (ap (marked_numbers 1) (take-suc m i false lt)
    ∙ (numbers-append 1 (take i m) (get_or m i false ∷ [])
    ∙ ap (λ j. marked_numbers 1 (take i m) ++ marked_numbers j (get_or m i false ∷ [])) (many (length-take i m))))
  where
    many : length (take i m) ≡ min i (length m) → 1 + length (take i m) ≡ i + 1
    many e = omega arith

pub marks_more : (ids : List ℕ) (i : ℕ) (a b c : List Bool) (p q r : List ℕ) → i < length ids → Marks (take i ids) a b p q
    → Marks (get_or ids i 0 ∷ []) b c q r → Marks (take (i + 1) ids) a c p r
marks_more ids i a b c p q r lt h k =
    subst (λ l. Marks l a c p r) (sym (ap (λ n. take n ids) (add-one i) ∙ take-suc ids i 0 lt)) (marks_then (take i ids) (get_or ids i 0 ∷ []) a b c p q r h k)

pub number_added : (m : List Bool) (i : ℕ) (ids more : List ℕ) → i < length m → ids ≡ marked_numbers 1 (take i m)
    → get_or m i false ≡ true → more ≡ ids ++ (i + 1) ∷ [] → more ≡ marked_numbers 1 (take (i + 1) m)
number_added m i ids more lt h b e =
    e
    ∙ (ap (λ ns. ns ++ (i + 1) ∷ []) h
    ∙ (ap (λ c. marked_numbers 1 (take i m) ++ marked_numbers (i + 1) (c ∷ [])) (sym b) ∙ sym (numbers_more m i lt)))

pub number_passed : (m : List Bool) (i : ℕ) (ids more : List ℕ) → i < length m → ids ≡ marked_numbers 1 (take i m)
    → get_or m i false ≡ false → more ≡ ids → more ≡ marked_numbers 1 (take (i + 1) m)
number_passed m i ids more lt h b e =
    e
    ∙ (h
    ∙ (sym (append-nil (marked_numbers 1 (take i m)))
    ∙ (ap (λ c. marked_numbers 1 (take i m) ++ marked_numbers (i + 1) (c ∷ [])) (sym b) ∙ sym (numbers_more m i lt))))

-- the last that waits is marked
pub last_marked : (uses : List (List ℕ)) (from : List ℕ) (m : List Bool) (w rest : List ℕ) (id : ℕ) → Works uses from m w
    → w ≡ rest ++ id ∷ [] → IsMarked m id
last_marked uses from m w rest id h e = h.waiting id (subst (λ l. In id l) (sym e) (in_right id rest (id ∷ []) (inl refl)))

pub some_last : (uses : List (List ℕ)) (from : List ℕ) (m : List Bool) (w rest : List ℕ) (id : ℕ) → Works uses from m w
    → w ≡ rest ++ id ∷ [] → 1 ≤ id
some_last uses from m w rest id h e = let i = last_marked uses from m w rest id h e in let s = i.1 in omega arith

marked_within : (m : List Bool) (i : ℕ) → get_or m i false ≡ true → i < length m
marked_within [] i h = absurd (apart (sym h))
  where
    apart : true ≡ false → ⊥
    apart e = cc
marked_within (b ∷ m) zero h = omega arith
marked_within (b ∷ m) (suc i) h = let lt = marked_within m i h in omega arith

some_within : (xs : List (List ℕ)) (i : ℕ) → i < length xs → slice_get xs i ≡ None → ⊥
some_within [] i lt h = none i lt
  where
    none : (i : ℕ) → i < 0 → ⊥
    none i lt = grind arith
some_within (x ∷ xs) zero lt h = some x h
  where
    some : (x : List ℕ) → Some x ≡ None → ⊥
    some x h = cc
some_within (x ∷ xs) (suc i) lt h = some_within xs i (omega arith) h

-- what waits is a definition that there is
pub no_loss : (uses : List (List ℕ)) (from : List ℕ) (m : List Bool) (w rest : List ℕ) (id : ℕ) → Works uses from m w
    → w ≡ rest ++ id ∷ [] → slice_get uses (id - 1) ≡ None → ⊥
no_loss uses from m w rest id h e n =
    let i = last_marked uses from m w rest id h e in
    let at : id - 1 ≡ i.0 = let s = i.1 in omega arith in
    let within : i.0 < length uses = let lt = marked_within m i.0 i.2 in let s = h.size in omega arith in
    some_within uses i.0 within (ap (slice_get uses) (sym at) ∙ n)

pub looked_at : (uses : List (List ℕ)) (from : List ℕ) (m b : List Bool) (w rest q : List ℕ) (id : ℕ) (u : List ℕ)
    → Works uses from m w → w ≡ rest ++ id ∷ [] → slice_get uses (id - 1) ≡ Some u → Marks u m b rest q → Works uses from b q
looked_at uses from m b w rest q id u h e g k =
    let is : id ≡ suc (id - 1) = let s = some_last uses from m w rest id h e in omega arith in
    works_next uses from m b rest q (id - 1) u
    (subst (λ l. Works uses from m l) (e ∙ ap (λ j. rest ++ j ∷ []) is) h) g k

-- where the last that waits is taken of none
pub nothing_waits : (w : List ℕ) → (0 < length w → false ≡ true) → w ≡ []
nothing_waits [] h = refl
nothing_waits (x ∷ w) h = absurd (apart (h (some (length w))))
  where
    apart : false ≡ true → ⊥
    apart e = cc

    some : (n : ℕ) → 0 < suc n
    some n = omega arith

pub all_closed : {E : Type 0} (uses : List (List ℕ)) (from : List ℕ) (m : List Bool) (w : List ℕ) (r : Result (List ℕ) E)
    → Works uses from m w → w ≡ [] → IfOk r (λ ids. ids ≡ marked_numbers 1 m) → IfOk r (λ ids. IsClosure uses from ids)
all_closed uses from m w (Ok ids) h e k =
    subst (λ ns. IsClosure uses from ns) (sym k) (closed uses from m (subst (λ l. Works uses from m l) e h))
all_closed uses from m w (Err err) h e k = k
