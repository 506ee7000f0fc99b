-- In a program that binds each local variable once, the assigned variables and those without a value at first are held
-- in boxes, and those of a `Fix` are not.
use Rattle.std.proofs.Common.{◌≡◌, ℕ, Bool, true, false, List, [], ◌∷◌, ◌++◌, refl, sym, ap, ◌∙◌, subst, append_assoc, eq-eqb, eqb-true}
use Rattle.std.proofs.lemmas.Bool.{or_left, or_right}
use Rattle.std.specs.Prelude.{nat_eq, ◌||◌}
use Rattle.std.specs.List.{IsDistinct}
use Rattle.named_form.specs.Code.{has}
use Rattle.named_form.proofs.Variables.{has_append}
use Rattle.box_name.specs.Told.{Expr, Hole, Local, Lambda, If, SetLocal, SetTop, Call, Direct, Prim, Seq, Fix, Define, Exprs, none, item}
use Rattle.box_name.specs.Counts.{all_params}
use Rattle.box_name.specs.Whole.{all_assigned, all_holes, assigned, holes, is_boxed, unvalued}
use Rattle.box_name.proofs.BoxesRead.{AllSuit, OperandsSuit, Suits}
use Rattle.box_name.proofs.Members.{Agrees, Apart, Within, apart_flip, each, has_back, has_front, has_neither, never, none_back, none_front, none_left, none_right, of_each, parts}
use Rattle.box_name.proofs.ScopesTold.{AllScoped, OperandsScoped, Scoped, all_bound, bound}

-- What is not bound in an expression has a value at first, and what is neither seen nor bound is not assigned

unvalued_only : (xs : List ℕ) (es : Exprs) (v : ℕ) → has xs v ≡ false → has (unvalued xs es) v ≡ false
unvalued_only [] es v h = refl
unvalued_only (x ∷ xs) none v h = refl
unvalued_only (x ∷ xs) (item Hole es) v h =
    ap (λ b. b || has (unvalued xs es) v) (none_left (nat_eq v x) (has xs v) h)
    ∙ unvalued_only xs es v (none_right (nat_eq v x) (has xs v) h)
unvalued_only (x ∷ xs) (item e es) v h = unvalued_only xs es v (none_right (nat_eq v x) (has xs v) h)

mutual
  holes_only : (e : Expr) (v : ℕ) → has (bound e) v ≡ false → has (holes e) v ≡ false
  holes_only (Lambda q xs r body) v h = holes_only body v (none_back (nat_eq v) (all_params xs r) (bound body) h)
  holes_only (If q test this that) v h =
      let others = none_back (nat_eq v) (bound test) (bound this ++ bound that) h in
      has_neither (holes test) (holes this ++ holes that) v
      (holes_only test v (none_front (nat_eq v) (bound test) (bound this ++ bound that) h))
      (has_neither (holes this) (holes that) v
      (holes_only this v (none_front (nat_eq v) (bound this) (bound that) others))
      (holes_only that v (none_back (nat_eq v) (bound this) (bound that) others)))
  holes_only (SetLocal q x e) v h = holes_only e v h
  holes_only (SetTop q x e) v h = holes_only e v h
  holes_only (Call q f es) v h =
      has_neither (holes f) (all_holes es) v (holes_only f v (none_front (nat_eq v) (bound f) (all_bound es) h))
      (all_holes_only es v (none_back (nat_eq v) (bound f) (all_bound es) h))
  holes_only (Direct q xs body es) v h =
      let front = none_front (nat_eq v) (xs ++ bound body) (all_bound es) h in
      has_neither (unvalued xs es) (holes body ++ all_holes es) v
      (unvalued_only xs es v (none_front (nat_eq v) xs (bound body) front))
      (has_neither (holes body) (all_holes es) v (holes_only body v (none_back (nat_eq v) xs (bound body) front))
      (all_holes_only es v (none_back (nat_eq v) (xs ++ bound body) (all_bound es) h)))
  holes_only (Prim q o es) v h = all_holes_only es v h
  holes_only (Seq q es) v h = all_holes_only es v h
  holes_only (Fix q xs ls body) v h =
      let others = none_back (nat_eq v) xs (all_bound ls ++ bound body) h in
      has_neither (all_holes ls) (holes body) v
      (all_holes_only ls v (none_front (nat_eq v) (all_bound ls) (bound body) others))
      (holes_only body v (none_back (nat_eq v) (all_bound ls) (bound body) others))
  holes_only (Define q x e) v h = holes_only e v h
  holes_only e v h = refl

  all_holes_only : (es : Exprs) (v : ℕ) → has (all_bound es) v ≡ false → has (all_holes es) v ≡ false
  all_holes_only none v h = refl
  all_holes_only (item e es) v h =
      has_neither (holes e) (all_holes es) v (holes_only e v (none_front (nat_eq v) (bound e) (all_bound es) h))
      (all_holes_only es v (none_back (nat_eq v) (bound e) (all_bound es) h))

unlike : (seen : List ℕ) (v x : ℕ) → has seen x ≡ true → has seen v ≡ false → nat_eq v x ≡ false
unlike seen v x h k = here (nat_eq v x) refl
  where
    here : (b : Bool) → nat_eq v x ≡ b → nat_eq v x ≡ false
    here true e = never (sym k ∙ (ap (has seen) (eqb-true v x e) ∙ h))
    here false e = e

mutual
  assigned_only : (seen : List ℕ) (e : Expr) → Scoped seen e → (v : ℕ) → has seen v ≡ false → has (bound e) v ≡ false
      → has (assigned e) v ≡ false
  assigned_only seen (Lambda q xs r body) h v out k =
      let ys = all_params xs r in
      assigned_only (ys ++ seen) body h v (has_neither ys seen v (none_front (nat_eq v) ys (bound body) k) out)
      (none_back (nat_eq v) ys (bound body) k)
  assigned_only seen (If q test this that) h v out k =
      let others = none_back (nat_eq v) (bound test) (bound this ++ bound that) k in
      has_neither (assigned test) (assigned this ++ assigned that) v
      (assigned_only seen test h.0 v out (none_front (nat_eq v) (bound test) (bound this ++ bound that) k))
      (has_neither (assigned this) (assigned that) v
      (assigned_only seen this h.1 v out (none_front (nat_eq v) (bound this) (bound that) others))
      (assigned_only seen that h.2 v out (none_back (nat_eq v) (bound this) (bound that) others)))
  assigned_only seen (SetLocal q x e) h v out k =
      ap (λ b. b || has (assigned e) v) (unlike seen v x h.0 out) ∙ assigned_only seen e h.1 v out k
  assigned_only seen (SetTop q x e) h v out k = assigned_only seen e h v out k
  assigned_only seen (Call q f es) h v out k =
      has_neither (assigned f) (all_assigned es) v
      (assigned_only seen f h.0 v out (none_front (nat_eq v) (bound f) (all_bound es) k))
      (all_assigned_only seen es h.1 v out (none_back (nat_eq v) (bound f) (all_bound es) k))
  assigned_only seen (Direct q xs body es) h v out k =
      let front = none_front (nat_eq v) (xs ++ bound body) (all_bound es) k in
      has_neither (assigned body) (all_assigned es) v
      (assigned_only (xs ++ seen) body h.1 v (has_neither xs seen v (none_front (nat_eq v) xs (bound body) front) out)
      (none_back (nat_eq v) xs (bound body) front))
      (operands_only seen xs es h.0 v out (none_back (nat_eq v) (xs ++ bound body) (all_bound es) k))
  assigned_only seen (Prim q o es) h v out k = all_assigned_only seen es h v out k
  assigned_only seen (Seq q es) h v out k = all_assigned_only seen es h.1 v out k
  assigned_only seen (Fix q xs ls body) h v out k =
      let others = none_back (nat_eq v) xs (all_bound ls ++ bound body) k in
      let inside = has_neither xs seen v (none_front (nat_eq v) xs (all_bound ls ++ bound body) k) out in
      has_neither (all_assigned ls) (assigned body) v
      (all_assigned_only (xs ++ seen) ls h.1 v inside (none_front (nat_eq v) (all_bound ls) (bound body) others))
      (assigned_only (xs ++ seen) body h.2 v inside (none_back (nat_eq v) (all_bound ls) (bound body) others))
  assigned_only seen (Define q x e) h v out k = assigned_only seen e h v out k
  assigned_only seen e h v out k = refl

  all_assigned_only : (seen : List ℕ) (es : Exprs) → AllScoped seen es → (v : ℕ) → has seen v ≡ false
      → has (all_bound es) v ≡ false → has (all_assigned es) v ≡ false
  all_assigned_only seen none h v out k = refl
  all_assigned_only seen (item e es) h v out k =
      has_neither (assigned e) (all_assigned es) v
      (assigned_only seen e h.0 v out (none_front (nat_eq v) (bound e) (all_bound es) k))
      (all_assigned_only seen es h.1 v out (none_back (nat_eq v) (bound e) (all_bound es) k))

  operands_only : (seen xs : List ℕ) (es : Exprs) → OperandsScoped seen xs es → (v : ℕ) → has seen v ≡ false
      → has (all_bound es) v ≡ false → has (all_assigned es) v ≡ false
  operands_only seen xs none h v out k = refl
  operands_only seen [] (item e es) h v out k = absurd h
  operands_only seen (x ∷ xs) (item Hole es) h v out k = operands_only seen xs es h v out k
  operands_only seen (x ∷ xs) (item e es) h v out k =
      has_neither (assigned e) (all_assigned es) v
      (assigned_only seen e h.0 v out (none_front (nat_eq v) (bound e) (all_bound es) k))
      (operands_only seen xs es h.1 v out (none_back (nat_eq v) (bound e) (all_bound es) k))

-- What stands of a part of a program where these variables are seen: it binds variables that are known, each once and
-- none that is seen, and those of them that the program assigns, or has without a value at first, are its own.
pub record Stands (all : Exprs) (known seen binds sets lacks : List ℕ) : Type 0 where
  pub distinct : IsDistinct nat_eq binds
  pub apart : Apart binds seen
  pub assigned : Agrees (all_assigned all) binds sets
  pub unvalued : Agrees (all_holes all) binds lacks
  pub sets_in : Within sets (all_assigned all)
  pub lacks_in : Within lacks (all_holes all)
  pub found : Within binds known
  pub sight : Within seen known

module _ (all : Exprs) (known : List ℕ) where
  -- the same of a part of it
  narrow : (seen binds sets lacks own part less fewer : List ℕ) → Stands all known seen binds sets lacks
      → IsDistinct nat_eq part → Within part binds → Apart part own → Within own known
      → ((v : ℕ) → has part v ≡ true → has sets v ≡ has less v) → ((v : ℕ) → has part v ≡ true → has lacks v ≡ has fewer v)
      → Within less sets → Within fewer lacks → Stands all known own part less fewer
  narrow seen binds sets lacks own part less fewer st d within apart sight as_sets as_lacks in_sets in_lacks =
      record {
        distinct = d;
        apart = apart;
        assigned = λ v e. st.assigned v (within v e) ∙ as_sets v e;
        unvalued = λ v e. st.unvalued v (within v e) ∙ as_lacks v e;
        sets_in = λ v e. st.sets_in v (in_sets v e);
        lacks_in = λ v e. st.lacks_in v (in_lacks v e);
        found = λ v e. st.found v (within v e);
        sight = sight;
      }

  -- inside of what binds the first of its variables
  inside : (seen xs ys sets lacks : List ℕ) → Stands all known seen (xs ++ ys) sets lacks
      → Stands all known (xs ++ seen) ys sets lacks
  inside seen xs ys sets lacks st =
      let two = parts xs ys st.distinct in
      narrow seen (xs ++ ys) sets lacks (xs ++ seen) ys sets lacks st two.back (has_back xs ys)
      (λ v e. has_neither xs seen v (apart_flip xs ys two.apart v e) (st.apart v (has_back xs ys v e)))
      (λ v e. either v (has xs v) refl e)
      (λ v e. refl) (λ v e. refl) (λ v e. e) (λ v e. e)
    where
      either : (v : ℕ) (b : Bool) → has xs v ≡ b → has (xs ++ seen) v ≡ true → has known v ≡ true
      either v true h e = st.found v (has_front xs ys v h)
      either v false h e = st.sight v (sym (has_append xs seen v ∙ ap (λ b. b || has seen v) h) ∙ e)

  front_same : (v : ℕ) (xs ys : List ℕ) → has ys v ≡ false → has (xs ++ ys) v ≡ has xs v
  front_same v xs ys h = has_append xs ys v ∙ (ap (λ b. has xs v || b) h ∙ or_none (has xs v))
    where
      or_none : (b : Bool) → b || false ≡ b
      or_none true = refl
      or_none false = refl

  back_same : (v : ℕ) (xs ys : List ℕ) → has xs v ≡ false → has (xs ++ ys) v ≡ has ys v
  back_same v xs ys h = has_append xs ys v ∙ ap (λ b. b || has ys v) h

  abbrev Only : (seen binds sets : List ℕ) → Type 0
  Only seen binds sets = (v : ℕ) → has seen v ≡ false → has binds v ≡ false → has sets v ≡ false

  abbrev Alone : (binds lacks : List ℕ) → Type 0
  Alone binds lacks = (v : ℕ) → has binds v ≡ false → has lacks v ≡ false

  first : (seen a b sa sb la lb : List ℕ) → Stands all known seen (a ++ b) (sa ++ sb) (la ++ lb) → Only seen b sb → Alone b lb
      → Stands all known seen a sa la
  first seen a b sa sb la lb st only alone =
      let two = parts a b st.distinct in
      narrow seen (a ++ b) (sa ++ sb) (la ++ lb) seen a sa la st two.front (has_front a b)
      (λ v e. st.apart v (has_front a b v e)) st.sight
      (λ v e. front_same v sa sb (only v (st.apart v (has_front a b v e)) (two.apart v e)))
      (λ v e. front_same v la lb (alone v (two.apart v e))) (has_front sa sb) (has_front la lb)

  second : (seen a b sa sb la lb : List ℕ) → Stands all known seen (a ++ b) (sa ++ sb) (la ++ lb) → Only seen a sa → Alone a la
      → Stands all known seen b sb lb
  second seen a b sa sb la lb st only alone =
      let two = parts a b st.distinct in
      let flip = apart_flip a b two.apart in
      narrow seen (a ++ b) (sa ++ sb) (la ++ lb) seen b sb lb st two.back (has_back a b)
      (λ v e. st.apart v (has_back a b v e)) st.sight
      (λ v e. back_same v sa sb (only v (st.apart v (has_back a b v e)) (flip v e)))
      (λ v e. back_same v la lb (alone v (flip v e))) (has_back sa sb) (has_back la lb)

  mutual
    suits : (seen : List ℕ) (e : Expr) → Scoped seen e → Stands all known seen (bound e) (assigned e) (holes e)
        → Suits (is_boxed all) known e
    suits seen Hole h st = absurd h
    suits seen (Local q x) h st = st.sight x h
    suits seen (Lambda q xs r body) h st =
        suits (all_params xs r ++ seen) body h (inside seen (all_params xs r) (bound body) (assigned body) (holes body) st)
    suits seen (If q test this that) h st =
        let only_this = assigned_only seen this h.1 in
        let only_that = assigned_only seen that h.2 in
        let others =
        second seen (bound test) (bound this ++ bound that) (assigned test) (assigned this ++ assigned that) (holes test)
        (holes this ++ holes that) st (assigned_only seen test h.0) (holes_only test) in (
          suits seen test h.0
              (first seen (bound test) (bound this ++ bound that) (assigned test) (assigned this ++ assigned that)
              (holes test) (holes this ++ holes that) st
              (λ v out k.
              has_neither (assigned this) (assigned that) v
              (only_this v out (none_front (nat_eq v) (bound this) (bound that) k))
              (only_that v out (none_back (nat_eq v) (bound this) (bound that) k)))
              (λ v k.
              has_neither (holes this) (holes that) v (holes_only this v (none_front (nat_eq v) (bound this) (bound that) k))
              (holes_only that v (none_back (nat_eq v) (bound this) (bound that) k)))),
          suits seen this h.1
              (first seen (bound this) (bound that) (assigned this) (assigned that) (holes this) (holes that) others only_that
              (holes_only that)),
          suits seen that h.2
              (second seen (bound this) (bound that) (assigned this) (assigned that) (holes this) (holes that) others only_this
              (holes_only this)),
        )
    suits seen (SetLocal q x e) h st = (
      or_left (has (all_assigned all) x) (has (all_holes all) x)
          (st.sets_in x (or_left (nat_eq x x) (has (assigned e) x) (eq-eqb x x refl))),
      st.sight x h.0,
      suits seen e h.1
          (narrow seen (bound e) (x ∷ assigned e) (holes e) seen (bound e) (assigned e) (holes e) st st.distinct
          (λ v k. k) st.apart st.sight
          (λ v k. ap (λ b. b || has (assigned e) v) (unlike seen v x h.0 (st.apart v k))) (λ v k. refl)
          (λ v k. or_right (nat_eq v x) (has (assigned e) v) k) (λ v k. k)),
    )
    suits seen (SetTop q x e) h st = suits seen e h st
    suits seen (Call q f es) h st = (
      suits seen f h.0
          (first seen (bound f) (all_bound es) (assigned f) (all_assigned es) (holes f) (all_holes es) st
          (all_assigned_only seen es h.1) (all_holes_only es)),
      all_suit seen es h.1
          (second seen (bound f) (all_bound es) (assigned f) (all_assigned es) (holes f) (all_holes es) st
          (assigned_only seen f h.0) (holes_only f)),
    )
    suits seen (Direct q xs body es) h st =
        let front = xs ++ bound body in
        let lacks = unvalued xs es ++ holes body in
        let whole =
        subst (Stands all known seen (front ++ all_bound es) (assigned body ++ all_assigned es))
        (sym (append_assoc (unvalued xs es) (holes body) (all_holes es))) st in
        let inner =
        inside seen xs (bound body) (assigned body) lacks
        (first seen front (all_bound es) (assigned body) (all_assigned es) lacks (all_holes es) whole
        (operands_only seen xs es h.0) (all_holes_only es)) in (
          operands_suit seen xs es h.0
              (λ v e. st.lacks_in v (has_front (unvalued xs es) (holes body ++ all_holes es) v e))
              (second seen front (all_bound es) (assigned body) (all_assigned es) lacks (all_holes es) whole
              (λ v out k.
              assigned_only (xs ++ seen) body h.1 v (has_neither xs seen v (none_front (nat_eq v) xs (bound body) k) out)
              (none_back (nat_eq v) xs (bound body) k))
              (λ v k.
              has_neither (unvalued xs es) (holes body) v
              (unvalued_only xs es v (none_front (nat_eq v) xs (bound body) k))
              (holes_only body v (none_back (nat_eq v) xs (bound body) k)))),
          suits (xs ++ seen) body h.1
              (narrow (xs ++ seen) (bound body) (assigned body) lacks (xs ++ seen) (bound body) (assigned body) (holes body)
              inner inner.distinct (λ v k. k) inner.apart inner.sight (λ v k. refl)
              (λ v k.
              back_same v (unvalued xs es) (holes body)
              (unvalued_only xs es v (none_front (nat_eq v) xs seen (inner.apart v k))))
              (λ v k. k) (has_back (unvalued xs es) (holes body))),
        )
    suits seen (Prim q o es) h st = all_suit seen es h st
    suits seen (Seq q es) h st = (h.0, all_suit seen es h.1 st)
    suits seen (Fix q xs ls body) h st =
        let bodies = all_bound ls ++ bound body in
        let sets = all_assigned ls ++ assigned body in
        let lacks = all_holes ls ++ holes body in
        let two = parts xs bodies st.distinct in
        let inner = inside seen xs bodies sets lacks st in (
          each (λ x. is_boxed all x ≡ false) xs
              (λ x k.
              ap (λ b. b || has (all_holes all) x)
              (st.assigned x (has_front xs bodies x k) ∙ of_each (λ x. has sets x ≡ false) xs h.0 x k)
              ∙ (st.unvalued x (has_front xs bodies x k)
              ∙ has_neither (all_holes ls) (holes body) x
              (all_holes_only ls x (none_front (nat_eq x) (all_bound ls) (bound body) (two.apart x k)))
              (holes_only body x (none_back (nat_eq x) (all_bound ls) (bound body) (two.apart x k))))),
          all_suit (xs ++ seen) ls h.1
              (first (xs ++ seen) (all_bound ls) (bound body) (all_assigned ls) (assigned body) (all_holes ls) (holes body) inner
              (assigned_only (xs ++ seen) body h.2) (holes_only body)),
          suits (xs ++ seen) body h.2
              (second (xs ++ seen) (all_bound ls) (bound body) (all_assigned ls) (assigned body) (all_holes ls) (holes body) inner
              (all_assigned_only (xs ++ seen) ls h.1) (all_holes_only ls)),
        )
    suits seen (Define q x e) h st = suits seen e h st
    suits seen e h st = tt

    pub all_suit : (seen : List ℕ) (es : Exprs) → AllScoped seen es
        → Stands all known seen (all_bound es) (all_assigned es) (all_holes es) → AllSuit (is_boxed all) known es
    all_suit seen none h st = tt
    all_suit seen (item e es) h st = (
      suits seen e h.0
          (first seen (bound e) (all_bound es) (assigned e) (all_assigned es) (holes e) (all_holes es) st
          (all_assigned_only seen es h.1) (all_holes_only es)),
      all_suit seen es h.1
          (second seen (bound e) (all_bound es) (assigned e) (all_assigned es) (holes e) (all_holes es) st
          (assigned_only seen e h.0) (holes_only e)),
    )

    operands_suit : (seen xs : List ℕ) (es : Exprs) → OperandsScoped seen xs es → Within (unvalued xs es) (all_holes all)
        → Stands all known seen (all_bound es) (all_assigned es) (all_holes es) → OperandsSuit (is_boxed all) known xs es
    operands_suit seen [] none h w st = tt
    operands_suit seen [] (item e es) h w st = absurd h
    operands_suit seen (x ∷ xs) none h w st = absurd h
    operands_suit seen (x ∷ xs) (item Hole es) h w st = (
      or_right (has (all_assigned all) x) (has (all_holes all) x)
          (w x (or_left (nat_eq x x) (has (unvalued xs es) x) (eq-eqb x x refl))),
      operands_suit seen xs es h (λ v e. w v (or_right (nat_eq v x) (has (unvalued xs es) v) e)) st,
    )
    operands_suit seen (x ∷ xs) (item e es) h w st = (
      suits seen e h.0
          (first seen (bound e) (all_bound es) (assigned e) (all_assigned es) (holes e) (all_holes es) st
          (operands_only seen xs es h.1) (all_holes_only es)),
      operands_suit seen xs es h.1 w
          (second seen (bound e) (all_bound es) (assigned e) (all_assigned es) (holes e) (all_holes es) st
          (assigned_only seen e h.0) (holes_only e)),
    )
