-- Each variable that a procedure of a program reads, or that is free in a procedure of which it makes a closure, is
-- bound before where this procedure binds it.
use Rattle.std.proofs.Common.{◌≡◌, ℕ, zero, suc, ◌+◌, ◌<◌, ◌≤◌, Bool, true, false, List, [], ◌∷◌, ◌++◌, length, map, Option, Some, None, inl, inr, ◌⊎◌, refl, sym, ap, ◌∙◌, subst, arith, length-append, eq-eqb}
use Rattle.std.proofs.lemmas.Bool.{ltb-false, ltb-true}
use Rattle.std.proofs.lemmas.List.{map-append}
use Rattle.std.specs.Prelude.{if◌then◌else◌, nat_eq, nat_lt, not, slice_get, ◌||◌, ◌&&◌}
use Rattle.std.specs.List.{AllByRecursion, IsDistinct}
use Rattle.scheme_base.specs.declared.lit.Lit.{Lit}
use Rattle.scheme_base.specs.declared.pos.Pos.{Pos}
use Rattle.core_form.specs.declared.program.Program.{Program}
use Rattle.core_form.specs.declared.program.VarRef.{VarRef}
use Rattle.core_form.specs.Trees.{Trees}
use Rattle.core_form.specs.Valid.{IsRenamed}
use Rattle.core_form.specs.Valid as valid
use Rattle.named_form.specs.Code.{Code, Ends, Then, Written, binds, bound_in, closes_in, free_in, has, option_list, reads_in}
use Rattle.named_form.specs.Code as act
use Rattle.named_form.specs.PlainPlan.{before}
use Rattle.named_form.specs.Valid.{AnyValue, InScope, Numbered, Scoped as AreScoped, numbers_from}
use Rattle.named_form.proofs.Kept.{before_later, before_next, has_early, has_late, own}
use Rattle.named_form.proofs.Rising.{numbers_append}
use Rattle.named_form.proofs.Variables.{any_free, has_free, has_needs}
use Rattle.box_name.specs.Told.{Expr, Hole, Lambda, If, SetLocal, SetTop, Call, Direct, Prim, Seq, Fix, Define, Exprs, none, item, all_told}
use Rattle.box_name.specs.Counts.{after, after_boxes, after_lambda, after_params, all_after, all_lambdas, all_params, all_places, all_procs_in, box_places, have_values, lambda_places, lambdas, param_places, places, procs_in, var_places}
use Rattle.box_name.specs.Cores.{form_of}
use Rattle.box_name.specs.Naming.{Setting, all_code, all_valued, code, make_boxes, place, procs_of, rest_var, value, written}
use Rattle.box_name.specs.Whole.{all_written, form_code, is_boxed, lambdas_places, named, placed_lambdas, setting, whole_places}
use Rattle.box_name.proofs.BoxesRead.{past, past_all, past_boxes, past_params}
use Rattle.box_name.proofs.FitExpressions.{AllFit, AreLambdas, FormFits, FormsFit, IsFit}
use Rattle.box_name.proofs.FreeSeen.{AllClosed, Apart, At, Closed, Frees, IsAt, NoNeed, NotBound, NotIn, apart_both, code_needs, neither, not_bound, params_apart, value_apart, vars_apart}
use Rattle.box_name.proofs.MadeOnce.{all_placed_exprs, exprs_of}
use Rattle.box_name.proofs.Members.{Within, back_each, front_each, has_back, has_front, has_neither, has_one, never, none_back, none_front, none_left}
use Rattle.box_name.proofs.NumbersInOrder.{all_numbered}
use Rattle.box_name.proofs.NumbersNamed.{all_lambdas_many, lambdas_many}
use Rattle.box_name.proofs.PlacesOnce.{found_there}
use Rattle.box_name.proofs.ScopesTold.{AllScoped, OperandsScoped, Scoped, all_bound, all_bound_local, all_told_bound, forms_scoped, numbers_distinct}
use Rattle.box_name.proofs.StepsScoped.{code_in, first_found, sees_both}
use Rattle.box_name.proofs.StepsWell.{fit_of}

-- Procedures stand at their numbers

abbrev Sits : List Written → Setting → (p : ℕ) → List Expr → Type 0
Sits ps s p [] = Unit {0}
Sits ps s p (e ∷ es) =
    ((n : ℕ) × (slice_get ps p ≡ Some (written s n p e)) × At s (lambda_places s.boxed n e)) × Sits ps s (suc p) es

abbrev pub InProc : List Written → Written → Type 0
InProc ps w = InScope ps (bound_in w) (w.params ++ option_list w.rest) w.body

-- the variables of the procedures from p on are in scope
abbrev Ins : List Written → (p : ℕ) → List Expr → Type 0
Ins ps p [] = Unit {0}
Ins ps p (e ∷ es) = ((w : Written) → slice_get ps p ≡ Some w → InProc ps w) × Ins ps (suc p) es

sits_front : (ps : List Written) (s : Setting) (p : ℕ) (xs ys : List Expr) → Sits ps s p (xs ++ ys) → Sits ps s p xs
sits_front ps s p [] ys h = tt
sits_front ps s p (x ∷ xs) ys h = (h.0, sits_front ps s (suc p) xs ys h.1)

sits_after : (ps : List Written) (s : Setting) (p : ℕ) (xs ys : List Expr) → Sits ps s p (xs ++ ys)
    → Sits ps s (p + length xs) ys
sits_after ps s p [] ys h = let same : p ≡ p + 0 = omega arith in subst (λ k. Sits ps s k ys) same h
sits_after ps s p (x ∷ xs) ys h =
    let next : suc p + length xs ≡ p + suc (length xs) = omega arith in
    subst (λ k. Sits ps s k ys) next (sits_after ps s (suc p) xs ys h.1)

sits_back : (ps : List Written) (s : Setting) (p k : ℕ) (xs ys : List Expr) → length xs ≡ k → Sits ps s p (xs ++ ys)
    → Sits ps s (p + k) ys
sits_back ps s p k xs ys e h = subst (λ j. Sits ps s (p + j) ys) e (sits_after ps s p xs ys h)

ins_after : (ps : List Written) (p : ℕ) (xs ys : List Expr) → Ins ps p xs → Ins ps (p + length xs) ys → Ins ps p (xs ++ ys)
ins_after ps p [] ys h k = let same : p + 0 ≡ p = omega arith in subst (λ j. Ins ps j ys) same k
ins_after ps p (x ∷ xs) ys h k =
    let next : p + suc (length xs) ≡ suc p + length xs = omega arith in
    (h.0, ins_after ps (suc p) xs ys h.1 (subst (λ j. Ins ps j ys) next k))

ins_both : (ps : List Written) (p k : ℕ) (xs ys : List Expr) → length xs ≡ k → Ins ps p xs → Ins ps (p + k) ys
    → Ins ps p (xs ++ ys)
ins_both ps p k xs ys e h g = ins_after ps p xs ys h (subst (λ j. Ins ps (p + j) ys) (sym e) g)

-- Variables that are seen have lower numbers than those of the procedures to come

abbrev Low : Setting → (seen : List ℕ) → (limit : ℕ) → Type 0
Low s seen limit = (y : ℕ) → has (map (place s.places) seen) y ≡ true → y < limit

abbrev Later : List Written → (limit p : ℕ) → Type 0
Later ps limit p = (q : ℕ) → p ≤ q → limit ≤ before ps q

-- no step binds a variable from a limit on
abbrev Under : (limit : ℕ) → Code Pos → Type 0
Under limit c = (y : ℕ) → limit ≤ y → NotBound y c

low_both : (s : Setting) (xs seen : List ℕ) (limit : ℕ) → ((y : ℕ) → limit ≤ y → Apart s xs y) → Low s seen limit
    → Low s (xs ++ seen) limit
low_both s xs seen limit h k y e =
    here (has_one (map (place s.places) xs) (map (place s.places) seen) y
    (sym (ap (λ zs. has zs y) (map-append (place s.places) xs seen)) ∙ e))
  where
    less : has (map (place s.places) xs) y ≡ true → (b : Bool) → nat_lt y limit ≡ b → y < limit
    less j true g = ltb-true y limit g
    less j false g = never (sym (h y (ltb-false y limit g)) ∙ j)

    here : (has (map (place s.places) xs) y ≡ true) ⊎ (has (map (place s.places) seen) y ≡ true) → y < limit
    here (inl j) = less j (nat_lt y limit) refl
    here (inr j) = k y j

-- A procedure's parameters and their boxes

params_listed : (s : Setting) (xs : List ℕ) (r : Option ℕ) (n : ℕ)
    → numbers_from n (length (all_params xs r)) ≡ numbers_from n (length xs) ++ option_list (rest_var s r (n + length xs))
params_listed s xs None n =
    let all : length xs ≡ length xs + 0 = omega arith in
    ap (numbers_from n) all ∙ numbers_append n (length xs) 0
params_listed s xs (Some x) n = ap (numbers_from n) (length-append xs (x ∷ [])) ∙ numbers_append n (length xs) 1

boxes_apart : (s : Setting) (y : ℕ) (q : Pos) (xs : List ℕ) (v m : ℕ) (rest : Code Pos)
    → has (numbers_from v (length xs)) y ≡ false → At s (box_places s.boxed v m xs)
    → NotBound y (make_boxes s q xs v m rest) → Apart s xs y
boxes_apart s y q [] v m rest g h t = refl
boxes_apart s y q (x ∷ xs) v m rest g h t =
    let first = none_left (nat_eq y v) (has (numbers_from (suc v) (length xs)) y) g in
    here (s.boxed x) first h t
    (λ j k t. boxes_apart s y q xs (suc v) j rest (none_back (nat_eq y) (v ∷ []) (numbers_from (suc v) (length xs)) g) k t)
  where
    here : (b : Bool) → nat_eq y v ≡ false
        → (place s.places x ≡ (if b then m else v)) × At s (box_places s.boxed (suc v) (if b then suc m else m) xs)
        → NotBound y (if b then Then q (m ∷ []) (act.MakeBox v) (make_boxes s q xs (suc v) (suc m) rest) else make_boxes s q xs (suc v) m rest)
        → ((j : ℕ) → At s (box_places s.boxed (suc v) j xs) → NotBound y (make_boxes s q xs (suc v) j rest) → Apart s xs y)
        → nat_eq y (place s.places x) || has (map (place s.places) xs) y ≡ false
    here true f h t others =
        ap (λ b. b || has (map (place s.places) xs) y) (ap (nat_eq y) h.0 ∙ t.0.0) ∙ others (suc m) h.1 t.2
    here false f h t others =
        ap (λ b. b || has (map (place s.places) xs) y) (ap (nat_eq y) h.0 ∙ f) ∙ others m h.1 t

boxes_need : (ps : List Written) (deep y : ℕ) (s : Setting) (q : Pos) (xs : List ℕ) (v m : ℕ) (rest : Code Pos)
    → has (numbers_from v (length xs)) y ≡ false → NoNeed ps deep y rest → NoNeed ps deep y (make_boxes s q xs v m rest)
boxes_need ps deep y s q [] v m rest g r = r
boxes_need ps deep y s q (x ∷ xs) v m rest g r =
    here (s.boxed x) (none_left (nat_eq y v) (has (numbers_from (suc v) (length xs)) y) g)
    (λ j. boxes_need ps deep y s q xs (suc v) j rest (none_back (nat_eq y) (v ∷ []) (numbers_from (suc v) (length xs)) g) r)
  where
    here : (b : Bool) → nat_eq y v ≡ false → ((j : ℕ) → NoNeed ps deep y (make_boxes s q xs (suc v) j rest))
        → NoNeed ps deep y (if b then Then q (m ∷ []) (act.MakeBox v) (make_boxes s q xs (suc v) (suc m) rest) else make_boxes s q xs (suc v) m rest)
    here true f others = neither (nat_eq y v) _ f (others (suc m))
    here false f others = others m

boxes_in : (ps : List Written) (own : List ℕ) (s : Setting) (q : Pos) (xs : List ℕ) (v m : ℕ) (rest : Code Pos)
    (scope : List ℕ) → Within (numbers_from v (length xs)) scope → At s (box_places s.boxed v m xs)
    → ((wide : List ℕ) → Within scope wide → Within (map (place s.places) xs) wide → InScope ps own wide rest)
    → InScope ps own scope (make_boxes s q xs v m rest)
boxes_in ps own s q [] v m rest scope g h k = k scope (λ y e. e) (λ y e. never e)
boxes_in ps own s q (x ∷ xs) v m rest scope g h k =
    here (s.boxed x) h (g v (has_front (v ∷ []) (numbers_from (suc v) (length xs)) v (self v)))
    (λ j wide w at k.
    boxes_in ps own s q xs (suc v) j rest wide
    (λ y e. w y (g y (has_back (v ∷ []) (numbers_from (suc v) (length xs)) y e))) at k)
  where
    self : (v : ℕ) → has (v ∷ []) v ≡ true
    self v = ap (λ b. b || false) (eq-eqb v v refl)

    here : (b : Bool)
        → (place s.places x ≡ (if b then m else v)) × At s (box_places s.boxed (suc v) (if b then suc m else m) xs)
        → has scope v ≡ true
        → ((j : ℕ) (wide : List ℕ) → Within scope wide → At s (box_places s.boxed (suc v) j xs)
        → ((wider : List ℕ) → Within wide wider → Within (map (place s.places) xs) wider → InScope ps own wider rest)
        → InScope ps own wide (make_boxes s q xs (suc v) j rest))
        → InScope ps own scope (if b then Then q (m ∷ []) (act.MakeBox v) (make_boxes s q xs (suc v) (suc m) rest) else make_boxes s q xs (suc v) m rest)
    here true h there others = (
      ((λ e. there), tt),
      tt,
      tt,
      others (suc m) (m ∷ scope) (has_back (m ∷ []) scope) h.1
          (λ wide w found.
          k wide (λ y e. w y (has_back (m ∷ []) scope y e))
          (first_found s x m xs wide h.0 (w m (has_front (m ∷ []) scope m (self m))) found)),
    )
    here false h there others =
        others m scope (λ y e. e) h.1
        (λ wide w found. k wide w (first_found s x v xs wide h.0 (w v there) found))

-- One procedure: number p, of a lambda expression that stands where these variables are seen

module _ (ps : List Written) (numbered : Numbered ps) (s : Setting) (p n : ℕ) (q : Pos) (xs : List ℕ) (r : Option ℕ) (body : Expr) where
  abbrev whole : Written
  whole = written s n p (Lambda q xs r body)

  abbrev params : List ℕ
  params = all_params xs r

  abbrev start : ℕ
  start = after_boxes s.boxed (n + length params) params

  abbrev steps : Code Pos
  steps = code s body start (suc p) (Ends (Some (value s body start)))

  outside : (y : ℕ) → has (bound_in whole) y ≡ false
      → (has (numbers_from n (length params)) y ≡ false) × NotBound y whole.body
  outside y h =
      let rest = option_list (rest_var s r (n + length xs)) in
      let others = none_back (nat_eq y) (numbers_from n (length xs)) (rest ++ binds whole.body) h in (
        ap (λ zs. has zs y) (params_listed s xs r n)
            ∙ has_neither (numbers_from n (length xs)) rest y
            (none_front (nat_eq y) (numbers_from n (length xs)) (rest ++ binds whole.body) h)
            (none_front (nat_eq y) rest (binds whole.body) others),
        not_bound y whole.body (none_back (nat_eq y) rest (binds whole.body) others),
      )

  outside_apart : At s (lambda_places s.boxed n (Lambda q xs r body)) → (y : ℕ) → has (bound_in whole) y ≡ false
      → Apart s params y
  outside_apart at y h =
      let out = outside y h in
      boxes_apart s y q params n (n + length params) steps out.0
      (front_each (IsAt s) (box_places s.boxed n (n + length params) params) _ at) out.1

  body_at : At s (lambda_places s.boxed n (Lambda q xs r body)) → At s (places s.boxed start body)
  body_at at = back_each (IsAt s) (box_places s.boxed n (n + length params) params) _ at

  past_own : slice_get ps p ≡ Some whole → (y : ℕ) → before ps (suc p) ≤ y → has (bound_in whole) y ≡ false
  past_own e y less =
      let next = before_next ps p whole e in
      ap (λ zs. has zs y) (own ps numbered p whole e) ∙ has_late (before ps p) (length (bound_in whole)) y (omega (arith, next, less))

  before_own : slice_get ps p ≡ Some whole → (y : ℕ) → y < before ps p → has (bound_in whole) y ≡ false
  before_own e y less =
      ap (λ zs. has zs y) (own ps numbered p whole e) ∙ has_early (before ps p) (length (bound_in whole)) y less

  body_under : slice_get ps p ≡ Some whole → Under (before ps (suc p)) steps
  body_under e y less =
      past_boxes (NotIn y) AnyValue s q params n (n + length params) steps (outside y (past_own e y less)).1

  body_low : (seen : List ℕ) (limit : ℕ) → slice_get ps p ≡ Some whole → At s (lambda_places s.boxed n (Lambda q xs r body))
      → Low s seen limit → Later ps limit p → Low s (params ++ seen) (before ps (suc p))
  body_low seen limit e at low later =
      low_both s params seen (before ps (suc p)) (λ y less. outside_apart at y (past_own e y less))
      (λ y h. let less = low y h in let more = later (suc p) (omega arith) in omega (arith, less, more))

  frees : (seen : List ℕ) → slice_get ps p ≡ Some whole → At s (lambda_places s.boxed n (Lambda q xs r body))
      → Scoped (params ++ seen) body → Closed ps (place s.places) (params ++ seen) (suc p) body
      → Frees ps (place s.places) seen p
  frees seen e at h c zero y o = refl
  frees seen e at h c (suc deep) y o =
      has_free deep ps p y whole e ∙ here (has (bound_in whole) y) refl
    where
      rest : Bool
      rest = has (reads_in whole.body) y || any_free (free_in deep ps) (closes_in whole.body) y

      here : (b : Bool) → has (bound_in whole) y ≡ b → not (has (bound_in whole) y) && rest ≡ false
      here true k = ap (λ b. not b && rest) k
      here false k =
          let out = outside y k in
          let apart = apart_both s y params seen (outside_apart at y k) o in
          let inner = past_boxes (NotIn y) AnyValue s q params n (n + length params) steps out.1 in
          ap (λ b. not b && rest) k
          ∙ (sym (has_needs (free_in deep ps) whole.body y)
          ∙ boxes_need ps deep y s q params n (n + length params) steps out.0
          (code_needs ps deep y s (params ++ seen) body start (suc p) _ h apart (body_at at) c inner
          (ap (λ b. b || false) (value_apart s y (params ++ seen) body start (suc p) _ h apart (body_at at) inner))))

  in_proc : (seen : List ℕ) (limit : ℕ) → slice_get ps p ≡ Some whole → At s (lambda_places s.boxed n (Lambda q xs r body))
      → Scoped (params ++ seen) body → Closed ps (place s.places) (params ++ seen) (suc p) body → Low s seen limit
      → Later ps limit p → InProc ps whole
  in_proc seen limit e at h c low later =
      let scope = numbers_from n (length xs) ++ option_list (rest_var s r (n + length xs)) in
      boxes_in ps (bound_in whole) s q params n (n + length params) steps scope
      (λ y k. sym (ap (λ zs. has zs y) (params_listed s xs r n)) ∙ k)
      (front_each (IsAt s) (box_places s.boxed n (n + length params) params) _ at)
      (λ wide w found.
      code_in ps (bound_in whole) s (params ++ seen) body start (suc p) _ wide h
      (sees_both s (bound_in whole) params seen wide (λ y k o. found y k)
      (λ y k o.
      let less = low y k in
      let more = later p (omega arith) in
      never (sym (before_own e y (omega (arith, less, more))) ∙ o)))
      (body_at at) c (λ wider u v. (v, tt)))

  one_proc : (seen : List ℕ) (limit : ℕ) → slice_get ps p ≡ Some whole → At s (lambda_places s.boxed n (Lambda q xs r body))
      → Scoped (params ++ seen) body → Closed ps (place s.places) (params ++ seen) (suc p) body → Low s seen limit
      → Later ps limit p → (w : Written) → slice_get ps p ≡ Some w → InProc ps w
  one_proc seen limit e at h c low later w k =
      let same : whole ≡ w = cc in subst (InProc ps) same (in_proc seen limit e at h c low later)

-- All procedures of an expression: those from p on. What its steps bind is below a limit, and so is what is seen.

abbrev Found : List Written → (at : ℕ → ℕ) → (seen : List ℕ) → (p : ℕ) → Expr → Type 0
Found ps at seen p e = Closed ps at seen p e × Ins ps p (lambdas e)

abbrev AllFound : List Written → (at : ℕ → ℕ) → (seen : List ℕ) → (p : ℕ) → Exprs → Type 0
AllFound ps at seen p es = AllClosed ps at seen p es × Ins ps p (all_lambdas es)

later_from : (ps : List Written) (limit p k : ℕ) → Later ps limit p → Later ps limit (p + k)
later_from ps limit p k h q less = h q (omega (arith, less))

mutual
  procs_found : (ps : List Written) → Numbered ps → (s : Setting) (seen : List ℕ) (limit : ℕ) (e : Expr) (n p : ℕ) (rest : Code Pos)
      → IsFit e → Scoped seen e → Sits ps s p (lambdas e) → At s (places s.boxed n e) → Low s seen limit → Later ps limit p
      → Under limit (code s e n p rest) → Found ps (place s.places) seen p e
  procs_found ps num s seen limit (Lambda q xs r body) n p rest fit h sits at low later under =
      let m = sits.0.0 in
      let e = sits.0.1 in
      let at_l = sits.0.2 in
      let ys = all_params xs r in
      let k = after_boxes s.boxed (m + length ys) ys in
      let inner =
      procs_found ps num s (ys ++ seen) (before ps (suc p)) body k (suc p) _ fit.1 h sits.1
      (body_at ps num s p m q xs r body at_l) (body_low ps num s p m q xs r body seen limit e at_l low later)
      (λ j less. before_later ps (suc p) j less) (body_under ps num s p m q xs r body e) in (
        frees ps num s p m q xs r body seen e at_l h inner.0,
        (one_proc ps num s p m q xs r body seen limit e at_l h inner.0 low later, inner.1),
      )
  procs_found ps num s seen limit (If q test this that) n p rest fit h sits at low later under =
      let m = after s.boxed n test in
      let j = after s.boxed (suc m) this in
      let p1 = p + procs_in test in
      let later1 = later_from ps limit p (procs_in test) later in
      let others = back_each (IsAt s) (places s.boxed n test) _ at in
      let arms = sits_back ps s p (procs_in test) (lambdas test) (lambdas this ++ lambdas that) (lambdas_many test) sits in
      let a =
      procs_found ps num s seen limit test n p _ fit.1 h.0 (sits_front ps s p (lambdas test) _ sits)
      (front_each (IsAt s) (places s.boxed n test) _ at) low later under in
      let b =
      procs_found ps num s seen limit this (suc m) p1 _ fit.2 h.1 (sits_front ps s p1 (lambdas this) (lambdas that) arms)
      (front_each (IsAt s) (places s.boxed (suc m) this) _ others) low later1
      (λ y less. (past (NotIn y) AnyValue s test n p _ (under y less)).1.0) in
      let c =
      procs_found ps num s seen limit that j (p1 + procs_in this) _ fit.3 h.2
      (sits_back ps s p1 (procs_in this) (lambdas this) (lambdas that) (lambdas_many this) arms)
      (back_each (IsAt s) (places s.boxed (suc m) this) _ others) low
      (later_from ps limit p1 (procs_in this) later1) (λ y less. (past (NotIn y) AnyValue s test n p _ (under y less)).1.1) in (
        (a.0, b.0, c.0),
        ins_both ps p (procs_in test) (lambdas test) (lambdas this ++ lambdas that) (lambdas_many test) a.1
            (ins_both ps p1 (procs_in this) (lambdas this) (lambdas that) (lambdas_many this) b.1 c.1),
      )
  procs_found ps num s seen limit (SetLocal q x e) n p rest fit h sits at low later under =
      procs_found ps num s seen limit e n p _ fit.1 h.1 sits at low later under
  procs_found ps num s seen limit (SetTop q x e) n p rest fit h sits at low later under =
      procs_found ps num s seen limit e n p _ fit.1 h sits at low later under
  procs_found ps num s seen limit (Call q f es) n p rest fit h sits at low later under =
      let a =
      procs_found ps num s seen limit f n p _ fit.1 h.0 (sits_front ps s p (lambdas f) _ sits)
      (front_each (IsAt s) (places s.boxed n f) _ at) low later under in
      let b =
      all_procs_found ps num s seen limit es (after s.boxed n f) (p + procs_in f) _ fit.2 h.1
      (sits_back ps s p (procs_in f) (lambdas f) (all_lambdas es) (lambdas_many f) sits)
      (back_each (IsAt s) (places s.boxed n f) _ at) low
      (later_from ps limit p (procs_in f) later) (λ y less. past (NotIn y) AnyValue s f n p _ (under y less)) in
      ((a.0, b.0), ins_both ps p (procs_in f) (lambdas f) (all_lambdas es) (lambdas_many f) a.1 b.1)
  procs_found ps num s seen limit (Direct q xs body es) n p rest fit h sits at low later under =
      let m = all_after s.boxed n es in
      let j = after_params s.boxed m xs (have_values es) in
      let p1 = p + procs_in body in
      let others = back_each (IsAt s) (all_places s.boxed n es) _ at in
      let some = param_places s.boxed m xs (have_values es) in
      let inside =
      low_both s xs seen limit
      (λ y less.
      params_apart s y seen q xs es n m _ h.0 (front_each (IsAt s) some _ others) (past_all (NotIn y) AnyValue s es n p1 _ (under y less)))
      low in
      let a =
      procs_found ps num s (xs ++ seen) limit body j p rest fit.1 h.1 (sits_front ps s p (lambdas body) (all_lambdas es) sits)
      (back_each (IsAt s) some _ others) inside later
      (λ y less. past_params (NotIn y) AnyValue s q xs (all_valued s es n) m _ (past_all (NotIn y) AnyValue s es n p1 _ (under y less))) in
      let b =
      operands_procs_found ps num s seen limit xs es n p1 _ fit.2 h.0
      (sits_back ps s p (procs_in body) (lambdas body) (all_lambdas es) (lambdas_many body) sits)
      (front_each (IsAt s) (all_places s.boxed n es) _ at) low
      (later_from ps limit p (procs_in body) later) under in
      ((b.0, a.0), ins_both ps p (procs_in body) (lambdas body) (all_lambdas es) (lambdas_many body) a.1 b.1)
  procs_found ps num s seen limit (Prim q o es) n p rest fit h sits at low later under =
      all_procs_found ps num s seen limit es n p _ fit.2 h sits at low later under
  procs_found ps num s seen limit (Seq q es) n p rest fit h sits at low later under =
      all_procs_found ps num s seen limit es n p _ fit.1 h.1 sits at low later under
  procs_found ps num s seen limit (Fix q xs ls body) n p rest fit h sits at low later under =
      let p1 = p + all_procs_in ls in
      let inside =
      low_both s xs seen limit
      (λ y less.
      vars_apart s y xs n (front_each (IsAt s) (var_places n xs) _ at) (under y less).0)
      low in
      let a =
      lambdas_procs_found ps num s (xs ++ seen) limit ls p fit.4 fit.2 h.1
      (sits_front ps s p (all_lambdas ls) (lambdas body) sits) inside later in
      let b =
      procs_found ps num s (xs ++ seen) limit body (n + length xs) p1 rest fit.3 h.2
      (sits_back ps s p (all_procs_in ls) (all_lambdas ls) (lambdas body) (all_lambdas_many ls) sits)
      (back_each (IsAt s) (var_places n xs) _ at) inside
      (later_from ps limit p (all_procs_in ls) later) (λ y less. (under y less).2) in
      ((a.0, b.0), ins_both ps p (all_procs_in ls) (all_lambdas ls) (lambdas body) (all_lambdas_many ls) a.1 b.1)
  procs_found ps num s seen limit (Define q x e) n p rest fit h sits at low later under = absurd fit
  procs_found ps num s seen limit e n p rest fit h sits at low later under = (tt, tt)

  all_procs_found : (ps : List Written) → Numbered ps → (s : Setting) (seen : List ℕ) (limit : ℕ) (es : Exprs) (n p : ℕ)
      (rest : Code Pos) → AllFit es → AllScoped seen es → Sits ps s p (all_lambdas es) → At s (all_places s.boxed n es)
      → Low s seen limit → Later ps limit p → Under limit (all_code s es n p rest) → AllFound ps (place s.places) seen p es
  all_procs_found ps num s seen limit none n p rest fit h sits at low later under = (tt, tt)
  all_procs_found ps num s seen limit (item e es) n p rest fit h sits at low later under =
      let a =
      procs_found ps num s seen limit e n p _ fit.0 h.0 (sits_front ps s p (lambdas e) (all_lambdas es) sits)
      (front_each (IsAt s) (places s.boxed n e) _ at) low later under in
      let b =
      all_procs_found ps num s seen limit es (after s.boxed n e) (p + procs_in e) rest fit.1 h.1
      (sits_back ps s p (procs_in e) (lambdas e) (all_lambdas es) (lambdas_many e) sits)
      (back_each (IsAt s) (places s.boxed n e) _ at) low
      (later_from ps limit p (procs_in e) later) (λ y less. past (NotIn y) AnyValue s e n p _ (under y less)) in
      ((a.0, b.0), ins_both ps p (procs_in e) (lambdas e) (all_lambdas es) (lambdas_many e) a.1 b.1)

  operands_procs_found : (ps : List Written) → Numbered ps → (s : Setting) (seen : List ℕ) (limit : ℕ) (xs : List ℕ) (es : Exprs)
      (n p : ℕ) (rest : Code Pos) → AllFit es → OperandsScoped seen xs es → Sits ps s p (all_lambdas es)
      → At s (all_places s.boxed n es) → Low s seen limit → Later ps limit p → Under limit (all_code s es n p rest)
      → AllFound ps (place s.places) seen p es
  operands_procs_found ps num s seen limit xs none n p rest fit h sits at low later under = (tt, tt)
  operands_procs_found ps num s seen limit [] (item e es) n p rest fit h sits at low later under = absurd h
  operands_procs_found ps num s seen limit (x ∷ xs) (item Hole es) n p rest fit h sits at low later under =
      let b =
      operands_procs_found ps num s seen limit xs es n (p + 0) rest fit.1 h
      (sits_back ps s p 0 [] (all_lambdas es) refl sits) at low (later_from ps limit p 0 later) under in
      ((tt, b.0), ins_both ps p 0 [] (all_lambdas es) refl tt b.1)
  operands_procs_found ps num s seen limit (x ∷ xs) (item e es) n p rest fit h sits at low later under =
      let a =
      procs_found ps num s seen limit e n p _ fit.0 h.0 (sits_front ps s p (lambdas e) (all_lambdas es) sits)
      (front_each (IsAt s) (places s.boxed n e) _ at) low later under in
      let b =
      operands_procs_found ps num s seen limit xs es (after s.boxed n e) (p + procs_in e) rest fit.1 h.1
      (sits_back ps s p (procs_in e) (lambdas e) (all_lambdas es) (lambdas_many e) sits)
      (back_each (IsAt s) (places s.boxed n e) _ at) low
      (later_from ps limit p (procs_in e) later) (λ y less. past (NotIn y) AnyValue s e n p _ (under y less)) in
      ((a.0, b.0), ins_both ps p (procs_in e) (lambdas e) (all_lambdas es) (lambdas_many e) a.1 b.1)

  lambdas_procs_found : (ps : List Written) → Numbered ps → (s : Setting) (seen : List ℕ) (limit : ℕ) (ls : Exprs) (p : ℕ)
      → AreLambdas ls → AllFit ls → AllScoped seen ls → Sits ps s p (all_lambdas ls) → Low s seen limit → Later ps limit p
      → AllByRecursion (Frees ps (place s.places) seen) (procs_of p ls) × Ins ps p (all_lambdas ls)
  lambdas_procs_found ps num s seen limit none p are fit h sits low later = (tt, tt)
  lambdas_procs_found ps num s seen limit (item (Lambda q xs r body) ls) p are fit h sits low later =
      let l = Lambda q xs r body in
      let many = suc (procs_in body) in
      let m = sits.0.0 in
      let e = sits.0.1 in
      let at_l = sits.0.2 in
      let ys = all_params xs r in
      let k = after_boxes s.boxed (m + length ys) ys in
      let inner =
      procs_found ps num s (ys ++ seen) (before ps (suc p)) body k (suc p) _ fit.0.1 h.0
      (sits_front ps s (suc p) (lambdas body) (all_lambdas ls) sits.1)
      (body_at ps num s p m q xs r body at_l) (body_low ps num s p m q xs r body seen limit e at_l low later)
      (λ j less. before_later ps (suc p) j less) (body_under ps num s p m q xs r body e) in
      let others =
      lambdas_procs_found ps num s seen limit ls (p + many) are fit.1 h.1
      (sits_back ps s p many (lambdas l) (all_lambdas ls) (lambdas_many l) sits) low (later_from ps limit p many later) in (
        (frees ps num s p m q xs r body seen e at_l h.0 inner.0, others.0),
        ins_both ps p many (lambdas l) (all_lambdas ls) (lambdas_many l)
            (one_proc ps num s p m q xs r body seen limit e at_l h.0 inner.0 low later, inner.1) others.1,
      )
  lambdas_procs_found ps num s seen limit (item e ls) p are fit h sits low later = absurd are

-- Programs

-- where each form's procedures stand
abbrev FormsSit : Exprs → List Written → (f p : ℕ) → Exprs → Type 0
FormsSit all ps f p none = Unit {0}
FormsSit all ps f p (item e es) = Sits ps (setting all f) p (lambdas e) × FormsSit all ps (suc f) (p + procs_in e) es

-- these procedures are those from p on
abbrev Tail : List Written → (p : ℕ) → List Written → Type 0
Tail ps p ws = (i : ℕ) → slice_get ps (p + i) ≡ slice_get ws i

abbrev PairsSit : Exprs → List Written → (p : ℕ) → List (ℕ × Expr) → Type 0
PairsSit all ps p [] = Unit {0}
PairsSit all ps p (l ∷ ls) =
    ((n : ℕ) × (slice_get ps p ≡ Some (written (setting all l.0) n p l.1)) × At (setting all l.0) (lambda_places (is_boxed all) n l.1))
    × PairsSit all ps (suc p) ls

pairs_sit : (all : Exprs) (ps : List Written) (n p : ℕ) (ls : List (ℕ × Expr)) → Tail ps p (all_written all n p ls)
    → At (setting all 0) (lambdas_places (is_boxed all) n ls) → PairsSit all ps p ls
pairs_sit all ps n p [] h at = tt
pairs_sit all ps n p (l ∷ ls) h at =
    let k = after_lambda (is_boxed all) n l.1 in
    let here : p + 0 ≡ p = omega arith in (
      (
        n,
        sym (ap (slice_get ps) here) ∙ h 0,
        front_each (IsAt (setting all 0)) (lambda_places (is_boxed all) n l.1) _ at,
      ),
      pairs_sit all ps k (suc p) ls (λ i. let next : suc p + i ≡ p + suc i = omega arith in ap (slice_get ps) next ∙ h (suc i))
          (back_each (IsAt (setting all 0)) (lambda_places (is_boxed all) n l.1) _ at),
    )

form_sits : (all : Exprs) (ps : List Written) (f p : ℕ) (es : List Expr) (ls : List (ℕ × Expr))
    → PairsSit all ps p (map (λ l. (f, l)) es ++ ls) → Sits ps (setting all f) p es × PairsSit all ps (p + length es) ls
form_sits all ps f p [] ls h = let same : p ≡ p + 0 = omega arith in (tt, subst (λ k. PairsSit all ps k ls) same h)
form_sits all ps f p (e ∷ es) ls h =
    let others = form_sits all ps f (suc p) es ls h.1 in
    let next : suc p + length es ≡ p + suc (length es) = omega arith in
    ((h.0, others.0), subst (λ k. PairsSit all ps k ls) next others.1)

forms_sit : (all : Exprs) (ps : List Written) (f p : ℕ) (es : Exprs) → PairsSit all ps p (placed_lambdas f es)
    → FormsSit all ps f p es
forms_sit all ps f p none h = tt
forms_sit all ps f p (item e es) h =
    let two = form_sits all ps f p (lambdas e) (placed_lambdas (suc f) es) h in (
      two.0,
      forms_sit all ps (suc f) (p + procs_in e) es
          (subst (λ k. PairsSit all ps (p + k) (placed_lambdas (suc f) es)) (lambdas_many e) two.1),
    )

form_procs_found : (ps : List Written) → Numbered ps → (s : Setting) (limit : ℕ) (e : Expr) (n p : ℕ) (rest : Code Pos)
    → FormFits e → Scoped [] e → Sits ps s p (lambdas e) → At s (places s.boxed n e) → Later ps limit p
    → Under limit (code s e n p rest) → Found ps (place s.places) [] p e
form_procs_found ps num s limit (Define q x e) n p rest fit h sits at later under =
    procs_found ps num s [] limit e n p _ fit.1 h sits at (λ y k. never k) later under
form_procs_found ps num s limit e n p rest fit h sits at later under =
    procs_found ps num s [] limit e n p rest fit h sits at (λ y k. never k) later under

forms_procs_found : (ps : List Written) → Numbered ps → (all : Exprs) (limit f n p : ℕ) (es : Exprs) → FormsFit es → AllScoped [] es
    → FormsSit all ps f p es → At (setting all 0) (all_places (is_boxed all) n es) → Later ps limit p
    → Under limit (form_code all f n p es) → AllFound ps (place (whole_places all)) [] p es
forms_procs_found ps num all limit f n p none fit h sits at later under = (tt, tt)
forms_procs_found ps num all limit f n p (item e es) fit h sits at later under =
    let s = setting all f in
    let a =
    form_procs_found ps num s limit e n p _ fit.0 h.0 sits.0
    (front_each (IsAt (setting all 0)) (places (is_boxed all) n e) _ at) later under in
    let b =
    forms_procs_found ps num all limit (suc f) (after (is_boxed all) n e) (p + procs_in e) es fit.1 h.1 sits.1
    (back_each (IsAt (setting all 0)) (places (is_boxed all) n e) _ at)
    (later_from ps limit p (procs_in e) later) (λ y less. past (NotIn y) AnyValue s e n p _ (under y less)) in
    ((a.0, b.0), ins_both ps p (procs_in e) (lambdas e) (all_lambdas es) (lambdas_many e) a.1 b.1)

forms_need : (ps : List Written) (deep y : ℕ) (all : Exprs) (f n p : ℕ) (es : Exprs) → AllScoped [] es
    → At (setting all 0) (all_places (is_boxed all) n es) → AllClosed ps (place (whole_places all)) [] p es
    → NotBound y (form_code all f n p es) → NoNeed ps deep y (form_code all f n p es)
forms_need ps deep y all f n p none h at c t = refl
forms_need ps deep y all f n p (item e es) h at c t =
    code_needs ps deep y (setting all f) [] e n p _ h.0 refl
    (front_each (IsAt (setting all 0)) (places (is_boxed all) n e) _ at) c.0 t
    (forms_need ps deep y all (suc f) (after (is_boxed all) n e) (p + procs_in e) es h.1
    (back_each (IsAt (setting all 0)) (places (is_boxed all) n e) _ at) c.1
    (past (NotIn y) AnyValue (setting all f) e n p _ t))

forms_in : (ps : List Written) (own : List ℕ) (all : Exprs) (f n p : ℕ) (es : Exprs) (scope : List ℕ) → AllScoped [] es
    → At (setting all 0) (all_places (is_boxed all) n es) → AllClosed ps (place (whole_places all)) [] p es
    → InScope ps own scope (form_code all f n p es)
forms_in ps own all f n p none scope h at c = tt
forms_in ps own all f n p (item e es) scope h at c =
    code_in ps own (setting all f) [] e n p _ scope h.0 (λ y k. never k)
    (front_each (IsAt (setting all 0)) (places (is_boxed all) n e) _ at) c.0
    (λ wide w v.
    forms_in ps own all (suc f) (after (is_boxed all) n e) (p + procs_in e) es wide h.1
    (back_each (IsAt (setting all 0)) (places (is_boxed all) n e) _ at) c.1)

ins_each : (ps : List Written) (all : Exprs) (n p : ℕ) (ls : List (ℕ × Expr)) → Tail ps p (all_written all n p ls)
    → Ins ps p (exprs_of ls) → AllByRecursion (InProc ps) (all_written all n p ls)
ins_each ps all n p [] h k = tt
ins_each ps all n p (l ∷ ls) h k =
    let here : p ≡ p + 0 = omega arith in (
      k.0 (written (setting all l.0) n p l.1) (ap (slice_get ps) here ∙ h 0),
      ins_each ps all (after_lambda (is_boxed all) n l.1) (suc p) ls
          (λ i. let next : suc p + i ≡ p + suc i = omega arith in ap (slice_get ps) next ∙ h (suc i)) k.1,
    )

none_in : (xs : List ℕ) → ((y : ℕ) → has xs y ≡ false) → xs ≡ []
none_in [] h = refl
none_in (x ∷ xs) h = never (sym (h x) ∙ has_front (x ∷ []) xs x (ap (λ b. b || false) (eq-eqb x x refl)))

-- procedure 0, the program itself
abbrev main_of : Exprs → Written
main_of es = record { params = []; rest = None; body = form_code es 0 0 1 es; pos = record { line = 0; col = 0 } }

nothing_free : (es : Exprs) (others : List Written) → AllScoped [] es → At (setting es 0) (all_places (is_boxed es) 0 es)
    → AllClosed (main_of es ∷ others) (place (whole_places es)) [] 1 es → (y : ℕ)
    → has (free_in (suc (length others)) (main_of es ∷ others) 0) y ≡ false
nothing_free es others h at c y =
    has_free (length others) ps 0 y (main_of es) refl ∙ here (has (bound_in (main_of es)) y) refl
  where
    ps : List Written
    ps = main_of es ∷ others

    rest : Bool
    rest = has (reads_in (main_of es).body) y || any_free (free_in (length others) ps) (closes_in (main_of es).body) y

    here : (b : Bool) → has (bound_in (main_of es)) y ≡ b → not (has (bound_in (main_of es)) y) && rest ≡ false
    here true k = ap (λ b. not b && rest) k
    here false k =
        ap (λ b. not b && rest) k
        ∙ (sym (has_needs (free_in (length others) ps) (main_of es).body y)
        ∙ forms_need ps (length others) y es 0 0 1 es h at c (not_bound y (main_of es).body k))

program_scoped : (es : Exprs) (lits : List Lit) → FormsFit es → AllScoped [] es → IsDistinct nat_eq (all_bound es)
    → Numbered (named es lits).procs → AreScoped (named es lits).procs
program_scoped es lits fit h d num =
    let b = is_boxed es in
    let n = all_after b 0 es in
    let ls = placed_lambdas 0 es in
    let others = all_written es n 1 ls in
    let ps = main_of es ∷ others in
    let at = found_there es fit h d in
    let at_main = front_each (IsAt (setting es 0)) (all_places b 0 es) (lambdas_places b n ls) at in
    let tail : Tail ps 1 others = λ i. let e : 1 + i ≡ suc i = omega arith in ap (slice_get ps) e in
    let sits =
    forms_sit es ps 0 1 es
    (pairs_sit es ps n 1 ls tail
    (back_each (IsAt (setting es 0)) (all_places b 0 es) (lambdas_places b n ls) at)) in
    let under : Under (before ps 1) (form_code es 0 0 1 es) =
    (λ y less.
    let next = before_next ps 0 (main_of es) refl in
    not_bound y (form_code es 0 0 1 es)
    (ap (λ zs. has zs y) (own ps num 0 (main_of es) refl)
    ∙ has_late (before ps 0) (length (bound_in (main_of es))) y (omega (arith, next, less)))) in
    let all =
    forms_procs_found ps num es (before ps 1) 0 0 1 es fit h sits at_main (λ q less. before_later ps 1 q less) under in
    record {
      closed = none_in (free_in (length ps) ps 0) (nothing_free es others h at_main all.0);
      inside = (
        forms_in ps (bound_in (main_of es)) es 0 0 1 es [] h at_main all.0,
        ins_each ps es n 1 ls tail (subst (Ins ps 1) (sym (all_placed_exprs 0 es)) all.1),
      );
    }

pub each_scope : (core : Program VarRef) (forms : Trees VarRef) → IsRenamed core forms
    → AreScoped (form_of core forms).procs
each_scope core forms h =
    let es = all_told core.lits forms in
    program_scoped es core.lits (fit_of core forms h) (forms_scoped core.lits forms h.valid.fine h.scoped h.once)
    (subst (IsDistinct nat_eq) (sym (all_told_bound core.lits forms))
    (numbers_distinct (valid.all_bound forms) (all_bound_local [] forms h.scoped) h.once))
    (all_numbered core forms)
