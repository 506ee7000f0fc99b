-- What is free in the procedures of a program are places of variables that are seen where their lambda expressions
-- stand.
use Rattle.std.proofs.Common.{◌≡◌, ℕ, suc, ◌+◌, Bool, true, false, List, [], ◌∷◌, ◌++◌, length, map, Option, Some, None, refl, ap, ◌∙◌, eqb-true}
use Rattle.std.proofs.lemmas.List.{map-append}
use Rattle.std.specs.Prelude.{if◌then◌else◌, nat_eq, ◌||◌}
use Rattle.std.specs.List.{AllByRecursion, flat_map}
use Rattle.scheme_base.specs.declared.op.Op.{Op}
use Rattle.scheme_base.specs.declared.op.Op.TheVariants as op
use Rattle.scheme_base.specs.declared.pos.Pos.{Pos}
use Rattle.named_form.specs.Code.{Code, Ends, Then, Act, Written, arms_bind, binds, free_in, has, option_list}
use Rattle.named_form.specs.Code as act
use Rattle.named_form.specs.Needs.{needs_in}
use Rattle.named_form.specs.Valid.{AnyValue, OfSteps, Throughout, ThroughoutArms, numbers_from}
use Rattle.box_name.specs.Told.{Expr, Hole, Const, Local, Top, Lambda, If, SetLocal, SetTop, Call, Direct, Prim, Seq, Fix, Define, Exprs, none, item}
use Rattle.box_name.specs.Counts.{after, after_param, after_params, all_after, all_places, all_procs_in, have_values, param_places, places, procs_in, var_places}
use Rattle.box_name.specs.Naming.{Setting, all_code, all_valued, bind_params, code, last_value, operation, place, procs_of, value, values}
use Rattle.box_name.proofs.BoxesRead.{past, past_all, past_one, past_params}
use Rattle.box_name.proofs.Members.{back_each, each_apart, front_each, has_neither, never, none_back, none_front, none_left, none_right}
use Rattle.box_name.proofs.ScopesTold.{AllScoped, OperandsScoped, Scoped}

-- what is free in procedure p is the place of a variable that is seen
abbrev pub Frees : List Written → (at : ℕ → ℕ) → (seen : List ℕ) → (p : ℕ) → Type 0
Frees ps at seen p = (deep y : ℕ) → has (map at seen) y ≡ false → has (free_in deep ps p) y ≡ false

-- the same of the procedures of which an expression makes closures, where its procedures are those from p on
abbrev mutual
  pub Closed : List Written → (at : ℕ → ℕ) → (seen : List ℕ) → (p : ℕ) → Expr → Type 0
  Closed ps at seen p (Lambda q xs r body) = Frees ps at seen p
  Closed ps at seen p (If q test this that) =
      Closed ps at seen p test × Closed ps at seen (p + procs_in test) this
      × Closed ps at seen (p + procs_in test + procs_in this) that
  Closed ps at seen p (SetLocal q x e) = Closed ps at seen p e
  Closed ps at seen p (SetTop q x e) = Closed ps at seen p e
  Closed ps at seen p (Call q f es) = Closed ps at seen p f × AllClosed ps at seen (p + procs_in f) es
  Closed ps at seen p (Direct q xs body es) =
      AllClosed ps at seen (p + procs_in body) es × Closed ps at (xs ++ seen) p body
  Closed ps at seen p (Prim q o es) = AllClosed ps at seen p es
  Closed ps at seen p (Seq q es) = AllClosed ps at seen p es
  Closed ps at seen p (Fix q xs ls body) =
      AllByRecursion (Frees ps at (xs ++ seen)) (procs_of p ls)
      × Closed ps at (xs ++ seen) (p + all_procs_in ls) body
  Closed ps at seen p (Define q x e) = Closed ps at seen p e
  Closed ps at seen p e = Unit {0}

  pub AllClosed : List Written → (at : ℕ → ℕ) → (seen : List ℕ) → (p : ℕ) → Exprs → Type 0
  AllClosed ps at seen p none = Unit {0}
  AllClosed ps at seen p (item e es) = Closed ps at seen p e × AllClosed ps at seen (p + procs_in e) es

-- Variables that are not bound in some steps

abbrev pub NotIn : ℕ → OfSteps Pos
NotIn y l vars a = AllByRecursion (λ v. nat_eq y v ≡ false) vars

abbrev pub NotBound : ℕ → Code Pos → Type 0
NotBound y c = Throughout (NotIn y) AnyValue c

mutual
  pub not_bound : (y : ℕ) (c : Code Pos) → has (binds c) y ≡ false → NotBound y c
  not_bound y (Ends value) h = tt
  not_bound y (Then l vars a rest) h =
      let others = none_back (nat_eq y) vars (arms_bind a ++ binds rest) h in (
        each_apart y vars (none_front (nat_eq y) vars (arms_bind a ++ binds rest) h),
        arms_not_bound y a (none_front (nat_eq y) (arms_bind a) (binds rest) others),
        not_bound y rest (none_back (nat_eq y) (arms_bind a) (binds rest) others),
      )

  arms_not_bound : (y : ℕ) (a : Act Pos) → has (arms_bind a) y ≡ false → ThroughoutArms (NotIn y) AnyValue a
  arms_not_bound y (act.If test this that) h = (
    not_bound y this (none_front (nat_eq y) (binds this) (binds that) h),
    not_bound y that (none_back (nat_eq y) (binds this) (binds that) h),
  )
  arms_not_bound y a h = tt

-- a variable is found at its place
abbrev pub IsAt : Setting → ℕ × ℕ → Type 0
IsAt s a = place s.places a.0 ≡ a.1

abbrev pub At : Setting → List (ℕ × ℕ) → Type 0
At s ps = AllByRecursion (IsAt s) ps

-- a number is no place of these variables
abbrev pub Apart : Setting → (seen : List ℕ) → (y : ℕ) → Type 0
Apart s seen y = has (map (place s.places) seen) y ≡ false

pub unseen : (s : Setting) (y x : ℕ) (seen : List ℕ) → Apart s seen y → has seen x ≡ true → nat_eq y (place s.places x) ≡ false
unseen s y x [] h k = never k
unseen s y x (z ∷ seen) h k =
    here (nat_eq x z) refl k
    (λ j. unseen s y x seen (none_right (nat_eq y (place s.places z)) (has (map (place s.places) seen) y) h) j)
  where
    here : (b : Bool) → nat_eq x z ≡ b → b || has seen x ≡ true
        → (has seen x ≡ true → nat_eq y (place s.places x) ≡ false) → nat_eq y (place s.places x) ≡ false
    here true e k others =
        ap (λ w. nat_eq y (place s.places w)) (eqb-true x z e)
        ∙ none_left (nat_eq y (place s.places z)) (has (map (place s.places) seen) y) h
    here false e k others = others k

pub apart_both : (s : Setting) (y : ℕ) (xs seen : List ℕ) → Apart s xs y → Apart s seen y → Apart s (xs ++ seen) y
apart_both s y xs seen h k =
    ap (λ zs. has zs y) (map-append (place s.places) xs seen)
    ∙ has_neither (map (place s.places) xs) (map (place s.places) seen) y h k

pub vars_apart : (s : Setting) (y : ℕ) (xs : List ℕ) (n : ℕ) → At s (var_places n xs)
    → AllByRecursion (λ v. nat_eq y v ≡ false) (numbers_from n (length xs)) → Apart s xs y
vars_apart s y [] n h t = refl
vars_apart s y (x ∷ xs) n h t =
    ap (λ b. b || has (map (place s.places) xs) y) (ap (nat_eq y) h.0 ∙ t.0) ∙ vars_apart s y xs (suc n) h.1 t.1

copy_apart : (y : ℕ) (b : Bool) (q : Pos) (m : ℕ) (rest : Code Pos) → nat_eq y m ≡ false
    → NotBound y (if b then Then q (suc m ∷ []) (act.MakeBox m) rest else rest) → nat_eq y (if b then suc m else m) ≡ false
copy_apart y true q m rest h t = t.0.0
copy_apart y false q m rest h t = h

pub params_apart : (s : Setting) (y : ℕ) (seen : List ℕ) (q : Pos) (xs : List ℕ) (es : Exprs) (n m : ℕ) (rest : Code Pos)
    → OperandsScoped seen xs es → At s (param_places s.boxed m xs (have_values es))
    → NotBound y (bind_params s q xs (all_valued s es n) m rest) → Apart s xs y
params_apart s y seen q [] es n m rest h k t = refl
params_apart s y seen q (x ∷ xs) none n m rest h k t = absurd h
params_apart s y seen q (x ∷ xs) (item Hole es) n m rest h k t =
    ap (λ b. b || has (map (place s.places) xs) y) (ap (nat_eq y) k.0 ∙ t.0.0)
    ∙ params_apart s y seen q xs es n (suc m) rest h k.1 t.2
params_apart s y seen q (x ∷ xs) (item e es) n m rest h k t =
    ap (λ b. b || has (map (place s.places) xs) y) (ap (nat_eq y) k.0 ∙ copy_apart y (s.boxed x) q m _ t.0.0 t.2)
    ∙ params_apart s y seen q xs es (after s.boxed n e) (after_param s.boxed m x true) rest h.1 k.1
    (past_one (NotIn y) AnyValue (s.boxed x) _ _ _ _ t.2)

-- A value is bound by its steps, or is the place of a variable that is seen

local_apart : (y : ℕ) (b : Bool) (q : Pos) (n v : ℕ) (checked : Bool) (rest : Code Pos) → nat_eq y v ≡ false
    → NotBound y (if b then Then q (n ∷ []) (act.Unbox v checked) rest else rest) → nat_eq y (if b then n else v) ≡ false
local_apart y true q n v checked rest h t = t.0.0
local_apart y false q n v checked rest h t = h

mutual
  pub value_apart : (s : Setting) (y : ℕ) (seen : List ℕ) (e : Expr) (n p : ℕ) (rest : Code Pos) → Scoped seen e
      → Apart s seen y → At s (places s.boxed n e) → NotBound y (code s e n p rest) → nat_eq y (value s e n) ≡ false
  value_apart s y seen Hole n p rest h o k t = absurd h
  value_apart s y seen (Const q l) n p rest h o k t = t.0.0
  value_apart s y seen (Local q x) n p rest h o k t =
      local_apart y (s.boxed x) q n (place s.places x) (s.hole x) rest (unseen s y x seen o h) t
  value_apart s y seen (Top q x) n p rest h o k t = t.0.0
  value_apart s y seen (Lambda q xs r body) n p rest h o k t = t.0.0
  value_apart s y seen (If q test this that) n p rest h o k t = (past (NotIn y) AnyValue s test n p _ t).0.0
  value_apart s y seen (SetLocal q x e) n p rest h o k t = (past (NotIn y) AnyValue s e n p _ t).0.0
  value_apart s y seen (SetTop q x e) n p rest h o k t = (past (NotIn y) AnyValue s e n p _ t).0.0
  value_apart s y seen (Call q f es) n p rest h o k t =
      (past_all (NotIn y) AnyValue s es (after s.boxed n f) (p + procs_in f) _ (past (NotIn y) AnyValue s f n p _ t)).0.0
  value_apart s y seen (Direct q xs body es) n p rest h o k t =
      let m = all_after s.boxed n es in
      let j = after_params s.boxed m xs (have_values es) in
      let params = past_all (NotIn y) AnyValue s es n (p + procs_in body) _ t in
      let ways = back_each (IsAt s) (all_places s.boxed n es) _ k in
      let some = param_places s.boxed m xs (have_values es) in
      value_apart s y (xs ++ seen) body j p rest h.1
      (apart_both s y xs seen
      (params_apart s y seen q xs es n m _ h.0 (front_each (IsAt s) some _ ways) params) o)
      (back_each (IsAt s) some _ ways)
      (past_params (NotIn y) AnyValue s q xs (all_valued s es n) m _ params)
  value_apart s y seen (Prim q o es) n p rest h out k t = (past_all (NotIn y) AnyValue s es n p _ t).0.0
  value_apart s y seen (Seq q none) n p rest h o k t = absurd h.0
  value_apart s y seen (Seq q (item e es)) n p rest h o k t =
      last_apart s y seen (value s e n) es (after s.boxed n e) (p + procs_in e) rest h.1.1 o
      (back_each (IsAt s) (places s.boxed n e) _ k)
      (value_apart s y seen e n p _ h.1.0 o (front_each (IsAt s) (places s.boxed n e) _ k) t)
      (past (NotIn y) AnyValue s e n p _ t)
  value_apart s y seen (Fix q xs ls body) n p rest h o k t =
      value_apart s y (xs ++ seen) body (n + length xs) (p + all_procs_in ls) rest h.2
      (apart_both s y xs seen
      (vars_apart s y xs n (front_each (IsAt s) (var_places n xs) _ k) t.0) o)
      (back_each (IsAt s) (var_places n xs) _ k) t.2
  value_apart s y seen (Define q x e) n p rest h o k t = (past (NotIn y) AnyValue s e n p _ t).0.0

  last_apart : (s : Setting) (y : ℕ) (seen : List ℕ) (other : ℕ) (es : Exprs) (n p : ℕ) (rest : Code Pos) → AllScoped seen es
      → Apart s seen y → At s (all_places s.boxed n es) → nat_eq y other ≡ false → NotBound y (all_code s es n p rest)
      → nat_eq y (last_value s other es n) ≡ false
  last_apart s y seen other none n p rest h o k w t = w
  last_apart s y seen other (item e es) n p rest h o k w t =
      last_apart s y seen (value s e n) es (after s.boxed n e) (p + procs_in e) rest h.1 o
      (back_each (IsAt s) (places s.boxed n e) _ k)
      (value_apart s y seen e n p _ h.0 o (front_each (IsAt s) (places s.boxed n e) _ k) t)
      (past (NotIn y) AnyValue s e n p _ t)

values_apart : (s : Setting) (y : ℕ) (seen : List ℕ) (es : Exprs) (n p : ℕ) (rest : Code Pos) → AllScoped seen es
    → Apart s seen y → At s (all_places s.boxed n es) → NotBound y (all_code s es n p rest) → has (values s es n) y ≡ false
values_apart s y seen none n p rest h o k t = refl
values_apart s y seen (item e es) n p rest h o k t =
    ap (λ b. b || has (values s es (after s.boxed n e)) y)
    (value_apart s y seen e n p _ h.0 o (front_each (IsAt s) (places s.boxed n e) _ k) t)
    ∙ values_apart s y seen es (after s.boxed n e) (p + procs_in e) rest h.1 o
    (back_each (IsAt s) (places s.boxed n e) _ k) (past (NotIn y) AnyValue s e n p _ t)

valued_apart : (s : Setting) (y : ℕ) (seen xs : List ℕ) (es : Exprs) (n p : ℕ) (rest : Code Pos) → OperandsScoped seen xs es
    → Apart s seen y → At s (all_places s.boxed n es) → NotBound y (all_code s es n p rest)
    → AllByRecursion (λ v. has (option_list v) y ≡ false) (all_valued s es n)
valued_apart s y seen xs none n p rest h o k t = tt
valued_apart s y seen [] (item e es) n p rest h o k t = absurd h
valued_apart s y seen (x ∷ xs) (item Hole es) n p rest h o k t =
    (refl, valued_apart s y seen xs es n (p + 0) rest h o k t)
valued_apart s y seen (x ∷ xs) (item e es) n p rest h o k t = (
  ap (λ b. b || false)
      (value_apart s y seen e n p _ h.0 o (front_each (IsAt s) (places s.boxed n e) _ k) t),
  valued_apart s y seen xs es (after s.boxed n e) (p + procs_in e) rest h.1 o
      (back_each (IsAt s) (places s.boxed n e) _ k) (past (NotIn y) AnyValue s e n p _ t),
)

-- What steps need is bound by them, or is the place of a variable that is seen

-- what some steps do not need
abbrev pub NoNeed : List Written → (deep y : ℕ) → Code Pos → Type 0
NoNeed ps deep y c = has (needs_in (free_in deep ps) c) y ≡ false

list_need : (ys rest : List ℕ) (y : ℕ) → has ys y ≡ false → has rest y ≡ false → has ((ys ++ []) ++ rest) y ≡ false
list_need ys rest y h r = has_neither (ys ++ []) rest y (has_neither ys [] y h refl) r

operation_needs : (ps : List Written) (deep y : ℕ) (q : Pos) (vars : List ℕ) (o : Op) (ys : List ℕ) (rest : Code Pos)
    → has ys y ≡ false → NoNeed ps deep y rest → NoNeed ps deep y (Then q vars (operation o ys) rest)
operation_needs ps deep y q vars op.Apply [] rest h r = r
operation_needs ps deep y q vars op.Apply (x ∷ []) rest h r = list_need (x ∷ []) (needs_in (free_in deep ps) rest) y h r
operation_needs ps deep y q vars op.Apply (x ∷ z ∷ []) rest h r =
    list_need (x ∷ z ∷ []) (needs_in (free_in deep ps) rest) y h r
operation_needs ps deep y q vars op.Apply (x ∷ z ∷ w ∷ zs) rest h r =
    list_need (x ∷ z ∷ w ∷ zs) (needs_in (free_in deep ps) rest) y h r
operation_needs ps deep y q vars op.CallCC [] rest h r = r
operation_needs ps deep y q vars op.CallCC (x ∷ []) rest h r = list_need (x ∷ []) (needs_in (free_in deep ps) rest) y h r
operation_needs ps deep y q vars op.CallCC (x ∷ z ∷ zs) rest h r =
    list_need (x ∷ z ∷ zs) (needs_in (free_in deep ps) rest) y h r
operation_needs ps deep y q vars o ys rest h r = list_need ys (needs_in (free_in deep ps) rest) y h r

local_needs : (ps : List Written) (deep y : ℕ) (b : Bool) (q : Pos) (n v : ℕ) (checked : Bool) (rest : Code Pos)
    → nat_eq y v ≡ false → NoNeed ps deep y rest
    → NoNeed ps deep y (if b then Then q (n ∷ []) (act.Unbox v checked) rest else rest)
local_needs ps deep y true q n v checked rest h r = ap (λ b. b || has (needs_in (free_in deep ps) rest) y) h ∙ r
local_needs ps deep y false q n v checked rest h r = r

box_needs : (ps : List Written) (deep y : ℕ) (b : Bool) (q : Pos) (m v : ℕ) (rest : Code Pos) → nat_eq y v ≡ false
    → NoNeed ps deep y rest → NoNeed ps deep y (if b then Then q (m ∷ []) (act.MakeBox v) rest else rest)
box_needs ps deep y true q m v rest h r = ap (λ b. b || has (needs_in (free_in deep ps) rest) y) h ∙ r
box_needs ps deep y false q m v rest h r = r

pub neither : (b c : Bool) → b ≡ false → c ≡ false → b || c ≡ false
neither true c h k = h
neither false c h k = k

params_need : (ps : List Written) (deep y : ℕ) (s : Setting) (q : Pos) (xs : List ℕ) (vs : List (Option ℕ)) (m : ℕ)
    (rest : Code Pos) → AllByRecursion (λ v. has (option_list v) y ≡ false) vs → NotBound y (bind_params s q xs vs m rest)
    → NoNeed ps deep y rest → NoNeed ps deep y (bind_params s q xs vs m rest)
params_need ps deep y s q [] vs m rest h t r = r
params_need ps deep y s q (x ∷ xs) [] m rest h t r = r
params_need ps deep y s q (x ∷ xs) (None ∷ vs) m rest h t r = params_need ps deep y s q xs vs (suc m) rest h.1 t.2 r
params_need ps deep y s q (x ∷ xs) (Some v ∷ vs) m rest h t r =
    let next = after_param s.boxed m x true in
    let inner =
    box_needs ps deep y (s.boxed x) q (suc m) m (bind_params s q xs vs next rest) t.0.0
    (params_need ps deep y s q xs vs next rest h.1 (past_one (NotIn y) AnyValue (s.boxed x) _ _ _ _ t.2) r) in
    neither (nat_eq y v) _ (none_left (nat_eq y v) false h.0) inner

pub frees_need : (ps : List Written) (at : ℕ → ℕ) (seen : List ℕ) (deep y : ℕ) (qs : List ℕ)
    → AllByRecursion (Frees ps at seen) qs → has (map at seen) y ≡ false → has (flat_map (free_in deep ps) qs) y ≡ false
frees_need ps at seen deep y [] h o = refl
frees_need ps at seen deep y (q ∷ qs) h o =
    has_neither (free_in deep ps q) (flat_map (free_in deep ps) qs) y (h.0 deep y o)
    (frees_need ps at seen deep y qs h.1 o)

mutual
  pub code_needs : (ps : List Written) (deep y : ℕ) (s : Setting) (seen : List ℕ) (e : Expr) (n p : ℕ) (rest : Code Pos)
      → Scoped seen e → Apart s seen y → At s (places s.boxed n e) → Closed ps (place s.places) seen p e
      → NotBound y (code s e n p rest) → NoNeed ps deep y rest → NoNeed ps deep y (code s e n p rest)
  code_needs ps deep y s seen Hole n p rest h o k c t r = r
  code_needs ps deep y s seen (Const q l) n p rest h o k c t r = r
  code_needs ps deep y s seen (Local q x) n p rest h o k c t r =
      local_needs ps deep y (s.boxed x) q n (place s.places x) (s.hole x) rest (unseen s y x seen o h) r
  code_needs ps deep y s seen (Top q x) n p rest h o k c t r = r
  code_needs ps deep y s seen (Lambda q xs rest_param body) n p rest h o k c t r =
      list_need (free_in deep ps p) (needs_in (free_in deep ps) rest) y (c deep y o) r
  code_needs ps deep y s seen (If q test this that) n p rest h o k c t r =
      let m = after s.boxed n test in
      let j = after s.boxed (suc m) this in
      let p1 = p + procs_in test in
      let one = code s this (suc m) p1 (Ends (Some (value s this (suc m)))) in
      let two = code s that j (p1 + procs_in this) (Ends (Some (value s that j))) in
      let free = free_in deep ps in
      let choice = past (NotIn y) AnyValue s test n p _ t in
      let at_test = front_each (IsAt s) (places s.boxed n test) _ k in
      let others = back_each (IsAt s) (places s.boxed n test) _ k in
      let at_this = front_each (IsAt s) (places s.boxed (suc m) this) _ others in
      let at_that = back_each (IsAt s) (places s.boxed (suc m) this) _ others in
      code_needs ps deep y s seen test n p _ h.0 o at_test c.0 t
      (ap (λ b. b || has ((needs_in free one ++ needs_in free two) ++ needs_in free rest) y)
      (value_apart s y seen test n p _ h.0 o at_test t)
      ∙ has_neither (needs_in free one ++ needs_in free two) (needs_in free rest) y
      (has_neither (needs_in free one) (needs_in free two) y
      (code_needs ps deep y s seen this (suc m) p1 _ h.1 o at_this c.1 choice.1.0
      (ap (λ b. b || false) (value_apart s y seen this (suc m) p1 _ h.1 o at_this choice.1.0)))
      (code_needs ps deep y s seen that j (p1 + procs_in this) _ h.2 o at_that c.2 choice.1.1
      (ap (λ b. b || false) (value_apart s y seen that j (p1 + procs_in this) _ h.2 o at_that choice.1.1))))
      r)
  code_needs ps deep y s seen (SetLocal q x e) n p rest h o k c t r =
      let others = nat_eq y (value s e n) || has (needs_in (free_in deep ps) rest) y in
      code_needs ps deep y s seen e n p _ h.1 o k c t
      (ap (λ b. b || others) (unseen s y x seen o h.0)
      ∙ (ap (λ b. b || has (needs_in (free_in deep ps) rest) y) (value_apart s y seen e n p _ h.1 o k t) ∙ r))
  code_needs ps deep y s seen (SetTop q x e) n p rest h o k c t r =
      code_needs ps deep y s seen e n p _ h o k c t
      (ap (λ b. b || has (needs_in (free_in deep ps) rest) y) (value_apart s y seen e n p _ h o k t) ∙ r)
  code_needs ps deep y s seen (Call q f es) n p rest h o k c t r =
      let m = after s.boxed n f in
      let free = free_in deep ps in
      let at_f = front_each (IsAt s) (places s.boxed n f) _ k in
      let at_es = back_each (IsAt s) (places s.boxed n f) _ k in
      let operands = past (NotIn y) AnyValue s f n p _ t in
      code_needs ps deep y s seen f n p _ h.0 o at_f c.0 t
      (all_need ps deep y s seen es m (p + procs_in f) _ h.1 o at_es c.1 operands
      (list_need (value s f n ∷ values s es m) (needs_in free rest) y
      (ap (λ b. b || has (values s es m) y) (value_apart s y seen f n p _ h.0 o at_f t)
      ∙ values_apart s y seen es m (p + procs_in f) _ h.1 o at_es operands)
      r))
  code_needs ps deep y s seen (Direct q xs body es) n p rest h o k c t r =
      let m = all_after s.boxed n es in
      let j = after_params s.boxed m xs (have_values es) in
      let params = past_all (NotIn y) AnyValue s es n (p + procs_in body) _ t in
      let at_es = front_each (IsAt s) (all_places s.boxed n es) _ k in
      let others = back_each (IsAt s) (all_places s.boxed n es) _ k in
      let some = param_places s.boxed m xs (have_values es) in
      let apart =
      apart_both s y xs seen
      (params_apart s y seen q xs es n m _ h.0 (front_each (IsAt s) some _ others) params) o in
      operands_need ps deep y s seen xs es n (p + procs_in body) _ h.0 o at_es c.0 t
      (params_need ps deep y s q xs (all_valued s es n) m _
      (valued_apart s y seen xs es n (p + procs_in body) _ h.0 o at_es t) params
      (code_needs ps deep y s (xs ++ seen) body j p rest h.1 apart
      (back_each (IsAt s) some _ others) c.1
      (past_params (NotIn y) AnyValue s q xs (all_valued s es n) m _ params) r))
  code_needs ps deep y s seen (Prim q op es) n p rest h o k c t r =
      all_need ps deep y s seen es n p _ h o k c t
      (operation_needs ps deep y q (all_after s.boxed n es ∷ []) op (values s es n) rest
      (values_apart s y seen es n p _ h o k t) r)
  code_needs ps deep y s seen (Seq q es) n p rest h o k c t r = all_need ps deep y s seen es n p rest h.1 o k c t r
  code_needs ps deep y s seen (Fix q xs ls body) n p rest h o k c t r =
      let free = free_in deep ps in
      let apart =
      apart_both s y xs seen
      (vars_apart s y xs n (front_each (IsAt s) (var_places n xs) _ k) t.0) o in
      let inner = code s body (n + length xs) (p + all_procs_in ls) rest in
      has_neither (flat_map free (procs_of p ls)) (needs_in free inner) y
      (frees_need ps (place s.places) (xs ++ seen) deep y (procs_of p ls) c.0 apart)
      (code_needs ps deep y s (xs ++ seen) body (n + length xs) (p + all_procs_in ls) rest h.2 apart
      (back_each (IsAt s) (var_places n xs) _ k) c.1 t.2 r)
  code_needs ps deep y s seen (Define q x e) n p rest h o k c t r =
      code_needs ps deep y s seen e n p _ h o k c t
      (ap (λ b. b || has (needs_in (free_in deep ps) rest) y) (value_apart s y seen e n p _ h o k t) ∙ r)

  all_need : (ps : List Written) (deep y : ℕ) (s : Setting) (seen : List ℕ) (es : Exprs) (n p : ℕ) (rest : Code Pos)
      → AllScoped seen es → Apart s seen y → At s (all_places s.boxed n es) → AllClosed ps (place s.places) seen p es
      → NotBound y (all_code s es n p rest) → NoNeed ps deep y rest → NoNeed ps deep y (all_code s es n p rest)
  all_need ps deep y s seen none n p rest h o k c t r = r
  all_need ps deep y s seen (item e es) n p rest h o k c t r =
      code_needs ps deep y s seen e n p _ h.0 o (front_each (IsAt s) (places s.boxed n e) _ k) c.0 t
      (all_need ps deep y s seen es (after s.boxed n e) (p + procs_in e) rest h.1 o
      (back_each (IsAt s) (places s.boxed n e) _ k) c.1 (past (NotIn y) AnyValue s e n p _ t) r)

  operands_need : (ps : List Written) (deep y : ℕ) (s : Setting) (seen xs : List ℕ) (es : Exprs) (n p : ℕ) (rest : Code Pos)
      → OperandsScoped seen xs es → Apart s seen y → At s (all_places s.boxed n es)
      → AllClosed ps (place s.places) seen p es → NotBound y (all_code s es n p rest) → NoNeed ps deep y rest
      → NoNeed ps deep y (all_code s es n p rest)
  operands_need ps deep y s seen xs none n p rest h o k c t r = r
  operands_need ps deep y s seen [] (item e es) n p rest h o k c t r = absurd h
  operands_need ps deep y s seen (x ∷ xs) (item Hole es) n p rest h o k c t r =
      operands_need ps deep y s seen xs es n (p + 0) rest h o k c.1 t r
  operands_need ps deep y s seen (x ∷ xs) (item e es) n p rest h o k c t r =
      code_needs ps deep y s seen e n p _ h.0 o (front_each (IsAt s) (places s.boxed n e) _ k) c.0 t
      (operands_need ps deep y s seen xs es (after s.boxed n e) (p + procs_in e) rest h.1 o
      (back_each (IsAt s) (places s.boxed n e) _ k) c.1 (past (NotIn y) AnyValue s e n p _ t) r)
