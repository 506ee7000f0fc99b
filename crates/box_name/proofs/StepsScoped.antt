-- The steps of an expression read variables that the procedure binds before, or does not bind, where the expression
-- stands in the scope of its variables.
use Rattle.std.proofs.Common.{◌≡◌, ℕ, suc, ◌+◌, Bool, true, false, List, [], ◌∷◌, ◌++◌, length, map, Option, inl, inr, ◌⊎◌, refl, sym, ap, ◌∙◌, eq-eqb, eqb-true}
use Rattle.std.proofs.lemmas.Bool.{or_cases, or_left, or_right}
use Rattle.std.proofs.lemmas.List.{map-append}
use Rattle.std.specs.Prelude.{if◌then◌else◌, nat_eq, ◌||◌}
use Rattle.std.specs.List.{AllByRecursion, flat_map}
use Rattle.scheme_base.specs.declared.op.Op.{Op}
use Rattle.scheme_base.specs.declared.op.Op.TheVariants as op
use Rattle.scheme_base.specs.declared.pos.Pos.{Pos}
use Rattle.named_form.specs.Code.{Code, Then, Written, free_in, has, option_list}
use Rattle.named_form.specs.Code as act
use Rattle.named_form.specs.Valid.{BoundBefore, InScope, numbers_from}
use Rattle.box_name.specs.Told.{Expr, Hole, Const, Local, Top, Lambda, If, SetLocal, SetTop, Call, Direct, Prim, Seq, Fix, Define, Exprs, none, item}
use Rattle.box_name.specs.Counts.{after, after_param, after_params, all_after, all_places, all_procs_in, have_values, param_places, places, procs_in, var_places}
use Rattle.box_name.specs.Naming.{Setting, all_code, all_valued, bind_params, code, last_value, operation, place, procs_of, value, values}
use Rattle.box_name.proofs.BoxesRead.{HasItem}
use Rattle.box_name.proofs.FreeSeen.{AllClosed, At, Closed, Frees, IsAt, frees_need, unseen}
use Rattle.box_name.proofs.Members.{Within, back_each, each, front_each, has_back, has_front, has_one, never}
use Rattle.box_name.proofs.ScopesTold.{AllScoped, OperandsScoped, Scoped}

-- a variable that this procedure binds is bound before
abbrev pub Known : (own scope : List ℕ) → ℕ → Type 0
Known own scope v = has own v ≡ true → has scope v ≡ true

-- the same of the places of the variables that are seen
abbrev pub Sees : Setting → (own seen scope : List ℕ) → Type 0
Sees s own seen scope = (y : ℕ) → has (map (place s.places) seen) y ≡ true → Known own scope y

abbrev pub AllKnown : (own scope : List ℕ) → List (Option ℕ) → Type 0
AllKnown own scope vs = AllByRecursion (λ v. BoundBefore own scope (option_list v)) vs

bound_wider : (own scope wide ys : List ℕ) → Within scope wide → BoundBefore own scope ys → BoundBefore own wide ys
bound_wider own scope wide [] w h = tt
bound_wider own scope wide (y ∷ ys) w h = (λ e. w y (h.0 e), bound_wider own scope wide ys w h.1)

known_wider : (own scope wide : List ℕ) (vs : List (Option ℕ)) → Within scope wide → AllKnown own scope vs
    → AllKnown own wide vs
known_wider own scope wide [] w h = tt
known_wider own scope wide (v ∷ vs) w h = (bound_wider own scope wide (option_list v) w h.0, known_wider own scope wide vs w h.1)

self : (n : ℕ) (scope : List ℕ) → has (n ∷ scope) n ≡ true
self n scope = or_left (nat_eq n n) (has scope n) (eq-eqb n n refl)

more : (n : ℕ) (scope : List ℕ) → Within scope (n ∷ scope)
more n scope v e = or_right (nat_eq v n) (has scope v) e

mapped : (s : Setting) (x : ℕ) (seen : List ℕ) → has seen x ≡ true → has (map (place s.places) seen) (place s.places x) ≡ true
mapped s x seen h = here (has (map (place s.places) seen) (place s.places x)) refl
  where
    here : (b : Bool) → has (map (place s.places) seen) (place s.places x) ≡ b
        → has (map (place s.places) seen) (place s.places x) ≡ true
    here true e = e
    here false e =
        never (sym (unseen s (place s.places x) x seen e h) ∙ eq-eqb (place s.places x) (place s.places x) refl)

pub sees_both : (s : Setting) (own xs seen scope : List ℕ) → Sees s own xs scope → Sees s own seen scope
    → Sees s own (xs ++ seen) scope
sees_both s own xs seen scope h k y e =
    here (has_one (map (place s.places) xs) (map (place s.places) seen) y
    (sym (ap (λ zs. has zs y) (map-append (place s.places) xs seen)) ∙ e))
  where
    here : (has (map (place s.places) xs) y ≡ true) ⊎ (has (map (place s.places) seen) y ≡ true) → Known own scope y
    here (inl j) = h y j
    here (inr j) = k y j

closes_known : (ps : List Written) (s : Setting) (own seen scope qs : List ℕ) (deep : ℕ)
    → AllByRecursion (Frees ps (place s.places) seen) qs → Sees s own seen scope
    → BoundBefore own scope (flat_map (free_in deep ps) qs)
closes_known ps s own seen scope qs deep h g =
    each (Known own scope) (flat_map (free_in deep ps) qs) (λ y e. here y e (has (map (place s.places) seen) y) refl)
  where
    here : (y : ℕ) → has (flat_map (free_in deep ps) qs) y ≡ true → (b : Bool) → has (map (place s.places) seen) y ≡ b
        → Known own scope y
    here y e true k = g y k
    here y e false k = never (sym (frees_need ps (place s.places) seen deep y qs h k) ∙ e)

vars_found : (s : Setting) (xs : List ℕ) (n : ℕ) → At s (var_places n xs)
    → Within (map (place s.places) xs) (numbers_from n (length xs))
vars_found s [] n h y e = e
vars_found s (x ∷ xs) n h y e =
    here (λ k. vars_found s xs (suc n) h.1 y k) (or_cases (nat_eq y (place s.places x)) (has (map (place s.places) xs) y) e)
  where
    here : (has (map (place s.places) xs) y ≡ true → has (numbers_from (suc n) (length xs)) y ≡ true)
        → (nat_eq y (place s.places x) ≡ true) ⊎ (has (map (place s.places) xs) y ≡ true)
        → nat_eq y n || has (numbers_from (suc n) (length xs)) y ≡ true
    here others (inl k) =
        or_left (nat_eq y n) (has (numbers_from (suc n) (length xs)) y) (ap (nat_eq y) (sym h.0) ∙ k)
    here others (inr k) = or_right (nat_eq y n) (has (numbers_from (suc n) (length xs)) y) (others k)

local_in : (ps : List Written) (own scope : List ℕ) (b : Bool) (q : Pos) (n v : ℕ) (checked : Bool) (rest : Code Pos)
    → Known own scope v
    → ((wide : List ℕ) → Within scope wide → Known own wide (if b then n else v) → InScope ps own wide rest)
    → InScope ps own scope (if b then Then q (n ∷ []) (act.Unbox v checked) rest else rest)
local_in ps own scope true q n v checked rest h k = ((h, tt), tt, tt, k (n ∷ scope) (more n scope) (λ e. self n scope))
local_in ps own scope false q n v checked rest h k = k scope (λ y e. e) h

box_in : (ps : List Written) (own scope : List ℕ) (b : Bool) (q : Pos) (m : ℕ) (rest : Code Pos)
    → ((wide : List ℕ) → Within (m ∷ scope) wide → has wide (if b then suc m else m) ≡ true → InScope ps own wide rest)
    → InScope ps own (m ∷ scope) (if b then Then q (suc m ∷ []) (act.MakeBox m) rest else rest)
box_in ps own scope true q m rest k =
    ((λ e. self m scope, tt), tt, tt, k (suc m ∷ m ∷ scope) (more (suc m) (m ∷ scope)) (self (suc m) (m ∷ scope)))
box_in ps own scope false q m rest k = k (m ∷ scope) (λ y e. e) (self m scope)

-- a first variable is found, and so are the others
pub first_found : (s : Setting) (x v : ℕ) (xs wide : List ℕ) → place s.places x ≡ v → has wide v ≡ true
    → Within (map (place s.places) xs) wide → Within (map (place s.places) (x ∷ xs)) wide
first_found s x v xs wide at there others y e =
    here (or_cases (nat_eq y (place s.places x)) (has (map (place s.places) xs) y) e)
  where
    here : (nat_eq y (place s.places x) ≡ true) ⊎ (has (map (place s.places) xs) y ≡ true) → has wide y ≡ true
    here (inl k) = ap (has wide) (eqb-true y (place s.places x) k ∙ at) ∙ there
    here (inr k) = others y k

params_in : (ps : List Written) (own : List ℕ) (s : Setting) (seen : List ℕ) (q : Pos) (xs : List ℕ) (es : Exprs) (n m : ℕ)
    (rest : Code Pos) (scope : List ℕ) → OperandsScoped seen xs es → At s (param_places s.boxed m xs (have_values es))
    → AllKnown own scope (all_valued s es n)
    → ((wide : List ℕ) → Within scope wide → Within (map (place s.places) xs) wide → InScope ps own wide rest)
    → InScope ps own scope (bind_params s q xs (all_valued s es n) m rest)
params_in ps own s seen q [] es n m rest scope h at vs k = k scope (λ y e. e) (λ y e. never e)
params_in ps own s seen q (x ∷ xs) none n m rest scope h at vs k = absurd h
params_in ps own s seen q (x ∷ xs) (item Hole es) n m rest scope h at vs k = (
  tt,
  tt,
  tt,
  params_in ps own s seen q xs es n (suc m) rest (m ∷ scope) h at.1
      (known_wider own scope (m ∷ scope) (all_valued s es n) (more m scope) vs.1)
      (λ wide w others.
      k wide (λ y e. w y (more m scope y e)) (first_found s x m xs wide at.0 (w m (self m scope)) others)),
)
params_in ps own s seen q (x ∷ xs) (item e es) n m rest scope h at vs k =
    let next = after_param s.boxed m x true in
    let k1 = after s.boxed n e in (
      vs.0,
      tt,
      tt,
      box_in ps own scope (s.boxed x) q m (bind_params s q xs (all_valued s es k1) next rest)
          (λ wide w there.
          params_in ps own s seen q xs es k1 next rest wide h.1 at.1
          (known_wider own scope wide (all_valued s es k1) (λ y e. w y (more m scope y e)) vs.1)
          (λ wider v others.
          k wider (λ y e. v y (w y (more m scope y e)))
          (first_found s x _ xs wider at.0 (v _ there) others))),
    )

operation_in : (ps : List Written) (own scope : List ℕ) (q : Pos) (n : ℕ) (o : Op) (ys : List ℕ) (rest : Code Pos)
    → BoundBefore own scope ys → InScope ps own (n ∷ scope) rest
    → InScope ps own scope (Then q (n ∷ []) (operation o ys) rest)
operation_in ps own scope q n op.Apply [] rest h r = (h, tt, tt, r)
operation_in ps own scope q n op.Apply (x ∷ []) rest h r = (h, tt, tt, r)
operation_in ps own scope q n op.Apply (x ∷ y ∷ []) rest h r = (h, tt, tt, r)
operation_in ps own scope q n op.Apply (x ∷ y ∷ z ∷ zs) rest h r = (h, tt, tt, r)
operation_in ps own scope q n op.CallCC [] rest h r = (h, tt, tt, r)
operation_in ps own scope q n op.CallCC (x ∷ []) rest h r = (h, tt, tt, r)
operation_in ps own scope q n op.CallCC (x ∷ y ∷ ys) rest h r = (h, tt, tt, r)
operation_in ps own scope q n o ys rest h r = (h, tt, tt, r)

last_known : (own scope : List ℕ) (s : Setting) (other : ℕ) (es : Exprs) (n : ℕ) → Known own scope other
    → BoundBefore own scope (values s es n) → Known own scope (last_value s other es n)
last_known own scope s other none n o h = o
last_known own scope s other (item e es) n o h = last_known own scope s (value s e n) es (after s.boxed n e) h.0 h.1

seq_known : (own scope : List ℕ) (s : Setting) (es : Exprs) (n : ℕ) → HasItem es → BoundBefore own scope (values s es n)
    → Known own scope (last_value s 0 es n)
seq_known own scope s none n i h = absurd i
seq_known own scope s (item e es) n i h = last_known own scope s (value s e n) es (after s.boxed n e) h.0 h.1

mutual
  pub code_in : (ps : List Written) (own : List ℕ) (s : Setting) (seen : List ℕ) (e : Expr) (n p : ℕ) (rest : Code Pos)
      (scope : List ℕ) → Scoped seen e → Sees s own seen scope → At s (places s.boxed n e)
      → Closed ps (place s.places) seen p e
      → ((wide : List ℕ) → Within scope wide → Known own wide (value s e n) → InScope ps own wide rest)
      → InScope ps own scope (code s e n p rest)
  code_in ps own s seen Hole n p rest scope h g at c k = absurd h
  code_in ps own s seen (Const q l) n p rest scope h g at c k =
      (tt, tt, tt, k (n ∷ scope) (more n scope) (λ e. self n scope))
  code_in ps own s seen (Local q x) n p rest scope h g at c k =
      local_in ps own scope (s.boxed x) q n (place s.places x) (s.hole x) rest (g (place s.places x) (mapped s x seen h)) k
  code_in ps own s seen (Top q x) n p rest scope h g at c k =
      (tt, tt, tt, k (n ∷ scope) (more n scope) (λ e. self n scope))
  code_in ps own s seen (Lambda q xs r body) n p rest scope h g at c k = (
    tt,
    closes_known ps s own seen scope (p ∷ []) (length ps) (c, tt) g,
    tt,
    k (n ∷ scope) (more n scope) (λ e. self n scope),
  )
  code_in ps own s seen (If q test this that) n p rest scope h g at c k =
      let m = after s.boxed n test in
      let j = after s.boxed (suc m) this in
      let p1 = p + procs_in test in
      let others = back_each (IsAt s) (places s.boxed n test) _ at in
      code_in ps own s seen test n p _ scope h.0 g (front_each (IsAt s) (places s.boxed n test) _ at)
      c.0
      (λ wide w v. (
        (v, tt),
        tt,
        (
          code_in ps own s seen this (suc m) p1 _ wide h.1 (λ y e o. w y (g y e o))
              (front_each (IsAt s) (places s.boxed (suc m) this) _ others) c.1
              (λ wider w v. (v, tt)),
          code_in ps own s seen that j (p1 + procs_in this) _ wide h.2 (λ y e o. w y (g y e o))
              (back_each (IsAt s) (places s.boxed (suc m) this) _ others) c.2
              (λ wider w v. (v, tt)),
        ),
        k (m ∷ wide) (λ y e. more m wide y (w y e)) (λ e. self m wide),
      ))
  code_in ps own s seen (SetLocal q x e) n p rest scope h g at c k =
      let m = after s.boxed n e in
      code_in ps own s seen e n p _ scope h.1 g at c
      (λ wide w v. (
        (λ o. w (place s.places x) (g (place s.places x) (mapped s x seen h.0) o), (v, tt)),
        tt,
        tt,
        k (m ∷ wide) (λ y e. more m wide y (w y e)) (λ e. self m wide),
      ))
  code_in ps own s seen (SetTop q x e) n p rest scope h g at c k =
      let m = after s.boxed n e in
      code_in ps own s seen e n p _ scope h g at c
      (λ wide w v. ((v, tt), tt, tt, k (m ∷ wide) (λ y e. more m wide y (w y e)) (λ e. self m wide)))
  code_in ps own s seen (Call q f es) n p rest scope h g at c k =
      let m = after s.boxed n f in
      let j = all_after s.boxed m es in
      code_in ps own s seen f n p _ scope h.0 g (front_each (IsAt s) (places s.boxed n f) _ at) c.0
      (λ wide w v.
      all_in ps own s seen es m (p + procs_in f) _ wide h.1 (λ y e o. w y (g y e o))
      (back_each (IsAt s) (places s.boxed n f) _ at) c.1
      (λ wider u vs. (
        (λ o. u (value s f n) (v o), vs),
        tt,
        tt,
        k (j ∷ wider) (λ y e. more j wider y (u y (w y e))) (λ e. self j wider),
      )))
  code_in ps own s seen (Direct q xs body es) n p rest scope h g at c k =
      let m = all_after s.boxed n es in
      let j = after_params s.boxed m xs (have_values es) in
      let others = back_each (IsAt s) (all_places s.boxed n es) _ at in
      let some = param_places s.boxed m xs (have_values es) in
      operands_in ps own s seen xs es n (p + procs_in body) _ scope h.0 g
      (front_each (IsAt s) (all_places s.boxed n es) _ at) c.0
      (λ wide w vs.
      params_in ps own s seen q xs es n m _ wide h.0 (front_each (IsAt s) some _ others) vs
      (λ wider u found.
      code_in ps own s (xs ++ seen) body j p rest wider h.1
      (sees_both s own xs seen wider (λ y e o. found y e) (λ y e o. u y (w y (g y e o))))
      (back_each (IsAt s) some _ others) c.1
      (λ widest t v. k widest (λ y e. t y (u y (w y e))) v)))
  code_in ps own s seen (Prim q o es) n p rest scope h g at c k =
      let m = all_after s.boxed n es in
      all_in ps own s seen es n p _ scope h g at c
      (λ wide w vs.
      operation_in ps own wide q m o (values s es n) rest vs
      (k (m ∷ wide) (λ y e. more m wide y (w y e)) (λ e. self m wide)))
  code_in ps own s seen (Seq q es) n p rest scope h g at c k =
      all_in ps own s seen es n p rest scope h.1 g at c (λ wide w vs. k wide w (seq_known own wide s es n h.0 vs))
  code_in ps own s seen (Fix q xs ls body) n p rest scope h g at c k =
      let vars = numbers_from n (length xs) in
      let found = vars_found s xs n (front_each (IsAt s) (var_places n xs) _ at) in
      let sees =
      sees_both s own xs seen (vars ++ scope) (λ y e o. has_front vars scope y (found y e))
      (λ y e o. has_back vars scope y (g y e o)) in (
        tt,
        closes_known ps s own (xs ++ seen) (vars ++ scope) (procs_of p ls) (length ps) c.0 sees,
        tt,
        code_in ps own s (xs ++ seen) body (n + length xs) (p + all_procs_in ls) rest (vars ++ scope) h.2 sees
            (back_each (IsAt s) (var_places n xs) _ at) c.1
            (λ wide w v. k wide (λ y e. w y (has_back vars scope y e)) v),
      )
  code_in ps own s seen (Define q x e) n p rest scope h g at c k =
      let m = after s.boxed n e in
      code_in ps own s seen e n p _ scope h g at c
      (λ wide w v. ((v, tt), tt, tt, k (m ∷ wide) (λ y e. more m wide y (w y e)) (λ e. self m wide)))

  all_in : (ps : List Written) (own : List ℕ) (s : Setting) (seen : List ℕ) (es : Exprs) (n p : ℕ) (rest : Code Pos)
      (scope : List ℕ) → AllScoped seen es → Sees s own seen scope → At s (all_places s.boxed n es)
      → AllClosed ps (place s.places) seen p es
      → ((wide : List ℕ) → Within scope wide → BoundBefore own wide (values s es n) → InScope ps own wide rest)
      → InScope ps own scope (all_code s es n p rest)
  all_in ps own s seen none n p rest scope h g at c k = k scope (λ y e. e) tt
  all_in ps own s seen (item e es) n p rest scope h g at c k =
      code_in ps own s seen e n p _ scope h.0 g (front_each (IsAt s) (places s.boxed n e) _ at) c.0
      (λ wide w v.
      all_in ps own s seen es (after s.boxed n e) (p + procs_in e) rest wide h.1 (λ y e o. w y (g y e o))
      (back_each (IsAt s) (places s.boxed n e) _ at) c.1
      (λ wider u vs. k wider (λ y e. u y (w y e)) (λ o. u (value s e n) (v o), vs)))

  operands_in : (ps : List Written) (own : List ℕ) (s : Setting) (seen xs : List ℕ) (es : Exprs) (n p : ℕ) (rest : Code Pos)
      (scope : List ℕ) → OperandsScoped seen xs es → Sees s own seen scope → At s (all_places s.boxed n es)
      → AllClosed ps (place s.places) seen p es
      → ((wide : List ℕ) → Within scope wide → AllKnown own wide (all_valued s es n) → InScope ps own wide rest)
      → InScope ps own scope (all_code s es n p rest)
  operands_in ps own s seen xs none n p rest scope h g at c k = k scope (λ y e. e) tt
  operands_in ps own s seen [] (item e es) n p rest scope h g at c k = absurd h
  operands_in ps own s seen (x ∷ xs) (item Hole es) n p rest scope h g at c k =
      operands_in ps own s seen xs es n (p + 0) rest scope h g at c.1 (λ wide w vs. k wide w (tt, vs))
  operands_in ps own s seen (x ∷ xs) (item e es) n p rest scope h g at c k =
      code_in ps own s seen e n p _ scope h.0 g (front_each (IsAt s) (places s.boxed n e) _ at) c.0
      (λ wide w v.
      operands_in ps own s seen xs es (after s.boxed n e) (p + procs_in e) rest wide h.1 (λ y e o. w y (g y e o))
      (back_each (IsAt s) (places s.boxed n e) _ at) c.1
      (λ wider u vs. k wider (λ y e. u y (w y e)) ((λ o. u (value s e n) (v o), tt), vs)))
