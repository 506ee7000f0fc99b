-- The local variables of a program are numbered in the order of its procedures and their steps, and how many there
-- are.
use Rattle.std.proofs.Common.{◌≡◌, ℕ, suc, ◌+◌, ◌-◌, ◌≤◌, ◌<◌, ◌^◌, Bool, true, false, List, [], ◌∷◌, ◌++◌, length, map, Option, Some, None, refl, sym, ap, ◌∙◌, subst, arith, length-append}
use Rattle.std.specs.Prelude.{if◌then◌else◌, is_some}
use Rattle.std.specs.List.{flat_map}
use Rattle.scheme_base.specs.declared.lit.Lit.{Lit}
use Rattle.scheme_base.specs.declared.op.Op.{Op}
use Rattle.scheme_base.specs.declared.op.Op.TheVariants as op
use Rattle.scheme_base.specs.declared.pos.Pos.{Pos}
use Rattle.core_form.specs.declared.program.Program.{Program}
use Rattle.core_form.specs.declared.program.VarRef.{VarRef}
use Rattle.core_form.specs.Trees.{Trees}
use Rattle.named_form.specs.Code.{Code, Ends, Then, Act, Written, arms_bind, binds, bound_in, option_list}
use Rattle.named_form.specs.Code as act
use Rattle.named_form.specs.Valid.{Counted, Numbered, numbers_from}
use Rattle.named_form.proofs.Kept.{length_numbers}
use Rattle.named_form.proofs.Rising.{numbers_append}
use Rattle.box_name.specs.Told.{Expr, Hole, Const, Local, Top, Lambda, If, SetLocal, SetTop, Call, Direct, Prim, Seq, Fix, Define, Exprs, none, item, all_told}
use Rattle.box_name.specs.Counts.{after, after_boxes, after_lambda, after_param, after_params, all_after, all_params, all_procs_in, has_value, have_values, procs_in}
use Rattle.box_name.specs.Cores.{form_of}
use Rattle.box_name.specs.Naming.{Setting, all_code, all_valued, bind_param, bind_params, code, make_boxes, operation, place, rest_var, value, valued, values, written}
use Rattle.box_name.specs.Procedures.{NumbersFit}
use Rattle.box_name.specs.Whole.{after_lambdas, all_written, form_code, is_boxed, named, placed_lambdas, setting}

-- the numbers from n up to m, m excluded
pub record NumbersTo (n m : ℕ) (xs : List ℕ) : Type 0 where
  pub less : n ≤ m
  pub are : xs ≡ numbers_from n (m - n)

none_of : (n : ℕ) → NumbersTo n n []
none_of n = record { less = omega arith; are = ap (numbers_from n) (nought n) }
  where
    nought : (n : ℕ) → 0 ≡ n - n
    nought n = omega arith

one_more : (n m : ℕ) (xs : List ℕ) → NumbersTo (suc n) m xs → NumbersTo n m (n ∷ xs)
one_more n m xs h =
    let less = h.less in
    let long : suc (m - suc n) ≡ m - n = omega (arith, less) in
    record { less = omega (arith, less); are = ap (λ ys. n ∷ ys) h.are ∙ ap (numbers_from n) long }

both : (n k m : ℕ) (xs ys : List ℕ) → NumbersTo n k xs → NumbersTo k m ys → NumbersTo n m (xs ++ ys)
both n k m xs ys h g =
    let less = h.less in
    let more = g.less in
    let from : k ≡ n + (k - n) = omega (arith, less) in
    let long : (k - n) + (m - k) ≡ m - n = omega (arith, less, more) in
    record {
      less = omega (arith, less, more);
      are =
          ap (λ zs. zs ++ ys) h.are
          ∙ (ap (λ zs. numbers_from n (k - n) ++ zs) (g.are ∙ ap (λ j. numbers_from j (m - k)) from)
          ∙ (sym (numbers_append n (k - n) (m - k)) ∙ ap (numbers_from n) long));
    }

run_of : (n many : ℕ) → NumbersTo n (n + many) (numbers_from n many)
run_of n many =
    let long : many ≡ (n + many) - n = omega arith in
    record { less = omega arith; are = ap (numbers_from n) long }

-- Steps

operation_binds : (o : Op) (ys : List ℕ) → [] ≡ arms_bind (operation o ys)
operation_binds op.Apply [] = refl
operation_binds op.Apply (x ∷ []) = refl
operation_binds op.Apply (x ∷ y ∷ []) = refl
operation_binds op.Apply (x ∷ y ∷ z ∷ zs) = refl
operation_binds op.CallCC [] = refl
operation_binds op.CallCC (x ∷ []) = refl
operation_binds op.CallCC (x ∷ y ∷ ys) = refl
operation_binds o ys = refl

local_numbers : (b : Bool) (q : Pos) (n m v : ℕ) (checked : Bool) (rest : Code Pos)
    → NumbersTo (if b then suc n else n) m (binds rest)
    → NumbersTo n m (binds (if b then Then q (n ∷ []) (act.Unbox v checked) rest else rest))
local_numbers true q n m v checked rest r = one_more n m (binds rest) r
local_numbers false q n m v checked rest r = r

box_numbers : (b : Bool) (q : Pos) (n k m : ℕ) (rest : Code Pos) → NumbersTo (if b then suc k else k) m (binds rest)
    → NumbersTo k m (binds (if b then Then q (k ∷ []) (act.MakeBox n) rest else rest))
box_numbers true q n k m rest r = one_more k m (binds rest) r
box_numbers false q n k m rest r = r

param_numbers : (s : Setting) (q : Pos) (x n m : ℕ) (v : Option ℕ) (rest : Code Pos)
    → NumbersTo (after_param s.boxed n x (is_some v)) m (binds rest) → NumbersTo n m (binds (bind_param s q x n v rest))
param_numbers s q x n m None rest r = one_more n m (binds rest) r
param_numbers s q x n m (Some v) rest r =
    one_more n m (binds (if s.boxed x then Then q (suc n ∷ []) (act.MakeBox n) rest else rest))
    (box_numbers (s.boxed x) q n (suc n) m rest r)

params_numbers : (s : Setting) (q : Pos) (xs : List ℕ) (vs : List (Option ℕ)) (n m : ℕ) (rest : Code Pos)
    → NumbersTo (after_params s.boxed n xs (map is_some vs)) m (binds rest)
    → NumbersTo n m (binds (bind_params s q xs vs n rest))
params_numbers s q [] vs n m rest r = r
params_numbers s q (x ∷ xs) [] n m rest r = r
params_numbers s q (x ∷ xs) (v ∷ vs) n m rest r =
    let next = after_param s.boxed n x (is_some v) in
    param_numbers s q x n m v (bind_params s q xs vs next rest) (params_numbers s q xs vs next m rest r)

value_there : (s : Setting) (e : Expr) (n : ℕ) → has_value e ≡ is_some (valued s e n)
value_there s Hole n = refl
value_there s e n = refl

values_there : (s : Setting) (es : Exprs) (n : ℕ) → have_values es ≡ map is_some (all_valued s es n)
values_there s none n = refl
values_there s (item e es) n =
    ap (λ b. b ∷ have_values es) (value_there s e n)
    ∙ ap (λ bs. is_some (valued s e n) ∷ bs) (values_there s es (after s.boxed n e))

mutual
  code_numbers : (s : Setting) (e : Expr) (n p m : ℕ) (rest : Code Pos) → NumbersTo (after s.boxed n e) m (binds rest)
      → NumbersTo n m (binds (code s e n p rest))
  code_numbers s Hole n p m rest r = r
  code_numbers s (Const q l) n p m rest r = one_more n m (binds rest) r
  code_numbers s (Local q x) n p m rest r = local_numbers (s.boxed x) q n m (place s.places x) (s.hole x) rest r
  code_numbers s (Top q x) n p m rest r = one_more n m (binds rest) r
  code_numbers s (Lambda q xs rest_param body) n p m rest r = one_more n m (binds rest) r
  code_numbers s (If q test this that) n p m rest r =
      let k = after s.boxed n test in
      let j = after s.boxed (suc k) this in
      let i = after s.boxed j that in
      let p1 = p + procs_in test in
      let first = code s this (suc k) p1 (Ends (Some (value s this (suc k)))) in
      let second = code s that j (p1 + procs_in this) (Ends (Some (value s that j))) in
      code_numbers s test n p m (Then q (k ∷ []) (act.If (value s test n) first second) rest)
      (one_more k m ((binds first ++ binds second) ++ binds rest)
      (both (suc k) i m (binds first ++ binds second) (binds rest)
      (both (suc k) j i (binds first) (binds second)
      (code_numbers s this (suc k) p1 j (Ends (Some (value s this (suc k)))) (none_of j))
      (code_numbers s that j (p1 + procs_in this) i (Ends (Some (value s that j))) (none_of i)))
      r))
  code_numbers s (SetLocal q x e) n p m rest r =
      let k = after s.boxed n e in
      code_numbers s e n p m (Then q (k ∷ []) (act.SetBox (place s.places x) (value s e n)) rest) (one_more k m (binds rest) r)
  code_numbers s (SetTop q x e) n p m rest r =
      let k = after s.boxed n e in
      code_numbers s e n p m (Then q (k ∷ []) (act.TopSet (s.top x) (value s e n) (s.checked x)) rest)
      (one_more k m (binds rest) r)
  code_numbers s (Call q f es) n p m rest r =
      let k = after s.boxed n f in
      let j = all_after s.boxed k es in
      let call = Then q (j ∷ []) (act.Call (value s f n) (values s es k)) rest in
      code_numbers s f n p m (all_code s es k (p + procs_in f) call)
      (all_numbers s es k (p + procs_in f) m call (one_more j m (binds rest) r))
  code_numbers s (Direct q xs body es) n p m rest r =
      let k = all_after s.boxed n es in
      let j = after_params s.boxed k xs (have_values es) in
      let inner = code s body j p rest in
      let there = code_numbers s body j p m rest r in
      all_numbers s es n (p + procs_in body) m (bind_params s q xs (all_valued s es n) k inner)
      (params_numbers s q xs (all_valued s es n) k m inner
      (subst (λ bs. NumbersTo (after_params s.boxed k xs bs) m (binds inner)) (values_there s es n) there))
  code_numbers s (Prim q o es) n p m rest r =
      let k = all_after s.boxed n es in
      let a = operation o (values s es n) in
      all_numbers s es n p m (Then q (k ∷ []) a rest)
      (one_more k m (arms_bind a ++ binds rest)
      (subst (λ xs. NumbersTo (suc k) m (xs ++ binds rest)) (operation_binds o (values s es n)) r))
  code_numbers s (Seq q es) n p m rest r = all_numbers s es n p m rest r
  code_numbers s (Fix q xs ls body) n p m rest r =
      let inner = code s body (n + length xs) (p + all_procs_in ls) rest in
      both n (n + length xs) m (numbers_from n (length xs)) (binds inner) (run_of n (length xs))
      (code_numbers s body (n + length xs) (p + all_procs_in ls) m rest r)
  code_numbers s (Define q x e) n p m rest r =
      let k = after s.boxed n e in
      code_numbers s e n p m (Then q (k ∷ []) (act.TopDefine (s.top x) (value s e n)) rest) (one_more k m (binds rest) r)

  all_numbers : (s : Setting) (es : Exprs) (n p m : ℕ) (rest : Code Pos) → NumbersTo (all_after s.boxed n es) m (binds rest)
      → NumbersTo n m (binds (all_code s es n p rest))
  all_numbers s none n p m rest r = r
  all_numbers s (item e es) n p m rest r =
      let k = after s.boxed n e in
      code_numbers s e n p m (all_code s es k (p + procs_in e) rest) (all_numbers s es k (p + procs_in e) m rest r)

-- Procedures

boxes_numbers : (s : Setting) (q : Pos) (xs : List ℕ) (v k m : ℕ) (rest : Code Pos)
    → NumbersTo (after_boxes s.boxed k xs) m (binds rest) → NumbersTo k m (binds (make_boxes s q xs v k rest))
boxes_numbers s q [] v k m rest r = r
boxes_numbers s q (x ∷ xs) v k m rest r = here (s.boxed x) r (λ j r. boxes_numbers s q xs (suc v) j m rest r)
  where
    here : (b : Bool) → NumbersTo (after_boxes s.boxed (if b then suc k else k) xs) m (binds rest)
        → ((j : ℕ) → NumbersTo (after_boxes s.boxed j xs) m (binds rest) → NumbersTo j m (binds (make_boxes s q xs (suc v) j rest)))
        → NumbersTo k m (binds (if b then Then q (k ∷ []) (act.MakeBox v) (make_boxes s q xs (suc v) (suc k) rest) else make_boxes s q xs (suc v) k rest))
    here true r others = one_more k m (binds (make_boxes s q xs (suc v) (suc k) rest)) (others (suc k) r)
    here false r others = others k r

rest_numbers : (s : Setting) (xs : List ℕ) (r : Option ℕ) (n m : ℕ) (ys : List ℕ) → NumbersTo (n + length (all_params xs r)) m ys
    → NumbersTo (n + length xs) m (option_list (rest_var s r (n + length xs)) ++ ys)
rest_numbers s xs None n m ys h = h
rest_numbers s xs (Some x) n m ys h =
    let one = length-append xs (x ∷ []) in
    let next : n + length (xs ++ x ∷ []) ≡ suc (n + length xs) = omega (arith, one) in
    one_more (n + length xs) m ys (subst (λ k. NumbersTo k m ys) next h)

lambda_numbers : (s : Setting) (n p : ℕ) (e : Expr) → NumbersTo n (after_lambda s.boxed n e) (bound_in (written s n p e))
lambda_numbers s n p (Lambda q xs r body) =
    let ys = all_params xs r in
    let k = after_boxes s.boxed (n + length ys) ys in
    let m = after s.boxed k body in
    let inner = code s body k (suc p) (Ends (Some (value s body k))) in
    let boxes = make_boxes s q ys n (n + length ys) inner in
    both n (n + length xs) m (numbers_from n (length xs)) (option_list (rest_var s r (n + length xs)) ++ binds boxes)
    (run_of n (length xs))
    (rest_numbers s xs r n m (binds boxes)
    (boxes_numbers s q ys n (n + length ys) m inner
    (code_numbers s body k (suc p) m (Ends (Some (value s body k))) (none_of m))))
lambda_numbers s n p e = none_of n

-- Programs

lambdas_numbers : (all : Exprs) (n p : ℕ) (ls : List (ℕ × Expr))
    → NumbersTo n (after_lambdas (is_boxed all) n ls) (flat_map bound_in (all_written all n p ls))
lambdas_numbers all n p [] = none_of n
lambdas_numbers all n p (l ∷ ls) =
    let k = after_lambda (is_boxed all) n l.1 in
    both n k (after_lambdas (is_boxed all) k ls) (bound_in (written (setting all l.0) n p l.1))
    (flat_map bound_in (all_written all k (suc p) ls)) (lambda_numbers (setting all l.0) n p l.1)
    (lambdas_numbers all k (suc p) ls)

forms_numbers : (all : Exprs) (f n p : ℕ) (es : Exprs)
    → NumbersTo n (all_after (is_boxed all) n es) (binds (form_code all f n p es))
forms_numbers all f n p none = none_of n
forms_numbers all f n p (item e es) =
    let k = after (is_boxed all) n e in
    code_numbers (setting all f) e n p (all_after (is_boxed all) k es) (form_code all (suc f) k (p + procs_in e) es)
    (forms_numbers all (suc f) k (p + procs_in e) es)

all_from : (m : ℕ) (xs : List ℕ) → NumbersTo 0 m xs → xs ≡ numbers_from 0 (length xs)
all_from m xs h = h.are ∙ ap (numbers_from 0) (sym (ap length h.are ∙ length_numbers 0 (m - 0)))

-- the variables of a program are the numbers from 0 up to the last one's
whole_numbers : (es : Exprs) (lits : List Lit)
    → NumbersTo 0 (after_lambdas (is_boxed es) (all_after (is_boxed es) 0 es) (placed_lambdas 0 es)) (flat_map bound_in (named es lits).procs)
whole_numbers es lits =
    let k = all_after (is_boxed es) 0 es in
    let ls = placed_lambdas 0 es in
    both 0 k (after_lambdas (is_boxed es) k ls) (binds (form_code es 0 0 1 es)) (flat_map bound_in (all_written es k 1 ls))
    (forms_numbers es 0 0 1 es) (lambdas_numbers es k 1 ls)

pub all_numbered : (core : Program VarRef) (forms : Trees VarRef) → Numbered (form_of core forms).procs
all_numbered core forms =
    let es = all_told core.lits forms in
    all_from (after_lambdas (is_boxed es) (all_after (is_boxed es) 0 es) (placed_lambdas 0 es))
    (flat_map bound_in (form_of core forms).procs) (whole_numbers es core.lits)

-- How many there are

many_to : (m : ℕ) (xs : List ℕ) → NumbersTo 0 m xs → length xs ≡ m
many_to m xs h = ap length h.are ∙ (length_numbers 0 (m - 0) ∙ omega arith)

many_written : (all : Exprs) (n p : ℕ) (ls : List (ℕ × Expr)) → length (all_written all n p ls) ≡ length ls
many_written all n p [] = refl
many_written all n p (l ∷ ls) = ap suc (many_written all (after_lambda (is_boxed all) n l.1) (suc p) ls)

-- the numbers of a program have 32 bits where those of its last procedure and its last variable have
pub all_counted : (all : Exprs) (lits : List Lit) → NumbersFit all (all_after (is_boxed all) 0 all) (placed_lambdas 0 all)
    → Counted (named all lits).procs
all_counted all lits fit =
    let k = all_after (is_boxed all) 0 all in
    let ls = placed_lambdas 0 all in
    record {
      procs = subst (λ n. suc n < 2 ^ 32) (sym (many_written all k 1 ls)) fit.procs;
      vars =
          subst (λ n. n < 2 ^ 32)
          (sym (many_to (after_lambdas (is_boxed all) k ls) (flat_map bound_in (named all lits).procs) (whole_numbers all lits)))
          fit.vars;
    }
