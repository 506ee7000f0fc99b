-- The named form of an expression: its steps, onto the block that comes after them.
use Rattle.std.specs.Prelude.{ℕ, suc, nat_eq, ◌+◌, List, [], ◌∷◌, length, Option, None, Some, is_some, Bool, true, false, if◌then◌else◌}
use Rattle.std.specs.Map.{lookup}
use Rattle.scheme_base.specs.declared.pos.Pos.{Pos}
use Rattle.scheme_base.specs.declared.op.Op.{Op}
use Rattle.scheme_base.specs.declared.op.Op.TheVariants as op
use Rattle.core_form.specs.declared.program.Var.{Var}
use Rattle.named_form.specs.Code.{Code, Ends, Then, Act, Written}
use Rattle.named_form.specs.Code as act
use Rattle.named_form.specs.Valid.{numbers_from}
use Rattle.box_name.specs.Told.{Expr, Hole, Const, Local, Top, Lambda, If, SetLocal, SetTop, Call, Direct, Prim, Seq, Fix, Define, Exprs, none, item}
use Rattle.box_name.specs.Counts.{procs_in, all_procs_in, have_values, after, all_after, after_params, after_param, after_boxes, all_params, after_lambda}

-- what is known of the variables where an expression stands
pub record Setting : Type 0 where
  -- whether a local variable is held in a box, and whether it has no value at first
  pub boxed : ℕ → Bool
  pub hole : ℕ → Bool
  -- where the local variables are found
  pub places : List (ℕ × ℕ)
  -- the number of a top-level variable, and whether it may be undefined here
  pub top : Var → ℕ
  pub checked : Var → Bool

-- where a local variable is found
abbrev pub found : Option ℕ → ℕ
found None = 0
found (Some v) = v

abbrev pub place : List (ℕ × ℕ) → ℕ → ℕ
place ps x = found (lookup (nat_eq x) ps)

-- what the step of an operation does with its operands
abbrev pub operation : Op → List ℕ → Act Pos
operation op.Apply (f ∷ l ∷ []) = act.Apply f l
operation op.CallCC (f ∷ []) = act.CallCC f
operation o ys = act.Prim o ys

-- the numbers of the procedures that these lambda expressions become
abbrev pub procs_of : (p : ℕ) → Exprs → List ℕ
procs_of p none = []
procs_of p (item l ls) = p ∷ procs_of (p + procs_in l) ls

module _ (s : Setting) where
  abbrev mutual
    -- the variable of an expression's value, where its steps bind the variables from n on
    pub value : Expr → (n : ℕ) → ℕ
    value (Local q x) n = if s.boxed x then n else place s.places x
    value (If q test this that) n = after s.boxed n test
    value (SetLocal q x e) n = after s.boxed n e
    value (SetTop q x e) n = after s.boxed n e
    value (Call q f es) n = all_after s.boxed (after s.boxed n f) es
    value (Direct q xs body es) n = value body (after_params s.boxed (all_after s.boxed n es) xs (have_values es))
    value (Prim q o es) n = all_after s.boxed n es
    value (Seq q es) n = last_value 0 es n
    value (Fix q xs ls body) n = value body (n + length xs)
    value (Define q x e) n = after s.boxed n e
    value e n = n

    pub values : Exprs → (n : ℕ) → List ℕ
    values none n = []
    values (item e es) n = value e n ∷ values es (after s.boxed n e)

    -- the value of the last of some expressions; a sequence has one
    pub last_value : (other : ℕ) → Exprs → (n : ℕ) → ℕ
    last_value other none n = other
    last_value other (item e es) n = last_value (value e n) es (after s.boxed n e)

  -- a parameter of a direct call is bound to the value in v, or has none yet
  abbrev pub bind_param : Pos → (x n : ℕ) → (v : Option ℕ) → Code Pos → Code Pos
  bind_param q x n (Some v) rest =
      Then q (n ∷ []) (act.Copy v) (if s.boxed x then Then q (suc n ∷ []) (act.MakeBox n) rest else rest)
  bind_param q x n None rest = Then q (n ∷ []) act.MakeHole rest

  abbrev pub valued : Expr → (n : ℕ) → Option ℕ
  valued Hole n = None
  valued e n = Some (value e n)

  abbrev pub all_valued : Exprs → (n : ℕ) → List (Option ℕ)
  all_valued none n = []
  all_valued (item e es) n = valued e n ∷ all_valued es (after s.boxed n e)

  -- the parameters of a direct call are bound from m on
  abbrev pub bind_params : Pos → List ℕ → (vs : List (Option ℕ)) → (m : ℕ) → Code Pos → Code Pos
  bind_params q (x ∷ xs) (v ∷ vs) m rest =
      bind_param q x m v (bind_params q xs vs (after_param s.boxed m x (is_some v)) rest)
  bind_params q xs vs m rest = rest

  abbrev mutual
    -- The steps of an expression, which bind the variables from n on, before the rest of a block. The procedures
    -- in the expression are those from p on.
    pub code : Expr → (n p : ℕ) → (rest : Code Pos) → Code Pos
    code Hole n p rest = rest
    code (Const q l) n p rest = Then q (n ∷ []) (act.Const l) rest
    code (Local q x) n p rest = if s.boxed x then Then q (n ∷ []) (act.Unbox (place s.places x) (s.hole x)) rest else rest
    code (Top q x) n p rest = Then q (n ∷ []) (act.TopGet (s.top x) (s.checked x)) rest
    code (Lambda q xs r body) n p rest = Then q (n ∷ []) (act.Closure p) rest
    code (If q test this that) n p rest =
        let m = after s.boxed n test in
        let k = after s.boxed (suc m) this in
        let p1 = p + procs_in test in
        code test n p
        (Then q (m ∷ [])
        (act.If (value test n) (code this (suc m) p1 (Ends (Some (value this (suc m)))))
        (code that k (p1 + procs_in this) (Ends (Some (value that k)))))
        rest)
    code (SetLocal q x e) n p rest =
        code e n p (Then q (after s.boxed n e ∷ []) (act.SetBox (place s.places x) (value e n)) rest)
    code (SetTop q x e) n p rest =
        code e n p (Then q (after s.boxed n e ∷ []) (act.TopSet (s.top x) (value e n) (s.checked x)) rest)
    code (Call q f es) n p rest =
        let m = after s.boxed n f in
        code f n p
        (all_code es m (p + procs_in f) (Then q (all_after s.boxed m es ∷ []) (act.Call (value f n) (values es m)) rest))
    -- the operands, the parameters, the body; the body's procedures are numbered first, as they stand first in the text
    code (Direct q xs body es) n p rest =
        let m = all_after s.boxed n es in
        all_code es n (p + procs_in body)
        (bind_params q xs (all_valued es n) m (code body (after_params s.boxed m xs (have_values es)) p rest))
    code (Prim q o es) n p rest =
        all_code es n p (Then q (all_after s.boxed n es ∷ []) (operation o (values es n)) rest)
    code (Seq q es) n p rest = all_code es n p rest
    code (Fix q xs ls body) n p rest =
        Then q (numbers_from n (length xs)) (act.Fix (procs_of p ls))
        (code body (n + length xs) (p + all_procs_in ls) rest)
    code (Define q x e) n p rest =
        code e n p (Then q (after s.boxed n e ∷ []) (act.TopDefine (s.top x) (value e n)) rest)

    pub all_code : Exprs → (n p : ℕ) → (rest : Code Pos) → Code Pos
    all_code none n p rest = rest
    all_code (item e es) n p rest = code e n p (all_code es (after s.boxed n e) (p + procs_in e) rest)

  -- the boxes of a procedure's parameters, which have the variables from v on
  abbrev pub make_boxes : Pos → List ℕ → (v m : ℕ) → (rest : Code Pos) → Code Pos
  make_boxes q [] v m rest = rest
  make_boxes q (x ∷ xs) v m rest =
      if s.boxed x then Then q (m ∷ []) (act.MakeBox v) (make_boxes q xs (suc v) (suc m) rest)
      else make_boxes q xs (suc v) m rest

  abbrev pub rest_var : Option ℕ → ℕ → Option ℕ
  rest_var None v = None
  rest_var (Some x) v = Some v

  -- procedure p, whose variables are those from n on
  abbrev pub written : (n p : ℕ) → Expr → Written
  written n p (Lambda q xs r body) =
      let ys = all_params xs r in
      let m = after_boxes s.boxed (n + length ys) ys in
      record {
        params = numbers_from n (length xs);
        rest = rest_var r (n + length xs);
        body = make_boxes q ys n (n + length ys) (code body m (suc p) (Ends (Some (value body m))));
        pos = q;
      }
  written n p e = record { params = []; rest = None; body = Ends None; pos = record { line = 0; col = 0 } }
