-- What the steps of an expression are numbered by: variables and procedures, in the order of the text.
use Rattle.std.specs.Prelude.{ℕ, suc, ◌+◌, List, [], ◌∷◌, ◌++◌, length, Option, None, Some, Bool, true, false, if◌then◌else◌}
use Rattle.box_name.specs.Told.{Expr, Hole, Const, Local, Top, Lambda, If, SetLocal, SetTop, Call, Direct, Prim, Seq, Fix, Define, Exprs, none, item}

-- Procedures

abbrev mutual
  -- how many procedures an expression becomes
  pub procs_in : Expr → ℕ
  procs_in (Lambda p xs r body) = suc (procs_in body)
  procs_in (If p test this that) = procs_in test + procs_in this + procs_in that
  procs_in (SetLocal p x e) = procs_in e
  procs_in (SetTop p x e) = procs_in e
  procs_in (Call p f es) = procs_in f + all_procs_in es
  procs_in (Direct p xs body es) = procs_in body + all_procs_in es
  procs_in (Prim p o es) = all_procs_in es
  procs_in (Seq p es) = all_procs_in es
  procs_in (Fix p xs ls body) = all_procs_in ls + procs_in body
  procs_in (Define p x e) = procs_in e
  procs_in e = 0

  pub all_procs_in : Exprs → ℕ
  all_procs_in none = 0
  all_procs_in (item e es) = procs_in e + all_procs_in es

abbrev mutual
  -- the lambda expressions that become procedures, each before those in its body
  pub lambdas : Expr → List Expr
  lambdas (Lambda p xs r body) = Lambda p xs r body ∷ lambdas body
  lambdas (If p test this that) = lambdas test ++ (lambdas this ++ lambdas that)
  lambdas (SetLocal p x e) = lambdas e
  lambdas (SetTop p x e) = lambdas e
  lambdas (Call p f es) = lambdas f ++ all_lambdas es
  lambdas (Direct p xs body es) = lambdas body ++ all_lambdas es
  lambdas (Prim p o es) = all_lambdas es
  lambdas (Seq p es) = all_lambdas es
  lambdas (Fix p xs ls body) = all_lambdas ls ++ lambdas body
  lambdas (Define p x e) = lambdas e
  lambdas e = []

  pub all_lambdas : Exprs → List Expr
  all_lambdas none = []
  all_lambdas (item e es) = lambdas e ++ all_lambdas es

-- Variables

-- whether each operand of a direct call has a value at once
abbrev pub has_value : Expr → Bool
has_value Hole = false
has_value e = true

abbrev pub have_values : Exprs → List Bool
have_values none = []
have_values (item e es) = has_value e ∷ have_values es

-- all that a procedure's lambda expression binds
abbrev pub all_params : List ℕ → Option ℕ → List ℕ
all_params xs None = xs
all_params xs (Some x) = xs ++ x ∷ []

-- where variables are found that have the numbers from n on
abbrev pub var_places : (n : ℕ) → List ℕ → List (ℕ × ℕ)
var_places n [] = []
var_places n (x ∷ xs) = (x, n) ∷ var_places (suc n) xs

module _ (boxed : ℕ → Bool) where
  -- the variable after those of a parameter that is bound to a value, or to none
  abbrev pub after_param : (n x : ℕ) → (valued : Bool) → ℕ
  after_param n x true = if boxed x then suc (suc n) else suc n
  after_param n x false = suc n

  -- the variable where a parameter of a direct call is found, its value's copy or its box
  abbrev pub param_place : (n x : ℕ) → (valued : Bool) → ℕ
  param_place n x true = if boxed x then suc n else n
  param_place n x false = n

  abbrev pub after_params : (n : ℕ) → List ℕ → (valued : List Bool) → ℕ
  after_params n (x ∷ xs) (b ∷ bs) = after_params (after_param n x b) xs bs
  after_params n xs bs = n

  abbrev pub param_places : (n : ℕ) → List ℕ → (valued : List Bool) → List (ℕ × ℕ)
  param_places n (x ∷ xs) (b ∷ bs) = (x, param_place n x b) ∷ param_places (after_param n x b) xs bs
  param_places n xs bs = []

  abbrev mutual
    -- the variable after those that an expression binds, the bodies of its procedures aside
    pub after : (n : ℕ) → Expr → ℕ
    after n Hole = n
    after n (Local p x) = if boxed x then suc n else n
    after n (If p test this that) = after (after (suc (after n test)) this) that
    after n (SetLocal p x e) = suc (after n e)
    after n (SetTop p x e) = suc (after n e)
    after n (Call p f es) = suc (all_after (after n f) es)
    after n (Direct p xs body es) = after (after_params (all_after n es) xs (have_values es)) body
    after n (Prim p o es) = suc (all_after n es)
    after n (Seq p es) = all_after n es
    after n (Fix p xs ls body) = after (n + length xs) body
    after n (Define p x e) = suc (after n e)
    after n e = suc n

    pub all_after : (n : ℕ) → Exprs → ℕ
    all_after n none = n
    all_after n (item e es) = all_after (after n e) es

  abbrev mutual
    -- where the local variables are found that an expression binds, the bodies of its procedures aside
    pub places : (n : ℕ) → Expr → List (ℕ × ℕ)
    places n (If p test this that) =
        let m = suc (after n test) in places n test ++ (places m this ++ places (after m this) that)
    places n (SetLocal p x e) = places n e
    places n (SetTop p x e) = places n e
    places n (Call p f es) = places n f ++ all_places (after n f) es
    places n (Direct p xs body es) =
        let m = all_after n es in all_places n es ++ (param_places m xs (have_values es) ++ places (after_params m xs (have_values es)) body)
    places n (Prim p o es) = all_places n es
    places n (Seq p es) = all_places n es
    places n (Fix p xs ls body) = var_places n xs ++ places (n + length xs) body
    places n (Define p x e) = places n e
    places n e = []

    pub all_places : (n : ℕ) → Exprs → List (ℕ × ℕ)
    all_places n none = []
    all_places n (item e es) = places n e ++ all_places (after n e) es

  -- The parameters of a procedure have the variables from v on; the boxes of those that are boxed follow, from m on.

  abbrev pub after_boxes : (m : ℕ) → List ℕ → ℕ
  after_boxes m [] = m
  after_boxes m (x ∷ xs) = after_boxes (if boxed x then suc m else m) xs

  abbrev pub box_places : (v m : ℕ) → List ℕ → List (ℕ × ℕ)
  box_places v m [] = []
  box_places v m (x ∷ xs) = (x, if boxed x then m else v) ∷ box_places (suc v) (if boxed x then suc m else m) xs

  abbrev pub after_lambda : (n : ℕ) → Expr → ℕ
  after_lambda n (Lambda p xs r body) =
      let ys = all_params xs r in after (after_boxes (n + length ys) ys) body
  after_lambda n e = n

  abbrev pub lambda_places : (n : ℕ) → Expr → List (ℕ × ℕ)
  lambda_places n (Lambda p xs r body) =
      let ys = all_params xs r in
      box_places n (n + length ys) ys ++ places (after_boxes (n + length ys) ys) body
  lambda_places n e = []
