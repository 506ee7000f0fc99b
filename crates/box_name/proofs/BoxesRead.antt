-- The steps of an expression read as a box what is bound to one, and nothing else, where each local variable is found
-- at a box exactly if it is held in one.
use Rattle.std.proofs.Common.{◌≡◌, ℕ, suc, ◌+◌, Bool, true, false, List, [], ◌∷◌, ◌++◌, length, Option, Some, None, refl, sym, ap, ◌∙◌, subst, length-append}
use Rattle.std.specs.Prelude.{if◌then◌else◌}
use Rattle.std.specs.List.{AllByRecursion}
use Rattle.scheme_base.specs.declared.op.Op.{Op}
use Rattle.scheme_base.specs.declared.op.Op.TheVariants as op
use Rattle.scheme_base.specs.declared.pos.Pos.{Pos}
use Rattle.named_form.specs.Code.{Code, Ends, Then, Act, has, option_list}
use Rattle.named_form.specs.Code as act
use Rattle.named_form.specs.Valid.{AnyValue, GivesNoBox, NoneOf, OfSteps, OfValues, ReadsBoxes, Throughout, numbers_from}
use Rattle.named_form.proofs.Rising.{numbers_append}
use Rattle.box_name.specs.Told.{Expr, Hole, Const, Local, Top, Lambda, If, SetLocal, SetTop, Call, Direct, Prim, Seq, Fix, Define, Exprs, none, item}
use Rattle.box_name.specs.Counts.{after, after_boxes, after_param, after_params, all_after, all_params, all_places, all_procs_in, box_places, have_values, lambda_places, param_places, places, procs_in, var_places}
use Rattle.box_name.specs.Naming.{Setting, all_code, all_valued, bind_params, code, last_value, make_boxes, operation, place, rest_var, value, values, written}
use Rattle.box_name.proofs.BoxesMade.{BindsBoxes, Boxing, is_box}
use Rattle.box_name.proofs.Members.{front_each}
use Rattle.box_name.proofs.StepsWell.{of_both}

abbrev pub HasItem : Exprs → Type 0
HasItem none = ⊥
HasItem (item e es) = Unit {0}

-- Each local variable that stands in an expression is known. The variables that it assigns, and those that have no
-- value at first, are held in boxes, and those of a `Fix` are not. A sequence has an item, and only the operand of a
-- direct call is no value.
abbrev mutual
  pub Suits : (boxed : ℕ → Bool) → (known : List ℕ) → Expr → Type 0
  Suits b k Hole = ⊥
  Suits b k (Local q x) = has k x ≡ true
  Suits b k (Lambda q xs r body) = Suits b k body
  Suits b k (If q test this that) = Suits b k test × Suits b k this × Suits b k that
  Suits b k (SetLocal q x e) = (b x ≡ true) × (has k x ≡ true) × Suits b k e
  Suits b k (SetTop q x e) = Suits b k e
  Suits b k (Call q f es) = Suits b k f × AllSuit b k es
  Suits b k (Direct q xs body es) = OperandsSuit b k xs es × Suits b k body
  Suits b k (Prim q o es) = AllSuit b k es
  Suits b k (Seq q es) = HasItem es × AllSuit b k es
  Suits b k (Fix q xs ls body) = AllByRecursion (λ x. b x ≡ false) xs × AllSuit b k ls × Suits b k body
  Suits b k (Define q x e) = Suits b k e
  Suits b k e = Unit {0}

  pub AllSuit : (boxed : ℕ → Bool) → (known : List ℕ) → Exprs → Type 0
  AllSuit b k none = Unit {0}
  AllSuit b k (item e es) = Suits b k e × AllSuit b k es

  pub OperandsSuit : (boxed : ℕ → Bool) → (known : List ℕ) → List ℕ → Exprs → Type 0
  OperandsSuit b k (x ∷ xs) (item Hole es) = (b x ≡ true) × OperandsSuit b k xs es
  OperandsSuit b k (x ∷ xs) (item e es) = Suits b k e × OperandsSuit b k xs es
  OperandsSuit b k [] none = Unit {0}
  OperandsSuit b k xs es = ⊥

-- what is asked of steps holds after those of an expression

pub past_one : (P : OfSteps Pos) (Q : OfValues) (b : Bool) (q : Pos) (vars : List ℕ) (a : Act Pos) (rest : Code Pos)
    → Throughout P Q (if b then Then q vars a rest else rest) → Throughout P Q rest
past_one P Q true q vars a rest t = t.2
past_one P Q false q vars a rest t = t

pub past_params : (P : OfSteps Pos) (Q : OfValues) (s : Setting) (q : Pos) (xs : List ℕ) (vs : List (Option ℕ)) (m : ℕ)
    (rest : Code Pos) → Throughout P Q (bind_params s q xs vs m rest) → Throughout P Q rest
past_params P Q s q [] vs m rest t = t
past_params P Q s q (x ∷ xs) [] m rest t = t
past_params P Q s q (x ∷ xs) (None ∷ vs) m rest t = past_params P Q s q xs vs (suc m) _ t.2
past_params P Q s q (x ∷ xs) (Some v ∷ vs) m rest t =
    past_params P Q s q xs vs (after_param s.boxed m x true) _ (past_one P Q (s.boxed x) _ _ _ _ t.2)

mutual
  pub past : (P : OfSteps Pos) (Q : OfValues) (s : Setting) (e : Expr) (n p : ℕ) (rest : Code Pos)
      → Throughout P Q (code s e n p rest) → Throughout P Q rest
  past P Q s Hole n p rest t = t
  past P Q s (Const q l) n p rest t = t.2
  past P Q s (Local q x) n p rest t = past_one P Q (s.boxed x) _ _ _ _ t
  past P Q s (Top q x) n p rest t = t.2
  past P Q s (Lambda q xs r body) n p rest t = t.2
  past P Q s (If q test this that) n p rest t = (past P Q s test n p _ t).2
  past P Q s (SetLocal q x e) n p rest t = (past P Q s e n p _ t).2
  past P Q s (SetTop q x e) n p rest t = (past P Q s e n p _ t).2
  past P Q s (Call q f es) n p rest t =
      (past_all P Q s es (after s.boxed n f) (p + procs_in f) _ (past P Q s f n p _ t)).2
  past P Q s (Direct q xs body es) n p rest t =
      let m = all_after s.boxed n es in
      past P Q s body (after_params s.boxed m xs (have_values es)) p _
      (past_params P Q s q xs (all_valued s es n) m _ (past_all P Q s es n (p + procs_in body) _ t))
  past P Q s (Prim q o es) n p rest t = (past_all P Q s es n p _ t).2
  past P Q s (Seq q es) n p rest t = past_all P Q s es n p _ t
  past P Q s (Fix q xs ls body) n p rest t = past P Q s body (n + length xs) (p + all_procs_in ls) _ t.2
  past P Q s (Define q x e) n p rest t = (past P Q s e n p _ t).2

  pub past_all : (P : OfSteps Pos) (Q : OfValues) (s : Setting) (es : Exprs) (n p : ℕ) (rest : Code Pos)
      → Throughout P Q (all_code s es n p rest) → Throughout P Q rest
  past_all P Q s none n p rest t = t
  past_all P Q s (item e es) n p rest t =
      past_all P Q s es (after s.boxed n e) (p + procs_in e) _ (past P Q s e n p _ t)

-- Where local variables are found

abbrev pub Binding : List ℕ → Code Pos → Type 0
Binding boxes c = Throughout (BindsBoxes boxes) AnyValue c

-- a variable is found at a box if it is held in one
abbrev pub IsFound : List ℕ → (boxed : ℕ → Bool) → ℕ × ℕ → Type 0
IsFound boxes b a = has boxes a.1 ≡ b a.0

abbrev pub AllFound : List ℕ → (boxed : ℕ → Bool) → List (ℕ × ℕ) → Type 0
AllFound boxes b places = AllByRecursion (IsFound boxes b) places

vars_found : (boxes : List ℕ) (b : ℕ → Bool) (xs : List ℕ) (n : ℕ) → AllByRecursion (λ x. b x ≡ false) xs
    → AllByRecursion (λ v. has boxes v ≡ false) (numbers_from n (length xs)) → AllFound boxes b (var_places n xs)
vars_found boxes b [] n h t = tt
vars_found boxes b (x ∷ xs) n h t = (t.0 ∙ sym h.0, vars_found boxes b xs (suc n) h.1 t.1)

copy_found : (boxes : List ℕ) (b : Bool) (q : Pos) (m : ℕ) (rest : Code Pos) → has boxes m ≡ false
    → Binding boxes (if b then Then q (suc m ∷ []) (act.MakeBox m) rest else rest)
    → has boxes (if b then suc m else m) ≡ b
copy_found boxes true q m rest h t = t.0.0
copy_found boxes false q m rest h t = h

params_found : (boxes : List ℕ) (s : Setting) (k : List ℕ) (q : Pos) (xs : List ℕ) (es : Exprs) (n m : ℕ) (rest : Code Pos)
    → OperandsSuit s.boxed k xs es → Binding boxes (bind_params s q xs (all_valued s es n) m rest)
    → AllFound boxes s.boxed (param_places s.boxed m xs (have_values es))
params_found boxes s k q [] es n m rest h t = tt
params_found boxes s k q (x ∷ xs) none n m rest h t = tt
params_found boxes s k q (x ∷ xs) (item Hole es) n m rest h t =
    (t.0.0 ∙ sym h.0, params_found boxes s k q xs es n (suc m) _ h.1 t.2)
params_found boxes s k q (x ∷ xs) (item e es) n m rest h t = (
  copy_found boxes (s.boxed x) q m _ t.0.0 t.2,
  params_found boxes s k q xs es (after s.boxed n e) (after_param s.boxed m x true) _ h.1
      (past_one (BindsBoxes boxes) AnyValue (s.boxed x) _ _ _ _ t.2),
)

mutual
  pub code_found : (boxes : List ℕ) (s : Setting) (k : List ℕ) (e : Expr) (n p : ℕ) (rest : Code Pos) → Suits s.boxed k e
      → Binding boxes (code s e n p rest) → AllFound boxes s.boxed (places s.boxed n e)
  code_found boxes s k (If q test this that) n p rest h t =
      let m = after s.boxed n test in
      let p1 = p + procs_in test in
      let choice = past (BindsBoxes boxes) AnyValue s test n p _ t in
      of_both (IsFound boxes s.boxed) (places s.boxed n test) _ (code_found boxes s k test n p _ h.0 t)
      (of_both (IsFound boxes s.boxed) (places s.boxed (suc m) this) _
      (code_found boxes s k this (suc m) p1 _ h.1 choice.1.0)
      (code_found boxes s k that (after s.boxed (suc m) this) (p1 + procs_in this) _ h.2 choice.1.1))
  code_found boxes s k (SetLocal q x e) n p rest h t = code_found boxes s k e n p _ h.2 t
  code_found boxes s k (SetTop q x e) n p rest h t = code_found boxes s k e n p _ h t
  code_found boxes s k (Call q f es) n p rest h t =
      of_both (IsFound boxes s.boxed) (places s.boxed n f) _ (code_found boxes s k f n p _ h.0 t)
      (all_found boxes s k es (after s.boxed n f) (p + procs_in f) _ h.1 (past (BindsBoxes boxes) AnyValue s f n p _ t))
  code_found boxes s k (Direct q xs body es) n p rest h t =
      let m = all_after s.boxed n es in
      let params = past_all (BindsBoxes boxes) AnyValue s es n (p + procs_in body) _ t in
      of_both (IsFound boxes s.boxed) (all_places s.boxed n es) _
      (operands_found boxes s k xs es n (p + procs_in body) _ h.0 t)
      (of_both (IsFound boxes s.boxed) (param_places s.boxed m xs (have_values es)) _
      (params_found boxes s k q xs es n m _ h.0 params)
      (code_found boxes s k body (after_params s.boxed m xs (have_values es)) p _ h.1
      (past_params (BindsBoxes boxes) AnyValue s q xs (all_valued s es n) m _ params)))
  code_found boxes s k (Prim q o es) n p rest h t = all_found boxes s k es n p _ h t
  code_found boxes s k (Seq q es) n p rest h t = all_found boxes s k es n p _ h.1 t
  code_found boxes s k (Fix q xs ls body) n p rest h t =
      of_both (IsFound boxes s.boxed) (var_places n xs) _ (vars_found boxes s.boxed xs n h.0 t.0)
      (code_found boxes s k body (n + length xs) (p + all_procs_in ls) _ h.2 t.2)
  code_found boxes s k (Define q x e) n p rest h t = code_found boxes s k e n p _ h t
  code_found boxes s k e n p rest h t = tt

  all_found : (boxes : List ℕ) (s : Setting) (k : List ℕ) (es : Exprs) (n p : ℕ) (rest : Code Pos) → AllSuit s.boxed k es
      → Binding boxes (all_code s es n p rest) → AllFound boxes s.boxed (all_places s.boxed n es)
  all_found boxes s k none n p rest h t = tt
  all_found boxes s k (item e es) n p rest h t =
      of_both (IsFound boxes s.boxed) (places s.boxed n e) _ (code_found boxes s k e n p _ h.0 t)
      (all_found boxes s k es (after s.boxed n e) (p + procs_in e) _ h.1 (past (BindsBoxes boxes) AnyValue s e n p _ t))

  operands_found : (boxes : List ℕ) (s : Setting) (k xs : List ℕ) (es : Exprs) (n p : ℕ) (rest : Code Pos)
      → OperandsSuit s.boxed k xs es → Binding boxes (all_code s es n p rest)
      → AllFound boxes s.boxed (all_places s.boxed n es)
  operands_found boxes s k xs none n p rest h t = tt
  operands_found boxes s k [] (item e es) n p rest h t = absurd h
  operands_found boxes s k (x ∷ xs) (item Hole es) n p rest h t = operands_found boxes s k xs es n (p + 0) _ h.1 t
  operands_found boxes s k (x ∷ xs) (item e es) n p rest h t =
      of_both (IsFound boxes s.boxed) (places s.boxed n e) _ (code_found boxes s k e n p _ h.0 t)
      (operands_found boxes s k xs es (after s.boxed n e) (p + procs_in e) _ h.1 (past (BindsBoxes boxes) AnyValue s e n p _ t))

-- Values are no boxes

abbrev pub Finds : List ℕ → Setting → (known : List ℕ) → Type 0
Finds boxes s k = (x : ℕ) → has k x ≡ true → has boxes (place s.places x) ≡ s.boxed x

local_unboxed : (boxes : List ℕ) (b : Bool) (q : Pos) (n v : ℕ) (checked : Bool) (rest : Code Pos)
    → has boxes v ≡ b → Binding boxes (if b then Then q (n ∷ []) (act.Unbox v checked) rest else rest)
    → has boxes (if b then n else v) ≡ false
local_unboxed boxes true q n v checked rest h t = t.0.0
local_unboxed boxes false q n v checked rest h t = h

operation_no_box : (o : Op) (ys : List ℕ) → is_box (operation o ys) ≡ false
operation_no_box op.Apply [] = refl
operation_no_box op.Apply (x ∷ []) = refl
operation_no_box op.Apply (x ∷ y ∷ []) = refl
operation_no_box op.Apply (x ∷ y ∷ z ∷ zs) = refl
operation_no_box op.CallCC [] = refl
operation_no_box op.CallCC (x ∷ []) = refl
operation_no_box op.CallCC (x ∷ y ∷ ys) = refl
operation_no_box o ys = refl

mutual
  value_unboxed : (boxes : List ℕ) (s : Setting) (k : List ℕ) → Finds boxes s k → (e : Expr) (n p : ℕ) (rest : Code Pos)
      → Suits s.boxed k e → Binding boxes (code s e n p rest) → has boxes (value s e n) ≡ false
  value_unboxed boxes s k f Hole n p rest h t = absurd h
  value_unboxed boxes s k f (Const q l) n p rest h t = t.0.0
  value_unboxed boxes s k f (Local q x) n p rest h t =
      local_unboxed boxes (s.boxed x) q n (place s.places x) (s.hole x) _ (f x h) t
  value_unboxed boxes s k f (Top q x) n p rest h t = t.0.0
  value_unboxed boxes s k f (Lambda q xs r body) n p rest h t = t.0.0
  value_unboxed boxes s k f (If q test this that) n p rest h t = (past (BindsBoxes boxes) AnyValue s test n p _ t).0.0
  value_unboxed boxes s k f (SetLocal q x e) n p rest h t = (past (BindsBoxes boxes) AnyValue s e n p _ t).0.0
  value_unboxed boxes s k f (SetTop q x e) n p rest h t = (past (BindsBoxes boxes) AnyValue s e n p _ t).0.0
  value_unboxed boxes s k f (Call q d es) n p rest h t =
      (past_all (BindsBoxes boxes) AnyValue s es (after s.boxed n d) (p + procs_in d) _
      (past (BindsBoxes boxes) AnyValue s d n p _ t)).0.0
  value_unboxed boxes s k f (Direct q xs body es) n p rest h t =
      let m = all_after s.boxed n es in
      value_unboxed boxes s k f body (after_params s.boxed m xs (have_values es)) p _ h.1
      (past_params (BindsBoxes boxes) AnyValue s q xs (all_valued s es n) m _
      (past_all (BindsBoxes boxes) AnyValue s es n (p + procs_in body) _ t))
  value_unboxed boxes s k f (Prim q o es) n p rest h t =
      (past_all (BindsBoxes boxes) AnyValue s es n p _ t).0.0 ∙ operation_no_box o (values s es n)
  value_unboxed boxes s k f (Seq q none) n p rest h t = absurd h.0
  value_unboxed boxes s k f (Seq q (item e es)) n p rest h t =
      last_unboxed boxes s k f (value s e n) es (after s.boxed n e) (p + procs_in e) _ h.1.1
      (value_unboxed boxes s k f e n p _ h.1.0 t) (past (BindsBoxes boxes) AnyValue s e n p _ t)
  value_unboxed boxes s k f (Fix q xs ls body) n p rest h t =
      value_unboxed boxes s k f body (n + length xs) (p + all_procs_in ls) _ h.2 t.2
  value_unboxed boxes s k f (Define q x e) n p rest h t = (past (BindsBoxes boxes) AnyValue s e n p _ t).0.0

  last_unboxed : (boxes : List ℕ) (s : Setting) (k : List ℕ) → Finds boxes s k → (other : ℕ) (es : Exprs) (n p : ℕ)
      (rest : Code Pos) → AllSuit s.boxed k es → has boxes other ≡ false → Binding boxes (all_code s es n p rest)
      → has boxes (last_value s other es n) ≡ false
  last_unboxed boxes s k f other none n p rest h o t = o
  last_unboxed boxes s k f other (item e es) n p rest h o t =
      last_unboxed boxes s k f (value s e n) es (after s.boxed n e) (p + procs_in e) _ h.1
      (value_unboxed boxes s k f e n p _ h.0 t) (past (BindsBoxes boxes) AnyValue s e n p _ t)

values_unboxed : (boxes : List ℕ) (s : Setting) (k : List ℕ) → Finds boxes s k → (es : Exprs) (n p : ℕ) (rest : Code Pos)
    → AllSuit s.boxed k es → Binding boxes (all_code s es n p rest) → NoneOf boxes (values s es n)
values_unboxed boxes s k f none n p rest h t = tt
values_unboxed boxes s k f (item e es) n p rest h t = (
  value_unboxed boxes s k f e n p _ h.0 t,
  values_unboxed boxes s k f es (after s.boxed n e) (p + procs_in e) _ h.1 (past (BindsBoxes boxes) AnyValue s e n p _ t),
)

all_valued_unboxed : (boxes : List ℕ) (s : Setting) (k : List ℕ) → Finds boxes s k → (xs : List ℕ) (es : Exprs) (n p : ℕ)
    (rest : Code Pos) → OperandsSuit s.boxed k xs es → Binding boxes (all_code s es n p rest)
    → AllByRecursion (GivesNoBox boxes) (all_valued s es n)
all_valued_unboxed boxes s k f xs none n p rest h t = tt
all_valued_unboxed boxes s k f [] (item e es) n p rest h t = absurd h
all_valued_unboxed boxes s k f (x ∷ xs) (item Hole es) n p rest h t =
    (tt, all_valued_unboxed boxes s k f xs es n (p + 0) _ h.1 t)
all_valued_unboxed boxes s k f (x ∷ xs) (item e es) n p rest h t = (
  (value_unboxed boxes s k f e n p _ h.0 t, tt),
  all_valued_unboxed boxes s k f xs es (after s.boxed n e) (p + procs_in e) _ h.1 (past (BindsBoxes boxes) AnyValue s e n p _ t),
)

-- Steps read what they should

abbrev pub Reading : List ℕ → Code Pos → Type 0
Reading boxes c = Throughout (ReadsBoxes boxes) (GivesNoBox boxes) c

local_reads : (boxes : List ℕ) (b : Bool) (q : Pos) (n v : ℕ) (checked : Bool) (rest : Code Pos) → has boxes v ≡ b
    → Reading boxes rest → Reading boxes (if b then Then q (n ∷ []) (act.Unbox v checked) rest else rest)
local_reads boxes true q n v checked rest h r = (h, tt, r)
local_reads boxes false q n v checked rest h r = r

box_reads : (boxes : List ℕ) (b : Bool) (q : Pos) (n m : ℕ) (rest : Code Pos) → has boxes n ≡ false → Reading boxes rest
    → Reading boxes (if b then Then q (m ∷ []) (act.MakeBox n) rest else rest)
box_reads boxes true q n m rest h r = ((h, tt), tt, r)
box_reads boxes false q n m rest h r = r

params_read : (boxes : List ℕ) (s : Setting) (q : Pos) (xs : List ℕ) (vs : List (Option ℕ)) (m : ℕ) (rest : Code Pos)
    → AllByRecursion (GivesNoBox boxes) vs → Binding boxes (bind_params s q xs vs m rest) → Reading boxes rest
    → Reading boxes (bind_params s q xs vs m rest)
params_read boxes s q [] vs m rest h t r = r
params_read boxes s q (x ∷ xs) [] m rest h t r = r
params_read boxes s q (x ∷ xs) (None ∷ vs) m rest h t r = (tt, tt, params_read boxes s q xs vs (suc m) _ h.1 t.2 r)
params_read boxes s q (x ∷ xs) (Some v ∷ vs) m rest h t r = (
  h.0,
  tt,
  box_reads boxes (s.boxed x) q m (suc m) _ t.0.0
      (params_read boxes s q xs vs (after_param s.boxed m x true) _ h.1
      (past_one (BindsBoxes boxes) AnyValue (s.boxed x) _ _ _ _ t.2) r),
)

operation_reads : (boxes : List ℕ) (q : Pos) (vars : List ℕ) (o : Op) (ys : List ℕ) (rest : Code Pos) → NoneOf boxes ys
    → Reading boxes rest → Reading boxes (Then q vars (operation o ys) rest)
operation_reads boxes q vars op.Apply [] rest h r = (h, tt, r)
operation_reads boxes q vars op.Apply (x ∷ []) rest h r = (h, tt, r)
operation_reads boxes q vars op.Apply (x ∷ y ∷ []) rest h r = (h, tt, r)
operation_reads boxes q vars op.Apply (x ∷ y ∷ z ∷ zs) rest h r = (h, tt, r)
operation_reads boxes q vars op.CallCC [] rest h r = (h, tt, r)
operation_reads boxes q vars op.CallCC (x ∷ []) rest h r = (h, tt, r)
operation_reads boxes q vars op.CallCC (x ∷ y ∷ ys) rest h r = (h, tt, r)
operation_reads boxes q vars o ys rest h r = (h, tt, r)

mutual
  pub code_reads : (boxes : List ℕ) (s : Setting) (k : List ℕ) → Finds boxes s k → (e : Expr) (n p : ℕ) (rest : Code Pos)
      → Suits s.boxed k e → Binding boxes (code s e n p rest) → Reading boxes rest → Reading boxes (code s e n p rest)
  code_reads boxes s k f Hole n p rest h t r = absurd h
  code_reads boxes s k f (Const q l) n p rest h t r = (tt, tt, r)
  code_reads boxes s k f (Local q x) n p rest h t r =
      local_reads boxes (s.boxed x) q n (place s.places x) (s.hole x) _ (f x h) r
  code_reads boxes s k f (Top q x) n p rest h t r = (tt, tt, r)
  code_reads boxes s k f (Lambda q xs rest_param body) n p rest h t r = (tt, tt, r)
  code_reads boxes s k f (If q test this that) n p rest h t r =
      let m = after s.boxed n test in
      let j = after s.boxed (suc m) this in
      let p1 = p + procs_in test in
      let choice = past (BindsBoxes boxes) AnyValue s test n p _ t in
      code_reads boxes s k f test n p _ h.0 t (
        (value_unboxed boxes s k f test n p _ h.0 t, tt),
        (
          code_reads boxes s k f this (suc m) p1 _ h.1 choice.1.0
              (value_unboxed boxes s k f this (suc m) p1 _ h.1 choice.1.0, tt),
          code_reads boxes s k f that j (p1 + procs_in this) _ h.2 choice.1.1
              (value_unboxed boxes s k f that j (p1 + procs_in this) _ h.2 choice.1.1, tt),
        ),
        r,
      )
  code_reads boxes s k f (SetLocal q x e) n p rest h t r =
      code_reads boxes s k f e n p _ h.2 t
      ((f x h.1 ∙ h.0, (value_unboxed boxes s k f e n p _ h.2 t, tt)), tt, r)
  code_reads boxes s k f (SetTop q x e) n p rest h t r =
      code_reads boxes s k f e n p _ h t ((value_unboxed boxes s k f e n p _ h t, tt), tt, r)
  code_reads boxes s k f (Call q d es) n p rest h t r =
      let operands = past (BindsBoxes boxes) AnyValue s d n p _ t in
      let m = after s.boxed n d in
      code_reads boxes s k f d n p _ h.0 t
      (all_read boxes s k f es m (p + procs_in d) _ h.1 operands (
        (
          value_unboxed boxes s k f d n p _ h.0 t,
          values_unboxed boxes s k f es m (p + procs_in d) _ h.1 operands,
        ),
        tt,
        r,
      ))
  code_reads boxes s k f (Direct q xs body es) n p rest h t r =
      let m = all_after s.boxed n es in
      let params = past_all (BindsBoxes boxes) AnyValue s es n (p + procs_in body) _ t in
      operands_read boxes s k f xs es n (p + procs_in body) _ h.0 t
      (params_read boxes s q xs (all_valued s es n) m _
      (all_valued_unboxed boxes s k f xs es n (p + procs_in body) _ h.0 t) params
      (code_reads boxes s k f body (after_params s.boxed m xs (have_values es)) p _ h.1
      (past_params (BindsBoxes boxes) AnyValue s q xs (all_valued s es n) m _ params) r))
  code_reads boxes s k f (Prim q o es) n p rest h t r =
      all_read boxes s k f es n p _ h t
      (operation_reads boxes q (all_after s.boxed n es ∷ []) o (values s es n) _ (values_unboxed boxes s k f es n p _ h t) r)
  code_reads boxes s k f (Seq q es) n p rest h t r = all_read boxes s k f es n p _ h.1 t r
  code_reads boxes s k f (Fix q xs ls body) n p rest h t r =
      (tt, tt, code_reads boxes s k f body (n + length xs) (p + all_procs_in ls) _ h.2 t.2 r)
  code_reads boxes s k f (Define q x e) n p rest h t r =
      code_reads boxes s k f e n p _ h t ((value_unboxed boxes s k f e n p _ h t, tt), tt, r)

  all_read : (boxes : List ℕ) (s : Setting) (k : List ℕ) → Finds boxes s k → (es : Exprs) (n p : ℕ) (rest : Code Pos)
      → AllSuit s.boxed k es → Binding boxes (all_code s es n p rest) → Reading boxes rest
      → Reading boxes (all_code s es n p rest)
  all_read boxes s k f none n p rest h t r = r
  all_read boxes s k f (item e es) n p rest h t r =
      code_reads boxes s k f e n p _ h.0 t
      (all_read boxes s k f es (after s.boxed n e) (p + procs_in e) _ h.1 (past (BindsBoxes boxes) AnyValue s e n p _ t) r)

  operands_read : (boxes : List ℕ) (s : Setting) (k : List ℕ) → Finds boxes s k → (xs : List ℕ) (es : Exprs) (n p : ℕ)
      (rest : Code Pos) → OperandsSuit s.boxed k xs es → Binding boxes (all_code s es n p rest) → Reading boxes rest
      → Reading boxes (all_code s es n p rest)
  operands_read boxes s k f xs none n p rest h t r = r
  operands_read boxes s k f [] (item e es) n p rest h t r = absurd h
  operands_read boxes s k f (x ∷ xs) (item Hole es) n p rest h t r = operands_read boxes s k f xs es n (p + 0) _ h.1 t r
  operands_read boxes s k f (x ∷ xs) (item e es) n p rest h t r =
      code_reads boxes s k f e n p _ h.0 t
      (operands_read boxes s k f xs es (after s.boxed n e) (p + procs_in e) _ h.1
      (past (BindsBoxes boxes) AnyValue s e n p _ t) r)

-- Procedures

params_unboxed : (boxes : List ℕ) (s : Setting) (xs : List ℕ) (r : Option ℕ) (n : ℕ)
    → NoneOf boxes (numbers_from n (length xs) ++ option_list (rest_var s r (n + length xs)))
    → NoneOf boxes (numbers_from n (length (all_params xs r)))
params_unboxed boxes s xs None n h = front_each (λ y. has boxes y ≡ false) (numbers_from n (length xs)) [] h
params_unboxed boxes s xs (Some x) n h =
    subst (NoneOf boxes)
    (sym (ap (numbers_from n) (length-append xs (x ∷ [])) ∙ numbers_append n (length xs) 1)) h

boxes_found : (boxes : List ℕ) (s : Setting) (q : Pos) (xs : List ℕ) (v m : ℕ) (rest : Code Pos)
    → NoneOf boxes (numbers_from v (length xs)) → Binding boxes (make_boxes s q xs v m rest)
    → AllFound boxes s.boxed (box_places s.boxed v m xs)
boxes_found boxes s q [] v m rest g t = tt
boxes_found boxes s q (x ∷ xs) v m rest g t =
    here (s.boxed x) t (λ j t. boxes_found boxes s q xs (suc v) j rest g.1 t)
  where
    here : (b : Bool)
        → Binding boxes (if b then Then q (m ∷ []) (act.MakeBox v) (make_boxes s q xs (suc v) (suc m) rest) else make_boxes s q xs (suc v) m rest)
        → ((j : ℕ) → Binding boxes (make_boxes s q xs (suc v) j rest) → AllFound boxes s.boxed (box_places s.boxed (suc v) j xs))
        → (has boxes (if b then m else v) ≡ b) × AllFound boxes s.boxed (box_places s.boxed (suc v) (if b then suc m else m) xs)
    here true t others = (t.0.0, others (suc m) t.2)
    here false t others = (g.0, others m t)

pub past_boxes : (P : OfSteps Pos) (Q : OfValues) (s : Setting) (q : Pos) (xs : List ℕ) (v m : ℕ) (rest : Code Pos)
    → Throughout P Q (make_boxes s q xs v m rest) → Throughout P Q rest
past_boxes P Q s q [] v m rest t = t
past_boxes P Q s q (x ∷ xs) v m rest t = here (s.boxed x) t (λ j t. past_boxes P Q s q xs (suc v) j rest t)
  where
    here : (b : Bool)
        → Throughout P Q (if b then Then q (m ∷ []) (act.MakeBox v) (make_boxes s q xs (suc v) (suc m) rest) else make_boxes s q xs (suc v) m rest)
        → ((j : ℕ) → Throughout P Q (make_boxes s q xs (suc v) j rest) → Throughout P Q rest) → Throughout P Q rest
    here true t others = others (suc m) t.2
    here false t others = others m t

boxes_read : (boxes : List ℕ) (s : Setting) (q : Pos) (xs : List ℕ) (v m : ℕ) (rest : Code Pos)
    → NoneOf boxes (numbers_from v (length xs)) → Reading boxes rest → Reading boxes (make_boxes s q xs v m rest)
boxes_read boxes s q [] v m rest g r = r
boxes_read boxes s q (x ∷ xs) v m rest g r =
    here (s.boxed x) (λ j. boxes_read boxes s q xs (suc v) j rest g.1 r)
  where
    here : (b : Bool) → ((j : ℕ) → Reading boxes (make_boxes s q xs (suc v) j rest))
        → Reading boxes (if b then Then q (m ∷ []) (act.MakeBox v) (make_boxes s q xs (suc v) (suc m) rest) else make_boxes s q xs (suc v) m rest)
    here true others = ((g.0, tt), tt, others (suc m))
    here false others = others m

-- what is asked of a procedure's body
abbrev pub BodySuits : (boxed : ℕ → Bool) → (known : List ℕ) → Expr → Type 0
BodySuits b k (Lambda q xs r body) = Suits b k body
BodySuits b k e = Unit {0}

pub lambda_found : (boxes : List ℕ) (s : Setting) (k : List ℕ) (n p : ℕ) (e : Expr) → BodySuits s.boxed k e
    → Boxing boxes (written s n p e) → AllFound boxes s.boxed (lambda_places s.boxed n e)
lambda_found boxes s k n p (Lambda q xs r body) h w =
    let ys = all_params xs r in
    let m = after_boxes s.boxed (n + length ys) ys in
    let end = Ends (Some (value s body m)) in
    of_both (IsFound boxes s.boxed) (box_places s.boxed n (n + length ys) ys) _
    (boxes_found boxes s q ys n (n + length ys) (code s body m (suc p) end) (params_unboxed boxes s xs r n w.params) w.steps)
    (code_found boxes s k body m (suc p) _ h
    (past_boxes (BindsBoxes boxes) AnyValue s q ys n (n + length ys) (code s body m (suc p) end) w.steps))
lambda_found boxes s k n p e h w = tt

pub lambda_reads : (boxes : List ℕ) (s : Setting) (k : List ℕ) → Finds boxes s k → (n p : ℕ) (e : Expr) → BodySuits s.boxed k e
    → Boxing boxes (written s n p e) → Reading boxes (written s n p e).body
lambda_reads boxes s k f n p (Lambda q xs r body) h w =
    let ys = all_params xs r in
    let m = after_boxes s.boxed (n + length ys) ys in
    let end = Ends (Some (value s body m)) in
    let inner = past_boxes (BindsBoxes boxes) AnyValue s q ys n (n + length ys) (code s body m (suc p) end) w.steps in
    boxes_read boxes s q ys n (n + length ys) (code s body m (suc p) end) (params_unboxed boxes s xs r n w.params)
    (code_reads boxes s k f body m (suc p) _ h inner (value_unboxed boxes s k f body m (suc p) _ h inner, tt))
lambda_reads boxes s k f n p e h w = tt
