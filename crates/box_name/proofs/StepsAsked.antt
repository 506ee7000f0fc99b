-- What is asked of each step of a block holds of the steps that an expression becomes, before the rest of a block.
use Rattle.std.proofs.Common.{◌≡◌, ℕ, suc, ◌+◌, Bool, true, false, List, [], ◌∷◌, length, Option, Some, None, refl, sym, ap, ◌∙◌, arith}
use Rattle.std.specs.Prelude.{if◌then◌else◌, is_some}
use Rattle.std.specs.List.{AllByRecursion}
use Rattle.scheme_base.specs.declared.pos.Pos.{Pos}
use Rattle.scheme_base.specs.declared.op.Op.{Op}
use Rattle.scheme_base.specs.declared.op.Op.TheVariants as op
use Rattle.scheme_base.specs.Operands.{operands_of}
use Rattle.scheme_base.specs.Positions.{IsPosition}
use Rattle.named_form.specs.Code.{Code, Ends, Then, Act, Written}
use Rattle.named_form.specs.Code as act
use Rattle.named_form.specs.Valid.{OfSteps, OfValues, Throughout, ThroughoutArms, numbers_from}
use Rattle.named_form.proofs.Kept.{length_numbers}
use Rattle.box_name.specs.Told.{Expr, Hole, Const, Local, Top, Lambda, If, SetLocal, SetTop, Call, Direct, Prim, Seq, Fix, Define, Exprs, none, item}
use Rattle.box_name.specs.Counts.{after, all_after, after_boxes, after_param, after_params, all_params, all_procs_in, have_values, procs_in}
use Rattle.box_name.specs.Naming.{Setting, all_code, all_valued, bind_param, bind_params, code, make_boxes, operation, place, procs_of, value, values, written}
use Rattle.box_name.proofs.FitExpressions.{AllFit, IsFit, many}

-- a step that binds one variable and is no definition, with its number of operands
abbrev pub IsPlain : Act Pos → Type 0
IsPlain (act.Prim op.Apply ys) = ⊥
IsPlain (act.Prim op.CallCC ys) = ⊥
IsPlain (act.Prim o ys) = length ys ≡ length (operands_of o)
IsPlain (act.Fix qs) = ⊥
IsPlain (act.TopDefine top y) = ⊥
IsPlain a = Unit {0}

-- what is asked holds of each such step, and of closures that know each other
pub record Asked (P : OfSteps Pos) (Q : OfValues) : Type 0 where
  pub one : (q : Pos) (n : ℕ) (a : Act Pos) → IsPosition q → IsPlain a → P q (n ∷ []) a
  pub fix : (q : Pos) (vars procs : List ℕ) → IsPosition q → length vars ≡ length procs → P q vars (act.Fix procs)
  pub there : (x : ℕ) → Q (Some x)

-- what is asked of a block holds with a step before it for which it is asked
abbrev pub Before : OfSteps Pos → OfValues → (Code Pos → Type 0) → Type 0
Before P Q R =
    (q : Pos) (vars : List ℕ) (a : Act Pos) (rest : Code Pos) → P q vars a → ThroughoutArms P Q a → R rest
    → R (Then q vars a rest)

pub before_each : (P : OfSteps Pos) (Q : OfValues) → Before P Q (λ c. Throughout P Q c)
before_each P Q q vars a rest h k l = (h, k, l)

operation_plain : (o : Op) (ys : List ℕ) → length ys ≡ length (operands_of o) → IsPlain (operation o ys)
operation_plain op.Apply [] h = absurd (omega (arith, h))
operation_plain op.Apply (x ∷ []) h = absurd (omega (arith, h))
operation_plain op.Apply (x ∷ y ∷ []) h = tt
operation_plain op.Apply (x ∷ y ∷ z ∷ zs) h = absurd (omega (arith, h))
operation_plain op.CallCC [] h = absurd (omega (arith, h))
operation_plain op.CallCC (x ∷ []) h = tt
operation_plain op.CallCC (x ∷ y ∷ ys) h = absurd (omega (arith, h))
operation_plain o ys h = h

operation_arms : (P : OfSteps Pos) (Q : OfValues) (o : Op) (ys : List ℕ) → ThroughoutArms P Q (operation o ys)
operation_arms P Q op.Apply [] = tt
operation_arms P Q op.Apply (x ∷ []) = tt
operation_arms P Q op.Apply (x ∷ y ∷ []) = tt
operation_arms P Q op.Apply (x ∷ y ∷ z ∷ zs) = tt
operation_arms P Q op.CallCC [] = tt
operation_arms P Q op.CallCC (x ∷ []) = tt
operation_arms P Q op.CallCC (x ∷ y ∷ ys) = tt
operation_arms P Q o ys = tt

values_many : (s : Setting) (es : Exprs) (n : ℕ) → length (values s es n) ≡ many es
values_many s none n = refl
values_many s (item e es) n = ap suc (values_many s es (after s.boxed n e))

procs_many : (p : ℕ) (ls : Exprs) → length (procs_of p ls) ≡ many ls
procs_many p none = refl
procs_many p (item l ls) = ap suc (procs_many (p + procs_in l) ls)

either : (R : Code Pos → Type 0) (b : Bool) (c d : Code Pos) → R c → R d → R (if b then c else d)
either R true c d h k = h
either R false c d h k = k

bind_asked : (P : OfSteps Pos) (Q : OfValues) → Asked P Q → (R : Code Pos → Type 0) → Before P Q R → (s : Setting) (q : Pos)
    → IsPosition q → (x n : ℕ) (v : Option ℕ) (rest : Code Pos) → R rest → R (bind_param s q x n v rest)
bind_asked P Q h R k s q at x n None rest r = k q (n ∷ []) act.MakeHole rest (h.one q n act.MakeHole at tt) tt r
bind_asked P Q h R k s q at x n (Some v) rest r =
    k q (n ∷ []) (act.Copy v) _ (h.one q n (act.Copy v) at tt) tt
    (either R (s.boxed x) (Then q (suc n ∷ []) (act.MakeBox n) rest) rest
    (k q (suc n ∷ []) (act.MakeBox n) rest (h.one q (suc n) (act.MakeBox n) at tt) tt r)
    r)

params_asked : (P : OfSteps Pos) (Q : OfValues) → Asked P Q → (R : Code Pos → Type 0) → Before P Q R → (s : Setting)
    (q : Pos) → IsPosition q → (xs : List ℕ) (vs : List (Option ℕ)) (m : ℕ) (rest : Code Pos) → R rest
    → R (bind_params s q xs vs m rest)
params_asked P Q h R k s q at [] vs m rest r = r
params_asked P Q h R k s q at (x ∷ xs) [] m rest r = r
params_asked P Q h R k s q at (x ∷ xs) (v ∷ vs) m rest r =
    bind_asked P Q h R k s q at x m v _ (params_asked P Q h R k s q at xs vs (after_param s.boxed m x (is_some v)) rest r)

mutual
  pub code_asked : (P : OfSteps Pos) (Q : OfValues) → Asked P Q → (s : Setting) (e : Expr) → IsFit e
      → (R : Code Pos → Type 0) → Before P Q R → (n p : ℕ) (rest : Code Pos) → R rest → R (code s e n p rest)
  code_asked P Q h s Hole fit R k n p rest r = r
  code_asked P Q h s (Const q l) fit R k n p rest r =
      k q (n ∷ []) (act.Const l) rest (h.one q n (act.Const l) fit tt) tt r
  code_asked P Q h s (Local q x) fit R k n p rest r =
      let unbox = act.Unbox (place s.places x) (s.hole x) in
      either R (s.boxed x) (Then q (n ∷ []) unbox rest) rest (k q (n ∷ []) unbox rest (h.one q n unbox fit tt) tt r) r
  code_asked P Q h s (Top q x) fit R k n p rest r =
      let get = act.TopGet (s.top x) (s.checked x) in k q (n ∷ []) get rest (h.one q n get fit tt) tt r
  code_asked P Q h s (Lambda q xs rest_param body) fit R k n p rest r =
      k q (n ∷ []) (act.Closure p) rest (h.one q n (act.Closure p) fit.0 tt) tt r
  code_asked P Q h s (If q test this that) fit R k n p rest r =
      let m = after s.boxed n test in
      let j = after s.boxed (suc m) this in
      let p1 = p + procs_in test in
      let first = Ends (Some (value s this (suc m))) in
      let second = Ends (Some (value s that j)) in
      let choice = act.If (value s test n) (code s this (suc m) p1 first) (code s that j (p1 + procs_in this) second) in
      code_asked P Q h s test fit.1 R k n p (Then q (m ∷ []) choice rest)
      (k q (m ∷ []) choice rest (h.one q m choice fit.0 tt) (
        code_asked P Q h s this fit.2 (λ c. Throughout P Q c) (before_each P Q) (suc m) p1 first
            (h.there (value s this (suc m))),
        code_asked P Q h s that fit.3 (λ c. Throughout P Q c) (before_each P Q) j
            (p1 + procs_in this) second (h.there (value s that j)),
      )
      r)
  code_asked P Q h s (SetLocal q x e) fit R k n p rest r =
      let m = after s.boxed n e in
      let set = act.SetBox (place s.places x) (value s e n) in
      code_asked P Q h s e fit.1 R k n p (Then q (m ∷ []) set rest)
      (k q (m ∷ []) set rest (h.one q m set fit.0 tt) tt r)
  code_asked P Q h s (SetTop q x e) fit R k n p rest r =
      let m = after s.boxed n e in
      let set = act.TopSet (s.top x) (value s e n) (s.checked x) in
      code_asked P Q h s e fit.1 R k n p (Then q (m ∷ []) set rest)
      (k q (m ∷ []) set rest (h.one q m set fit.0 tt) tt r)
  code_asked P Q h s (Call q f es) fit R k n p rest r =
      let m = after s.boxed n f in
      let j = all_after s.boxed m es in
      let call = act.Call (value s f n) (values s es m) in
      code_asked P Q h s f fit.1 R k n p (all_code s es m (p + procs_in f) (Then q (j ∷ []) call rest))
      (all_asked P Q h s es fit.2 R k m (p + procs_in f) (Then q (j ∷ []) call rest)
      (k q (j ∷ []) call rest (h.one q j call fit.0 tt) tt r))
  code_asked P Q h s (Direct q xs body es) fit R k n p rest r =
      let m = all_after s.boxed n es in
      let j = after_params s.boxed m xs (have_values es) in
      let inner = code s body j p rest in
      all_asked P Q h s es fit.2 R k n (p + procs_in body) (bind_params s q xs (all_valued s es n) m inner)
      (params_asked P Q h R k s q fit.0 xs (all_valued s es n) m inner (code_asked P Q h s body fit.1 R k j p rest r))
  code_asked P Q h s (Prim q o es) fit R k n p rest r =
      let m = all_after s.boxed n es in
      let a = operation o (values s es n) in
      all_asked P Q h s es fit.2 R k n p (Then q (m ∷ []) a rest)
      (k q (m ∷ []) a rest (h.one q m a fit.0 (operation_plain o (values s es n) (values_many s es n ∙ fit.1)))
      (operation_arms P Q o (values s es n)) r)
  code_asked P Q h s (Seq q es) fit R k n p rest r = all_asked P Q h s es fit.1 R k n p rest r
  code_asked P Q h s (Fix q xs ls body) fit R k n p rest r =
      let inner = code s body (n + length xs) (p + all_procs_in ls) rest in
      k q (numbers_from n (length xs)) (act.Fix (procs_of p ls)) inner
      (h.fix q (numbers_from n (length xs)) (procs_of p ls) fit.0
      (length_numbers n (length xs) ∙ (fit.1 ∙ sym (procs_many p ls))))
      tt
      (code_asked P Q h s body fit.3 R k (n + length xs) (p + all_procs_in ls) rest r)
  code_asked P Q h s (Define q x e) fit R k n p rest r = absurd fit

  pub all_asked : (P : OfSteps Pos) (Q : OfValues) → Asked P Q → (s : Setting) (es : Exprs) → AllFit es
      → (R : Code Pos → Type 0) → Before P Q R → (n p : ℕ) (rest : Code Pos) → R rest → R (all_code s es n p rest)
  all_asked P Q h s none fit R k n p rest r = r
  all_asked P Q h s (item e es) fit R k n p rest r =
      code_asked P Q h s e fit.0 R k n p (all_code s es (after s.boxed n e) (p + procs_in e) rest)
      (all_asked P Q h s es fit.1 R k (after s.boxed n e) (p + procs_in e) rest r)

-- Procedures

abbrev pub AllFitIn : List Expr → Type 0
AllFitIn es = AllByRecursion IsFit es

boxes_asked : (P : OfSteps Pos) (Q : OfValues) → Asked P Q → (s : Setting) (q : Pos) → IsPosition q → (xs : List ℕ)
    (v m : ℕ) (rest : Code Pos) → Throughout P Q rest → Throughout P Q (make_boxes s q xs v m rest)
boxes_asked P Q h s q at [] v m rest r = r
boxes_asked P Q h s q at (x ∷ xs) v m rest r =
    either (λ c. Throughout P Q c) (s.boxed x) (Then q (m ∷ []) (act.MakeBox v) (make_boxes s q xs (suc v) (suc m) rest))
    (make_boxes s q xs (suc v) m rest)
    (h.one q m (act.MakeBox v) at tt, tt, boxes_asked P Q h s q at xs (suc v) (suc m) rest r)
    (boxes_asked P Q h s q at xs (suc v) m rest r)

pub written_asked : (P : OfSteps Pos) (Q : OfValues) → Asked P Q → (s : Setting) (n p : ℕ) (q : Pos) (xs : List ℕ)
    (r : Option ℕ) (body : Expr) → IsFit (Lambda q xs r body) → Throughout P Q (written s n p (Lambda q xs r body)).body
written_asked P Q h s n p q xs r body fit =
    let ys = all_params xs r in
    let m = after_boxes s.boxed (n + length ys) ys in
    let end = Ends (Some (value s body m)) in
    boxes_asked P Q h s q fit.0 ys n (n + length ys) (code s body m (suc p) end)
    (code_asked P Q h s body fit.1 (λ c. Throughout P Q c) (before_each P Q) m (suc p) end (h.there (value s body m)))
