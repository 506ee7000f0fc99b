-- The numbers in the steps of a program name literals, procedures and top-level variables that are there.
use Rattle.std.proofs.Common.{◌≡◌, ℕ, suc, ◌+◌, ◌<◌, ◌≤◌, Bool, true, false, List, [], ◌∷◌, ◌++◌, length, map, Option, Some, None, refl, sym, ap, ◌∙◌, subst, arith, length-append}
use Rattle.std.proofs.lemmas.Bool.{ltb-true}
use Rattle.std.proofs.lemmas.List.{length-map}
use Rattle.std.proofs.lemmas.Option.{slice_get_within}
use Rattle.std.specs.Prelude.{if◌then◌else◌, is_some, nat_lt}
use Rattle.std.specs.List.{AllByRecursion, list_any, position_or_len}
use Rattle.scheme_base.specs.declared.lit.Lit.{Lit}
use Rattle.scheme_base.specs.declared.lit.Lit.TheVariants as lit
use Rattle.scheme_base.specs.declared.op.Op.{Op}
use Rattle.scheme_base.specs.declared.op.Op.TheVariants as op
use Rattle.scheme_base.specs.declared.pos.Pos.{Pos}
use Rattle.scheme_base.specs.Constants.{Constant}
use Rattle.scheme_base.specs.Constants as constant
use Rattle.scheme_base.specs.Literals.{Laid}
use Rattle.core_form.specs.declared.program.Program.{Program}
use Rattle.core_form.specs.declared.program.Var.{Var}
use Rattle.core_form.specs.declared.program.VarRef.{VarRef}
use Rattle.core_form.specs.declared.program.VarRef.TheVariants as ref
use Rattle.core_form.specs.Trees.{Tree, Trees, count}
use Rattle.core_form.specs.Trees as tree
use Rattle.core_form.specs.Valid.{AllConstants, Constants, IsRenamed, is_hole}
use Rattle.core_form.specs.Variables.{same_var}
use Rattle.named_form.specs.Code.{Code, Ends, Then, Act, Written}
use Rattle.named_form.specs.Code as act
use Rattle.named_form.specs.Valid.{AnyValue, Form, NamesIn, Throughout, ThroughoutArms}
use Rattle.box_name.specs.Told.{Expr, Hole, Const, Local, Top, Lambda, If, SetLocal, SetTop, Call, Direct, Prim, Seq, Fix, Define, Exprs, none, item, all_told, assignment, is_direct, reference, told, told_body, told_operands}
use Rattle.box_name.specs.Counts.{after, after_boxes, after_lambda, after_param, after_params, all_after, all_lambdas, all_params, all_procs_in, have_values, lambdas, procs_in}
use Rattle.box_name.specs.Cores.{form_of}
use Rattle.box_name.specs.Naming.{Setting, all_code, all_valued, bind_param, bind_params, code, found, make_boxes, operation, place, procs_of, value, values, written}
use Rattle.box_name.proofs.FitExpressions.{AllFit, AreLambdas, FormFits, FormsFit, IsFit}
use Rattle.box_name.proofs.StepsWell.{IsFitLambda, fit_of, form_lambdas_fit, of_both}
use Rattle.box_name.specs.Whole.{all_tops, all_written, form_code, is_boxed, placed_lambdas, seen, setting, tops, tops_of}

-- each literal is one of so many, and there are top-level variables where one stands
abbrev mutual
  pub NamesOf : (top_many lit_many : ℕ) → Expr → Type 0
  NamesOf t l (Const q n) = n < l
  NamesOf t l (Top q x) = 1 ≤ t
  NamesOf t l (Lambda q xs r body) = NamesOf t l body
  NamesOf t l (If q test this that) = NamesOf t l test × NamesOf t l this × NamesOf t l that
  NamesOf t l (SetLocal q x e) = NamesOf t l e
  NamesOf t l (SetTop q x e) = (1 ≤ t) × NamesOf t l e
  NamesOf t l (Call q f es) = NamesOf t l f × AllNamesOf t l es
  NamesOf t l (Direct q xs body es) = NamesOf t l body × AllNamesOf t l es
  NamesOf t l (Prim q o es) = AllNamesOf t l es
  NamesOf t l (Seq q es) = AllNamesOf t l es
  NamesOf t l (Fix q xs ls body) = AllNamesOf t l ls × NamesOf t l body
  NamesOf t l (Define q x e) = (1 ≤ t) × NamesOf t l e
  NamesOf t l e = Unit {0}

  pub AllNamesOf : (top_many lit_many : ℕ) → Exprs → Type 0
  AllNamesOf t l none = Unit {0}
  AllNamesOf t l (item e es) = NamesOf t l e × AllNamesOf t l es

-- Top-level variables: some stand in an expression where one does in a part of it

front_some : {X : Type 0} (t : ℕ) (xs ys : List X) → (1 ≤ length (xs ++ ys) → 1 ≤ t) → 1 ≤ length xs → 1 ≤ t
front_some t xs ys h k = let long = length-append xs ys in h (omega (arith, k, long))

back_some : {X : Type 0} (t : ℕ) (xs ys : List X) → (1 ≤ length (xs ++ ys) → 1 ≤ t) → 1 ≤ length ys → 1 ≤ t
back_some t xs ys h k = let long = length-append xs ys in h (omega (arith, k, long))

-- the literal of each `Const` is there
abbrev mutual
  pub LitsOf : (lit_many : ℕ) → Expr → Type 0
  LitsOf l (Const q n) = n < l
  LitsOf l (Lambda q xs r body) = LitsOf l body
  LitsOf l (If q test this that) = LitsOf l test × LitsOf l this × LitsOf l that
  LitsOf l (SetLocal q x e) = LitsOf l e
  LitsOf l (SetTop q x e) = LitsOf l e
  LitsOf l (Call q f es) = LitsOf l f × AllLitsOf l es
  LitsOf l (Direct q xs body es) = LitsOf l body × AllLitsOf l es
  LitsOf l (Prim q o es) = AllLitsOf l es
  LitsOf l (Seq q es) = AllLitsOf l es
  LitsOf l (Fix q xs ls body) = AllLitsOf l ls × LitsOf l body
  LitsOf l (Define q x e) = LitsOf l e
  LitsOf l e = Unit {0}

  pub AllLitsOf : (lit_many : ℕ) → Exprs → Type 0
  AllLitsOf l none = Unit {0}
  AllLitsOf l (item e es) = LitsOf l e × AllLitsOf l es

mutual
  names_of : (t l : ℕ) (e : Expr) → (1 ≤ length (tops e) → 1 ≤ t) → LitsOf l e → NamesOf t l e
  names_of t l (Const q n) h k = k
  names_of t l (Top q x) h k = h (omega arith)
  names_of t l (Lambda q xs r body) h k = names_of t l body h k
  names_of t l (If q test this that) h k =
      let others = back_some t (tops test) (tops this ++ tops that) h in (
        names_of t l test (front_some t (tops test) (tops this ++ tops that) h) k.0,
        names_of t l this (front_some t (tops this) (tops that) others) k.1,
        names_of t l that (back_some t (tops this) (tops that) others) k.2,
      )
  names_of t l (SetLocal q x e) h k = names_of t l e h k
  names_of t l (SetTop q x e) h k = let some = h (omega arith) in (some, names_of t l e (λ j. some) k)
  names_of t l (Call q f es) h k = (
    names_of t l f (front_some t (tops f) (all_tops es) h) k.0,
    all_names_of t l es (back_some t (tops f) (all_tops es) h) k.1,
  )
  names_of t l (Direct q xs body es) h k = (
    names_of t l body (front_some t (tops body) (all_tops es) h) k.0,
    all_names_of t l es (back_some t (tops body) (all_tops es) h) k.1,
  )
  names_of t l (Prim q o es) h k = all_names_of t l es h k
  names_of t l (Seq q es) h k = all_names_of t l es h k
  names_of t l (Fix q xs ls body) h k = (
    all_names_of t l ls (front_some t (all_tops ls) (tops body) h) k.0,
    names_of t l body (back_some t (all_tops ls) (tops body) h) k.1,
  )
  names_of t l (Define q x e) h k = let some = h (omega arith) in (some, names_of t l e (λ j. some) k)
  names_of t l e h k = tt

  all_names_of : (t l : ℕ) (es : Exprs) → (1 ≤ length (all_tops es) → 1 ≤ t) → AllLitsOf l es → AllNamesOf t l es
  all_names_of t l none h k = tt
  all_names_of t l (item e es) h k = (
    names_of t l e (front_some t (tops e) (all_tops es) h) k.0,
    all_names_of t l es (back_some t (tops e) (all_tops es) h) k.1,
  )

-- variables that are seen stay seen
seen_more : (ys xs : List Var) → length ys ≤ length (seen ys xs)
seen_more ys [] = omega arith
seen_more ys (x ∷ xs) = here (list_any (same_var x) ys) (λ zs. seen_more zs xs)
  where
    here : (b : Bool) → ((zs : List Var) → length zs ≤ length (seen zs xs))
        → length ys ≤ length (seen (if b then ys else ys ++ x ∷ []) xs)
    here true h = h ys
    here false h =
        let more = h (ys ++ x ∷ []) in
        let long = length-append ys (x ∷ []) in
        omega (arith, more, long)

some_seen : (xs : List Var) → 1 ≤ length xs → 1 ≤ length (seen [] xs)
some_seen [] h = absurd (omega (arith, h))
some_seen (x ∷ xs) h = seen_more (x ∷ []) xs

found_less : (k t : ℕ) → 1 ≤ t → found (if nat_lt k t then Some k else None) < t
found_less k t some = here (nat_lt k t) refl
  where
    here : (b : Bool) → nat_lt k t ≡ b → found (if b then Some k else None) < t
    here true e = ltb-true k t e
    here false e = some

top_less : (es : Exprs) (f : ℕ) (x : Var) → 1 ≤ length (tops_of es) → (setting es f).top x < length (tops_of es)
top_less es f x some = found_less (position_or_len (same_var x) (tops_of es)) (length (tops_of es)) some

-- Literals: a constant's first one is there

laid_there : (lits : List Lit) (i : ℕ) (c : Constant) (j : ℕ) → Laid lits i c j → i < length lits
laid_there lits i (constant.Pair a d) j h = slice_get_within lits i (lit.Pair (suc i) h.0) h.1
laid_there lits i (constant.Vector cs) j h = slice_get_within lits i (lit.Vector h.0) h.1
laid_there lits i (constant.Integer z) j h = slice_get_within lits i (lit.Integer z) h.0
laid_there lits i (constant.Boolean b) j h = slice_get_within lits i (lit.Boolean b) h.0
laid_there lits i (constant.Character byte) j h = slice_get_within lits i (lit.Char byte) h.0
laid_there lits i constant.Nil j h = slice_get_within lits i lit.Nil h.0
laid_there lits i constant.Unspecified j h = slice_get_within lits i lit.Unspecified h.0
laid_there lits i constant.Undefined j h = slice_get_within lits i lit.Undefined h.0
laid_there lits i (constant.Symbol name) j h = slice_get_within lits i (lit.Symbol name) h.0
laid_there lits i (constant.String bytes) j h = slice_get_within lits i (lit.Text bytes) h.0

reference_lits : (l : ℕ) (p : Pos) (x : VarRef) → LitsOf l (reference p x)
reference_lits l p (ref.Local n) = tt
reference_lits l p (ref.Top x) = tt

assignment_lits : (l : ℕ) (p : Pos) (x : VarRef) (e : Expr) → LitsOf l e → LitsOf l (assignment p x e)
assignment_lits l p (ref.Local n) e h = h
assignment_lits l p (ref.Top x) e h = h

either_lits : (l : ℕ) (b : Bool) (d e : Expr) → LitsOf l d → LitsOf l e → LitsOf l (if b then d else e)
either_lits l true d e h k = h
either_lits l false d e h k = k

body_lits : (l : ℕ) (lits : List Lit) (f : Tree VarRef) → LitsOf l (told lits f) → LitsOf l (told_body lits f)
body_lits l lits (tree.Lambda q xs r body) h = h
body_lits l lits f h = tt

operands_lits : (l : ℕ) (lits : List Lit) (es : Trees VarRef) → AllLitsOf l (all_told lits es)
    → AllLitsOf l (told_operands lits es)
operands_lits l lits tree.none h = tt
operands_lits l lits (tree.item e es) h =
    (either_lits l (is_hole lits e) Hole (told lits e) tt h.0, operands_lits l lits es h.1)

mutual
  told_lits : (lits : List Lit) (i : ℕ) (e : Tree VarRef) (j : ℕ) → Constants lits i e j → LitsOf (length lits) (told lits e)
  told_lits lits i (tree.Const p n) j h =
      subst (λ k. k < length lits) (sym h.0) (laid_there lits i h.1 j h.3)
  told_lits lits i (tree.Ref p x) j h = reference_lits (length lits) p x
  told_lits lits i (tree.Lambda p xs r body) j h = told_lits lits i body j h
  told_lits lits i (tree.If p test this that) j h =
      (told_lits lits i test h.0 h.2, told_lits lits h.0 this h.1 h.3, told_lits lits h.1 that j h.4)
  told_lits lits i (tree.Set p x e) j h = assignment_lits (length lits) p x (told lits e) (told_lits lits i e j h)
  told_lits lits i (tree.Call p f es) j h =
      let operator = told_lits lits i f h.0 h.1 in
      let operands = all_told_lits lits h.0 es j h.2 in
      either_lits (length lits) (is_direct f (count es)) _ _
      (body_lits (length lits) lits f operator, operands_lits (length lits) lits es operands) (operator, operands)
  told_lits lits i (tree.Prim p o es) j h = all_told_lits lits i es j h
  told_lits lits i (tree.Seq p es) j h = all_told_lits lits i es j h
  told_lits lits i (tree.Fix p xs ls body) j h =
      (all_told_lits lits i ls h.0 h.1, told_lits lits h.0 body j h.2)
  told_lits lits i (tree.Define p x e) j h = told_lits lits i e j h

  all_told_lits : (lits : List Lit) (i : ℕ) (es : Trees VarRef) (j : ℕ) → AllConstants lits i es j
      → AllLitsOf (length lits) (all_told lits es)
  all_told_lits lits i tree.none j h = tt
  all_told_lits lits i (tree.item e es) j h = (told_lits lits i e h.0 h.1, all_told_lits lits h.0 es j h.2)

-- Steps

abbrev Fine : Form → Code Pos → Type 0
Fine g c = Throughout (NamesIn g) AnyValue c

-- the top-level variables of a setting are there, if there are any
abbrev TopsFit : Form → Setting → Type 0
TopsFit g s = (x : Var) → 1 ≤ g.tops → s.top x < g.tops

operation_names : (g : Form) (q : Pos) (vars : List ℕ) (o : Op) (ys : List ℕ)
    → NamesIn g q vars (operation o ys) × ThroughoutArms (NamesIn g) AnyValue (operation o ys)
operation_names g q vars op.Apply [] = (tt, tt)
operation_names g q vars op.Apply (x ∷ []) = (tt, tt)
operation_names g q vars op.Apply (x ∷ y ∷ []) = (tt, tt)
operation_names g q vars op.Apply (x ∷ y ∷ z ∷ zs) = (tt, tt)
operation_names g q vars op.CallCC [] = (tt, tt)
operation_names g q vars op.CallCC (x ∷ []) = (tt, tt)
operation_names g q vars op.CallCC (x ∷ y ∷ ys) = (tt, tt)
operation_names g q vars o ys = (tt, tt)

either_fine : (g : Form) (b : Bool) (c d : Code Pos) → Fine g c → Fine g d → Fine g (if b then c else d)
either_fine g true c d h k = h
either_fine g false c d h k = k

param_names : (g : Form) (s : Setting) (q : Pos) (x n : ℕ) (v : Option ℕ) (rest : Code Pos) → Fine g rest
    → Fine g (bind_param s q x n v rest)
param_names g s q x n None rest r = (tt, tt, r)
param_names g s q x n (Some v) rest r =
    (tt, tt, either_fine g (s.boxed x) (Then q (suc n ∷ []) (act.MakeBox n) rest) rest (tt, tt, r) r)

params_names : (g : Form) (s : Setting) (q : Pos) (xs : List ℕ) (vs : List (Option ℕ)) (n : ℕ) (rest : Code Pos)
    → Fine g rest → Fine g (bind_params s q xs vs n rest)
params_names g s q [] vs n rest r = r
params_names g s q (x ∷ xs) [] n rest r = r
params_names g s q (x ∷ xs) (v ∷ vs) n rest r =
    param_names g s q x n v _ (params_names g s q xs vs (after_param s.boxed n x (is_some v)) rest r)

procs_there : (most p : ℕ) (ls : Exprs) → p + all_procs_in ls ≤ most → AreLambdas ls
    → AllByRecursion (λ q. q < most) (procs_of p ls)
procs_there most p none h k = tt
procs_there most p (item (Lambda q xs r body) ls) h k =
    (omega (arith, h), procs_there most (p + suc (procs_in body)) ls (omega (arith, h)) k)
procs_there most p (item l ls) h k = absurd k

mutual
  code_names : (g : Form) (s : Setting) → TopsFit g s → (e : Expr) → IsFit e → NamesOf g.tops (length g.lits) e → (n p : ℕ)
      → p + procs_in e ≤ length g.procs → (rest : Code Pos) → Fine g rest → Fine g (code s e n p rest)
  code_names g s t Hole fit names n p few rest r = r
  code_names g s t (Const q l) fit names n p few rest r = (names, tt, r)
  code_names g s t (Local q x) fit names n p few rest r =
      either_fine g (s.boxed x) (Then q (n ∷ []) (act.Unbox (place s.places x) (s.hole x)) rest) rest (tt, tt, r) r
  code_names g s t (Top q x) fit names n p few rest r = (t x names, tt, r)
  code_names g s t (Lambda q xs rest_param body) fit names n p few rest r = (omega (arith, few), tt, r)
  code_names g s t (If q test this that) fit names n p few rest r =
      let k = after s.boxed n test in
      let j = after s.boxed (suc k) this in
      let p1 = p + procs_in test in
      code_names g s t test fit.1 names.0 n p (omega (arith, few)) _ (
        tt,
        (
          code_names g s t this fit.2 names.1 (suc k) p1 (omega (arith, few)) (Ends (Some (value s this (suc k)))) tt,
          code_names g s t that fit.3 names.2 j (p1 + procs_in this) (omega (arith, few)) (Ends (Some (value s that j))) tt,
        ),
        r,
      )
  code_names g s t (SetLocal q x e) fit names n p few rest r =
      code_names g s t e fit.1 names n p few _ (tt, tt, r)
  code_names g s t (SetTop q x e) fit names n p few rest r =
      code_names g s t e fit.1 names.1 n p few _ (t x names.0, tt, r)
  code_names g s t (Call q f es) fit names n p few rest r =
      let k = after s.boxed n f in
      code_names g s t f fit.1 names.0 n p (omega (arith, few)) _
      (all_names g s t es fit.2 names.1 k (p + procs_in f) (omega (arith, few)) _ (tt, tt, r))
  code_names g s t (Direct q xs body es) fit names n p few rest r =
      let k = all_after s.boxed n es in
      let j = after_params s.boxed k xs (have_values es) in
      let inner = code s body j p rest in
      all_names g s t es fit.2 names.1 n (p + procs_in body) (omega (arith, few)) _
      (params_names g s q xs (all_valued s es n) k inner
      (code_names g s t body fit.1 names.0 j p (omega (arith, few)) rest r))
  code_names g s t (Prim q o es) fit names n p few rest r =
      let k = all_after s.boxed n es in
      let there = operation_names g q (k ∷ []) o (values s es n) in
      all_names g s t es fit.2 names n p few (Then q (k ∷ []) (operation o (values s es n)) rest) (there.0, there.1, r)
  code_names g s t (Seq q es) fit names n p few rest r = all_names g s t es fit.1 names n p few rest r
  code_names g s t (Fix q xs ls body) fit names n p few rest r = (
    procs_there (length g.procs) p ls (omega (arith, few)) fit.4,
    tt,
    code_names g s t body fit.3 names.1 (n + length xs) (p + all_procs_in ls) (omega (arith, few)) rest r,
  )
  code_names g s t (Define q x e) fit names n p few rest r = absurd fit

  all_names : (g : Form) (s : Setting) → TopsFit g s → (es : Exprs) → AllFit es → AllNamesOf g.tops (length g.lits) es
      → (n p : ℕ) → p + all_procs_in es ≤ length g.procs → (rest : Code Pos) → Fine g rest
      → Fine g (all_code s es n p rest)
  all_names g s t none fit names n p few rest r = r
  all_names g s t (item e es) fit names n p few rest r =
      code_names g s t e fit.0 names.0 n p (omega (arith, few)) _
      (all_names g s t es fit.1 names.1 (after s.boxed n e) (p + procs_in e) (omega (arith, few)) rest r)

-- Procedures: each is followed by those in its body

two : {X : Type 0} (xs ys : List X) (m n : ℕ) → length xs ≡ m → length ys ≡ n → length (xs ++ ys) ≡ m + n
two xs ys m n h k = let long = length-append xs ys in omega (arith, h, k, long)

mutual
  pub lambdas_many : (e : Expr) → length (lambdas e) ≡ procs_in e
  lambdas_many (Lambda q xs r body) = ap suc (lambdas_many body)
  lambdas_many (If q test this that) =
      let all = length-append (lambdas test) (lambdas this ++ lambdas that) in
      let arms = length-append (lambdas this) (lambdas that) in
      let a = lambdas_many test in
      let b = lambdas_many this in
      let c = lambdas_many that in
      omega (arith, all, arms, a, b, c)
  lambdas_many (SetLocal q x e) = lambdas_many e
  lambdas_many (SetTop q x e) = lambdas_many e
  lambdas_many (Call q f es) = two (lambdas f) (all_lambdas es) _ _ (lambdas_many f) (all_lambdas_many es)
  lambdas_many (Direct q xs body es) = two (lambdas body) (all_lambdas es) _ _ (lambdas_many body) (all_lambdas_many es)
  lambdas_many (Prim q o es) = all_lambdas_many es
  lambdas_many (Seq q es) = all_lambdas_many es
  lambdas_many (Fix q xs ls body) = two (all_lambdas ls) (lambdas body) _ _ (all_lambdas_many ls) (lambdas_many body)
  lambdas_many (Define q x e) = lambdas_many e
  lambdas_many e = refl

  pub all_lambdas_many : (es : Exprs) → length (all_lambdas es) ≡ all_procs_in es
  all_lambdas_many none = refl
  all_lambdas_many (item e es) = two (lambdas e) (all_lambdas es) _ _ (lambdas_many e) (all_lambdas_many es)

-- the procedures from p on, with those in their bodies, are at most so many
abbrev pub Room : (most p : ℕ) → List Expr → Type 0
Room most p [] = Unit {0}
Room most p (e ∷ es) = (p + procs_in e ≤ most) × Room most (suc p) es

room_both : (most p : ℕ) (xs ys : List Expr) → Room most p xs → Room most (p + length xs) ys → Room most p (xs ++ ys)
room_both most p [] ys h k = let same : p + 0 ≡ p = omega arith in subst (λ n. Room most n ys) same k
room_both most p (x ∷ xs) ys h k =
    let next : p + suc (length xs) ≡ suc p + length xs = omega arith in
    (h.0, room_both most (suc p) xs ys h.1 (subst (λ n. Room most n ys) next k))

mutual
  lambdas_room : (most p : ℕ) (e : Expr) → p + procs_in e ≤ most → Room most p (lambdas e)
  lambdas_room most p (Lambda q xs r body) h = (h, lambdas_room most (suc p) body (omega (arith, h)))
  lambdas_room most p (If q test this that) h =
      let a = lambdas_many test in
      let b = lambdas_many this in
      room_both most p (lambdas test) (lambdas this ++ lambdas that) (lambdas_room most p test (omega (arith, h)))
      (room_both most (p + length (lambdas test)) (lambdas this) (lambdas that)
      (lambdas_room most (p + length (lambdas test)) this (omega (arith, h, a)))
      (lambdas_room most (p + length (lambdas test) + length (lambdas this)) that (omega (arith, h, a, b))))
  lambdas_room most p (SetLocal q x e) h = lambdas_room most p e h
  lambdas_room most p (SetTop q x e) h = lambdas_room most p e h
  lambdas_room most p (Call q f es) h =
      let a = lambdas_many f in
      room_both most p (lambdas f) (all_lambdas es) (lambdas_room most p f (omega (arith, h)))
      (all_lambdas_room most (p + length (lambdas f)) es (omega (arith, h, a)))
  lambdas_room most p (Direct q xs body es) h =
      let a = lambdas_many body in
      room_both most p (lambdas body) (all_lambdas es) (lambdas_room most p body (omega (arith, h)))
      (all_lambdas_room most (p + length (lambdas body)) es (omega (arith, h, a)))
  lambdas_room most p (Prim q o es) h = all_lambdas_room most p es h
  lambdas_room most p (Seq q es) h = all_lambdas_room most p es h
  lambdas_room most p (Fix q xs ls body) h =
      let a = all_lambdas_many ls in
      room_both most p (all_lambdas ls) (lambdas body) (all_lambdas_room most p ls (omega (arith, h)))
      (lambdas_room most (p + length (all_lambdas ls)) body (omega (arith, h, a)))
  lambdas_room most p (Define q x e) h = lambdas_room most p e h
  lambdas_room most p e h = tt

  all_lambdas_room : (most p : ℕ) (es : Exprs) → p + all_procs_in es ≤ most → Room most p (all_lambdas es)
  all_lambdas_room most p none h = tt
  all_lambdas_room most p (item e es) h =
      let a = lambdas_many e in
      room_both most p (lambdas e) (all_lambdas es) (lambdas_room most p e (omega (arith, h)))
      (all_lambdas_room most (p + length (lambdas e)) es (omega (arith, h, a)))

mutual
  lambdas_named : (t l : ℕ) (e : Expr) → NamesOf t l e → AllByRecursion (NamesOf t l) (lambdas e)
  lambdas_named t l (Lambda q xs r body) h = (h, lambdas_named t l body h)
  lambdas_named t l (If q test this that) h =
      of_both (NamesOf t l) (lambdas test) (lambdas this ++ lambdas that) (lambdas_named t l test h.0)
      (of_both (NamesOf t l) (lambdas this) (lambdas that) (lambdas_named t l this h.1) (lambdas_named t l that h.2))
  lambdas_named t l (SetLocal q x e) h = lambdas_named t l e h
  lambdas_named t l (SetTop q x e) h = lambdas_named t l e h.1
  lambdas_named t l (Call q f es) h =
      of_both (NamesOf t l) (lambdas f) (all_lambdas es) (lambdas_named t l f h.0) (all_lambdas_named t l es h.1)
  lambdas_named t l (Direct q xs body es) h =
      of_both (NamesOf t l) (lambdas body) (all_lambdas es) (lambdas_named t l body h.0) (all_lambdas_named t l es h.1)
  lambdas_named t l (Prim q o es) h = all_lambdas_named t l es h
  lambdas_named t l (Seq q es) h = all_lambdas_named t l es h
  lambdas_named t l (Fix q xs ls body) h =
      of_both (NamesOf t l) (all_lambdas ls) (lambdas body) (all_lambdas_named t l ls h.0) (lambdas_named t l body h.1)
  lambdas_named t l (Define q x e) h = lambdas_named t l e h.1
  lambdas_named t l e h = tt

  all_lambdas_named : (t l : ℕ) (es : Exprs) → AllNamesOf t l es → AllByRecursion (NamesOf t l) (all_lambdas es)
  all_lambdas_named t l none h = tt
  all_lambdas_named t l (item e es) h =
      of_both (NamesOf t l) (lambdas e) (all_lambdas es) (lambdas_named t l e h.0) (all_lambdas_named t l es h.1)

boxes_names : (g : Form) (s : Setting) (q : Pos) (xs : List ℕ) (v k : ℕ) (rest : Code Pos) → Fine g rest
    → Fine g (make_boxes s q xs v k rest)
boxes_names g s q [] v k rest r = r
boxes_names g s q (x ∷ xs) v k rest r =
    either_fine g (s.boxed x) (Then q (k ∷ []) (act.MakeBox v) (make_boxes s q xs (suc v) (suc k) rest))
    (make_boxes s q xs (suc v) k rest) (tt, tt, boxes_names g s q xs (suc v) (suc k) rest r)
    (boxes_names g s q xs (suc v) k rest r)

lambda_names : (g : Form) (s : Setting) → TopsFit g s → (n p : ℕ) (e : Expr) → IsFitLambda e
    → NamesOf g.tops (length g.lits) e → p + procs_in e ≤ length g.procs → Fine g (written s n p e).body
lambda_names g s t n p (Lambda q xs r body) fit names few =
    let ys = all_params xs r in
    let k = after_boxes s.boxed (n + length ys) ys in
    let end = Ends (Some (value s body k)) in
    boxes_names g s q ys n (n + length ys) (code s body k (suc p) end)
    (code_names g s t body fit.1 names k (suc p) (omega (arith, few)) end tt)
lambda_names g s t n p e fit names few = absurd fit

-- Programs

-- what is known of the lambda expressions that become the procedures from p on
abbrev AllKnown : Form → (p : ℕ) → List (ℕ × Expr) → Type 0
AllKnown g p [] = Unit {0}
AllKnown g p (l ∷ ls) =
    IsFitLambda l.1 × NamesOf g.tops (length g.lits) l.1 × (p + procs_in l.1 ≤ length g.procs) × AllKnown g (suc p) ls

known_both : (g : Form) (p : ℕ) (xs ys : List (ℕ × Expr)) → AllKnown g p xs → AllKnown g (p + length xs) ys
    → AllKnown g p (xs ++ ys)
known_both g p [] ys h k = let same : p + 0 ≡ p = omega arith in subst (λ n. AllKnown g n ys) same k
known_both g p (x ∷ xs) ys h k =
    let next : p + suc (length xs) ≡ suc p + length xs = omega arith in
    (h.0, h.1, h.2, known_both g (suc p) xs ys h.3 (subst (λ n. AllKnown g n ys) next k))

known_each : (g : Form) (f p : ℕ) (es : List Expr) → AllByRecursion IsFitLambda es
    → AllByRecursion (NamesOf g.tops (length g.lits)) es → Room (length g.procs) p es
    → AllKnown g p (map (λ l. (f, l)) es)
known_each g f p [] fit names room = tt
known_each g f p (e ∷ es) fit names room =
    (fit.0, names.0, room.0, known_each g f (suc p) es fit.1 names.1 room.1)

known : (g : Form) (f p : ℕ) (es : Exprs) → FormsFit es → AllNamesOf g.tops (length g.lits) es
    → p + all_procs_in es ≤ length g.procs → AllKnown g p (placed_lambdas f es)
known g f p none fit names few = tt
known g f p (item e es) fit names few =
    let many = length-map {B = ℕ × Expr} (lambdas e) (λ l. (f, l)) in
    let all = lambdas_many e in
    known_both g p (map (λ l. (f, l)) (lambdas e)) (placed_lambdas (suc f) es)
    (known_each g f p (lambdas e) (form_lambdas_fit e fit.0) (lambdas_named g.tops (length g.lits) e names.0)
    (lambdas_room (length g.procs) p e (omega (arith, few))))
    (known g (suc f) (p + length (map (λ l. (f, l)) (lambdas e))) es fit.1 names.1 (omega (arith, few, many, all)))

lambdas_names : (g : Form) (all : Exprs) → ((f : ℕ) → TopsFit g (setting all f)) → (n p : ℕ) (ls : List (ℕ × Expr))
    → AllKnown g p ls → AllByRecursion (λ w. Fine g w.body) (all_written all n p ls)
lambdas_names g all t n p [] h = tt
lambdas_names g all t n p (l ∷ ls) h = (
  lambda_names g (setting all l.0) (t l.0) n p l.1 h.0 h.1 h.2,
  lambdas_names g all t (after_lambda (is_boxed all) n l.1) (suc p) ls h.3,
)

form_names : (g : Form) (s : Setting) → TopsFit g s → (e : Expr) → FormFits e → NamesOf g.tops (length g.lits) e → (n p : ℕ)
    → p + procs_in e ≤ length g.procs → (rest : Code Pos) → Fine g rest → Fine g (code s e n p rest)
form_names g s t (Define q x e) fit names n p few rest r =
    code_names g s t e fit.1 names.1 n p few _ (t x names.0, tt, r)
form_names g s t e fit names n p few rest r = code_names g s t e fit names n p few rest r

forms_names : (g : Form) (all : Exprs) → ((f : ℕ) → TopsFit g (setting all f)) → (f n p : ℕ) (es : Exprs) → FormsFit es
    → AllNamesOf g.tops (length g.lits) es → p + all_procs_in es ≤ length g.procs → Fine g (form_code all f n p es)
forms_names g all t f n p none fit names few = tt
forms_names g all t f n p (item e es) fit names few =
    form_names g (setting all f) (t f) e fit.0 names.0 n p (omega (arith, few)) _
    (forms_names g all t (suc f) (after (is_boxed all) n e) (p + procs_in e) es fit.1 names.1 (omega (arith, few)))

pub written_many : (all : Exprs) (n p : ℕ) (ls : List (ℕ × Expr)) → length (all_written all n p ls) ≡ length ls
written_many all n p [] = refl
written_many all n p (l ∷ ls) = ap suc (written_many all (after_lambda (is_boxed all) n l.1) (suc p) ls)

pub placed_many : (f : ℕ) (es : Exprs) → length (placed_lambdas f es) ≡ all_procs_in es
placed_many f none = refl
placed_many f (item e es) =
    two (map (λ l. (f, l)) (lambdas e)) (placed_lambdas (suc f) es) _ _
    (length-map {B = ℕ × Expr} (lambdas e) (λ l. (f, l)) ∙ lambdas_many e) (placed_many (suc f) es)

pub each_names : (core : Program VarRef) (forms : Trees VarRef) → IsRenamed core forms
    → AllByRecursion (λ w. Throughout (NamesIn (form_of core forms)) AnyValue w.body) (form_of core forms).procs
each_names core forms h =
    let g = form_of core forms in
    let es = all_told core.lits forms in
    let k = all_after (is_boxed es) 0 es in
    let fit = fit_of core forms h in
    let names =
    all_names_of (length (tops_of es)) (length core.lits) es (some_seen (all_tops es))
    (all_told_lits core.lits 0 forms (length core.lits) h.valid.constants) in
    let tops = λ (f : ℕ) (x : Var) (some : 1 ≤ length (tops_of es)). top_less es f x some in
    let long = written_many es k 1 (placed_lambdas 0 es) in
    let placed = placed_many 0 es in
    let few : 1 + all_procs_in es ≤ suc (length (all_written es k 1 (placed_lambdas 0 es))) = omega (arith, long, placed) in
    (forms_names g es tops 0 0 1 es fit names few, lambdas_names g es tops k 1 (placed_lambdas 0 es) (known g 0 1 es fit names few))
