-- The literals of a program: each constant is named by one step, and the undefined value by none.
use Rattle.std.proofs.Common.{◌≡◌, ℕ, suc, ◌+◌, ◌<◌, ◌≤◌, Bool, true, false, List, [], ◌∷◌, ◌++◌, length, Option, Some, None, inl, inr, ◌⊎◌, refl, sym, ap, ◌∙◌, subst, arith, append_assoc, append-nil, eq-eqb, ne_eqb}
use Rattle.std.proofs.lemmas.List.Elements.{filter-append}
use Rattle.std.proofs.lemmas.List.Sorted.{IsPermutation-append, IsPermutation-append_comm, IsPermutation-append_left, IsPermutation-refl, IsPermutation-sym, IsPermutation-trans, list_any-IsPermutation}
use Rattle.std.proofs.lemmas.Map.Keys.{IsDistinct-IsPermutation}
use Rattle.std.specs.Prelude.{IsTrue, if◌then◌else◌, is_some, nat_eq, not, slice_get, ◌&&◌, ◌||◌}
use Rattle.std.specs.List.{AllByRecursion, IsDistinct, filter}
use Rattle.std.specs.List.Sorted.{IsPermutation}
use Rattle.scheme_base.specs.declared.lit.Lit.{Lit}
use Rattle.scheme_base.specs.declared.lit.Lit.TheVariants as lit
use Rattle.scheme_base.specs.declared.op.Op.{Op}
use Rattle.scheme_base.specs.declared.op.Op.TheVariants as op
use Rattle.scheme_base.specs.declared.pos.Pos.{Pos}
use Rattle.scheme_base.specs.Constants.{Constant, Constants as Parts, IsConstant}
use Rattle.scheme_base.specs.Constants as constant
use Rattle.scheme_base.specs.Literals.{Laid, LaidAll}
use Rattle.core_form.specs.declared.program.Program.{Program}
use Rattle.core_form.specs.declared.program.VarRef.{VarRef}
use Rattle.core_form.specs.declared.program.VarRef.TheVariants as ref
use Rattle.core_form.specs.Trees.{Tree, Trees, count}
use Rattle.core_form.specs.Trees as tree
use Rattle.core_form.specs.Valid.{AllConstants, AllFine, Constants, FineForm, FineForms, FineOperands, IsFine, IsRenamed, assigns, is_hole as is_hole_tree, is_undefined}
use Rattle.core_form.specs.Variables.{same_ref}
use Rattle.named_form.specs.Code.{Code, Ends, Then, Act, Written, has}
use Rattle.named_form.specs.Code as act
use Rattle.named_form.specs.Valid.{AreConstants, Literals, all_constants, constants_in, is_hole}
use Rattle.named_form.proofs.Variables.{has_filter}
use Rattle.box_name.specs.Told.{Expr, Hole, Const, Local, Lambda, If, SetLocal, SetTop, Call, Direct, Prim, Seq, Fix, Define, Exprs, none, item, all_told, assignment, numbers, reference, told, told_operands}
use Rattle.box_name.specs.Counts.{after, after_boxes, after_lambda, after_param, after_params, all_after, all_lambdas, all_params, all_procs_in, have_values, lambdas, procs_in}
use Rattle.box_name.specs.Cores.{form_of}
use Rattle.box_name.specs.Naming.{Setting, all_code, all_valued, bind_param, bind_params, code, make_boxes, operation, place, value, values, written}
use Rattle.box_name.specs.Whole.{all_written, form_code, is_boxed, placed_lambdas, setting}
use Rattle.box_name.proofs.FitExpressions.{AllFit, AreLambdas, FormFits, FormsFit, IsFit}
use Rattle.box_name.proofs.MadeOnce.{all_placed_exprs, exprs_of, four, same_flip}
use Rattle.box_name.proofs.StepsWell.{fit_of}

-- the literals that an expression's own steps name
abbrev mutual
  own_in : Expr → List ℕ
  own_in (Const q l) = l ∷ []
  own_in (If q test this that) = own_in test ++ (own_in this ++ own_in that)
  own_in (SetLocal q x e) = own_in e
  own_in (SetTop q x e) = own_in e
  own_in (Call q f es) = own_in f ++ all_own_in es
  own_in (Direct q xs body es) = all_own_in es ++ own_in body
  own_in (Prim q o es) = all_own_in es
  own_in (Seq q es) = all_own_in es
  own_in (Fix q xs ls body) = own_in body
  own_in (Define q x e) = own_in e
  own_in e = []

  all_own_in : Exprs → List ℕ
  all_own_in none = []
  all_own_in (item e es) = own_in e ++ all_own_in es

-- the literals in an expression, as in its text
abbrev mutual
  text_of : Expr → List ℕ
  text_of (Const q l) = l ∷ []
  text_of (Lambda q xs r body) = text_of body
  text_of (If q test this that) = text_of test ++ (text_of this ++ text_of that)
  text_of (SetLocal q x e) = text_of e
  text_of (SetTop q x e) = text_of e
  text_of (Call q f es) = text_of f ++ all_text_of es
  text_of (Direct q xs body es) = text_of body ++ all_text_of es
  text_of (Prim q o es) = all_text_of es
  text_of (Seq q es) = all_text_of es
  text_of (Fix q xs ls body) = all_text_of ls ++ text_of body
  text_of (Define q x e) = text_of e
  text_of e = []

  all_text_of : Exprs → List ℕ
  all_text_of none = []
  all_text_of (item e es) = text_of e ++ all_text_of es

-- Steps

operation_names : (q : Pos) (vars : List ℕ) (o : Op) (ys : List ℕ) (rest : Code Pos)
    → constants_in (Then q vars (operation o ys) rest) ≡ constants_in rest
operation_names q vars op.Apply [] rest = refl
operation_names q vars op.Apply (x ∷ []) rest = refl
operation_names q vars op.Apply (x ∷ y ∷ []) rest = refl
operation_names q vars op.Apply (x ∷ y ∷ z ∷ zs) rest = refl
operation_names q vars op.CallCC [] rest = refl
operation_names q vars op.CallCC (x ∷ []) rest = refl
operation_names q vars op.CallCC (x ∷ y ∷ ys) rest = refl
operation_names q vars o ys rest = refl

either_names : (b : Bool) (c d : Code Pos) (xs : List ℕ) → constants_in c ≡ xs → constants_in d ≡ xs
    → constants_in (if b then c else d) ≡ xs
either_names true c d xs h k = h
either_names false c d xs h k = k

param_names : (s : Setting) (q : Pos) (x n : ℕ) (v : Option ℕ) (rest : Code Pos)
    → constants_in (bind_param s q x n v rest) ≡ constants_in rest
param_names s q x n None rest = refl
param_names s q x n (Some v) rest =
    either_names (s.boxed x) (Then q (suc n ∷ []) (act.MakeBox n) rest) rest (constants_in rest) refl refl

params_names : (s : Setting) (q : Pos) (xs : List ℕ) (vs : List (Option ℕ)) (n : ℕ) (rest : Code Pos)
    → constants_in (bind_params s q xs vs n rest) ≡ constants_in rest
params_names s q [] vs n rest = refl
params_names s q (x ∷ xs) [] n rest = refl
params_names s q (x ∷ xs) (v ∷ vs) n rest =
    param_names s q x n v (bind_params s q xs vs (after_param s.boxed n x (is_some v)) rest)
    ∙ params_names s q xs vs (after_param s.boxed n x (is_some v)) rest

mutual
  code_names : (s : Setting) (e : Expr) (n p : ℕ) (rest : Code Pos)
      → constants_in (code s e n p rest) ≡ own_in e ++ constants_in rest
  code_names s (Local q x) n p rest =
      either_names (s.boxed x) (Then q (n ∷ []) (act.Unbox (place s.places x) (s.hole x)) rest) rest (constants_in rest) refl refl
  code_names s (If q test this that) n p rest =
      let k = after s.boxed n test in
      let j = after s.boxed (suc k) this in
      let p1 = p + procs_in test in
      let p2 = p1 + procs_in this in
      let first = code s this (suc k) p1 (Ends (Some (value s this (suc k)))) in
      let second = code s that j p2 (Ends (Some (value s that j))) in
      let one : constants_in first ≡ own_in this =
      code_names s this (suc k) p1 (Ends (Some (value s this (suc k)))) ∙ append-nil (own_in this) in
      let two : constants_in second ≡ own_in that =
      code_names s that j p2 (Ends (Some (value s that j))) ∙ append-nil (own_in that) in
      code_names s test n p (Then q (k ∷ []) (act.If (value s test n) first second) rest)
      ∙ (ap (λ xs. own_in test ++ ((xs ++ constants_in second) ++ constants_in rest)) one
      ∙ (ap (λ xs. own_in test ++ ((own_in this ++ xs) ++ constants_in rest)) two
      ∙ sym (append_assoc (own_in test) (own_in this ++ own_in that) (constants_in rest))))
  code_names s (SetLocal q x e) n p rest =
      code_names s e n p (Then q (after s.boxed n e ∷ []) (act.SetBox (place s.places x) (value s e n)) rest)
  code_names s (SetTop q x e) n p rest =
      code_names s e n p (Then q (after s.boxed n e ∷ []) (act.TopSet (s.top x) (value s e n) (s.checked x)) rest)
  code_names s (Call q f es) n p rest =
      let k = after s.boxed n f in
      let call = Then q (all_after s.boxed k es ∷ []) (act.Call (value s f n) (values s es k)) rest in
      code_names s f n p (all_code s es k (p + procs_in f) call)
      ∙ (ap (λ xs. own_in f ++ xs) (all_names s es k (p + procs_in f) call)
      ∙ sym (append_assoc (own_in f) (all_own_in es) (constants_in rest)))
  code_names s (Direct q xs body es) n p rest =
      let k = all_after s.boxed n es in
      let j = after_params s.boxed k xs (have_values es) in
      let inner = code s body j p rest in
      all_names s es n (p + procs_in body) (bind_params s q xs (all_valued s es n) k inner)
      ∙ (ap (λ ys. all_own_in es ++ ys)
      (params_names s q xs (all_valued s es n) k inner ∙ code_names s body j p rest)
      ∙ sym (append_assoc (all_own_in es) (own_in body) (constants_in rest)))
  code_names s (Prim q o es) n p rest =
      let k = all_after s.boxed n es in
      all_names s es n p (Then q (k ∷ []) (operation o (values s es n)) rest)
      ∙ ap (λ xs. all_own_in es ++ xs) (operation_names q (k ∷ []) o (values s es n) rest)
  code_names s (Seq q es) n p rest = all_names s es n p rest
  code_names s (Fix q xs ls body) n p rest = code_names s body (n + length xs) (p + all_procs_in ls) rest
  code_names s (Define q x e) n p rest =
      code_names s e n p (Then q (after s.boxed n e ∷ []) (act.TopDefine (s.top x) (value s e n)) rest)
  code_names s e n p rest = refl

  all_names : (s : Setting) (es : Exprs) (n p : ℕ) (rest : Code Pos)
      → constants_in (all_code s es n p rest) ≡ all_own_in es ++ constants_in rest
  all_names s none n p rest = refl
  all_names s (item e es) n p rest =
      let others = all_code s es (after s.boxed n e) (p + procs_in e) rest in
      code_names s e n p others
      ∙ (ap (λ xs. own_in e ++ xs) (all_names s es (after s.boxed n e) (p + procs_in e) rest)
      ∙ sym (append_assoc (own_in e) (all_own_in es) (constants_in rest)))

-- Procedures

abbrev body_own : Expr → List ℕ
body_own (Lambda q xs r body) = own_in body
body_own e = []

-- the literals that the bodies of procedures name
abbrev bodies : List Expr → List ℕ
bodies [] = []
bodies (e ∷ es) = body_own e ++ bodies es

boxes_names : (s : Setting) (q : Pos) (xs : List ℕ) (v k : ℕ) (rest : Code Pos)
    → constants_in (make_boxes s q xs v k rest) ≡ constants_in rest
boxes_names s q [] v k rest = refl
boxes_names s q (x ∷ xs) v k rest =
    either_names (s.boxed x) (Then q (k ∷ []) (act.MakeBox v) (make_boxes s q xs (suc v) (suc k) rest))
    (make_boxes s q xs (suc v) k rest) (constants_in rest) (boxes_names s q xs (suc v) (suc k) rest)
    (boxes_names s q xs (suc v) k rest)

written_names : (s : Setting) (n p : ℕ) (e : Expr) → constants_in (written s n p e).body ≡ body_own e
written_names s n p (Lambda q xs r body) =
    let ys = all_params xs r in
    let k = after_boxes s.boxed (n + length ys) ys in
    let end = Ends (Some (value s body k)) in
    boxes_names s q ys n (n + length ys) (code s body k (suc p) end)
    ∙ (code_names s body k (suc p) end ∙ append-nil (own_in body))
written_names s n p e = refl

all_written_name : (all : Exprs) (n p : ℕ) (ls : List (ℕ × Expr)) → all_constants (all_written all n p ls) ≡ bodies (exprs_of ls)
all_written_name all n p [] = refl
all_written_name all n p (l ∷ ls) =
    let others = all_written all (after_lambda (is_boxed all) n l.1) (suc p) ls in
    ap (λ xs. xs ++ all_constants others) (written_names (setting all l.0) n p l.1)
    ∙ ap (λ xs. body_own l.1 ++ xs) (all_written_name all (after_lambda (is_boxed all) n l.1) (suc p) ls)

bodies_both : (xs ys : List Expr) → bodies (xs ++ ys) ≡ bodies xs ++ bodies ys
bodies_both [] ys = refl
bodies_both (x ∷ xs) ys =
    ap (λ zs. body_own x ++ zs) (bodies_both xs ys) ∙ sym (append_assoc (body_own x) (bodies xs) (bodies ys))

-- what these steps and the bodies of these procedures name is what stands in the text
abbrev Names : (own text : List ℕ) → List Expr → Type 0
Names own text es = IsPermutation (own ++ bodies es) text

join : (own more text others : List ℕ) (xs ys : List Expr) → Names own text xs → Names more others ys
    → Names (own ++ more) (text ++ others) (xs ++ ys)
join own more text others xs ys h k =
    subst (λ zs. IsPermutation ((own ++ more) ++ zs) (text ++ others)) (sym (bodies_both xs ys))
    (IsPermutation-trans ((own ++ more) ++ (bodies xs ++ bodies ys)) ((own ++ bodies xs) ++ (more ++ bodies ys))
    (text ++ others) (four own more (bodies xs) (bodies ys))
    (IsPermutation-append (own ++ bodies xs) text (more ++ bodies ys) others h k))

only_first : (l : Expr) (ls : Exprs) → AreLambdas (item l ls) → (own_in l ≡ []) × AreLambdas ls
only_first (Lambda q xs r body) ls h = (refl, h)
only_first l ls h = absurd h

mutual
  each_named : (e : Expr) → IsFit e → Names (own_in e) (text_of e) (lambdas e)
  each_named (Const q l) fit = IsPermutation-refl (l ∷ [])
  each_named (Lambda q xs r body) fit = each_named body fit.1
  each_named (If q test this that) fit =
      join (own_in test) (own_in this ++ own_in that) (text_of test) (text_of this ++ text_of that) (lambdas test)
      (lambdas this ++ lambdas that) (each_named test fit.1)
      (join (own_in this) (own_in that) (text_of this) (text_of that) (lambdas this) (lambdas that)
      (each_named this fit.2) (each_named that fit.3))
  each_named (SetLocal q x e) fit = each_named e fit.1
  each_named (SetTop q x e) fit = each_named e fit.1
  each_named (Call q f es) fit =
      join (own_in f) (all_own_in es) (text_of f) (all_text_of es) (lambdas f) (all_lambdas es) (each_named f fit.1)
      (all_named es fit.2)
  each_named (Direct q xs body es) fit =
      let held = bodies (lambdas body ++ all_lambdas es) in
      IsPermutation-trans ((all_own_in es ++ own_in body) ++ held) ((own_in body ++ all_own_in es) ++ held)
      (text_of body ++ all_text_of es)
      (IsPermutation-append_left held (all_own_in es ++ own_in body) (own_in body ++ all_own_in es)
      (IsPermutation-append_comm (all_own_in es) (own_in body)))
      (join (own_in body) (all_own_in es) (text_of body) (all_text_of es) (lambdas body) (all_lambdas es)
      (each_named body fit.1) (all_named es fit.2))
  each_named (Prim q o es) fit = all_named es fit.2
  each_named (Seq q es) fit = all_named es fit.1
  each_named (Fix q xs ls body) fit =
      join [] (own_in body) (all_text_of ls) (text_of body) (all_lambdas ls) (lambdas body) (fix_named ls fit.2 fit.4)
      (each_named body fit.3)
  each_named (Define q x e) fit = absurd fit
  each_named e fit = IsPermutation-refl []

  all_named : (es : Exprs) → AllFit es → Names (all_own_in es) (all_text_of es) (all_lambdas es)
  all_named none fit = IsPermutation-refl []
  all_named (item e es) fit =
      join (own_in e) (all_own_in es) (text_of e) (all_text_of es) (lambdas e) (all_lambdas es) (each_named e fit.0)
      (all_named es fit.1)

  fix_named : (ls : Exprs) → AllFit ls → AreLambdas ls → Names [] (all_text_of ls) (all_lambdas ls)
  fix_named none fit only = IsPermutation-refl []
  fix_named (item l ls) fit only =
      let first = only_first l ls only in
      join [] [] (text_of l) (all_text_of ls) (lambdas l) (all_lambdas ls)
      (subst (λ xs. Names xs (text_of l) (lambdas l)) first.0 (each_named l fit.0)) (fix_named ls fit.1 first.1)

form_named : (e : Expr) → FormFits e → Names (own_in e) (text_of e) (lambdas e)
form_named (Define q x e) fit = each_named e fit.1
form_named e fit = each_named e fit

forms_named : (es : Exprs) → FormsFit es → Names (all_own_in es) (all_text_of es) (all_lambdas es)
forms_named none fit = IsPermutation-refl []
forms_named (item e es) fit =
    join (own_in e) (all_own_in es) (text_of e) (all_text_of es) (lambdas e) (all_lambdas es) (form_named e fit.0)
    (forms_named es fit.1)

forms_name : (all : Exprs) (f n p : ℕ) (es : Exprs) → constants_in (form_code all f n p es) ≡ all_own_in es
forms_name all f n p none = refl
forms_name all f n p (item e es) =
    let k = after (is_boxed all) n e in
    code_names (setting all f) e n p (form_code all (suc f) k (p + procs_in e) es)
    ∙ ap (λ xs. own_in e ++ xs) (forms_name all (suc f) k (p + procs_in e) es)

-- The core's text

-- the literals in a core's expression, those of undefined values among them
abbrev mutual
  firsts : Tree VarRef → List ℕ
  firsts (tree.Const p l) = l ∷ []
  firsts (tree.Ref p x) = []
  firsts (tree.Lambda p xs r body) = firsts body
  firsts (tree.If p test this that) = firsts test ++ (firsts this ++ firsts that)
  firsts (tree.Set p x e) = firsts e
  firsts (tree.Call p f es) = firsts f ++ all_firsts es
  firsts (tree.Prim p o es) = all_firsts es
  firsts (tree.Seq p es) = all_firsts es
  firsts (tree.Fix p xs ls body) = all_firsts ls ++ firsts body
  firsts (tree.Define p x e) = firsts e

  all_firsts : Trees VarRef → List ℕ
  all_firsts tree.none = []
  all_firsts (tree.item e es) = firsts e ++ all_firsts es

are_both : (lits : List Lit) (i m j : ℕ) (xs ys : List ℕ) → AreConstants lits i xs m → AreConstants lits m ys j
    → AreConstants lits i (xs ++ ys) j
are_both lits i m j [] ys h k = subst (λ n. AreConstants lits n ys j) h k
are_both lits i m j (x ∷ xs) ys h k = (h.0, h.1, h.2, h.3, h.4, are_both lits h.0 m j xs ys h.5 k)

mutual
  constants_are : (lits : List Lit) (i : ℕ) (e : Tree VarRef) (j : ℕ) → Constants lits i e j → AreConstants lits i (firsts e) j
  constants_are lits i (tree.Const p l) j h = (j, h.1, h.0, h.2, h.3, refl)
  constants_are lits i (tree.Ref p x) j h = h
  constants_are lits i (tree.Lambda p xs r body) j h = constants_are lits i body j h
  constants_are lits i (tree.If p test this that) j h =
      are_both lits i h.0 j (firsts test) (firsts this ++ firsts that) (constants_are lits i test h.0 h.2)
      (are_both lits h.0 h.1 j (firsts this) (firsts that) (constants_are lits h.0 this h.1 h.3)
      (constants_are lits h.1 that j h.4))
  constants_are lits i (tree.Set p x e) j h = constants_are lits i e j h
  constants_are lits i (tree.Call p f es) j h =
      are_both lits i h.0 j (firsts f) (all_firsts es) (constants_are lits i f h.0 h.1) (all_constants_are lits h.0 es j h.2)
  constants_are lits i (tree.Prim p o es) j h = all_constants_are lits i es j h
  constants_are lits i (tree.Seq p es) j h = all_constants_are lits i es j h
  constants_are lits i (tree.Fix p xs ls body) j h =
      are_both lits i h.0 j (all_firsts ls) (firsts body) (all_constants_are lits i ls h.0 h.1)
      (constants_are lits h.0 body j h.2)
  constants_are lits i (tree.Define p x e) j h = constants_are lits i e j h

  all_constants_are : (lits : List Lit) (i : ℕ) (es : Trees VarRef) (j : ℕ) → AllConstants lits i es j
      → AreConstants lits i (all_firsts es) j
  all_constants_are lits i tree.none j h = h
  all_constants_are lits i (tree.item e es) j h =
      are_both lits i h.0 j (firsts e) (all_firsts es) (constants_are lits i e h.0 h.1) (all_constants_are lits h.0 es j h.2)

-- Literals are apart

mutual
  laid_less : (lits : List Lit) (i : ℕ) (c : Constant) (j : ℕ) → Laid lits i c j → i < j
  laid_less lits i (constant.Pair a d) j h =
      let one = laid_less lits (suc i) a h.0 h.2 in
      let two = laid_less lits h.0 d j h.3 in
      omega (arith, one, two)
  laid_less lits i (constant.Vector cs) j h = let more = all_laid_less lits h.0 (suc i) cs j h.2 in omega (arith, more)
  laid_less lits i (constant.Integer z) j h = let next = h.1 in omega (arith, next)
  laid_less lits i (constant.Boolean b) j h = let next = h.1 in omega (arith, next)
  laid_less lits i (constant.Character byte) j h = let next = h.1 in omega (arith, next)
  laid_less lits i constant.Nil j h = let next = h.1 in omega (arith, next)
  laid_less lits i constant.Unspecified j h = let next = h.1 in omega (arith, next)
  laid_less lits i constant.Undefined j h = let next = h.1 in omega (arith, next)
  laid_less lits i (constant.Symbol name) j h = let next = h.1 in omega (arith, next)
  laid_less lits i (constant.String bytes) j h = let next = h.1 in omega (arith, next)

  all_laid_less : (lits : List Lit) (ids : List ℕ) (i : ℕ) (cs : Parts) (j : ℕ) → LaidAll lits ids i cs j → i ≤ j
  all_laid_less lits ids i constant.none j h = let same = h.1 in omega (arith, same)
  all_laid_less lits ids i (constant.item c cs) j h =
      let one = laid_less lits i c h.1 h.3 in
      let more = all_laid_less lits h.0 h.1 cs j h.4 in
      omega (arith, one, more)

later : (lits : List Lit) (n i : ℕ) (xs : List ℕ) (j : ℕ) → n < i → AreConstants lits i xs j
    → AllByRecursion (λ x. nat_eq n x ≡ false) xs
later lits n i [] j less h = tt
later lits n i (x ∷ xs) j less h =
    let is = h.2 in
    let more = laid_less lits i h.1 h.0 h.4 in
    (ne_eqb n x (λ e. omega (arith, e, is, less)), later lits n h.0 xs j (omega (arith, less, more)) h.5)

apart : (lits : List Lit) (i : ℕ) (xs : List ℕ) (j : ℕ) → AreConstants lits i xs j → IsDistinct nat_eq xs
unfolding IsDistinct
apart lits i [] j h = tt
apart lits i (x ∷ xs) j h =
    let is = h.2 in
    let more = laid_less lits i h.1 h.0 h.4 in
    (later lits x h.0 xs j (omega (arith, is, more)) h.5, apart lits h.0 xs j h.5)

filter_all : (P : ℕ → Type 0) (p : ℕ → Bool) (xs : List ℕ) → AllByRecursion P xs → AllByRecursion P (filter p xs)
filter_all P p [] h = tt
filter_all P p (x ∷ xs) h = here (p x) (filter_all P p xs h.1)
  where
    here : (b : Bool) → AllByRecursion P (filter p xs) → AllByRecursion P (if b then x ∷ filter p xs else filter p xs)
    here true k = (h.0, k)
    here false k = k

filter_apart : (p : ℕ → Bool) (xs : List ℕ) → IsDistinct nat_eq xs → IsDistinct nat_eq (filter p xs)
unfolding IsDistinct
filter_apart p [] h = tt
filter_apart p (x ∷ xs) h = here (p x) (filter_all (λ y. nat_eq x y ≡ false) p xs h.0) (filter_apart p xs h.1)
  where
    here : (b : Bool) → AllByRecursion (λ y. nat_eq x y ≡ false) (filter p xs) → IsDistinct nat_eq (filter p xs)
        → IsDistinct nat_eq (if b then x ∷ filter p xs else filter p xs)
    here true k l = (k, l)
    here false k l = l

-- The text of what is told is that of the core without the undefined values

abbrev defined : List Lit → ℕ → Bool
defined lits l = not (is_undefined (slice_get lits l))

abbrev Keeps : List Lit → (text firsts : List ℕ) → Type 0
Keeps lits text xs = text ≡ filter (defined lits) xs

keeps_both : (lits : List Lit) (a b xs ys : List ℕ) → Keeps lits a xs → Keeps lits b ys → Keeps lits (a ++ b) (xs ++ ys)
keeps_both lits a b xs ys h k =
    ap (λ zs. zs ++ b) h ∙ (ap (λ zs. filter (defined lits) xs ++ zs) k ∙ sym (filter-append (defined lits) xs ys))

keeps_one : (lits : List Lit) (l : ℕ) → is_undefined (slice_get lits l) ≡ false → Keeps lits (l ∷ []) (l ∷ [])
keeps_one lits l h = ap (λ b. if not b then l ∷ [] else []) (sym h)

keeps_none : (lits : List Lit) (l : ℕ) → is_undefined (slice_get lits l) ≡ true → Keeps lits [] (l ∷ [])
keeps_none lits l h = ap (λ b. if not b then l ∷ [] else []) (sym h)

reference_text : (p : Pos) (x : VarRef) → text_of (reference p x) ≡ []
reference_text p (ref.Local n) = refl
reference_text p (ref.Top x) = refl

assignment_text : (p : Pos) (x : VarRef) (e : Expr) → text_of (assignment p x e) ≡ text_of e
assignment_text p (ref.Local n) e = refl
assignment_text p (ref.Top x) e = refl

either_text : (b : Bool) (d e : Expr) (xs : List ℕ) → text_of d ≡ xs → text_of e ≡ xs → text_of (if b then d else e) ≡ xs
either_text true d e xs h k = h
either_text false d e xs h k = k

hole_told : (lits : List Lit) (e : Tree VarRef) → is_hole_tree lits e ≡ true → Keeps lits [] (firsts e)
hole_told lits (tree.Const p l) h = keeps_none lits l h
hole_told lits e h = cc

-- an operand of a direct call, by whether it is the undefined value
operand_told : (lits : List Lit) (e : Tree VarRef) → (is_hole_tree lits e ≡ false → Keeps lits (text_of (told lits e)) (firsts e))
    → Keeps lits (text_of (if is_hole_tree lits e then Hole else told lits e)) (firsts e)
operand_told lits e h = here (is_hole_tree lits e) refl
  where
    here : (b : Bool) → is_hole_tree lits e ≡ b → Keeps lits (text_of (if b then Hole else told lits e)) (firsts e)
    here true k = hole_told lits e k
    here false k = h k

fine_operand : (lits : List Lit) (x : VarRef) (body e : Tree VarRef)
    → (IsFine lits same_ref e → Keeps lits (text_of (told lits e)) (firsts e))
    → IsFine lits same_ref e ⊎ (IsTrue (is_hole_tree lits e) × IsTrue (assigns same_ref x body))
    → is_hole_tree lits e ≡ false → Keeps lits (text_of (told lits e)) (firsts e)
fine_operand lits x body e keeps (inl fine) k = keeps fine
fine_operand lits x body e keeps (inr hole) k = let is = hole.0 in cc

-- a call whose operator is a lambda expression, by whether it takes so many operands
direct_told : (lits : List Lit) (p q : Pos) (xs : List VarRef) (body : Tree VarRef) (es : Trees VarRef) (b : Bool)
    → Keeps lits (text_of (told lits body)) (firsts body)
    → (b ≡ true → Keeps lits (all_text_of (told_operands lits es)) (all_firsts es))
    → (b ≡ false → Keeps lits (all_text_of (all_told lits es)) (all_firsts es))
    → Keeps lits
    (text_of
    (if b then Direct p (numbers xs) (told lits body) (told_operands lits es)
    else Call p (told lits (tree.Lambda q xs None body)) (all_told lits es)))
    (firsts body ++ all_firsts es)
direct_told lits p q xs body es true h k l = keeps_both lits _ _ (firsts body) (all_firsts es) h (k refl)
direct_told lits p q xs body es false h k l = keeps_both lits _ _ (firsts body) (all_firsts es) h (l refl)

mutual
  told_keeps : (lits : List Lit) (e : Tree VarRef) → IsFine lits same_ref e → Keeps lits (text_of (told lits e)) (firsts e)
  told_keeps lits (tree.Const p l) h = keeps_one lits l h
  told_keeps lits (tree.Ref p x) h = reference_text p x
  told_keeps lits (tree.Lambda p xs r body) h = told_keeps lits body h.1
  told_keeps lits (tree.If p test this that) h =
      keeps_both lits _ _ (firsts test) (firsts this ++ firsts that) (told_keeps lits test h.0)
      (keeps_both lits _ _ (firsts this) (firsts that) (told_keeps lits this h.1) (told_keeps lits that h.2))
  told_keeps lits (tree.Set p x e) h = assignment_text p x (told lits e) ∙ told_keeps lits e h
  told_keeps lits (tree.Call p (tree.Lambda q xs None body) es) h =
      direct_told lits p q xs body es (nat_eq (length xs) (count es)) (told_keeps lits body h.1)
      (λ e.
      operands_keep lits xs body es
      (subst (λ b. FineOperands lits same_ref (if b then xs else []) body es) e h.2))
      (λ e. rest_keeps lits body es (subst (λ b. FineOperands lits same_ref (if b then xs else []) body es) e h.2))
  told_keeps lits (tree.Call p (tree.Lambda q xs (Some r) body) es) h =
      keeps_both lits _ _ (firsts body) (all_firsts es) (told_keeps lits body h.0.1) (all_keep lits es h.1)
  told_keeps lits (tree.Call p f es) h =
      keeps_both lits _ _ (firsts f) (all_firsts es) (told_keeps lits f h.0) (all_keep lits es h.1)
  told_keeps lits (tree.Prim p o es) h = all_keep lits es h.1
  told_keeps lits (tree.Seq p es) h = all_keep lits es h.1
  told_keeps lits (tree.Fix p xs ls body) h =
      keeps_both lits _ _ (all_firsts ls) (firsts body) (all_keep lits ls h.4) (told_keeps lits body h.5)
  told_keeps lits (tree.Define p x e) h = absurd h

  all_keep : (lits : List Lit) (es : Trees VarRef) → AllFine lits same_ref es
      → Keeps lits (all_text_of (all_told lits es)) (all_firsts es)
  all_keep lits tree.none h = refl
  all_keep lits (tree.item e es) h =
      keeps_both lits _ _ (firsts e) (all_firsts es) (told_keeps lits e h.0) (all_keep lits es h.1)

  all_operands_keep : (lits : List Lit) (es : Trees VarRef) → AllFine lits same_ref es
      → Keeps lits (all_text_of (told_operands lits es)) (all_firsts es)
  all_operands_keep lits tree.none h = refl
  all_operands_keep lits (tree.item e es) h =
      keeps_both lits _ _ (firsts e) (all_firsts es) (operand_told lits e (λ k. told_keeps lits e h.0))
      (all_operands_keep lits es h.1)

  operands_keep : (lits : List Lit) (xs : List VarRef) (body : Tree VarRef) (es : Trees VarRef)
      → FineOperands lits same_ref xs body es → Keeps lits (all_text_of (told_operands lits es)) (all_firsts es)
  operands_keep lits xs body tree.none h = refl
  operands_keep lits [] body (tree.item e es) h =
      keeps_both lits _ _ (firsts e) (all_firsts es) (operand_told lits e (λ k. told_keeps lits e h.0))
      (all_operands_keep lits es h.1)
  operands_keep lits (x ∷ xs) body (tree.item e es) h =
      keeps_both lits _ _ (firsts e) (all_firsts es)
      (operand_told lits e (fine_operand lits x body e (λ fine. told_keeps lits e fine) h.0))
      (operands_keep lits xs body es h.1)

  rest_keeps : (lits : List Lit) (body : Tree VarRef) (es : Trees VarRef) → FineOperands lits same_ref [] body es
      → Keeps lits (all_text_of (all_told lits es)) (all_firsts es)
  rest_keeps lits body tree.none h = refl
  rest_keeps lits body (tree.item e es) h =
      keeps_both lits _ _ (firsts e) (all_firsts es) (told_keeps lits e h.0) (all_keep lits es h.1)

form_keeps : (lits : List Lit) (e : Tree VarRef) → FineForm lits same_ref e → Keeps lits (text_of (told lits e)) (firsts e)
form_keeps lits (tree.Define p x e) h = told_keeps lits e h
form_keeps lits e h = told_keeps lits e h

forms_keep : (lits : List Lit) (es : Trees VarRef) → FineForms lits same_ref es
    → Keeps lits (all_text_of (all_told lits es)) (all_firsts es)
forms_keep lits tree.none h = refl
forms_keep lits (tree.item e es) h =
    keeps_both lits _ _ (firsts e) (all_firsts es) (form_keeps lits e h.0) (forms_keep lits es h.1)

-- Programs

or_true : (b : Bool) → b || true ≡ true
or_true true = refl
or_true false = refl

each_had : (P : ℕ → Type 0) (xs : List ℕ) → ((x : ℕ) → has xs x ≡ true → P x) → AllByRecursion P xs
each_had P [] h = tt
each_had P (y ∷ ys) h = (
  h y (ap (λ b. b || has ys y) (eq-eqb y y refl)),
  each_had P ys (λ x k. h x (ap (λ b. nat_eq x y || b) k ∙ or_true (nat_eq x y))),
)

and_parts : (a b : Bool) → a && b ≡ true → (a ≡ true) × (b ≡ true)
and_parts true b h = (refl, h)
and_parts false b h = cc

undefined_hole : (o : Option Lit) → not (is_undefined o) ≡ true → is_hole o ≡ false
undefined_hole None h = refl
undefined_hole (Some lit.Undefined) h = cc
undefined_hole (Some l) h = refl

-- a first literal is an undefined value or is named
hole_or_named : (o : Option Lit) (b : Bool) → (not (is_undefined o) ≡ true → b ≡ true) → is_hole o || b ≡ true
hole_or_named None b h = h refl
hole_or_named (Some lit.Undefined) b h = refl
hole_or_named (Some l) b h = h refl

pub literals_are : (core : Program VarRef) (forms : Trees VarRef) → IsRenamed core forms → Literals (form_of core forms)
literals_are core forms h =
    let lits = core.lits in
    let es = all_told lits forms in
    let k = all_after (is_boxed es) 0 es in
    let ls = placed_lambdas 0 es in
    let whole = constants_in (form_code es 0 0 1 es) ++ all_constants (all_written es k 1 ls) in
    let laid = all_constants_are lits 0 forms (length lits) h.valid.constants in
    let told = forms_keep lits forms h.valid.fine in
    let same : whole ≡ all_own_in es ++ bodies (all_lambdas es) =
    ap (λ xs. xs ++ all_constants (all_written es k 1 ls)) (forms_name es 0 0 1 es)
    ∙ ap (λ xs. all_own_in es ++ xs) (all_written_name es k 1 ls ∙ ap bodies (all_placed_exprs 0 es)) in
    let moves : IsPermutation whole (filter (defined lits) (all_firsts forms)) =
    subst (λ xs. IsPermutation whole xs) told
    (subst (λ xs. IsPermutation xs (all_text_of es)) (sym same) (forms_named es (fit_of core forms h))) in
    let found : (x : ℕ) → has whole x ≡ defined lits x && has (all_firsts forms) x =
    λ x.
    list_any-IsPermutation (nat_eq x) whole (filter (defined lits) (all_firsts forms)) moves
    ∙ has_filter (defined lits) (all_firsts forms) x in
    record {
      firsts = all_firsts forms;
      laid = laid;
      named =
          each_had (λ l. IsTrue (has (all_firsts forms) l)) whole
          (λ x e. (and_parts (defined lits x) (has (all_firsts forms) x) (sym (found x) ∙ e)).1);
      needed =
          each_had (λ l. IsTrue (is_hole (slice_get lits l) || has whole l)) (all_firsts forms)
          (λ x e.
          hole_or_named (slice_get lits x) (has whole x)
          (λ d. found x ∙ (ap (λ b. b && has (all_firsts forms) x) d ∙ e)));
      apart =
          IsDistinct-IsPermutation nat_eq same_flip (filter (defined lits) (all_firsts forms)) whole
          (IsPermutation-sym whole (filter (defined lits) (all_firsts forms)) moves)
          (filter_apart (defined lits) (all_firsts forms) (apart lits 0 (all_firsts forms) (length lits) laid));
      defined =
          each_had (λ l. is_hole (slice_get lits l) ≡ false) whole
          (λ x e. undefined_hole (slice_get lits x) (and_parts (defined lits x) (has (all_firsts forms) x) (sym (found x) ∙ e)).0);
    }
