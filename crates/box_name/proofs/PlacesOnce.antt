-- Each local variable of a program has one place, and is found there.
use Rattle.std.proofs.Common.{◌≡◌, ℕ, suc, ◌+◌, Bool, true, false, List, [], ◌∷◌, ◌++◌, cond, length, map, Some, refl, sym, ap, ◌∙◌, subst, append_assoc, eq-eqb}
use Rattle.std.proofs.lemmas.List.{map-append}
use Rattle.std.proofs.lemmas.List.Sorted.{IsPermutation-append, IsPermutation-append_comm, IsPermutation-append_left, IsPermutation-append_right, IsPermutation-refl, IsPermutation-sym, IsPermutation-trans, list_any-IsPermutation}
use Rattle.std.proofs.lemmas.Map.Keys.{IsDistinct-IsPermutation}
use Rattle.std.specs.Prelude.{if◌then◌else◌, nat_eq}
use Rattle.std.specs.List.{AllByRecursion, IsDistinct}
use Rattle.std.specs.List.Sorted.{IsPermutation}
use Rattle.std.specs.Map.{lookup}
use Rattle.box_name.specs.Told.{Expr, Hole, Lambda, If, SetLocal, SetTop, Call, Direct, Prim, Seq, Fix, Define, Exprs, none, item}
use Rattle.box_name.specs.Counts.{after, after_boxes, after_lambda, after_param, after_params, all_after, all_lambdas, all_params, all_places, box_places, have_values, lambda_places, lambdas, param_places, places, var_places}
use Rattle.box_name.specs.Naming.{found, place}
use Rattle.box_name.specs.Whole.{is_boxed, lambdas_places, placed_lambdas, whole_places}
use Rattle.box_name.proofs.FitExpressions.{AllFit, AreLambdas, FormFits, FormsFit, IsFit}
use Rattle.box_name.proofs.MadeOnce.{all_placed_exprs, exprs_of, four, same_flip}
use Rattle.box_name.proofs.Members.{Within}
use Rattle.box_name.proofs.ScopesTold.{AllScoped, OperandsScoped, Scoped, all_bound, bound}
use Rattle.box_name.proofs.StepsWell.{of_both}

-- the variables that an expression binds, the bodies of its procedures aside
abbrev mutual
  pub own : Expr → List ℕ
  own (If q test this that) = own test ++ (own this ++ own that)
  own (SetLocal q x e) = own e
  own (SetTop q x e) = own e
  own (Call q f es) = own f ++ all_own es
  own (Direct q xs body es) = all_own es ++ (xs ++ own body)
  own (Prim q o es) = all_own es
  own (Seq q es) = all_own es
  own (Fix q xs ls body) = xs ++ own body
  own (Define q x e) = own e
  own e = []

  pub all_own : Exprs → List ℕ
  all_own none = []
  all_own (item e es) = own e ++ all_own es

-- those that a procedure binds
abbrev pub body_own : Expr → List ℕ
body_own (Lambda q xs r body) = all_params xs r ++ own body
body_own e = []

abbrev pub bodies_own : List Expr → List ℕ
bodies_own [] = []
bodies_own (e ∷ es) = body_own e ++ bodies_own es

-- Places are those of the variables

abbrev pub placed : List (ℕ × ℕ) → List ℕ
placed ps = map (λ a. a.0) ps

two_placed : (ps qs : List (ℕ × ℕ)) (xs ys : List ℕ) → placed ps ≡ xs → placed qs ≡ ys → placed (ps ++ qs) ≡ xs ++ ys
two_placed ps qs xs ys h k =
    map-append (λ (a : ℕ × ℕ). a.0) ps qs ∙ (ap (λ zs. zs ++ placed qs) h ∙ ap (λ zs. xs ++ zs) k)

vars_placed : (n : ℕ) (xs : List ℕ) → placed (var_places n xs) ≡ xs
vars_placed n [] = refl
vars_placed n (x ∷ xs) = ap (λ ys. x ∷ ys) (vars_placed (suc n) xs)

boxes_placed : (b : ℕ → Bool) (v m : ℕ) (xs : List ℕ) → placed (box_places b v m xs) ≡ xs
boxes_placed b v m [] = refl
boxes_placed b v m (x ∷ xs) = ap (λ ys. x ∷ ys) (boxes_placed b (suc v) (if b x then suc m else m) xs)

params_placed : (b : ℕ → Bool) (seen xs : List ℕ) (es : Exprs) (m : ℕ) → OperandsScoped seen xs es
    → placed (param_places b m xs (have_values es)) ≡ xs
params_placed b seen [] es m h = refl
params_placed b seen (x ∷ xs) none m h = absurd h
params_placed b seen (x ∷ xs) (item Hole es) m h =
    ap (λ ys. x ∷ ys) (params_placed b seen xs es (after_param b m x false) h)
params_placed b seen (x ∷ xs) (item e es) m h =
    ap (λ ys. x ∷ ys) (params_placed b seen xs es (after_param b m x true) h.1)

mutual
  own_placed : (b : ℕ → Bool) (seen : List ℕ) (e : Expr) → Scoped seen e → (n : ℕ) → placed (places b n e) ≡ own e
  own_placed b seen (If q test this that) h n =
      let m = suc (after b n test) in
      two_placed (places b n test) (places b m this ++ places b (after b m this) that) (own test) (own this ++ own that)
      (own_placed b seen test h.0 n)
      (two_placed (places b m this) (places b (after b m this) that) (own this) (own that) (own_placed b seen this h.1 m)
      (own_placed b seen that h.2 (after b m this)))
  own_placed b seen (SetLocal q x e) h n = own_placed b seen e h.1 n
  own_placed b seen (SetTop q x e) h n = own_placed b seen e h n
  own_placed b seen (Call q f es) h n =
      two_placed (places b n f) (all_places b (after b n f) es) (own f) (all_own es) (own_placed b seen f h.0 n)
      (all_own_placed b seen es h.1 (after b n f))
  own_placed b seen (Direct q xs body es) h n =
      let m = all_after b n es in
      let params = param_places b m xs (have_values es) in
      let j = after_params b m xs (have_values es) in
      two_placed (all_places b n es) (params ++ places b j body) (all_own es) (xs ++ own body)
      (operands_own_placed b seen xs es h.0 n)
      (two_placed params (places b j body) xs (own body) (params_placed b seen xs es m h.0)
      (own_placed b (xs ++ seen) body h.1 j))
  own_placed b seen (Prim q o es) h n = all_own_placed b seen es h n
  own_placed b seen (Seq q es) h n = all_own_placed b seen es h.1 n
  own_placed b seen (Fix q xs ls body) h n =
      two_placed (var_places n xs) (places b (n + length xs) body) xs (own body) (vars_placed n xs)
      (own_placed b (xs ++ seen) body h.2 (n + length xs))
  own_placed b seen (Define q x e) h n = own_placed b seen e h n
  own_placed b seen e h n = refl

  all_own_placed : (b : ℕ → Bool) (seen : List ℕ) (es : Exprs) → AllScoped seen es → (n : ℕ)
      → placed (all_places b n es) ≡ all_own es
  all_own_placed b seen none h n = refl
  all_own_placed b seen (item e es) h n =
      two_placed (places b n e) (all_places b (after b n e) es) (own e) (all_own es) (own_placed b seen e h.0 n)
      (all_own_placed b seen es h.1 (after b n e))

  operands_own_placed : (b : ℕ → Bool) (seen xs : List ℕ) (es : Exprs) → OperandsScoped seen xs es → (n : ℕ)
      → placed (all_places b n es) ≡ all_own es
  operands_own_placed b seen xs none h n = refl
  operands_own_placed b seen [] (item e es) h n = absurd h
  operands_own_placed b seen (x ∷ xs) (item Hole es) h n = operands_own_placed b seen xs es h n
  operands_own_placed b seen (x ∷ xs) (item e es) h n =
      two_placed (places b n e) (all_places b (after b n e) es) (own e) (all_own es) (own_placed b seen e h.0 n)
      (operands_own_placed b seen xs es h.1 (after b n e))

-- the body of a procedure stands in some scope
abbrev pub BodyScoped : Expr → Type 0
BodyScoped (Lambda q xs r body) = (seen : List ℕ) × Scoped seen body
BodyScoped e = Unit {0}

mutual
  bodies_scoped : (seen : List ℕ) (e : Expr) → Scoped seen e → AllByRecursion BodyScoped (lambdas e)
  bodies_scoped seen (Lambda q xs r body) h =
      ((all_params xs r ++ seen, h), bodies_scoped (all_params xs r ++ seen) body h)
  bodies_scoped seen (If q test this that) h =
      of_both BodyScoped (lambdas test) (lambdas this ++ lambdas that) (bodies_scoped seen test h.0)
      (of_both BodyScoped (lambdas this) (lambdas that) (bodies_scoped seen this h.1) (bodies_scoped seen that h.2))
  bodies_scoped seen (SetLocal q x e) h = bodies_scoped seen e h.1
  bodies_scoped seen (SetTop q x e) h = bodies_scoped seen e h
  bodies_scoped seen (Call q f es) h =
      of_both BodyScoped (lambdas f) (all_lambdas es) (bodies_scoped seen f h.0) (all_bodies_scoped seen es h.1)
  bodies_scoped seen (Direct q xs body es) h =
      of_both BodyScoped (lambdas body) (all_lambdas es) (bodies_scoped (xs ++ seen) body h.1)
      (operand_bodies_scoped seen xs es h.0)
  bodies_scoped seen (Prim q o es) h = all_bodies_scoped seen es h
  bodies_scoped seen (Seq q es) h = all_bodies_scoped seen es h.1
  bodies_scoped seen (Fix q xs ls body) h =
      of_both BodyScoped (all_lambdas ls) (lambdas body) (all_bodies_scoped (xs ++ seen) ls h.1)
      (bodies_scoped (xs ++ seen) body h.2)
  bodies_scoped seen (Define q x e) h = bodies_scoped seen e h
  bodies_scoped seen e h = tt

  all_bodies_scoped : (seen : List ℕ) (es : Exprs) → AllScoped seen es → AllByRecursion BodyScoped (all_lambdas es)
  all_bodies_scoped seen none h = tt
  all_bodies_scoped seen (item e es) h =
      of_both BodyScoped (lambdas e) (all_lambdas es) (bodies_scoped seen e h.0) (all_bodies_scoped seen es h.1)

  operand_bodies_scoped : (seen xs : List ℕ) (es : Exprs) → OperandsScoped seen xs es
      → AllByRecursion BodyScoped (all_lambdas es)
  operand_bodies_scoped seen xs none h = tt
  operand_bodies_scoped seen [] (item e es) h = absurd h
  operand_bodies_scoped seen (x ∷ xs) (item Hole es) h = operand_bodies_scoped seen xs es h
  operand_bodies_scoped seen (x ∷ xs) (item e es) h =
      of_both BodyScoped (lambdas e) (all_lambdas es) (bodies_scoped seen e h.0) (operand_bodies_scoped seen xs es h.1)

lambda_placed : (b : ℕ → Bool) (n : ℕ) (e : Expr) → BodyScoped e → placed (lambda_places b n e) ≡ body_own e
lambda_placed b n (Lambda q xs r body) h =
    let ys = all_params xs r in
    let m = after_boxes b (n + length ys) ys in
    two_placed (box_places b n (n + length ys) ys) (places b m body) ys (own body) (boxes_placed b n (n + length ys) ys)
    (own_placed b h.0 body h.1 m)
lambda_placed b n e h = refl

lambdas_placed : (b : ℕ → Bool) (n : ℕ) (ls : List (ℕ × Expr)) → AllByRecursion BodyScoped (exprs_of ls)
    → placed (lambdas_places b n ls) ≡ bodies_own (exprs_of ls)
lambdas_placed b n [] h = refl
lambdas_placed b n (l ∷ ls) h =
    two_placed (lambda_places b n l.1) (lambdas_places b (after_lambda b n l.1) ls) (body_own l.1) (bodies_own (exprs_of ls))
    (lambda_placed b n l.1 h.0) (lambdas_placed b (after_lambda b n l.1) ls h.1)

-- These are the variables that are bound, in another order

bodies_both : (xs ys : List Expr) → bodies_own (xs ++ ys) ≡ bodies_own xs ++ bodies_own ys
bodies_both [] ys = refl
bodies_both (x ∷ xs) ys =
    ap (λ zs. body_own x ++ zs) (bodies_both xs ys) ∙ sym (append_assoc (body_own x) (bodies_own xs) (bodies_own ys))

-- variables of steps and of bodies are those that are bound
abbrev Same : (steps : List ℕ) → List Expr → (all : List ℕ) → Type 0
Same steps es all = IsPermutation (steps ++ bodies_own es) all

join : (a c : List ℕ) (xs ys : List Expr) (b d : List ℕ) → Same a xs b → Same c ys d → Same (a ++ c) (xs ++ ys) (b ++ d)
join a c xs ys b d h k =
    subst (λ zs. IsPermutation ((a ++ c) ++ zs) (b ++ d)) (sym (bodies_both xs ys))
    (IsPermutation-trans ((a ++ c) ++ (bodies_own xs ++ bodies_own ys)) ((a ++ bodies_own xs) ++ (c ++ bodies_own ys)) (b ++ d)
    (four a c (bodies_own xs) (bodies_own ys))
    (IsPermutation-append (a ++ bodies_own xs) b (c ++ bodies_own ys) d h k))

before : (xs a : List ℕ) (es : List Expr) (b : List ℕ) → Same a es b → Same (xs ++ a) es (xs ++ b)
before xs a es b h =
    subst (λ zs. IsPermutation zs (xs ++ b)) (sym (append_assoc xs a (bodies_own es)))
    (IsPermutation-append_right xs (a ++ bodies_own es) b h)

turned : (a c : List ℕ) (es : List Expr) (b : List ℕ) → Same (a ++ c) es b → Same (c ++ a) es b
turned a c es b h =
    IsPermutation-trans ((c ++ a) ++ bodies_own es) ((a ++ c) ++ bodies_own es) b
    (IsPermutation-append_left (bodies_own es) (c ++ a) (a ++ c) (IsPermutation-append_comm c a)) h

mutual
  own_bound : (e : Expr) → IsFit e → Same (own e) (lambdas e) (bound e)
  own_bound (Lambda q xs r body) fit =
      before (all_params xs r) (own body) (lambdas body) (bound body) (own_bound body fit.1)
  own_bound (If q test this that) fit =
      join (own test) (own this ++ own that) (lambdas test) (lambdas this ++ lambdas that) (bound test)
      (bound this ++ bound that) (own_bound test fit.1)
      (join (own this) (own that) (lambdas this) (lambdas that) (bound this) (bound that) (own_bound this fit.2)
      (own_bound that fit.3))
  own_bound (SetLocal q x e) fit = own_bound e fit.1
  own_bound (SetTop q x e) fit = own_bound e fit.1
  own_bound (Call q f es) fit =
      join (own f) (all_own es) (lambdas f) (all_lambdas es) (bound f) (all_bound es) (own_bound f fit.1)
      (all_own_bound es fit.2)
  own_bound (Direct q xs body es) fit =
      turned (xs ++ own body) (all_own es) (lambdas body ++ all_lambdas es) ((xs ++ bound body) ++ all_bound es)
      (join (xs ++ own body) (all_own es) (lambdas body) (all_lambdas es) (xs ++ bound body) (all_bound es)
      (before xs (own body) (lambdas body) (bound body) (own_bound body fit.1)) (all_own_bound es fit.2))
  own_bound (Prim q o es) fit = all_own_bound es fit.2
  own_bound (Seq q es) fit = all_own_bound es fit.1
  own_bound (Fix q xs ls body) fit =
      before xs (own body) (all_lambdas ls ++ lambdas body) (all_bound ls ++ bound body)
      (join [] (own body) (all_lambdas ls) (lambdas body) (all_bound ls) (bound body) (lambdas_own_bound ls fit.4 fit.2)
      (own_bound body fit.3))
  own_bound (Define q x e) fit = absurd fit
  own_bound e fit = IsPermutation-refl []

  all_own_bound : (es : Exprs) → AllFit es → Same (all_own es) (all_lambdas es) (all_bound es)
  all_own_bound none fit = IsPermutation-refl []
  all_own_bound (item e es) fit =
      join (own e) (all_own es) (lambdas e) (all_lambdas es) (bound e) (all_bound es) (own_bound e fit.0)
      (all_own_bound es fit.1)

  lambdas_own_bound : (ls : Exprs) → AreLambdas ls → AllFit ls → Same [] (all_lambdas ls) (all_bound ls)
  lambdas_own_bound none are fit = IsPermutation-refl []
  lambdas_own_bound (item (Lambda q xs r body) ls) are fit =
      join [] [] (Lambda q xs r body ∷ lambdas body) (all_lambdas ls) (all_params xs r ++ bound body) (all_bound ls)
      (before (all_params xs r) (own body) (lambdas body) (bound body) (own_bound body fit.0.1))
      (lambdas_own_bound ls are fit.1)
  lambdas_own_bound (item e ls) are fit = absurd are

form_own_bound : (e : Expr) → FormFits e → Same (own e) (lambdas e) (bound e)
form_own_bound (Define q x e) fit = own_bound e fit.1
form_own_bound e fit = own_bound e fit

forms_own_bound : (es : Exprs) → FormsFit es → Same (all_own es) (all_lambdas es) (all_bound es)
forms_own_bound none fit = IsPermutation-refl []
forms_own_bound (item e es) fit =
    join (own e) (all_own es) (lambdas e) (all_lambdas es) (bound e) (all_bound es) (form_own_bound e fit.0)
    (forms_own_bound es fit.1)

whole_own : (es : Exprs) → AllScoped [] es → AllByRecursion BodyScoped (all_lambdas es)
    → placed (whole_places es) ≡ all_own es ++ bodies_own (all_lambdas es)
whole_own es h bodies =
    let b = is_boxed es in
    let ls = placed_lambdas 0 es in
    two_placed (all_places b 0 es) (lambdas_places b (all_after b 0 es) ls) (all_own es) (bodies_own (all_lambdas es))
    (all_own_placed b [] es h 0)
    (lambdas_placed b (all_after b 0 es) ls (subst (AllByRecursion BodyScoped) (sym (all_placed_exprs 0 es)) bodies)
    ∙ ap bodies_own (all_placed_exprs 0 es))

-- the places are those of the variables that are bound
places_bound : (es : Exprs) → FormsFit es → AllScoped [] es → IsPermutation (placed (whole_places es)) (all_bound es)
places_bound es fit h =
    subst (λ xs. IsPermutation xs (all_bound es)) (sym (whole_own es h (all_bodies_scoped [] es h))) (forms_own_bound es fit)

pub bound_placed : (es : Exprs) → FormsFit es → AllScoped [] es → Within (all_bound es) (placed (whole_places es))
bound_placed es fit h v e =
    list_any-IsPermutation (nat_eq v) (placed (whole_places es)) (all_bound es) (places_bound es fit h) ∙ e

-- A variable that has one place is found there

-- what is so of the places behind a first one
skipped : (ps : List (ℕ × ℕ)) (a : ℕ × ℕ) (qs : List (ℕ × ℕ)) → AllByRecursion (λ x. nat_eq a.0 x ≡ false) (placed qs)
    → AllByRecursion (λ q. place ps q.0 ≡ q.1) qs → AllByRecursion (λ q. place (a ∷ ps) q.0 ≡ q.1) qs
skipped ps a [] h k = tt
skipped ps a (q ∷ qs) h k =
    (ap (λ b. found (cond b (Some a.1) (lookup (nat_eq q.0) ps))) (same_flip q.0 a.0 ∙ h.0) ∙ k.0, skipped ps a qs h.1 k.1)

found_once : (ps : List (ℕ × ℕ)) → IsDistinct nat_eq (placed ps) → AllByRecursion (λ a. place ps a.0 ≡ a.1) ps
unfolding IsDistinct
found_once [] d = tt
found_once (a ∷ ps) d = (
  ap (λ b. found (cond b (Some a.1) (lookup (nat_eq a.0) ps))) (eq-eqb a.0 a.0 refl),
  skipped ps a ps d.0 (found_once ps d.1),
)

pub found_there : (es : Exprs) → FormsFit es → AllScoped [] es → IsDistinct nat_eq (all_bound es)
    → AllByRecursion (λ a. place (whole_places es) a.0 ≡ a.1) (whole_places es)
found_there es fit h d =
    let ps = placed (whole_places es) in
    found_once (whole_places es)
    (IsDistinct-IsPermutation nat_eq same_flip (all_bound es) ps (IsPermutation-sym ps (all_bound es) (places_bound es fit h)) d)
