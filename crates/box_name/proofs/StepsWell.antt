-- Each step of a program binds what it should, has its operands and stands at a position; the bodies of its procedures
-- have values and no definitions.
use Rattle.std.proofs.Common.{ℕ, suc, ◌+◌, List, [], ◌∷◌, ◌++◌, map, None, refl, arith}
use Rattle.std.specs.List.{AllByRecursion}
use Rattle.scheme_base.specs.declared.lit.Lit.{Lit}
use Rattle.scheme_base.specs.declared.op.Op.{Op}
use Rattle.scheme_base.specs.declared.op.Op.TheVariants as op
use Rattle.scheme_base.specs.declared.pos.Pos.{Pos}
use Rattle.scheme_base.specs.Positions.{IsPosition}
use Rattle.core_form.specs.declared.program.Program.{Program}
use Rattle.core_form.specs.declared.program.VarRef.{VarRef}
use Rattle.core_form.specs.Trees.{Trees}
use Rattle.core_form.specs.Valid.{IsRenamed}
use Rattle.named_form.specs.Code.{Code, Ends, Then, Act, Written}
use Rattle.named_form.specs.Code as act
use Rattle.named_form.specs.Valid.{AnyValue, Binds, Bodies, IsProgram, IsThere, NoDefinition, OfSteps, OfValues, Placed, StandsAt, Takes, Throughout}
use Rattle.box_name.specs.Told.{Expr, Lambda, If, SetLocal, SetTop, Call, Direct, Prim, Seq, Fix, Define, Exprs, none, item, all_told}
use Rattle.box_name.specs.Counts.{after, after_lambda, all_after, all_lambdas, lambdas, procs_in}
use Rattle.box_name.specs.Cores.{form_of}
use Rattle.box_name.specs.Naming.{Setting, code, value, written}
use Rattle.box_name.specs.Whole.{all_written, form_code, is_boxed, named, placed_lambdas, setting}
use Rattle.box_name.proofs.FitExpressions.{AllFit, FormFits, FormsFit, IsFit, forms_fit}
use Rattle.box_name.proofs.StepsAsked.{Asked, Before, IsPlain, before_each, code_asked, written_asked}

-- What is asked of steps

one_binds : (q : Pos) (n : ℕ) (a : Act Pos) → IsPlain a → Binds q (n ∷ []) a
one_binds q n (act.Fix procs) h = absurd h
one_binds q n a h = refl

binds_asked : Asked Binds AnyValue
binds_asked =
    record { one = λ q n a at plain. one_binds q n a plain; fix = λ q vars procs at same. same; there = λ x. tt }

prim_takes : (q : Pos) (vars : List ℕ) (o : Op) (ys : List ℕ) → IsPlain (act.Prim o ys) → Takes q vars (act.Prim o ys)
prim_takes q vars op.Apply ys h = h
prim_takes q vars o ys h = h

one_takes : (q : Pos) (n : ℕ) (a : Act Pos) → IsPlain a → Takes q (n ∷ []) a
one_takes q n (act.Prim o ys) h = prim_takes q (n ∷ []) o ys h
one_takes q n a h = tt

takes_asked : Asked Takes AnyValue
takes_asked =
    record { one = λ q n a at plain. one_takes q n a plain; fix = λ q vars procs at same. tt; there = λ x. tt }

stands_asked : Asked StandsAt AnyValue
stands_asked = record { one = λ q n a at plain. at; fix = λ q vars procs at same. at; there = λ x. tt }

one_defines_nothing : (q : Pos) (n : ℕ) (a : Act Pos) → IsPlain a → NoDefinition q (n ∷ []) a
one_defines_nothing q n (act.TopDefine top y) h = absurd h
one_defines_nothing q n a h = λ d. d

nothing_defined : Asked NoDefinition IsThere
nothing_defined =
    record {
      one = λ q n a at plain. one_defines_nothing q n a plain;
      fix = λ q vars procs at same. λ d. d;
      there = λ x. tt;
    }

-- The lambda expressions that become procedures

abbrev pub IsFitLambda : Expr → Type 0
IsFitLambda (Lambda q xs r body) = IsFit (Lambda q xs r body)
IsFitLambda e = ⊥

pub of_both : {X : Type 0} (P : X → Type 0) (xs ys : List X) → AllByRecursion P xs → AllByRecursion P ys
    → AllByRecursion P (xs ++ ys)
of_both P [] ys h k = k
of_both P (x ∷ xs) ys h k = (h.0, of_both P xs ys h.1 k)

mutual
  pub lambdas_fit : (e : Expr) → IsFit e → AllByRecursion IsFitLambda (lambdas e)
  lambdas_fit (Lambda q xs r body) h = (h, lambdas_fit body h.1)
  lambdas_fit (If q test this that) h =
      of_both IsFitLambda (lambdas test) (lambdas this ++ lambdas that) (lambdas_fit test h.1)
      (of_both IsFitLambda (lambdas this) (lambdas that) (lambdas_fit this h.2) (lambdas_fit that h.3))
  lambdas_fit (SetLocal q x e) h = lambdas_fit e h.1
  lambdas_fit (SetTop q x e) h = lambdas_fit e h.1
  lambdas_fit (Call q f es) h =
      of_both IsFitLambda (lambdas f) (all_lambdas es) (lambdas_fit f h.1) (all_lambdas_fit es h.2)
  lambdas_fit (Direct q xs body es) h =
      of_both IsFitLambda (lambdas body) (all_lambdas es) (lambdas_fit body h.1) (all_lambdas_fit es h.2)
  lambdas_fit (Prim q o es) h = all_lambdas_fit es h.2
  lambdas_fit (Seq q es) h = all_lambdas_fit es h.1
  lambdas_fit (Fix q xs ls body) h =
      of_both IsFitLambda (all_lambdas ls) (lambdas body) (all_lambdas_fit ls h.2) (lambdas_fit body h.3)
  lambdas_fit (Define q x e) h = absurd h
  lambdas_fit e h = tt

  all_lambdas_fit : (es : Exprs) → AllFit es → AllByRecursion IsFitLambda (all_lambdas es)
  all_lambdas_fit none h = tt
  all_lambdas_fit (item e es) h =
      of_both IsFitLambda (lambdas e) (all_lambdas es) (lambdas_fit e h.0) (all_lambdas_fit es h.1)

pub form_lambdas_fit : (e : Expr) → FormFits e → AllByRecursion IsFitLambda (lambdas e)
form_lambdas_fit (Define q x e) h = lambdas_fit e h.1
form_lambdas_fit e h = plain e h
  where
    plain : (d : Expr) → FormFits d → AllByRecursion IsFitLambda (lambdas d)
    plain (Define q x d) h = lambdas_fit d h.1
    plain d h = lambdas_fit d h

abbrev pub IsFitPlaced : ℕ × Expr → Type 0
IsFitPlaced l = IsFitLambda l.1

placed_each : (f : ℕ) (es : List Expr) → AllByRecursion IsFitLambda es
    → AllByRecursion IsFitPlaced (map (λ l. (f, l)) es)
placed_each f [] h = tt
placed_each f (e ∷ es) h = (h.0, placed_each f es h.1)

pub placed_fit : (f : ℕ) (es : Exprs) → FormsFit es → AllByRecursion IsFitPlaced (placed_lambdas f es)
placed_fit f none h = tt
placed_fit f (item e es) h =
    of_both IsFitPlaced (map (λ l. (f, l)) (lambdas e)) (placed_lambdas (suc f) es)
    (placed_each f (lambdas e) (form_lambdas_fit e h.0)) (placed_fit (suc f) es h.1)

-- Programs

lambda_asked : (P : OfSteps Pos) (Q : OfValues) → Asked P Q → (s : Setting) (n p : ℕ) (e : Expr) → IsFitLambda e
    → Throughout P Q (written s n p e).body
lambda_asked P Q h s n p (Lambda q xs r body) fit = written_asked P Q h s n p q xs r body fit
lambda_asked P Q h s n p e fit = absurd fit

lambdas_asked : (P : OfSteps Pos) (Q : OfValues) → Asked P Q → (all : Exprs) (n p : ℕ) (ls : List (ℕ × Expr))
    → AllByRecursion IsFitPlaced ls → AllByRecursion (λ w. Throughout P Q w.body) (all_written all n p ls)
lambdas_asked P Q h all n p [] fit = tt
lambdas_asked P Q h all n p (l ∷ ls) fit = (
  lambda_asked P Q h (setting all l.0) n p l.1 fit.0,
  lambdas_asked P Q h all (after_lambda (is_boxed all) n l.1) (suc p) ls fit.1,
)

-- what is asked of a block holds with a definition before it
abbrev Defining : (Code Pos → Type 0) → Type 0
Defining R =
    (q : Pos) (n top y : ℕ) (rest : Code Pos) → IsPosition q → R rest → R (Then q (n ∷ []) (act.TopDefine top y) rest)

form_asked : (P : OfSteps Pos) (Q : OfValues) → Asked P Q → (R : Code Pos → Type 0) → Before P Q R → Defining R
    → (s : Setting) (e : Expr) → FormFits e → (n p : ℕ) (rest : Code Pos) → R rest → R (code s e n p rest)
form_asked P Q h R k d s (Define q x e) fit n p rest r =
    code_asked P Q h s e fit.1 R k n p (Then q (after s.boxed n e ∷ []) (act.TopDefine (s.top x) (value s e n)) rest)
    (d q (after s.boxed n e) (s.top x) (value s e n) rest fit.0 r)
form_asked P Q h R k d s e fit n p rest r = code_asked P Q h s e fit R k n p rest r

forms_asked : (P : OfSteps Pos) (Q : OfValues) → Asked P Q → (R : Code Pos → Type 0) → Before P Q R → Defining R
    → R (Ends None) → (all : Exprs) (f n p : ℕ) (es : Exprs) → FormsFit es → R (form_code all f n p es)
forms_asked P Q h R k d end all f n p none fit = end
forms_asked P Q h R k d end all f n p (item e es) fit =
    form_asked P Q h R k d (setting all f) e fit.0 n p (form_code all (suc f) (after (is_boxed all) n e) (p + procs_in e) es)
    (forms_asked P Q h R k d end all (suc f) (after (is_boxed all) n e) (p + procs_in e) es fit.1)

pub fit_of : (core : Program VarRef) (forms : Trees VarRef) → IsRenamed core forms → FormsFit (all_told core.lits forms)
fit_of core forms h = forms_fit core.lits forms h.valid.fine h.valid.placed

-- what is asked of all steps, definitions among them
steps_of : (P : OfSteps Pos) → Asked P AnyValue
    → ((q : Pos) (n top y : ℕ) → IsPosition q → P q (n ∷ []) (act.TopDefine top y)) → (es : Exprs) (lits : List Lit)
    → FormsFit es → AllByRecursion (λ w. Throughout P AnyValue w.body) (named es lits).procs
steps_of P h d es lits fit = (
  forms_asked P AnyValue h (λ c. Throughout P AnyValue c) (before_each P AnyValue)
      (λ q n top y rest at r. (d q n top y at, tt, r)) tt es 0 0 1 es fit,
  lambdas_asked P AnyValue h es (all_after (is_boxed es) 0 es) 1 (placed_lambdas 0 es) (placed_fit 0 es fit),
)

pub each_binds : (core : Program VarRef) (forms : Trees VarRef) → IsRenamed core forms
    → AllByRecursion (λ w. Throughout Binds AnyValue w.body) (form_of core forms).procs
each_binds core forms h =
    steps_of Binds binds_asked (λ q n top y at. refl) (all_told core.lits forms) core.lits (fit_of core forms h)

pub each_takes : (core : Program VarRef) (forms : Trees VarRef) → IsRenamed core forms
    → AllByRecursion (λ w. Throughout Takes AnyValue w.body) (form_of core forms).procs
each_takes core forms h =
    steps_of Takes takes_asked (λ q n top y at. tt) (all_told core.lits forms) core.lits (fit_of core forms h)

lambda_placed : (s : Setting) (n p : ℕ) (e : Expr) → IsFitLambda e → Placed (written s n p e)
lambda_placed s n p (Lambda q xs r body) fit =
    (fit.0, written_asked StandsAt AnyValue stands_asked s n p q xs r body fit)
lambda_placed s n p e fit = absurd fit

lambdas_placed : (all : Exprs) (n p : ℕ) (ls : List (ℕ × Expr)) → AllByRecursion IsFitPlaced ls
    → AllByRecursion Placed (all_written all n p ls)
lambdas_placed all n p [] fit = tt
lambdas_placed all n p (l ∷ ls) fit = (
  lambda_placed (setting all l.0) n p l.1 fit.0,
  lambdas_placed all (after_lambda (is_boxed all) n l.1) (suc p) ls fit.1,
)

pub each_placed : (core : Program VarRef) (forms : Trees VarRef) → IsRenamed core forms
    → AllByRecursion Placed (form_of core forms).procs
each_placed core forms h =
    let es = all_told core.lits forms in
    let fit = fit_of core forms h in (
      (
        (omega arith, omega arith),
        (steps_of StandsAt stands_asked (λ q n top y at. at) es core.lits fit).0,
      ),
      lambdas_placed es (all_after (is_boxed es) 0 es) 1 (placed_lambdas 0 es) (placed_fit 0 es fit),
    )

pub bodies_are : (core : Program VarRef) (forms : Trees VarRef) → IsRenamed core forms → Bodies (form_of core forms).procs
bodies_are core forms h =
    let es = all_told core.lits forms in
    let fit = fit_of core forms h in (
      refl,
      refl,
      refl,
      forms_asked NoDefinition IsThere nothing_defined (λ c. IsProgram c) (λ q vars a rest step arms r. (arms, r))
          (λ q n top y rest at r. (tt, r)) refl es 0 0 1 es fit,
      lambdas_asked NoDefinition IsThere nothing_defined es (all_after (is_boxed es) 0 es) 1 (placed_lambdas 0 es)
          (placed_fit 0 es fit),
    )
