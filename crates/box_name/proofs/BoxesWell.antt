-- A variable of a program is read as a box where it is bound to one, and nowhere else.
use Rattle.std.proofs.Common.{◌≡◌, ℕ, suc, ◌+◌, Bool, true, false, List, [], ◌∷◌, cond, Some, refl, sym, ap, ◌∙◌, subst, eqb-true}
use Rattle.std.specs.Prelude.{nat_eq, ◌||◌}
use Rattle.std.specs.List.{AllByRecursion, IsDistinct}
use Rattle.std.specs.Map.{lookup}
use Rattle.scheme_base.specs.declared.lit.Lit.{Lit}
use Rattle.core_form.specs.declared.program.Program.{Program}
use Rattle.core_form.specs.declared.program.VarRef.{VarRef}
use Rattle.core_form.specs.Trees.{Trees}
use Rattle.core_form.specs.Valid.{IsRenamed}
use Rattle.core_form.specs.Valid as valid
use Rattle.named_form.specs.Code.{has}
use Rattle.named_form.specs.Valid.{AnyValue, Boxes, all_boxes}
use Rattle.box_name.specs.Told.{Expr, Hole, Lambda, If, SetLocal, SetTop, Call, Direct, Prim, Seq, Fix, Define, Exprs, none, item, all_told}
use Rattle.box_name.specs.Counts.{after, after_lambda, all_after, all_lambdas, all_places, lambda_places, lambdas, places, procs_in}
use Rattle.box_name.specs.Cores.{form_of}
use Rattle.box_name.specs.Naming.{found, place}
use Rattle.box_name.specs.Whole.{all_assigned, all_holes, all_written, form_code, is_boxed, lambdas_places, named, placed_lambdas, setting, whole_places}
use Rattle.box_name.proofs.BoxesKnown.{Stands, all_suit}
use Rattle.box_name.proofs.BoxesMade.{BindsBoxes, Boxing, boxing}
use Rattle.box_name.proofs.BoxesRead.{AllFound, AllSuit, Binding, BodySuits, Finds, IsFound, OperandsSuit, Reading, Suits, code_found, code_reads, lambda_found, lambda_reads, past}
use Rattle.box_name.proofs.FitExpressions.{FormsFit}
use Rattle.box_name.proofs.MadeOnce.{all_placed_exprs, exprs_of}
use Rattle.box_name.proofs.Members.{never}
use Rattle.box_name.proofs.NumbersInOrder.{all_numbered}
use Rattle.box_name.proofs.PlacesOnce.{bound_placed, placed}
use Rattle.box_name.proofs.ScopesTold.{AllScoped, all_bound, all_bound_local, all_told_bound, forms_scoped, numbers_distinct}
use Rattle.box_name.proofs.StepsWell.{fit_of, of_both}

found_placed : (boxes : List ℕ) (b : ℕ → Bool) (ps : List (ℕ × ℕ)) → AllFound boxes b ps → (x : ℕ)
    → has (placed ps) x ≡ true → has boxes (place ps x) ≡ b x
found_placed boxes b [] h x e = never e
found_placed boxes b (a ∷ ps) h x e = here (nat_eq x a.0) refl e (λ k. found_placed boxes b ps h.1 x k)
  where
    here : (c : Bool) → nat_eq x a.0 ≡ c → c || has (placed ps) x ≡ true
        → (has (placed ps) x ≡ true → has boxes (place ps x) ≡ b x)
        → has boxes (found (cond c (Some a.1) (lookup (nat_eq x) ps))) ≡ b x
    here true same k others = h.0 ∙ ap b (sym (eqb-true x a.0 same))
    here false same k others = others k

-- What is asked of the bodies of procedures

mutual
  bodies_suit : (b : ℕ → Bool) (k : List ℕ) (e : Expr) → Suits b k e → AllByRecursion (BodySuits b k) (lambdas e)
  bodies_suit b k (Lambda q xs r body) h = (h, bodies_suit b k body h)
  bodies_suit b k (If q test this that) h =
      of_both (BodySuits b k) (lambdas test) _ (bodies_suit b k test h.0)
      (of_both (BodySuits b k) (lambdas this) (lambdas that) (bodies_suit b k this h.1) (bodies_suit b k that h.2))
  bodies_suit b k (SetLocal q x e) h = bodies_suit b k e h.2
  bodies_suit b k (SetTop q x e) h = bodies_suit b k e h
  bodies_suit b k (Call q f es) h =
      of_both (BodySuits b k) (lambdas f) (all_lambdas es) (bodies_suit b k f h.0) (all_bodies_suit b k es h.1)
  bodies_suit b k (Direct q xs body es) h =
      of_both (BodySuits b k) (lambdas body) (all_lambdas es) (bodies_suit b k body h.1) (operand_bodies_suit b k xs es h.0)
  bodies_suit b k (Prim q o es) h = all_bodies_suit b k es h
  bodies_suit b k (Seq q es) h = all_bodies_suit b k es h.1
  bodies_suit b k (Fix q xs ls body) h =
      of_both (BodySuits b k) (all_lambdas ls) (lambdas body) (all_bodies_suit b k ls h.1) (bodies_suit b k body h.2)
  bodies_suit b k (Define q x e) h = bodies_suit b k e h
  bodies_suit b k e h = tt

  all_bodies_suit : (b : ℕ → Bool) (k : List ℕ) (es : Exprs) → AllSuit b k es
      → AllByRecursion (BodySuits b k) (all_lambdas es)
  all_bodies_suit b k none h = tt
  all_bodies_suit b k (item e es) h =
      of_both (BodySuits b k) (lambdas e) (all_lambdas es) (bodies_suit b k e h.0) (all_bodies_suit b k es h.1)

  operand_bodies_suit : (b : ℕ → Bool) (k xs : List ℕ) (es : Exprs) → OperandsSuit b k xs es
      → AllByRecursion (BodySuits b k) (all_lambdas es)
  operand_bodies_suit b k xs none h = tt
  operand_bodies_suit b k [] (item e es) h = absurd h
  operand_bodies_suit b k (x ∷ xs) (item Hole es) h = operand_bodies_suit b k xs es h.1
  operand_bodies_suit b k (x ∷ xs) (item e es) h =
      of_both (BodySuits b k) (lambdas e) (all_lambdas es) (bodies_suit b k e h.0) (operand_bodies_suit b k xs es h.1)

-- Programs

forms_found : (boxes : List ℕ) (all : Exprs) (k : List ℕ) (f n p : ℕ) (es : Exprs) → AllSuit (is_boxed all) k es
    → Binding boxes (form_code all f n p es) → AllFound boxes (is_boxed all) (all_places (is_boxed all) n es)
forms_found boxes all k f n p none h t = tt
forms_found boxes all k f n p (item e es) h t =
    of_both (IsFound boxes (is_boxed all)) (places (is_boxed all) n e) _ (code_found boxes (setting all f) k e n p _ h.0 t)
    (forms_found boxes all k (suc f) (after (is_boxed all) n e) (p + procs_in e) es h.1
    (past (BindsBoxes boxes) AnyValue (setting all f) e n p _ t))

lambdas_found : (boxes : List ℕ) (all : Exprs) (k : List ℕ) (n p : ℕ) (ls : List (ℕ × Expr))
    → AllByRecursion (BodySuits (is_boxed all) k) (exprs_of ls) → AllByRecursion (Boxing boxes) (all_written all n p ls)
    → AllFound boxes (is_boxed all) (lambdas_places (is_boxed all) n ls)
lambdas_found boxes all k n p [] h t = tt
lambdas_found boxes all k n p (l ∷ ls) h t =
    of_both (IsFound boxes (is_boxed all)) (lambda_places (is_boxed all) n l.1) _
    (lambda_found boxes (setting all l.0) k n p l.1 h.0 t.0)
    (lambdas_found boxes all k (after_lambda (is_boxed all) n l.1) (suc p) ls h.1 t.1)

forms_read : (boxes : List ℕ) (all : Exprs) (k : List ℕ) → Finds boxes (setting all 0) k → (f n p : ℕ) (es : Exprs)
    → AllSuit (is_boxed all) k es → Binding boxes (form_code all f n p es) → Reading boxes (form_code all f n p es)
forms_read boxes all k found f n p none h t = tt
forms_read boxes all k found f n p (item e es) h t =
    code_reads boxes (setting all f) k found e n p _ h.0 t
    (forms_read boxes all k found (suc f) (after (is_boxed all) n e) (p + procs_in e) es h.1
    (past (BindsBoxes boxes) AnyValue (setting all f) e n p _ t))

lambdas_read : (boxes : List ℕ) (all : Exprs) (k : List ℕ) → Finds boxes (setting all 0) k → (n p : ℕ) (ls : List (ℕ × Expr))
    → AllByRecursion (BodySuits (is_boxed all) k) (exprs_of ls) → AllByRecursion (Boxing boxes) (all_written all n p ls)
    → AllByRecursion (λ w. Reading boxes w.body) (all_written all n p ls)
lambdas_read boxes all k found n p [] h t = tt
lambdas_read boxes all k found n p (l ∷ ls) h t = (
  lambda_reads boxes (setting all l.0) k found n p l.1 h.0 t.0,
  lambdas_read boxes all k found (after_lambda (is_boxed all) n l.1) (suc p) ls h.1 t.1,
)

program_reads : (es : Exprs) (lits : List Lit) → FormsFit es → AllScoped [] es → IsDistinct nat_eq (all_bound es)
    → AllByRecursion (Boxing (all_boxes (named es lits).procs)) (named es lits).procs → Boxes (named es lits).procs
program_reads es lits fit h d w =
    let b = is_boxed es in
    let boxes = all_boxes (named es lits).procs in
    let k = placed (whole_places es) in
    let ls = placed_lambdas 0 es in
    let n = all_after b 0 es in
    let stands : Stands es k [] (all_bound es) (all_assigned es) (all_holes es) =
    record {
      distinct = d;
      apart = λ v e. refl;
      assigned = λ v e. refl;
      unvalued = λ v e. refl;
      sets_in = λ v e. e;
      lacks_in = λ v e. e;
      found = bound_placed es fit h;
      sight = λ v e. never e;
    } in
    let suit = all_suit es k [] es h stands in
    let bodies : AllByRecursion (BodySuits b k) (exprs_of ls) =
    subst (AllByRecursion (BodySuits b k)) (sym (all_placed_exprs 0 es)) (all_bodies_suit b k es suit) in
    let places =
    of_both (IsFound boxes b) (all_places b 0 es) (lambdas_places b n ls)
    (forms_found boxes es k 0 0 1 es suit w.0.steps) (lambdas_found boxes es k n 1 ls bodies w.1) in
    let finds = found_placed boxes b (whole_places es) places in
    (forms_read boxes es k finds 0 0 1 es suit w.0.steps, lambdas_read boxes es k finds n 1 ls bodies w.1)

pub each_box : (core : Program VarRef) (forms : Trees VarRef) → IsRenamed core forms → Boxes (form_of core forms).procs
each_box core forms h =
    let es = all_told core.lits forms in
    program_reads es core.lits (fit_of core forms h) (forms_scoped core.lits forms h.valid.fine h.scoped h.once)
    (subst (IsDistinct nat_eq) (sym (all_told_bound core.lits forms))
    (numbers_distinct (valid.all_bound forms) (all_bound_local [] forms h.scoped) h.once))
    (boxing (form_of core forms).procs (all_numbered core forms))
