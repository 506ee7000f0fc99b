-- The named form of a renamed core.
use Rattle.std.specs.Prelude.{ℕ, zero, suc, ◌+◌, nat_eq, List, [], ◌∷◌, ◌++◌, length, map, position, Option, None, Some, Bool, true, false, not, ◌&&◌, ◌||◌, if◌then◌else◌}
use Rattle.std.specs.List.{list_any}
use Rattle.scheme_base.specs.declared.lit.Lit.{Lit}
use Rattle.scheme_base.specs.declared.pos.Pos.{Pos}
use Rattle.core_form.specs.declared.program.Var.{Var}
use Rattle.core_form.specs.Variables.{same_var}
use Rattle.named_form.specs.Code.{Code, Ends, Written}
use Rattle.named_form.specs.Valid.{Form}
use Rattle.box_name.specs.Told.{Expr, Hole, Const, Local, Top, Lambda, If, SetLocal, SetTop, Call, Direct, Prim, Seq, Fix, Define, Exprs, none, item}
use Rattle.box_name.specs.Counts.{procs_in, lambdas, after, all_after, all_places, after_lambda, lambda_places}
use Rattle.box_name.specs.Naming.{Setting, found, code, written}

-- Local variables

abbrev mutual
  -- the local variables that an expression assigns
  pub assigned : Expr → List ℕ
  assigned (Lambda p xs r body) = assigned body
  assigned (If p test this that) = assigned test ++ (assigned this ++ assigned that)
  assigned (SetLocal p x e) = x ∷ assigned e
  assigned (SetTop p x e) = assigned e
  assigned (Call p f es) = assigned f ++ all_assigned es
  assigned (Direct p xs body es) = assigned body ++ all_assigned es
  assigned (Prim p o es) = all_assigned es
  assigned (Seq p es) = all_assigned es
  assigned (Fix p xs ls body) = all_assigned ls ++ assigned body
  assigned (Define p x e) = assigned e
  assigned e = []

  pub all_assigned : Exprs → List ℕ
  all_assigned none = []
  all_assigned (item e es) = assigned e ++ all_assigned es

-- the parameters of a direct call that have no value at first
abbrev pub unvalued : List ℕ → Exprs → List ℕ
unvalued (x ∷ xs) (item Hole es) = x ∷ unvalued xs es
unvalued (x ∷ xs) (item e es) = unvalued xs es
unvalued xs es = []

abbrev mutual
  -- the local variables that have no value at first
  pub holes : Expr → List ℕ
  holes (Lambda p xs r body) = holes body
  holes (If p test this that) = holes test ++ (holes this ++ holes that)
  holes (SetLocal p x e) = holes e
  holes (SetTop p x e) = holes e
  holes (Call p f es) = holes f ++ all_holes es
  holes (Direct p xs body es) = unvalued xs es ++ (holes body ++ all_holes es)
  holes (Prim p o es) = all_holes es
  holes (Seq p es) = all_holes es
  holes (Fix p xs ls body) = all_holes ls ++ holes body
  holes (Define p x e) = holes e
  holes e = []

  pub all_holes : Exprs → List ℕ
  all_holes none = []
  all_holes (item e es) = holes e ++ all_holes es

abbrev pub has : List ℕ → ℕ → Bool
has xs x = list_any (nat_eq x) xs

abbrev pub is_boxed : Exprs → ℕ → Bool
is_boxed forms x = has (all_assigned forms) x || has (all_holes forms) x

-- Top-level variables

abbrev mutual
  -- the top-level variables that stand in an expression, as in the text
  pub tops : Expr → List Var
  tops (Top p x) = x ∷ []
  tops (Lambda p xs r body) = tops body
  tops (If p test this that) = tops test ++ (tops this ++ tops that)
  tops (SetLocal p x e) = tops e
  tops (SetTop p x e) = x ∷ tops e
  tops (Call p f es) = tops f ++ all_tops es
  tops (Direct p xs body es) = tops body ++ all_tops es
  tops (Prim p o es) = all_tops es
  tops (Seq p es) = all_tops es
  tops (Fix p xs ls body) = all_tops ls ++ tops body
  tops (Define p x e) = x ∷ tops e
  tops e = []

  pub all_tops : Exprs → List Var
  all_tops none = []
  all_tops (item e es) = tops e ++ all_tops es

-- variables in the order in which they were first seen, after those of a list
abbrev pub seen : List Var → List Var → List Var
seen ys [] = ys
seen ys (x ∷ xs) = seen (if list_any (same_var x) ys then ys else ys ++ x ∷ []) xs

abbrev pub tops_of : Exprs → List Var
tops_of forms = seen [] (all_tops forms)

abbrev pub defines : Expr → Var → Bool
defines (Define p y e) x = same_var y x
defines e x = false

-- whether a form defines a variable as a lambda expression or a literal
abbrev pub is_plain : Expr → Bool
is_plain (Const p l) = true
is_plain (Lambda p xs r body) = true
is_plain e = false

abbrev pub is_plain_definition : Expr → Bool
is_plain_definition (Define p x e) = is_plain e
is_plain_definition e = false

-- whether the first form that defines a variable, and all forms before it, are such definitions
abbrev pub leads_to : Exprs → Var → Bool
leads_to none x = false
leads_to (item d ds) x = is_plain_definition d && (defines d x || leads_to ds x)

-- Whether a variable is sure to be defined when form f meets it: a form before f defines it, or the forms from f
-- on lead to its definition.
abbrev pub is_sure : Exprs → (f : ℕ) → Var → Bool
is_sure ds zero x = leads_to ds x
is_sure none (suc f) x = false
is_sure (item d ds) (suc f) x = defines d x || is_sure ds f x

-- The program

-- the lambda expressions that become procedures, each with its form's number
abbrev pub placed_lambdas : (f : ℕ) → Exprs → List (ℕ × Expr)
placed_lambdas f none = []
placed_lambdas f (item e es) = map (λ l. (f, l)) (lambdas e) ++ placed_lambdas (suc f) es

abbrev pub lambdas_places : (boxed : ℕ → Bool) → (n : ℕ) → List (ℕ × Expr) → List (ℕ × ℕ)
lambdas_places boxed n [] = []
lambdas_places boxed n (l ∷ ls) = lambda_places boxed n l.1 ++ lambdas_places boxed (after_lambda boxed n l.1) ls

-- the variable after those of lambda expressions
abbrev pub after_lambdas : (boxed : ℕ → Bool) → (n : ℕ) → List (ℕ × Expr) → ℕ
after_lambdas boxed n [] = n
after_lambdas boxed n (l ∷ ls) = after_lambdas boxed (after_lambda boxed n l.1) ls

-- where all local variables of a program are found
abbrev pub whole_places : Exprs → List (ℕ × ℕ)
whole_places forms =
    let boxed = is_boxed forms in
    all_places boxed 0 forms ++ lambdas_places boxed (all_after boxed 0 forms) (placed_lambdas 0 forms)

-- what is known in form f
abbrev pub setting : Exprs → (f : ℕ) → Setting
setting forms f =
    record {
      boxed = is_boxed forms;
      hole = has (all_holes forms);
      places = whole_places forms;
      top = λ x. found (position (same_var x) (tops_of forms));
      checked = λ x. not (is_sure forms f x);
    }

-- the steps of the forms from f on, which bind the variables from n on and have the procedures from p on
abbrev pub form_code : (all : Exprs) → (f n p : ℕ) → Exprs → Code Pos
form_code all f n p none = Ends None
form_code all f n p (item e es) =
    code (setting all f) e n p (form_code all (suc f) (after (is_boxed all) n e) (p + procs_in e) es)

abbrev pub all_written : (all : Exprs) → (n p : ℕ) → List (ℕ × Expr) → List Written
all_written all n p [] = []
all_written all n p (l ∷ ls) =
    written (setting all l.0) n p l.1 ∷ all_written all (after_lambda (is_boxed all) n l.1) (suc p) ls

-- the program is procedure 0, and the procedures follow
abbrev pub named : Exprs → List Lit → Form
named forms lits =
    record {
      procs =
          record {
            params = [];
            rest = None;
            body = form_code forms 0 0 1 forms;
            pos = record { line = 0; col = 0 };
          }
          ∷ all_written forms (all_after (is_boxed forms) 0 forms) 1 (placed_lambdas 0 forms);
      tops = length (tops_of forms);
      lits = lits;
    }
