-- Which core an expression is, as R4RS 7.3 rewrites derived forms: a clause for each form.
--
-- All that a rewrite makes has the place of the form that is rewritten.
use Rattle.std.specs.Prelude.{ℕ, zero, suc, ◌+◌, List, [], ◌∷◌, ◌++◌, length, map, Option, Some, None, Bool, true, false, not, ◌&&◌, if◌then◌else◌, codes}
use Rattle.std.specs.List.{list_any}
use Rattle.std.specs.Str.{bytes_eq}
use Rattle.scheme_base.specs.declared.pos.Pos.{Pos}
use Rattle.scheme_base.specs.declared.op.Op.TheVariants as op
use Rattle.scheme_base.specs.Constants.{Constant, Constant as constant}
use Rattle.scheme_expand.specs.Forms.{Word, Exp, Exps, Bindings, Body, Clauses, Cases, Steps, Template, Forms, Wrong, Value, Variable, Application, Procedure, OneArmed, TwoArmed, Assignment, Cond, Case, And, Or, Let, LetStar, Letrec, Begin, Do, Named, Quasi, no_exp, exp, no_binding, binding, broken, Of, no_clause, otherwise, value, clause, passing, no_case, others, one_of, no_step, fixed, stepped, Plain, Unquoted, Spliced, Pair, Vector, no_form, evaluated, defining}
use Rattle.scheme_expand.specs.Grammar.{bound_words, step_words}
use Rattle.draft_form.specs.Drafts.{Name, Draft, Drafts, Local, Fresh, Top, Library, Const, Ref, Lambda, If, Set, Call, Prim, Seq, Fix, Define, none, item, ◌then◌, parts, all_parts, changes}
use Rattle.scheme_expand.specs.Calls.{one, two, truth, integrated}

-- Scopes

-- whose text is rewritten: a program has variables of its own, also some of names that the library makes public
pub data Side : Type 0 where
  OfLibrary : Side
  OfProgram : (public own : List (List ℕ)) → Side

pub record Scope : Type 0 where
  pub side : Side
  -- the names of the variables that are bound, the innermost first; a fresh variable has none
  pub bound : List (List ℕ)

abbrev pub level : Scope → ℕ
level s = length s.bound

abbrev pub has_name : List (List ℕ) → List ℕ → Bool
has_name xs x = list_any (bytes_eq x) xs

-- the level of the innermost variable of a name
abbrev pub found : List (List ℕ) → List ℕ → Option ℕ
found [] x = None
found (y ∷ ys) x = if bytes_eq x y then Some (length ys) else found ys x

abbrev pub free : Side → List ℕ → Name
free OfLibrary x = Library x
free (OfProgram public own) x = if has_name public x && not (has_name own x) then Library x else Top x

abbrev pub local_or : Option ℕ → List ℕ → Name → Name
local_or (Some k) x y = Local k x
local_or None x y = y

-- what a name means
abbrev pub meaning : Scope → List ℕ → Name
meaning s x = local_or (found s.bound x) x (free s.side x)

-- the names around, with these bound inside them, the last one innermost
abbrev pub inside : List (List ℕ) → List (List ℕ) → List (List ℕ)
inside bound [] = bound
inside bound (x ∷ xs) = inside (x ∷ bound) xs

-- the scope in which these variables are bound too
abbrev pub within : Scope → List (List ℕ) → Scope
within s xs = record s { bound = inside s.bound xs }

abbrev pub variable : ℕ → List ℕ → Name
variable k [] = Fresh k
variable k (b ∷ x) = Local k (b ∷ x)

-- variables of these names from a level on
abbrev pub variables : ℕ → List (List ℕ) → List Name
variables k [] = []
variables k (x ∷ xs) = variable k x ∷ variables (suc k) xs

-- the names of fresh variables
abbrev pub unnamed : (many : ℕ) → List (List ℕ)
unnamed zero = []
unnamed (suc n) = [] ∷ unnamed n

abbrev pub names : List Word → List (List ℕ)
names ws = map (λ w. w.name) ws

-- What rewrites make

abbrev pub unspecified : Pos → Draft
unspecified p = Const p constant.Unspecified

-- a direct call of a lambda expression with variables of these names
abbrev pub let_names : Pos → Scope → List (List ℕ) → (Scope → Draft) → Drafts → Draft
let_names p s xs body values = Call p (Lambda p (variables (level s) xs) None (body (within s xs))) values

-- a fresh variable is bound to a value
abbrev pub let_fresh : Pos → Scope → Draft → (Name → Scope → Draft) → Draft
let_fresh p s e body = let_names p s ([] ∷ []) (body (Fresh (level s))) (one e)

-- the value of an expression if that is true, else the rest
abbrev pub either : Pos → Scope → Draft → (Scope → Draft) → Draft
either p s e rest = let_fresh p s e (λ v t. If p (Ref p v) (Ref p v) (rest t))

abbrev pub sequence : Pos → Drafts → Draft
sequence p (item e none) = e
sequence p es = Seq p es

abbrev pub undefined : Pos → List (List ℕ) → Drafts
undefined p [] = none
undefined p (x ∷ xs) = item (Const p constant.Undefined) (undefined p xs)

-- variables from one level on are assigned those from another
abbrev pub assignments : Pos → (to from : ℕ) → List (List ℕ) → Drafts
assignments p j k [] = none
assignments p j k (x ∷ xs) = item (Set p (variable j x) (Ref p (Fresh k))) (assignments p (suc j) (suc k) xs)

-- Procedures that know each other, before a body. In it the levels of the fresh variables that a `letrec` can
-- need are kept free.
abbrev pub fix : Pos → Scope → List (List ℕ) → (values : Drafts) → (body : Draft) → Draft
fix p s xs values body = Fix p (variables (level s) xs) values body

-- a `letrec` of what is not all procedures, or of variables that are assigned
abbrev pub letrec_by_set : Pos → Scope → List (List ℕ) → (values : Drafts) → (body : Draft) → Draft
letrec_by_set p s xs values body =
    let_names p s xs
    (λ t. let_names p t (unnamed (length xs))
    (λ u. Seq p (assignments p (level s) (level t) xs then one (Call p (Lambda p [] None body) none))) values)
    (undefined p xs)

abbrev pub body_scope : Scope → List (List ℕ) → Scope
body_scope s xs = within (within s xs) (unnamed (length xs))

-- a `letrec`, R4RS 4.2.2, whose values and body stand in scopes of their own
abbrev pub letrec : Pos → Scope → List (List ℕ) → (are_lambdas : Bool) → (values : Drafts) → (body : Draft) → Draft
letrec p s xs lambdas values body =
    if lambdas && not (changes (level s) (length xs) (all_parts values ++ parts body)) then fix p s xs values body
    else letrec_by_set p s xs values body

-- A call. A variable of the library is called as what its procedure does.
abbrev pub call_or : Draft → Option Draft → Draft
call_or e None = e
call_or e (Some d) = d

abbrev pub call_of : Pos → (level : ℕ) → Name → Draft → Drafts → Draft
call_of p k (Library x) e es = call_or (Call p e es) (integrated p k x es)
call_of p k y e es = Call p e es

abbrev pub call : Pos → Scope → (operator : Exp) → Draft → Drafts → Draft
call p s (Variable w) e es = call_of p (level s) (meaning s w.name) e es
call p s operator e es = Call p e es

-- the test whether a variable is one of these constants
abbrev pub is_one_of : Pos → Scope → Name → List Constant → Draft
is_one_of p s v [] = truth p false
is_one_of p s v (c ∷ []) = Prim p op.Eqv (two (Ref p v) (Const p c))
is_one_of p s v (c ∷ d ∷ cs) =
    either p s (Prim p op.Eqv (two (Ref p v) (Const p c))) (λ t. is_one_of p t v (d ∷ cs))

abbrev pub is_lambda : Exp → Bool
is_lambda (Procedure p ws r b) = true
is_lambda e = false

abbrev pub are_lambdas : Bindings → Bool
are_lambdas no_binding = true
are_lambdas (binding p w e bs) = is_lambda e && are_lambdas bs
are_lambdas (broken p n bs) = are_lambdas bs

abbrev pub is_empty : Bindings → Bool
is_empty no_binding = true
is_empty bs = false

abbrev pub rest_name : Option Word → List (List ℕ)
rest_name None = []
rest_name (Some w) = w.name ∷ []

abbrev pub rest_variable : ℕ → Option Word → Option Name
rest_variable k None = None
rest_variable k (Some w) = Some (variable k w.name)

-- a lambda expression
abbrev pub lambda : Pos → Scope → List (List ℕ) → Option Word → (Scope → Draft) → Draft
lambda p s xs r body =
    Lambda p (variables (level s) xs) (rest_variable (level s + length xs) r) (body (within s (xs ++ rest_name r)))

-- a loop's results, if it has any
abbrev pub results_of : Pos → Drafts → Draft
results_of p none = unspecified p
results_of p es = Seq p es

-- Expressions

abbrev mutual
  pub core : Exp → Scope → Draft
  core (Wrong p n) s = unspecified p
  core (Value p c) s = Const p c
  core (Variable w) s = Ref w.place (meaning s w.name)
  core (Application p e es) s = call p s e (core e s) (cores es s)
  core (Procedure p ws r b) s = lambda p s (names ws) r (body_core b p)
  core (OneArmed p test this) s = If p (core test s) (core this s) (unspecified p)
  core (TwoArmed p test this that) s = If p (core test s) (core this s) (core that s)
  core (Assignment p w e) s = Set p (meaning s w.name) (core e s)
  core (Cond p cs) s = clauses_core cs p s
  core (Case p e cs) s = let_fresh p s (core e s) (λ v t. cases_core cs p v t)
  core (And p es) s = and_core es p s
  core (Or p es) s = or_core es p s
  core (Let p bs b) s = let_names p s (names (bound_words bs)) (body_core b p) (values bs s)
  core (LetStar p bs b) s = let_star bs p (body_core b p) s
  core (Letrec p bs b) s =
      let xs : List (List ℕ) = names (bound_words bs) in
      letrec p s xs (are_lambdas bs) (values bs (within s xs)) (body_core b p (body_scope s xs))
  core (Begin p es) s = Seq p (cores es s)
  core (Do p ss test results commands) s =
      let loop : Draft = Ref p (Fresh (level s)) in
      let round : Scope → Draft = λ t.
      If p (core test t) (results_of p (cores results t))
      (Seq p (cores commands t then one (Call p loop (nexts ss p t)))) in
      Call p
      (fix p s ([] ∷ []) (one (lambda p (within s ([] ∷ [])) (names (step_words ss)) None round)) loop)
      (firsts ss s)
  core (Named p w bs b) s =
      let here : List (List ℕ) = w.name ∷ [] in
      Call p
      (letrec p s here true (one (lambda p (within s here) (names (bound_words bs)) None (body_core b p)))
      (Ref p (variable (level s) w.name)))
      (values bs s)
  core (Quasi p t) s = template_core t p s

  pub cores : Exps → Scope → Drafts
  cores no_exp s = none
  cores (exp e es) s = item (core e s) (cores es s)

  pub values : Bindings → Scope → Drafts
  values no_binding s = none
  values (binding p w e bs) s = item (core e s) (values bs s)
  values (broken p n bs) s = values bs s

  -- definitions at the head of a body are a `letrec` over its expressions: R4RS 5.2.2
  pub body_core : Body → Pos → Scope → Draft
  body_core (Of bs es) p s =
      if is_empty bs then sequence p (cores es s)
      else
      (let xs : List (List ℕ) = names (bound_words bs) in
      letrec p s xs (are_lambdas bs) (values bs (within s xs)) (sequence p (cores es (body_scope s xs))))

  pub let_star : Bindings → Pos → (body : Scope → Draft) → Scope → Draft
  let_star no_binding p body s = let_names p s [] body none
  let_star (binding q w e no_binding) p body s = let_names p s (w.name ∷ []) body (one (core e s))
  let_star (binding q w e bs) p body s = let_names p s (w.name ∷ []) (let_star bs p body) (one (core e s))
  let_star (broken q n bs) p body s = let_star bs p body s

  pub and_core : Exps → Pos → Scope → Draft
  and_core no_exp p s = truth p true
  and_core (exp e no_exp) p s = core e s
  and_core (exp e es) p s = If p (core e s) (and_core es p s) (truth p false)

  pub or_core : Exps → Pos → Scope → Draft
  or_core no_exp p s = truth p false
  or_core (exp e no_exp) p s = core e s
  or_core (exp e es) p s = either p s (core e s) (or_core es p)

  pub clauses_core : Clauses → Pos → Scope → Draft
  clauses_core no_clause p s = unspecified p
  clauses_core (otherwise es) p s = Seq p (cores es s)
  clauses_core (value test cs) p s = either p s (core test s) (clauses_core cs p)
  clauses_core (clause test es cs) p s = If p (core test s) (Seq p (cores es s)) (clauses_core cs p s)
  clauses_core (passing test e cs) p s =
      let_fresh p s (core test s)
      (λ v t. If p (Ref p v) (call p t e (core e t) (one (Ref p v))) (clauses_core cs p t))

  pub cases_core : Cases → Pos → Name → Scope → Draft
  cases_core no_case p v s = unspecified p
  cases_core (others es) p v s = Seq p (cores es s)
  cases_core (one_of constants es cs) p v s =
      If p (is_one_of p s v constants) (Seq p (cores es s)) (cases_core cs p v s)

  pub firsts : Steps → Scope → Drafts
  firsts no_step s = none
  firsts (fixed w e ss) s = item (core e s) (firsts ss s)
  firsts (stepped w e n ss) s = item (core e s) (firsts ss s)

  pub nexts : Steps → Pos → Scope → Drafts
  nexts no_step p s = none
  nexts (fixed w e ss) p s = item (Ref p (meaning s w.name)) (nexts ss p s)
  nexts (stepped w e n ss) p s = item (core n s) (nexts ss p s)

  pub template_core : Template → Pos → Scope → Draft
  template_core (Plain c) p s = Const p c
  template_core (Unquoted e) p s = core e s
  template_core (Spliced e rest) p s =
      Call p (Ref p (Library (codes "%join"))) (two (core e s) (template_core rest p s))
  template_core (Pair t u) p s = Prim p op.Cons (two (template_core t p s) (template_core u p s))
  template_core (Vector t) p s = Call p (Ref p (Library (codes "list->vector"))) (one (template_core t p s))

-- Programs: R4RS 5

abbrev pub defines : Bindings → Scope → Drafts
defines no_binding s = none
defines (binding p w e bs) s = item (Define p (meaning s w.name) (core e s)) (defines bs s)
defines (broken p n bs) s = defines bs s

abbrev pub form_cores : Forms → Scope → Drafts
form_cores no_form s = none
form_cores (evaluated e fs) s = item (core e s) (form_cores fs s)
form_cores (defining bs fs) s = defines bs s then form_cores fs s
