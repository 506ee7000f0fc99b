-- Which form a datum is: the grammar of R4RS 7.1.3 to 7.1.6, and the rules by which a form is broken.
--
--  1 a keyword stands as a variable (Faults)
--  2 `quote` or `quasiquote` has not one operand
--  3 formals are not names, a list of names, or such a list with a name after a dot
--  4 a body has no expression, or a definition stands after one
--  5 `if` has not two or three operands, or `set!` is not a name and one expression
--  6 `cond` has no clause, a clause is no list with an item, `else` is not last or is empty, or one
--    expression alone does not follow `=>`
--  7 `case` has no key or no clause, a clause is not a list of data and at least one expression, or `else` is
--    not last
--  8 the bindings of `let`, `let*` or `letrec` are not a list of pairs of a name and an expression
--  9 `do` has not its bindings, its test clause and its commands
-- 10 `begin` has no expression where one is needed, or a form is a list with a tail
-- 11 `define` is not of one of its two forms, or stands where no definition may
-- 12 a name is bound twice by one `lambda`, `let`, `letrec`, `do` or body
-- 13 an expression is `()`
-- 14 `unquote` or `unquote-splicing` stands outside a template
-- 15 a vector is not quoted
-- 16 `delay` is used
--
-- Of a form that is broken by several rules the least counts, but a list with a tail is only that.
use Rattle.std.specs.Prelude.{ℕ, zero, suc, List, [], ◌∷◌, Option, Some, None, Bool, true, false, not, ◌&&◌, ◌||◌, if◌then◌else◌, codes}
use Rattle.std.specs.List.{list_any}
use Rattle.std.specs.Str.{bytes_eq}
use Rattle.scheme_base.specs.declared.pos.Pos.{Pos}
use Rattle.scheme_base.specs.Constants.{Constant, Constant as constant}
use Rattle.datum_form.specs.declared.token.Atom.TheVariants.{Symbol}
use Rattle.datum_form.specs.Data.{Datum, Datum as datum, Items}
use Rattle.datum_form.specs.Data.Items.{none, item}
use Rattle.quasi_expand.specs.Shapes.{are_clauses, is_case, is_list_of, is_name, is_none, is_step, is_word}
use Rattle.draft_form.specs.Quoted.{atom, constant_of, constants}
use Rattle.scheme_expand.specs.Forms.{Word, Exp, Exps, Bindings, Body, Clauses, Cases, Steps, Template, Forms, Wrong, Value, Variable, Application, Procedure, OneArmed, TwoArmed, Assignment, Cond, Case, And, Or, Let, LetStar, Letrec, Begin, Do, Named, Quasi, no_exp, exp, no_binding, binding, broken, Of, no_clause, otherwise, value, clause, passing, no_case, others, one_of, no_step, fixed, stepped, Plain, Unquoted, Spliced, Pair, Vector, no_form, evaluated, defining}

abbrev pub each_constant : Items → List Constant
each_constant none = []
each_constant (item d ds) = constant_of d ∷ each_constant ds

-- Words

abbrev pub word : Pos → List ℕ → Word
word p x = record { place = p; name = x }

abbrev pub word_of : Datum → Option Word
word_of (datum.Atomic p (Symbol x)) = Some (word p x)
word_of d = None

abbrev pub are_names : Items → Bool
are_names none = true
are_names (item d ds) = is_name d && are_names ds

abbrev pub with_word : Option Word → List Word → List Word
with_word (Some w) ws = w ∷ ws
with_word None ws = ws

abbrev pub words : Items → List Word
words none = []
words (item d ds) = with_word (word_of d) (words ds)

-- some name stands twice
abbrev pub twice : List Word → Bool
twice [] = false
twice (w ∷ ws) = list_any (λ v. bytes_eq w.name v.name) ws || twice ws

-- Shapes

abbrev pub are_formals : Datum → Bool
are_formals (datum.Atomic p a) = is_name (datum.Atomic p a)
are_formals (datum.List p is) = are_names is
are_formals (datum.Dotted p is d) = are_names is && is_name d
are_formals (datum.Vector p is) = false

abbrev pub params_of : Datum → List Word
params_of (datum.Atomic p a) = []
params_of (datum.List p is) = words is
params_of (datum.Dotted p is d) = words is
params_of (datum.Vector p is) = []

abbrev pub rest_of : Datum → Option Word
rest_of (datum.Atomic p a) = word_of (datum.Atomic p a)
rest_of (datum.List p is) = None
rest_of (datum.Dotted p is d) = word_of d
rest_of (datum.Vector p is) = None

-- a name and an expression
abbrev pub is_binding : Datum → Bool
is_binding (datum.List p (item (datum.Atomic q (Symbol x)) (item e none))) = true
is_binding d = false

-- the items after the first of a clause are `=>` and one expression, if `=>` is there
abbrev pub passes : Items → Bool
passes (item d none) = not (is_word (codes "=>") d)
passes (item d (item e none)) = true
passes (item d (item e (item f ds))) = not (is_word (codes "=>") d)
passes none = true

-- a clause of a `cond`, the last one or not
abbrev pub is_clause : (last : Bool) → Datum → Bool
is_clause last (datum.List p (item d ds)) =
    if is_word (codes "else") d then last && not (is_none ds) else passes ds
is_clause last d = false

-- a definition, broken or not
abbrev pub is_define : Datum → Bool
is_define (datum.List p (item d ds)) = is_word (codes "define") d
is_define (datum.Dotted p (item d ds) e) = is_word (codes "define") d
is_define d = false

-- a definition, or a `begin` of definitions
abbrev mutual
  pub is_definition : Datum → Bool
  is_definition (datum.List p (item d ds)) =
      is_word (codes "define") d || is_word (codes "begin") d && are_definitions ds
  is_definition (datum.Dotted p (item d ds) e) = is_word (codes "define") d
  is_definition d = false

  pub are_definitions : Items → Bool
  are_definitions none = true
  are_definitions (item d ds) = is_definition d && are_definitions ds

abbrev pub one_is_define : Items → Bool
one_is_define none = false
one_is_define (item d ds) = is_define d || one_is_define ds

-- the items of a body have no expression after their definitions, or a definition after one
abbrev pub is_no_body : Items → Bool
is_no_body none = true
is_no_body (item d ds) = if is_definition d then is_no_body ds else one_is_define ds

-- Checks

-- a rule, and whether it is broken
pub data Check : Type 0 where
  rule : Bool → ℕ → Check

-- a form of which these rules hold, the least first
abbrev pub checked : Pos → List Check → Exp → Exp
checked p [] e = e
checked p (rule true n ∷ checks) e = Wrong p n
checked p (rule false n ∷ checks) e = checked p checks e

-- Forms whose parts are known

abbrev pub bound_words : Bindings → List Word
bound_words no_binding = []
bound_words (binding p w e bs) = w ∷ bound_words bs
bound_words (broken p n bs) = bound_words bs

-- a body defines a name twice
abbrev pub defines_twice : Body → Bool
defines_twice (Of bs es) = twice (bound_words bs)

abbrev pub step_words : Steps → List Word
step_words no_step = []
step_words (fixed w e ss) = w ∷ step_words ss
step_words (stepped w e f ss) = w ∷ step_words ss

abbrev pub and_rest : List Word → Option Word → List Word
and_rest [] r = with_word r []
and_rest (w ∷ ws) r = w ∷ and_rest ws r

-- the body of a procedure has these items
abbrev pub procedure : Pos → List Word → Option Word → Items → Body → Exp
procedure p ws r ds b =
    checked p (rule (is_no_body ds) 4 ∷ rule (twice (and_rest ws r) || defines_twice b) 12 ∷ []) (Procedure p ws r b)

abbrev pub lambda_of : Pos → (formals : Datum) → Items → Body → Exp
lambda_of p f ds b = checked p (rule (not (are_formals f)) 3 ∷ []) (procedure p (params_of f) (rest_of f) ds b)

-- bindings, of which some must differ in their names, before a body
abbrev pub binding_of : (Pos → Bindings → Body → Exp) → Pos → Datum → (differing : List Word) → Items → Bindings → Body → Exp
binding_of form p bindings ws ds bs b =
    checked p
    (rule (is_no_body ds) 4 ∷ rule (not (is_list_of is_binding bindings)) 8
    ∷ rule (twice ws || defines_twice b) 12 ∷ [])
    (form p bs b)

abbrev pub let_of : Pos → Datum → Items → Bindings → Body → Exp
let_of p d ds bs b = binding_of Let p d (bound_words bs) ds bs b

abbrev pub named_of : Pos → Word → Datum → Items → Bindings → Body → Exp
named_of p w d ds bs b = binding_of (λ q. Named q w) p d (bound_words bs) ds bs b

abbrev pub letrec_of : Pos → Datum → Items → Bindings → Body → Exp
letrec_of p d ds bs b = binding_of Letrec p d (bound_words bs) ds bs b

abbrev pub let_star_of : Pos → Datum → Items → Bindings → Body → Exp
let_star_of p d ds bs b = binding_of LetStar p d [] ds bs b

abbrev pub do_of : Pos → Datum → Steps → (test : Exp) → (results commands : Exps) → Exp
do_of p bindings ss test results commands =
    checked p
    (rule (not (is_list_of is_step bindings)) 9 ∷ rule (twice (step_words ss)) 12 ∷ [])
    (Do p ss test results commands)

-- a definition of a procedure
abbrev pub procedure_binding : Pos → Word → (formals : Bool) → List Word → Option Word → Items → Body → Bindings → Bindings
procedure_binding p w true ws r ds b bs = binding p w (procedure p ws r ds b) bs
procedure_binding p w false ws r ds b bs = broken p 3 bs

abbrev pub after_bindings : (Bindings → Bindings) → Body → Body
after_bindings f (Of bs es) = Of (f bs) es

abbrev pub cond_clause : (is_else passes : Bool) → Exp → Exps → Clauses → Clauses
cond_clause true arrow test es cs = otherwise es
cond_clause false true test (exp arrow (exp receiver es)) cs = passing test receiver cs
cond_clause false arrow test no_exp cs = value test cs
cond_clause false arrow test (exp e es) cs = clause test (exp e es) cs

abbrev pub case_clause : (is_else : Bool) → Datum → Exps → Cases → Cases
case_clause true d es cs = others es
case_clause false (datum.List p is) es cs = one_of (each_constant is) es cs
case_clause false d es cs = cs

abbrev pub is_arrow : Items → Bool
is_arrow none = false
is_arrow (item d ds) = is_word (codes "=>") d

-- Templates whose parts are known

-- a pair is a literal where its parts are
abbrev pub pair_of : Template → Template → Template
pair_of (Plain c) (Plain d) = Plain (constant.Pair c d)
pair_of s t = Pair s t

abbrev pub vector_of : Constant → (items : Template) → Template
vector_of c (Plain d) = Plain c
vector_of c t = Vector t

-- the list of a word and a template
abbrev pub marked : List ℕ → Template → Template
marked x t = pair_of (Plain (constant.Symbol x)) (pair_of t (Plain constant.Nil))

-- an unquoted expression, which is a template at the level below if there is one
abbrev pub unquoted : ℕ → Exp → (ℕ → Template) → Template
unquoted zero e t = Unquoted e
unquoted (suc n) e t = marked (codes "unquote") (t n)

abbrev pub spliced : ℕ → Exp → (ℕ → Template) → (rest : Template) → Template
spliced zero e t rest = Spliced e rest
spliced (suc n) e t rest = pair_of (marked (codes "unquote-splicing") (t n)) rest

-- Expressions

-- a keyword and the form that it begins
pub data Reading (A : Type 0) : Type 0 where
  form : List ℕ → A → Reading A

-- what a word begins, or else the last
abbrev pub begun : {A : Type 0} → List ℕ → List (Reading A) → A → A
begun x [] e = e
begun x (form y f ∷ fs) e = if bytes_eq x y then f else begun x fs e

abbrev pub quote_form : Pos → Items → Exp
quote_form p (item d none) = Value p (constant_of d)
quote_form p ds = Wrong p 2

abbrev mutual
  pub expr : Datum → Exp
  expr (datum.Atomic p (Symbol x)) = Variable (word p x)
  expr (datum.Atomic p a) = Value p (atom a)
  expr (datum.Vector p is) = Wrong p 15
  expr (datum.Dotted p is d) = Wrong p 10
  expr (datum.List p none) = Wrong p 13
  expr (datum.List p (item (datum.Atomic q (Symbol x)) ds)) =
      begun x
      (form (codes "quote") (quote_form p ds)
      ∷ form (codes "quasiquote") (quasi_form p ds)
      ∷ form (codes "lambda") (lambda_form p ds)
      ∷ form (codes "if") (if_form p ds)
      ∷ form (codes "set!") (set_form p ds)
      ∷ form (codes "begin") (begin_form p ds)
      ∷ form (codes "cond") (checked p (rule (not (are_clauses is_clause ds)) 6 ∷ []) (Cond p (clauses ds)))
      ∷ form (codes "case") (case_form p ds)
      ∷ form (codes "and") (And p (exprs ds))
      ∷ form (codes "or") (Or p (exprs ds))
      ∷ form (codes "let") (let_form p ds)
      ∷ form (codes "let*") (let_star_form p ds)
      ∷ form (codes "letrec") (letrec_form p ds)
      ∷ form (codes "do") (do_form p ds)
      ∷ form (codes "define") (Wrong p 11)
      ∷ form (codes "unquote") (Wrong p 14)
      ∷ form (codes "unquote-splicing") (Wrong p 14)
      ∷ form (codes "delay") (Wrong p 16)
      ∷ [])
      (Application p (Variable (word q x)) (exprs ds))
  expr (datum.List p (item d ds)) = Application p (expr d) (exprs ds)

  pub exprs : Items → Exps
  exprs none = no_exp
  exprs (item d ds) = exp (expr d) (exprs ds)

  pub lambda_form : Pos → Items → Exp
  lambda_form p none = Wrong p 3
  lambda_form p (item f ds) = lambda_of p f ds (body ds)

  pub if_form : Pos → Items → Exp
  if_form p (item d (item e none)) = OneArmed p (expr d) (expr e)
  if_form p (item d (item e (item f none))) = TwoArmed p (expr d) (expr e) (expr f)
  if_form p ds = Wrong p 5

  pub set_form : Pos → Items → Exp
  set_form p (item (datum.Atomic q (Symbol x)) (item e none)) = Assignment p (word q x) (expr e)
  set_form p ds = Wrong p 5

  pub begin_form : Pos → Items → Exp
  begin_form p none = Wrong p 10
  begin_form p (item d ds) = Begin p (exp (expr d) (exprs ds))

  pub case_form : Pos → Items → Exp
  case_form p none = Wrong p 7
  case_form p (item d ds) = checked p (rule (not (are_clauses is_case ds)) 7 ∷ []) (Case p (expr d) (cases ds))

  pub let_form : Pos → Items → Exp
  let_form p none = Wrong p 4
  let_form p (item (datum.Atomic q (Symbol x)) none) = Wrong p 4
  let_form p (item (datum.Atomic q (Symbol x)) (item d ds)) = named_of p (word q x) d ds (bindings d) (body ds)
  let_form p (item d ds) = let_of p d ds (bindings d) (body ds)

  pub let_star_form : Pos → Items → Exp
  let_star_form p none = Wrong p 4
  let_star_form p (item d ds) = let_star_of p d ds (bindings d) (body ds)

  pub letrec_form : Pos → Items → Exp
  letrec_form p none = Wrong p 4
  letrec_form p (item d ds) = letrec_of p d ds (bindings d) (body ds)

  pub do_form : Pos → Items → Exp
  do_form p (item d (item (datum.List q (item e es)) ds)) = do_of p d (steps d) (expr e) (exprs es) (exprs ds)
  do_form p ds = Wrong p 9

  pub quasi_form : Pos → Items → Exp
  quasi_form p (item d none) = Quasi p (template d 0)
  quasi_form p ds = Wrong p 2

  -- the clauses of a `cond`
  pub clauses : Items → Clauses
  clauses none = no_clause
  clauses (item d ds) = clause_before d (clauses ds)

  pub clause_before : Datum → Clauses → Clauses
  clause_before (datum.List p (item d ds)) cs = cond_clause (is_word (codes "else") d) (is_arrow ds) (expr d) (exprs ds) cs
  clause_before d cs = cs

  -- the clauses of a `case`
  pub cases : Items → Cases
  cases none = no_case
  cases (item d ds) = case_before d (cases ds)

  pub case_before : Datum → Cases → Cases
  case_before (datum.List p (item d ds)) cs = case_clause (is_word (codes "else") d) d (exprs ds) cs
  case_before d cs = cs

  pub bindings : Datum → Bindings
  bindings (datum.List p is) = binding_list is
  bindings d = no_binding

  pub binding_list : Items → Bindings
  binding_list none = no_binding
  binding_list (item d ds) = binding_before d (binding_list ds)

  pub binding_before : Datum → Bindings → Bindings
  binding_before (datum.List p (item (datum.Atomic q (Symbol x)) (item e none))) bs = binding p (word q x) (expr e) bs
  binding_before d bs = bs

  pub steps : Datum → Steps
  steps (datum.List p is) = step_list is
  steps d = no_step

  pub step_list : Items → Steps
  step_list none = no_step
  step_list (item d ds) = step_before d (step_list ds)

  pub step_before : Datum → Steps → Steps
  step_before (datum.List p (item (datum.Atomic q (Symbol x)) (item e none))) ss = fixed (word q x) (expr e) ss
  step_before (datum.List p (item (datum.Atomic q (Symbol x)) (item e (item f none)))) ss =
      stepped (word q x) (expr e) (expr f) ss
  step_before d ss = ss

  pub body : Items → Body
  body none = Of no_binding no_exp
  body (item d ds) =
      if is_definition d then after_bindings (λ bs. definitions_before d bs) (body ds)
      else Of no_binding (exp (expr d) (exprs ds))

  -- the definitions of a datum that is one, or a `begin` of some, before others
  pub definitions_before : Datum → Bindings → Bindings
  definitions_before (datum.List p (item d ds)) bs =
      if is_word (codes "define") d then definition p ds bs else each_definition ds bs
  definitions_before (datum.Dotted p is d) bs = broken p 10 bs
  definitions_before d bs = bs

  pub each_definition : Items → Bindings → Bindings
  each_definition none bs = bs
  each_definition (item d ds) bs = definitions_before d (each_definition ds bs)

  pub definition : Pos → Items → Bindings → Bindings
  definition p (item (datum.Atomic q (Symbol x)) (item e none)) bs = binding p (word q x) (expr e) bs
  definition p (item (datum.List q (item (datum.Atomic r (Symbol x)) fs)) ds) bs =
      procedure_binding p (word r x) (are_names fs) (words fs) None ds (body ds) bs
  definition p (item (datum.Dotted q (item (datum.Atomic r (Symbol x)) fs) d) ds) bs =
      procedure_binding p (word r x) (are_names fs && is_name d) (words fs) (word_of d) ds (body ds) bs
  definition p ds bs = broken p 11 bs

  -- a template in so many others
  pub template : Datum → ℕ → Template
  template (datum.Atomic p a) n = Plain (atom a)
  template (datum.List p is) n = template_list is n
  template (datum.Dotted p is d) n = templates_before is n (template d n)
  template (datum.Vector p is) n = vector_of (constant.Vector (constants is)) (template_list is n)

  -- a list; its last two items can be a word and what it marks
  pub template_list : Items → ℕ → Template
  template_list none n = Plain constant.Nil
  template_list (item (datum.Atomic p (Symbol x)) (item e none)) n =
      begun x
      (form (codes "unquote") (unquoted n (expr e) (template e))
      ∷ form (codes "quasiquote") (marked (codes "quasiquote") (template e (suc n)))
      ∷ [])
      (pair_of (Plain (constant.Symbol x)) (template_before e n (template e n) (Plain constant.Nil)))
  template_list (item d ds) n = template_before d n (template d n) (template_list ds n)

  pub templates_before : Items → ℕ → Template → Template
  templates_before none n t = t
  templates_before (item d ds) n t = template_before d n (template d n) (templates_before ds n t)

  -- an item, which is this template unless it is spliced, before the rest of its list
  pub template_before : Datum → ℕ → Template → (rest : Template) → Template
  template_before (datum.List p (item (datum.Atomic q (Symbol x)) (item e none))) n t rest =
      if bytes_eq x (codes "unquote-splicing") then spliced n (expr e) (template e) rest else pair_of t rest
  template_before d n t rest = pair_of t rest

-- Programs

abbrev pub forms : Items → Forms
forms none = no_form
forms (item d ds) =
    if is_definition d then defining (definitions_before d no_binding) (forms ds)
    else evaluated (expr d) (forms ds)
