-- The faults of forms that are reached through unbroken ones, and the one that counts: the least in place
-- and there the least in rule.
use Rattle.std.specs.Prelude.{ℕ, List, [], ◌∷◌, ◌++◌, Option, Some, None, Bool, nat_eq, nat_lt, ◌&&◌, ◌||◌, if◌then◌else◌, codes}
use Rattle.std.specs.List.{list_any}
use Rattle.std.specs.Str.{bytes_eq}
use Rattle.scheme_base.specs.declared.pos.Pos.{Pos}
use Rattle.scheme_expand.specs.Forms.{Word, Exp, Exps, Bindings, Body, Clauses, Cases, Steps, Template, Forms, Wrong, Value, Variable, Application, Procedure, OneArmed, TwoArmed, Assignment, Cond, Case, And, Or, Let, LetStar, Letrec, Begin, Do, Named, Quasi, no_exp, exp, no_binding, binding, broken, Of, no_clause, otherwise, value, clause, passing, no_case, others, one_of, no_step, fixed, stepped, Plain, Unquoted, Spliced, Pair, Vector, no_form, evaluated, defining}
use Rattle.scheme_expand.specs.Grammar.{and_rest}

pub record Fault : Type 0 where
  pub place : Pos
  pub rule : ℕ

abbrev pub fault : Pos → ℕ → Fault
fault p n = record { place = p; rule = n }

abbrev pub keywords : List (List ℕ)
keywords =
    codes "quote" ∷ codes "lambda" ∷ codes "if" ∷ codes "set!" ∷ codes "begin" ∷ codes "cond" ∷ codes "and"
    ∷ codes "case" ∷ codes "or" ∷ codes "let" ∷ codes "let*" ∷ codes "letrec" ∷ codes "do" ∷ codes "delay"
    ∷ codes "quasiquote" ∷ codes "else" ∷ codes "=>" ∷ codes "define" ∷ codes "unquote"
    ∷ codes "unquote-splicing" ∷ []

abbrev pub is_keyword : List ℕ → Bool
is_keyword x = list_any (bytes_eq x) keywords

-- a keyword is no variable
abbrev pub in_word : Word → List Fault
in_word w = if is_keyword w.name then fault w.place 1 ∷ [] else []

abbrev pub in_words : List Word → List Fault
in_words [] = []
in_words (w ∷ ws) = in_word w ++ in_words ws

abbrev mutual
  pub in_exp : Exp → List Fault
  in_exp (Wrong p n) = fault p n ∷ []
  in_exp (Value p c) = []
  in_exp (Variable w) = in_word w
  in_exp (Application p e es) = in_exp e ++ in_exps es
  in_exp (Procedure p ws r b) = in_words (and_rest ws r) ++ in_body b
  in_exp (OneArmed p test this) = in_exp test ++ in_exp this
  in_exp (TwoArmed p test this that) = in_exp test ++ (in_exp this ++ in_exp that)
  in_exp (Assignment p w e) = in_word w ++ in_exp e
  in_exp (Cond p cs) = in_clauses cs
  in_exp (Case p e cs) = in_exp e ++ in_cases cs
  in_exp (And p es) = in_exps es
  in_exp (Or p es) = in_exps es
  in_exp (Let p bs b) = in_bindings bs ++ in_body b
  in_exp (LetStar p bs b) = in_bindings bs ++ in_body b
  in_exp (Letrec p bs b) = in_bindings bs ++ in_body b
  in_exp (Begin p es) = in_exps es
  in_exp (Do p ss test results commands) = in_steps ss ++ (in_exp test ++ (in_exps results ++ in_exps commands))
  in_exp (Named p w bs b) = in_word w ++ (in_bindings bs ++ in_body b)
  in_exp (Quasi p t) = in_template t

  pub in_exps : Exps → List Fault
  in_exps no_exp = []
  in_exps (exp e es) = in_exp e ++ in_exps es

  pub in_bindings : Bindings → List Fault
  in_bindings no_binding = []
  in_bindings (binding p w e bs) = in_word w ++ (in_exp e ++ in_bindings bs)
  in_bindings (broken p n bs) = fault p n ∷ in_bindings bs

  pub in_body : Body → List Fault
  in_body (Of bs es) = in_bindings bs ++ in_exps es

  pub in_clauses : Clauses → List Fault
  in_clauses no_clause = []
  in_clauses (otherwise es) = in_exps es
  in_clauses (value test cs) = in_exp test ++ in_clauses cs
  in_clauses (clause test es cs) = in_exp test ++ (in_exps es ++ in_clauses cs)
  in_clauses (passing test e cs) = in_exp test ++ (in_exp e ++ in_clauses cs)

  pub in_cases : Cases → List Fault
  in_cases no_case = []
  in_cases (others es) = in_exps es
  in_cases (one_of constants es cs) = in_exps es ++ in_cases cs

  pub in_steps : Steps → List Fault
  in_steps no_step = []
  in_steps (fixed w e ss) = in_word w ++ (in_exp e ++ in_steps ss)
  in_steps (stepped w e f ss) = in_word w ++ (in_exp e ++ (in_exp f ++ in_steps ss))

  pub in_template : Template → List Fault
  in_template (Plain c) = []
  in_template (Unquoted e) = in_exp e
  in_template (Spliced e rest) = in_exp e ++ in_template rest
  in_template (Pair s t) = in_template s ++ in_template t
  in_template (Vector t) = in_template t

abbrev pub in_forms : Forms → List Fault
in_forms no_form = []
in_forms (evaluated e fs) = in_exp e ++ in_forms fs
in_forms (defining bs fs) = in_bindings bs ++ in_forms fs

-- The least fault

abbrev pub is_before : Fault → Fault → Bool
is_before f g =
    nat_lt f.place.line g.place.line
    || nat_eq f.place.line g.place.line
    && (nat_lt f.place.col g.place.col || nat_eq f.place.col g.place.col && nat_lt f.rule g.rule)

abbrev pub least_of : Fault → Option Fault → Option Fault
least_of f None = Some f
least_of f (Some g) = if is_before g f then Some g else Some f

abbrev pub least : List Fault → Option Fault
least [] = None
least (f ∷ fs) = least_of f (least fs)
