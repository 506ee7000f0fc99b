-- Surface forms: the expressions of R4RS 4 and the definitions of R4RS 5.2, as trees.
--
-- A form that is broken at its own place is `Wrong`: nothing in it is looked at. A word stands as it is
-- written, a keyword too.
use Rattle.std.specs.Prelude.{ℕ, List, Option}
use Rattle.scheme_base.specs.declared.pos.Pos.{Pos}
use Rattle.scheme_base.specs.Constants.{Constant}

-- a name at its place
pub record Word : Type 0 where
  pub place : Pos
  pub name : List ℕ

mutual
  -- an expression, with the place of its form
  pub data Exp : Type 0 where
    Wrong : Pos → (rule : ℕ) → Exp
    -- a literal: R4RS 4.1.2
    Value : Pos → Constant → Exp
    Variable : Word → Exp
    Application : Pos → (operator : Exp) → (operands : Exps) → Exp
    Procedure : Pos → (params : List Word) → (rest : Option Word) → Body → Exp
    -- R4RS 4.1.5, without and with its third operand
    OneArmed : Pos → (test this : Exp) → Exp
    TwoArmed : Pos → (test this that : Exp) → Exp
    Assignment : Pos → Word → Exp → Exp
    -- R4RS 4.2.1
    Cond : Pos → Clauses → Exp
    Case : Pos → (key : Exp) → Cases → Exp
    And : Pos → Exps → Exp
    Or : Pos → Exps → Exp
    -- R4RS 4.2.2
    Let : Pos → Bindings → Body → Exp
    LetStar : Pos → Bindings → Body → Exp
    Letrec : Pos → Bindings → Body → Exp
    -- R4RS 4.2.3
    Begin : Pos → Exps → Exp
    -- R4RS 4.2.4
    Do : Pos → Steps → (test : Exp) → (results commands : Exps) → Exp
    Named : Pos → Word → Bindings → Body → Exp
    -- R4RS 4.2.6
    Quasi : Pos → Template → Exp

  pub data Exps : Type 0 where
    no_exp : Exps
    exp : Exp → Exps → Exps

  -- variables with their expressions, each with the place of its definition, or what is no definition
  pub data Bindings : Type 0 where
    no_binding : Bindings
    binding : Pos → Word → Exp → Bindings → Bindings
    broken : Pos → (rule : ℕ) → Bindings → Bindings

  -- the definitions at the head of a body, and its expressions
  pub data Body : Type 0 where
    Of : Bindings → Exps → Body

  -- the clauses of a `cond`
  pub data Clauses : Type 0 where
    no_clause : Clauses
    otherwise : Exps → Clauses
    -- a test alone
    value : Exp → Clauses → Clauses
    clause : Exp → Exps → Clauses → Clauses
    -- a test and a receiver after `=>`
    passing : (test receiver : Exp) → Clauses → Clauses

  -- the clauses of a `case`
  pub data Cases : Type 0 where
    no_case : Cases
    others : Exps → Cases
    one_of : List Constant → Exps → Cases → Cases

  -- the variables of a `do`, with what they are first and, where that is written, in the next round
  pub data Steps : Type 0 where
    no_step : Steps
    fixed : Word → (first : Exp) → Steps → Steps
    stepped : Word → (first next : Exp) → Steps → Steps

  -- a template
  pub data Template : Type 0 where
    Plain : Constant → Template
    Unquoted : Exp → Template
    Spliced : Exp → (rest : Template) → Template
    Pair : (car cdr : Template) → Template
    Vector : (items : Template) → Template

-- The forms of a program: expressions, and definitions, of which a `begin` can hold several or none.
pub data Forms : Type 0 where
  no_form : Forms
  evaluated : Exp → Forms → Forms
  defining : Bindings → Forms → Forms
