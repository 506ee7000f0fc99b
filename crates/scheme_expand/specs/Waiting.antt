-- What waits to be expanded, and the fault in it.
use Rattle.std.specs.Prelude.{ℕ, ◌≡◌, List, [], ◌∷◌, ◌++◌, slice_get, Option, Some, None, Bool, true, ◌||◌, if◌then◌else◌, codes}
use Rattle.std.specs.Str.{bytes_eq}
use Rattle.scheme_base.specs.declared.pos.Pos.{Pos}
use Rattle.datum_form.specs.declared.token.Atom.TheVariants.{Symbol}
use Rattle.datum_form.specs.Data.{Datum, Datum as datum, Items}
use Rattle.datum_form.specs.Data.Items.{none, item}
use Rattle.datum_form.specs.Stands.{Stands, StandAll}
use Rattle.scheme_expand.specs.declared.source.Source.{Source}
use Rattle.scheme_expand.specs.declared.words.Keyword.{Keyword}
use Rattle.scheme_expand.specs.declared.words.Keyword.TheVariants as keyword
use Rattle.scheme_expand.specs.declared.step.Step.{Step}
use Rattle.scheme_expand.specs.declared.step.Step.TheVariants as step
use Rattle.scheme_expand.specs.declared.expander.Expander.{Expander}
use Rattle.scheme_expand.specs.Forms.{Word, Bindings, no_binding, binding, broken}
use Rattle.quasi_expand.specs.Shapes.{is_case, are_clauses, is_none}
use Rattle.scheme_expand.specs.Grammar.{is_clause, is_define, expr, exprs, clauses, cases, definitions_before}
use Rattle.scheme_expand.specs.Faults.{Fault, fault, least, least_of, in_exp, in_exps, in_clauses, in_cases}
use Rattle.scheme_expand.specs.Noted.{noted, level_in}

-- Keywords

-- by number
abbrev pub keyword_table : List Keyword
keyword_table =
    keyword.Quote ∷ keyword.Lambda ∷ keyword.If ∷ keyword.Set ∷ keyword.Begin ∷ keyword.Cond ∷ keyword.And
    ∷ keyword.Or ∷ keyword.Case ∷ keyword.Let ∷ keyword.LetStar ∷ keyword.Letrec ∷ keyword.Do ∷ keyword.Delay
    ∷ keyword.Quasiquote ∷ keyword.Else ∷ keyword.Arrow ∷ keyword.Define ∷ keyword.Unquote ∷ keyword.Splice ∷ []

abbrev pub keyword_at : ℕ → Option Keyword
keyword_at w = slice_get keyword_table w

abbrev pub name_of : Keyword → List ℕ
name_of keyword.Quote = codes "quote"
name_of keyword.Lambda = codes "lambda"
name_of keyword.If = codes "if"
name_of keyword.Set = codes "set!"
name_of keyword.Begin = codes "begin"
name_of keyword.Cond = codes "cond"
name_of keyword.And = codes "and"
name_of keyword.Or = codes "or"
name_of keyword.Case = codes "case"
name_of keyword.Let = codes "let"
name_of keyword.LetStar = codes "let*"
name_of keyword.Letrec = codes "letrec"
name_of keyword.Do = codes "do"
name_of keyword.Delay = codes "delay"
name_of keyword.Quasiquote = codes "quasiquote"
name_of keyword.Else = codes "else"
name_of keyword.Arrow = codes "=>"
name_of keyword.Define = codes "define"
name_of keyword.Unquote = codes "unquote"
name_of keyword.Splice = codes "unquote-splicing"

-- the keyword of these that a name is
abbrev pub keyword_among : List Keyword → List ℕ → Option Keyword
keyword_among [] x = None
keyword_among (k ∷ ks) x = if bytes_eq x (name_of k) then Some k else keyword_among ks x

abbrev pub keyword_named : List ℕ → Option Keyword
keyword_named x = keyword_among keyword_table x

abbrev pub keyword_of : Datum → Option Keyword
keyword_of (datum.Atomic p (Symbol x)) = keyword_named x
keyword_of d = None

-- the keyword with which a list begins
abbrev pub head_of : Datum → Option Keyword
head_of (datum.List p (item d ds)) = keyword_of d
head_of (datum.Dotted p (item d ds) e) = keyword_of d
head_of d = None

-- Data whose names have numbers

abbrev pub place : Datum → Pos
place (datum.Atomic p a) = p
place (datum.List p is) = p
place (datum.Dotted p is d) = p
place (datum.Vector p is) = p

-- a number of a name is there where the datum is one
abbrev pub HasWord : (names : List (List ℕ)) → Option ℕ → Datum → Type 0
HasWord names found (datum.Atomic p (Symbol x)) = (w : ℕ) × (found ≡ Some w) × (slice_get names w ≡ Some x)
HasWord names found d = found ≡ None

-- data with the numbers of their names
pub record IsNamed (s : Source) : Type 0 where
  pub names : List (List ℕ)
  pub keywords : (w : ℕ) (x : List ℕ) → slice_get names w ≡ Some x → keyword_at w ≡ keyword_named x
  pub differ : (v w : ℕ) (x : List ℕ) → slice_get names v ≡ Some x → slice_get names w ≡ Some x → v ≡ w
  pub words : (id : ℕ) (d : Datum) → Stands s.nodes.now id d → HasWord names (level_in (slice_get s.words.now id)) d

-- the node of this number is this datum
pub record Reads (s : Source) (id : ℕ) (d : Datum) : Type 0 where
  pub named : IsNamed s
  pub stands : Stands s.nodes.now id d

pub record ReadAll (s : Source) (ids : List ℕ) (ds : Items) : Type 0 where
  pub named : IsNamed s
  pub stand : StandAll s.nodes.now ids ds

-- the datum is the list of these numbers
pub record IsList (s : Source) (ids : List ℕ) (d : Datum) : Type 0 where
  pub at : Pos
  pub items : Items
  pub are : d ≡ datum.List at items
  pub read : ReadAll s ids items

-- names as data
abbrev pub named_datum : Word → Datum
named_datum w = datum.Atomic w.place (Symbol w.name)

abbrev pub named_data : List Word → Items
named_data [] = none
named_data (w ∷ ws) = item (named_datum w) (named_data ws)

-- Faults

abbrev pub earlier : Option Fault → Option Fault → Option Fault
earlier None due = due
earlier (Some f) due = least_of f due

-- the faults of definitions apart from the names that they define
abbrev pub in_values : Bindings → List Fault
in_values no_binding = []
in_values (binding p w e bs) = in_exp e ++ in_values bs
in_values (broken p n bs) = fault p n ∷ in_values bs

-- the clauses of a form, or what is left of them when the last ones are taken away
abbrev pub may_be_clauses : (shape : Bool → Datum → Bool) → Items → Bool
may_be_clauses shape ds = is_none ds || are_clauses shape ds

-- the least fault of what a step waits for
abbrev pub Waits : Source → Step → Option Fault → Type 0
Waits s (step.Expr id) due = (d : Datum) × Reads s id d × (due ≡ least (in_exp (expr d)))
Waits s (step.Exprs ids) due = (ds : Items) × ReadAll s ids.now ds × (due ≡ least (in_exps (exprs ds)))
Waits s (step.Defined id) due =
    (d : Datum) × Reads s id d × (is_define d ≡ true) × (due ≡ least (in_values (definitions_before d no_binding)))
Waits s (step.Conjuncts p ids) due = (ds : Items) × ReadAll s ids.now ds × (due ≡ least (in_exps (exprs ds)))
Waits s (step.Alternatives p ids k) due = (ds : Items) × ReadAll s ids.now ds × (due ≡ least (in_exps (exprs ds)))
Waits s (step.Clauses p ids k) due =
    (ds : Items) × ReadAll s ids.now ds × (may_be_clauses is_clause ds ≡ true) × (due ≡ least (in_clauses (clauses ds)))
Waits s (step.Cases p ids k) due =
    (ds : Items) × ReadAll s ids.now ds × (may_be_clauses is_case ds ≡ true) × (due ≡ least (in_cases (cases ds)))
Waits s other due = due ≡ None

abbrev pub AllWait : Source → List Step → Option Fault → Type 0
AllWait s [] due = due ≡ None
AllWait s (one ∷ steps) due =
    (a : Option Fault) × (b : Option Fault) × Waits s one a × AllWait s steps b × (due ≡ earlier a b)

-- what is noted and what waits after a call have the fault that is due, beside what they had before
pub record Adds (before after : Expander) (due : Option Fault) : Type 0 where
  pub source : after.source ≡ before.source
  pub put : List Step
  pub steps : after.steps.items ≡ before.steps.items ++ put
  pub later : Option Fault
  pub waiting : AllWait before.source put later
  pub total : earlier (noted after.fault) later ≡ earlier (noted before.fault) due

-- nothing is noted, and nothing waits that did not before
pub record Keeps (before after : Expander) : Type 0 where
  pub source : after.source ≡ before.source
  pub steps : after.steps ≡ before.steps
  pub fault : after.fault ≡ before.fault

-- nothing waits any more, and the fault that was due is noted
pub record Done (before after : Expander) (due : Option Fault) : Type 0 where
  pub source : after.source ≡ before.source
  pub steps : after.steps.items ≡ []
  pub total : noted after.fault ≡ earlier (noted before.fault) due
