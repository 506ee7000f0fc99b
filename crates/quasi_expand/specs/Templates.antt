-- The template of a quasiquote (R4RS 4.2.6), as a tree of what its value is made of.
--
-- The level of a datum is how many further quasiquotes it stands in, less the unquotes: what is unquoted at level 0
-- is an expression. A datum in which no expression stands is a literal.
use Rattle.std.specs.Prelude.{ℕ, zero, suc, List, [], ◌∷◌, Option, Some, None, Bool, true, false, if◌then◌else◌, codes}
use Rattle.scheme_base.specs.Constants.{Constant, Constant as constant}
use Rattle.datum_form.specs.Data.{Datum, Datum as datum, Items}
use Rattle.datum_form.specs.Data.Items.{none, item}
use Rattle.draft_form.specs.Quoted.{atom, constants}
use Rattle.quasi_expand.specs.Shapes.{is_word}

-- what a template makes; an expression is the datum that it is written as
pub data Template : Type 0 where
  Plain : Constant → Template
  Unquoted : Datum → Template
  -- the items of an expression's value, before the rest
  Spliced : Datum → (rest : Template) → Template
  Pair : (car cdr : Template) → Template
  Vector : (items : Template) → Template

-- an item of a list: one item, or all of an expression's value
pub data Entry : Type 0 where
  One : Template → Entry
  All : Datum → Entry

-- Templates whose parts are known

abbrev pub is_plain : Template → Bool
is_plain (Plain c) = true
is_plain t = false

-- a pair is a literal where its parts are
abbrev pub pair_of : Template → Template → Template
pair_of (Plain c) (Plain d) = Plain (constant.Pair c d)
pair_of s t = Pair s t

abbrev pub vector_of : Constant → (items : Template) → Template
vector_of c (Plain d) = Plain c
vector_of c t = Vector t

abbrev pub before : Entry → (rest : Template) → Template
before (One t) rest = pair_of t rest
before (All e) rest = Spliced e rest

abbrev pub all_before : List Entry → (rest : Template) → Template
all_before [] rest = rest
all_before (e ∷ es) rest = before e (all_before es rest)

-- the list of a word and a template
abbrev pub marked : List ℕ → Template → Template
marked x t = pair_of (Plain (constant.Symbol x)) (pair_of t (Plain constant.Nil))

-- what a word unquotes is an expression, or a template at the level below
abbrev pub unquoted : List ℕ → ℕ → Datum → (ℕ → Template) → Template
unquoted x zero e inside = Unquoted e
unquoted x (suc n) e inside = marked x (inside n)

abbrev pub spliced : ℕ → Datum → (ℕ → Template) → Entry
spliced zero e inside = All e
spliced (suc n) e inside = One (marked (codes "unquote-splicing") (inside n))

-- Templates of data

abbrev mutual
  -- a datum at a level
  pub template : Datum → ℕ → Template
  template (datum.Atomic p a) n = Plain (atom a)
  template (datum.List p is) n = template_list is n
  template (datum.Dotted p is d) n = all_before (entries is n) (template d n)
  template (datum.Vector p is) n = vector_of (constant.Vector (constants is)) (template_list is n)

  -- a list, whose last two items can be a word and what it marks
  pub template_list : Items → ℕ → Template
  template_list none n = Plain constant.Nil
  template_list (item d (item e none)) n =
      if is_word (codes "unquote") d then unquoted (codes "unquote") n e (template e)
      else
      (if is_word (codes "quasiquote") d then marked (codes "quasiquote") (template e (suc n))
      else before (entry d n (template d n)) (before (entry e n (template e n)) (Plain constant.Nil)))
  template_list (item d ds) n = before (entry d n (template d n)) (template_list ds n)

  pub entries : Items → ℕ → List Entry
  entries none n = []
  entries (item d ds) n = entry d n (template d n) ∷ entries ds n

  -- an item, which is this template unless it is spliced
  pub entry : Datum → ℕ → Template → Entry
  entry (datum.List p (item d (item e none))) n t =
      if is_word (codes "unquote-splicing") d then spliced n e (template e) else One t
  entry d n t = One t

-- a list with a tail, or one that has none
abbrev pub template_chain : Items → Option Datum → ℕ → Template
template_chain ds None n = template_list ds n
template_chain ds (Some d) n = all_before (entries ds n) (template d n)
