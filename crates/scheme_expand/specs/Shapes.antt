-- What the code reads out of a form: its parts by their numbers, and which parts of the grammar's form they are.
use Rattle.std.specs.Prelude.{ℕ, ◌≡◌, List, [], ◌∷◌, ◌++◌, Option, Some, None, Result, Ok, Err, Bool, true, false, not, ◌&&◌, ◌||◌, codes}
use Rattle.scheme_base.specs.declared.pos.Pos.{Pos}
use Rattle.datum_form.specs.Data.{Datum, Datum as datum, Items}
use Rattle.datum_form.specs.Data.Items.{none, item}
use Rattle.scheme_expand.specs.declared.source.Source.{Source}
use Rattle.scheme_expand.specs.declared.formals.Formals.{Formals}
use Rattle.scheme_expand.specs.declared.fault.Rule.{Rule}
use Rattle.scheme_expand.specs.declared.body.Definition.{Definition}
use Rattle.scheme_expand.specs.declared.body.Defined.{Defined}
use Rattle.scheme_expand.specs.declared.body.Defined.TheVariants as defined
use Rattle.scheme_expand.specs.declared.body.Body.{Body as Parts}
use Rattle.scheme_expand.specs.declared.binding.Bindings.{Bindings as Pairs}
use Rattle.scheme_expand.specs.declared.binding.Turns.{Turns}
use Rattle.scheme_expand.specs.declared.clause.Clause.{Clause}
use Rattle.scheme_expand.specs.declared.clause.Clause.TheVariants as which
use Rattle.scheme_expand.specs.declared.words.Keyword.{Keyword}
use Rattle.scheme_expand.specs.declared.words.Keyword.TheVariants as keyword
use Rattle.scheme_expand.specs.Forms.{Word, Exp, Exps, Bindings, Body, Clauses, Steps, no_step, fixed, stepped, no_exp, exp, no_binding, binding, broken, Wrong, Let, Named, Cond, Of, clause, value, passing, otherwise}
use Rattle.quasi_expand.specs.Shapes.{is_name, is_word, all_items, is_list_of, are_clauses}
use Rattle.scheme_expand.specs.Grammar.{Check, rule, are_names, word_of, is_define, is_definition, is_no_body, is_binding, is_clause, clauses, twice, bound_words, step_words, defines_twice, checked, procedure, expr, exprs, bindings, body, definitions_before, each_definition, after_bindings, clause_before}
use Rattle.scheme_expand.specs.Faults.{least, in_exps, in_words, in_steps}
use Rattle.scheme_expand.specs.Noted.{number_of}
use Rattle.scheme_expand.specs.Waiting.{Reads, ReadAll, named_datum, named_data, in_values, earlier}

-- Definitions begin with this keyword

abbrev pub defines : Keyword → Bool
defines keyword.Define = true
defines k = false

-- and lambda expressions with this one
abbrev pub begins_lambda : Keyword → Bool
begins_lambda keyword.Lambda = true
begins_lambda k = false

-- Lists

-- a list of these items, and a tail if there is one
abbrev pub with_end : Pos → Items → Option Datum → Datum
with_end p ds None = datum.List p ds
with_end p ds (Some d) = datum.Dotted p ds d

abbrev pub is_listed : Datum → Bool
is_listed (datum.List p is) = true
is_listed (datum.Dotted p is d) = true
is_listed d = false

-- a tail is this datum, if there is one
abbrev pub ReadTail : Source → Option ℕ → Option Datum → Type 0
ReadTail s None end = end ≡ None
ReadTail s (Some id) end = (d : Datum) × Reads s id d × (end ≡ Some d)

pub record IsListed (s : Source) (ids : List ℕ) (tail : Option ℕ) (d : Datum) : Type 0 where
  pub at : Pos
  pub items : Items
  pub end : Option Datum
  pub are : d ≡ with_end at items end
  pub read : ReadAll s ids items
  pub ends : ReadTail s tail end

-- Formals

abbrev pub all_names : Items → Option Datum → Bool
all_names ds None = are_names ds
all_names ds (Some d) = are_names ds && is_name d

abbrev pub end_word : Option Datum → Option Word
end_word None = None
end_word (Some d) = word_of d

abbrev pub IsRest : Source → Option ℕ → Option Word → Type 0
IsRest s None r = r ≡ None
IsRest s (Some id) r = (w : Word) × Reads s id (named_datum w) × (r ≡ Some w)

-- formals of these names
pub record AreFormals (s : Source) (f : Formals) (ws : List Word) (r : Option Word) : Type 0 where
  pub params : ReadAll s f.params.now (named_data ws)
  pub rest : IsRest s f.rest r

-- Definitions

abbrev pub IsValue : Source → Defined → Pos → Exp → Type 0
IsValue s (defined.Expr id) p e = (d : Datum) × Reads s id d × (e ≡ expr d)
IsValue s (defined.Procedure f ids) p e =
    (ws : List Word) × (r : Option Word) × (ds : Items) × AreFormals s f ws r × ReadAll s ids.now ds
    × (e ≡ procedure p ws r ds (body ds))

-- a definition that binds a name
pub record IsDefined (s : Source) (def : Definition) (p : Pos) (before : Bindings → Bindings) : Type 0 where
  pub word : Word
  pub exp : Exp
  pub binds : (bs : Bindings) → before bs ≡ binding p word exp bs
  pub name : Reads s def.name (named_datum word)
  pub is : IsValue s def.value p exp

-- what is read binds a name before other bindings, or breaks a rule
abbrev pub IsRead : Source → Result Definition Rule → Pos → (Bindings → Bindings) → Type 0
IsRead s (Ok def) p before = IsDefined s def p before
IsRead s (Err n) p before = (bs : Bindings) → before bs ≡ broken p (number_of n) bs

-- these are definitions
pub record AreDefinitions (s : Source) (ids : List ℕ) (ds : Items) : Type 0 where
  pub read : ReadAll s ids ds
  pub define : all_items is_define ds ≡ true

abbrev pub is_begin : Datum → Bool
is_begin (datum.List p (item d ds)) = is_word (codes "begin") d
is_begin d = false

-- the items of a `begin`
pub record IsBegun (s : Source) (ids : List ℕ) (d : Datum) : Type 0 where
  pub at : Pos
  pub head : Datum
  pub items : Items
  pub are : d ≡ datum.List at (item head items)
  pub begins : is_word (codes "begin") head ≡ true
  pub read : ReadAll s ids items

-- definitions are put behind others, if the datum is some
abbrev pub Collects : Source → Datum → (before after : List ℕ) → Bool → Type 0
Collects s d before after true =
    (more : List ℕ) × (defs : Items) × (after ≡ before ++ more) × AreDefinitions s more defs × (is_definition d ≡ true)
    × ((bs : Bindings) → definitions_before d bs ≡ each_definition defs bs)
Collects s d before after false = (after ≡ before) × (is_definition d ≡ false)

abbrev pub begins_defined : Items → Bool
begins_defined none = false
begins_defined (item d ds) = is_definition d

-- the definitions at the head of a body are put behind others
pub record IsHead (s : Source) (ds : Items) (before after rest : List ℕ) : Type 0 where
  pub more : List ℕ
  pub defs : Items
  pub back : Items
  pub longer : after ≡ before ++ more
  pub are : AreDefinitions s more defs
  pub read : ReadAll s rest back
  pub ends : begins_defined back ≡ false
  pub no_body : is_no_body ds ≡ is_no_body back
  pub body : body ds ≡ after_bindings (λ bs. each_definition defs bs) (body back)

-- the parts of a body
pub record IsBody (s : Source) (parts : Parts) (b : Body) : Type 0 where
  pub defs : Items
  pub items : Items
  pub are : AreDefinitions s parts.definitions.items defs
  pub names : ReadAll s parts.names.items (named_data (bound_words (each_definition defs no_binding)))
  pub rest : ReadAll s parts.exprs.now items
  pub is : b ≡ Of (each_definition defs no_binding) (exprs items)

-- Bindings

-- a name and an expression
pub record IsPair (s : Source) (name value : ℕ) (d : Datum) : Type 0 where
  pub at : Pos
  pub word : Word
  pub exp : Datum
  pub are : d ≡ datum.List at (item (named_datum word) (item exp none))
  pub named : Reads s name (named_datum word)
  pub valued : Reads s value exp

-- the expressions of bindings
abbrev pub value_exps : Bindings → Exps
value_exps no_binding = no_exp
value_exps (binding p w e bs) = exp e (value_exps bs)
value_exps (broken p n bs) = value_exps bs

-- names and values of bindings
pub record AreBindings (s : Source) (pairs : Pairs) (bs : Bindings) : Type 0 where
  pub names : ReadAll s pairs.names.items (named_data (bound_words bs))
  pub items : Items
  pub values : ReadAll s pairs.values.items items
  pub exps : value_exps bs ≡ exprs items
  pub same : in_values bs ≡ in_exps (exprs items)

-- the rules of a form that has bindings and a body, where the names are bound together or not
abbrev pub together_words : Bool → Bindings → List Word
together_words true bs = bound_words bs
together_words false bs = []

abbrev pub bound_checks : Bool → Items → List Check
bound_checks together none = rule true 4 ∷ []
bound_checks together (item d ds) =
    rule (is_no_body ds) 4 ∷ rule (not (is_list_of is_binding d)) 8
    ∷ rule (twice (together_words together (bindings d)) || defines_twice (body ds)) 12 ∷ []

-- a form of bindings and a body, as `let`, `let*` and `letrec` are, and a named one
abbrev pub bound_form : Bool → Pos → Items → Exp
bound_form together p none = Wrong p 4
bound_form together p (item d ds) = checked p (bound_checks together (item d ds)) (Let p (bindings d) (body ds))

abbrev pub named_form : Pos → Word → Items → Exp
named_form p w none = Wrong p 4
named_form p w (item d ds) = checked p (bound_checks true (item d ds)) (Named p w (bindings d) (body ds))

-- bindings and a body that break no rule
pub record AreBound (s : Source) (together : Bool) (ds : Items) (pairs : Pairs) (parts : Parts) : Type 0 where
  pub first : Datum
  pub others : Items
  pub are : ds ≡ item first others
  pub bound : AreBindings s pairs (bindings first)
  pub inner : IsBody s parts (body others)
  pub good : (p : Pos) (e : Exp) → checked p (bound_checks together ds) e ≡ e

-- Clauses of a `cond`

abbrev pub cond_form : Pos → Items → Exp
cond_form p ds = checked p (rule (not (are_clauses is_clause ds)) 6 ∷ []) (Cond p (clauses ds))

abbrev pub IsClause : Source → Clause → Datum → Type 0
IsClause s (which.Then test ids) d =
    (is_clause false d ≡ true) × (t : Datum) × (ds : Items) × Reads s test t × ReadAll s ids.now ds
    × ((cs : Clauses) → clause_before d cs ≡ clause (expr t) (exprs ds) cs)
IsClause s (which.Test test) d =
    (is_clause false d ≡ true) × (t : Datum) × Reads s test t
    × ((cs : Clauses) → clause_before d cs ≡ value (expr t) cs)
IsClause s (which.Receiver test receiver) d =
    (is_clause false d ≡ true) × (t : Datum) × (r : Datum) × Reads s test t × Reads s receiver r
    × ((cs : Clauses) → clause_before d cs ≡ passing (expr t) (expr r) cs)
IsClause s (which.Else ids) d =
    (is_clause false d ≡ false) × (ds : Items) × ReadAll s ids.now ds
    × ((cs : Clauses) → clause_before d cs ≡ otherwise (exprs ds))

-- what is read is a clause, the last or not, or there is none
abbrev pub IsFound : Source → Option Clause → Datum → Type 0
IsFound s None d = is_clause true d ≡ false
IsFound s (Some c) d = (is_clause true d ≡ true) × IsClause s c d

-- The variables of a `do`

-- the numbers that are there
abbrev pub those : List (Option ℕ) → List ℕ
those [] = []
those (None ∷ ids) = those ids
those (Some id ∷ ids) = id ∷ those ids

-- what variables are first, and what they are in the next turn, where that is written
abbrev pub AreSteps : Source → (inits : List ℕ) → (steps : List (Option ℕ)) → Steps → Type 0
AreSteps s ids os no_step = (ids ≡ []) × (os ≡ [])
AreSteps s ids os (fixed w e ss) =
    (id : ℕ) × (is : List ℕ) × (ps : List (Option ℕ)) × (ids ≡ id ∷ is) × (os ≡ None ∷ ps) × (d : Datum)
    × Reads s id d × (e ≡ expr d) × AreSteps s is ps ss
AreSteps s ids os (stepped w e f ss) =
    (id : ℕ) × (is : List ℕ) × (ps : List (Option ℕ)) × (next : ℕ) × (ids ≡ id ∷ is) × (os ≡ Some next ∷ ps)
    × (d : Datum) × Reads s id d × (e ≡ expr d) × (g : Datum) × Reads s next g × (f ≡ expr g) × AreSteps s is ps ss

-- the names, what they are first, and what they are in the next turn
pub record AreTurns (s : Source) (turns : Turns) (ss : Steps) : Type 0 where
  pub names : ReadAll s turns.names.items (named_data (step_words ss))
  pub first : Items
  pub next : Items
  pub inits : ReadAll s turns.inits.items first
  pub steps : ReadAll s (those turns.steps.items) next
  pub are : AreSteps s turns.inits.items turns.steps.items ss
  pub same : least (in_steps ss)
      ≡ earlier (least (in_words (step_words ss))) (earlier (least (in_exps (exprs first))) (least (in_exps (exprs next))))
