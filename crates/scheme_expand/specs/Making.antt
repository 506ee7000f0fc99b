-- What the steps of an expansion make, one by one.
use Rattle.std.specs.Prelude.{ℕ, zero, suc, ◌≡◌, List, [], ◌∷◌, ◌++◌, length, map, Option, Some, None, Bool, true, false, not, ◌&&◌, ◌||◌, nat_lt, if◌then◌else◌, codes}
use Rattle.scheme_base.specs.declared.pos.Pos.{Pos}
use Rattle.scheme_base.specs.declared.op.Op.TheVariants as op
use Rattle.scheme_base.specs.Constants.{Constant, Constant as constant}
use Rattle.datum_form.specs.Data.{Datum, Items}
use Rattle.quasi_expand.specs.declared.template.Part.TheVariants as part
use Rattle.quasi_expand.specs.Shapes.{is_case}
use Rattle.scheme_expand.specs.declared.step.Step.{Step}
use Rattle.scheme_expand.specs.declared.step.Step.TheVariants as step
use Rattle.scheme_expand.specs.declared.words.Comparison.{Comparison}
use Rattle.scheme_expand.specs.declared.words.Comparison.TheVariants as how
use Rattle.scheme_expand.specs.declared.words.Known.{Known}
use Rattle.scheme_expand.specs.declared.words.Known.TheVariants as known
use Rattle.scheme_expand.specs.Calls as calls
use Rattle.scheme_expand.specs.Calls.{one, two, count, negated, operation, symbol_call, at_once, bound_first, way, references, Sums, Differs, Compares, Lists}
use Rattle.scheme_expand.specs.Faults.{in_exp, in_exps, in_clauses, in_cases}
use Rattle.scheme_expand.specs.Forms.{Word, Exp, Exps, Clauses, Cases, no_exp, exp, no_binding, binding, no_clause, otherwise, value, clause, passing, no_case, others, one_of}
use Rattle.scheme_expand.specs.Grammar.{expr, exprs, clauses, cases, is_clause, is_define, definitions_before, each_constant}
use Rattle.scheme_expand.specs.Rewriting.{Scope, call, core, cores, fix, is_one_of, letrec_by_set, unspecified, variables}
use Rattle.scheme_expand.specs.Views.{Context, View, Bound, bound_names, scope_of, height, pushed, visit, seen, all_seen, lowered, leave, below}
use Rattle.scheme_expand.specs.Waiting.{Reads, ReadAll, may_be_clauses}
use Rattle.draft_form.specs.declared.draft.Constant.TheVariants as held
use Rattle.draft_form.specs.Drafts.{Name, Draft, Drafts, Fresh, Library, Const, Symbols, Ref, Lambda, If, Set, Call, Prim, Seq, Fix, Define, none, item}
use Rattle.draft_form.specs.Drawn.{name_of}
use Rattle.draft_form.specs.Quoted.{IsHeld}

-- The variables from a level on

-- these variables in the order of their levels
abbrev pub from_level : (level : ℕ) → List Bound → List (List ℕ)
from_level k [] = []
from_level k (b ∷ bs) = if nat_lt (length bs) k then [] else from_level k bs ++ b.name ∷ []

abbrev pub one_assigned : (level : ℕ) → List Bound → Bool
one_assigned k [] = false
one_assigned k (b ∷ bs) = if nat_lt (length bs) k then false else b.assigned || one_assigned k bs

abbrev pub all_but_last : {A : Type 0} → List A → List A
all_but_last [] = []
all_but_last (x ∷ []) = []
all_but_last (x ∷ y ∷ ys) = x ∷ all_but_last (y ∷ ys)

abbrev pub last_of : {A : Type 0} → List A → Option A
last_of [] = None
last_of (x ∷ []) = Some x
last_of (x ∷ y ∷ ys) = last_of (y ∷ ys)

-- the parameters of a procedure, of which the last is a rest parameter if there is one
abbrev pub lambda_made : Pos → (has_rest : Bool) → List Name → Draft → Draft
lambda_made p true xs e = Lambda p (all_but_last xs) (last_of xs) e
lambda_made p false xs e = Lambda p xs None e

-- a `letrec` of these names in a scope
abbrev pub letrec_made : Pos → (is_fix : Bool) → Scope → List (List ℕ) → (values : Drafts) → (body : Draft) → Draft
letrec_made p true s xs values body = fix p s xs values body
letrec_made p false s xs values body = letrec_by_set p s xs values body

-- Known calls

abbrev pub comparing : Comparison → calls.Comparison
comparing how.Equal = calls.Equal
comparing how.Less = calls.Less
comparing how.Greater = calls.Greater
comparing how.AtMost = calls.NotGreater
comparing how.AtLeast = calls.NotLess

-- what a call of a known name is at a level, if it takes so many operands
abbrev pub known_draft : Pos → (level : ℕ) → Known → Drafts → Option Draft
known_draft p k (known.Operation o) es = operation p o es
known_draft p k known.Not es = negated p es
known_draft p k (known.Fold o n) es = at_once p o es (bound_first p k es (way p (Sums o n) (references p k es)))
known_draft p k known.Subtract es = at_once p op.Subtract es (bound_first p k es (way p Differs (references p k es)))
known_draft p k (known.Compare how.Equal) es =
    at_once p op.Equals es (bound_first p k es (way p (Compares calls.Equal) (references p k es)))
known_draft p k (known.Compare how.Less) es =
    at_once p op.Less es (bound_first p k es (way p (Compares calls.Less) (references p k es)))
known_draft p k (known.Compare c) es = bound_first p k es (way p (Compares (comparing c)) (references p k es))
known_draft p k known.List es = bound_first p k es (way p Lists (references p k es))
known_draft p k known.Symbols es = symbol_call p es

-- Steps that take what is made

-- what is left of some drafts, of which so many are taken
abbrev pub left_of : (many : ℕ) → List Draft → List Draft
left_of zero ds = ds
left_of (suc n) [] = []
left_of (suc n) (d ∷ ds) = left_of n ds

-- so many drafts, of which the last is the first, before others
abbrev pub taken_before : (many : ℕ) → List Draft → Drafts → Drafts
taken_before zero ds es = es
taken_before (suc n) [] es = es
taken_before (suc n) (d ∷ ds) es = taken_before n ds (item d es)

abbrev pub taken : (many : ℕ) → List Draft → Drafts
taken n ds = taken_before n ds none

-- this stands in the place of what was taken
abbrev pub instead : View → (left : List Draft) → Draft → View
instead v ds d = record { made = d ∷ ds; bound = v.bound; flags = v.flags }

-- the same where a draft is made
abbrev pub instead_of : View → (left : List Draft) → Option Draft → View
instead_of v ds None = v
instead_of v ds (Some d) = instead v ds d

-- a call of so many operands, where its operator stands before them
abbrev pub called : Pos → (operands : Drafts) → View → List Draft → View
called p es v [] = v
called p es v (e ∷ ds) = instead v ds (Call p e es)

-- a `letrec` whose body stands before its values
abbrev pub letrec_of : Pos → (level : ℕ) → (is_fix : Bool) → Scope → List (List ℕ) → (values : Drafts) → View → List Draft → View
letrec_of p k is_fix s xs values v [] = v
letrec_of p k is_fix s xs values v (body ∷ ds) =
    instead (leave k v) ds (letrec_made p is_fix s xs values body)

abbrev pub given : View → List Draft → (one : Draft → Draft) → View
given v [] f = v
given v (d ∷ ds) f = instead v ds (f d)

abbrev pub given_two : View → List Draft → (last_first : Draft → Draft → Draft) → View
given_two v (d ∷ e ∷ ds) f = instead v ds (f d e)
given_two v ds f = v

abbrev pub given_three : View → List Draft → (last_first : Draft → Draft → Draft → Draft) → View
given_three v (d ∷ e ∷ g ∷ ds) f = instead v ds (f d e g)
given_three v ds f = v

abbrev pub names_from : Context → (level : ℕ) → View → List Name
names_from c k v = variables k (from_level k v.bound)

-- what a step makes that takes what is made; the others change nothing
abbrev pub makes : Context → Step → View → View
makes c (step.Unspecified p) v = pushed (unspecified p) v
makes c (step.Reference p x) v = pushed (Ref p (name_of c.names x)) v
makes c (step.Leave k) v = leave k v
makes c (step.Sequence p n) v = instead v (left_of n v.made) (Seq p (taken n v.made))
makes c (step.Call p n) v = called p (taken n v.made) v (left_of n v.made)
makes c (step.Known p x n) v = instead_of v (left_of n v.made) (known_draft p (height v) x (taken n v.made))
makes c (step.If p) v = given_three v v.made (λ no yes test. If p test yes no)
makes c (step.Branch p) v = given_three v v.made (λ test yes no. If p test yes no)
makes c (step.Both p) v = given_two v v.made (λ test yes. If p test yes (calls.truth p false))
makes c (step.Either p k) v =
    given_two v v.made
    (λ e rest. Call p (Lambda p (Fresh k ∷ []) None (If p (Ref p (Fresh k)) (Ref p (Fresh k)) rest)) (one e))
makes c (step.Receive p k) v =
    given_three v v.made
    (λ test yes no. Call p (Lambda p (Fresh k ∷ []) None (If p (Ref p (Fresh k)) yes no)) (one test))
makes c (step.Assign p x) v = given v v.made (λ e. Set p (name_of c.names x) e)
makes c (step.Define p x) v = given v v.made (λ e. Define p (name_of c.names x) e)
makes c (step.Lambda p k r) v = given (leave k v) v.made (λ e. lambda_made p r (names_from c k v) e)
makes c (step.Bind p x) v =
    given_two v v.made (λ e body. Call p (Lambda p (name_of c.names x ∷ []) None body) (one e))
makes c (step.Letrec p k lambdas) v =
    let xs : List (List ℕ) = from_level k v.bound in
    letrec_of p k (lambdas && not (one_assigned k v.bound)) (scope_of c (leave k v)) xs (taken (length xs) v.made) v
    (left_of (length xs) v.made)
makes c (step.Loop p k) v =
    given_two (leave k v) v.made (λ procedure body. Fix p (Fresh k ∷ []) (one procedure) body)
makes c (step.Template p part.Cons) v = given_two v v.made (λ cdr car. Prim p op.Cons (two car cdr))
makes c (step.Template p part.Join) v =
    given_two v v.made (λ rest items. Call p (Ref p (Library (codes "%join"))) (two items rest))
makes c (step.Template p part.Vector) v =
    given v v.made (λ items. Call p (Ref p (Library (codes "list->vector"))) (one items))
makes c x v = v

-- Steps that read data

-- a `Seq` of expressions
abbrev pub sequenced : Context → Pos → Exps → View → View
sequenced c p es v = instead (all_seen c es v) v.made (Seq p (cores es (scope_of c v)))

-- the operands of an `and` before what is made
abbrev pub conjoined : Context → Pos → Exps → View → View
conjoined c p no_exp v = v
conjoined c p (exp e es) v = makes c (step.Both p) (seen c e (conjoined c p es v))

-- the operands of an `or` before what is made, in whose scope they are held
abbrev pub alternated : Context → Pos → Exps → View → View
alternated c p no_exp v = v
alternated c p (exp e es) v =
    let u : View = alternated c p es v in
    let k : ℕ = below (height u) in
    makes c (step.Either p k) (seen c e (leave k u))

-- the call of a receiver with the value that a fresh variable holds
abbrev pub received : Context → Pos → Exp → (level : ℕ) → View → View
received c p e k v = visit c (call p (scope_of c v) e (core e (scope_of c v)) (one (Ref p (Fresh k)))) v

-- the clauses of a `cond` before what is made, in whose scope the values of tests are held
abbrev pub clauses_made : Context → Pos → Clauses → View → View
clauses_made c p no_clause v = v
clauses_made c p (otherwise es) v = sequenced c p es v
clauses_made c p (value test cs) v =
    let u : View = clauses_made c p cs v in
    let k : ℕ = below (height u) in
    makes c (step.Either p k) (seen c test (leave k u))
clauses_made c p (clause test es cs) v =
    makes c (step.Branch p) (seen c test (sequenced c p es (clauses_made c p cs v)))
clauses_made c p (passing test e cs) v =
    let u : View = clauses_made c p cs v in
    let k : ℕ = below (height u) in
    makes c (step.Receive p k) (seen c test (leave k (received c p e k u)))

-- the clauses of a `case` before what is made, whose key a fresh variable holds
abbrev pub cases_made : Context → Pos → (level : ℕ) → Cases → View → View
cases_made c p k no_case v = v
cases_made c p k (others es) v = sequenced c p es v
cases_made c p k (one_of constants es cs) v =
    let u : View = sequenced c p es (cases_made c p k cs v) in
    makes c (step.Branch p) (pushed (is_one_of p (scope_of c u) (Fresh k) constants) u)

-- no form in this is broken

abbrev pub IsRight : Exp → Type 0
IsRight e = in_exp e ≡ []

abbrev pub AreRight : Exps → Type 0
AreRight es = in_exps es ≡ []

-- a datum is the definition of a name as this value
pub record Defines (d : Datum) (e : Exp) : Type 0 where
  pub define : is_define d ≡ true
  pub place : Pos
  pub word : Word
  pub binds : definitions_before d no_binding ≡ binding place word e no_binding

-- a step comes from one view to another
abbrev pub ComesTo : Context → Step → (before after : View) → Type 0
ComesTo c (step.Expr id) v w = (d : Datum) × Reads c.source id d × IsRight (expr d) × (w ≡ seen c (expr d) v)
ComesTo c (step.Exprs ids) v w =
    (ds : Items) × ReadAll c.source ids.now ds × AreRight (exprs ds) × (w ≡ all_seen c (exprs ds) v)
ComesTo c (step.Defined id) v w =
    (d : Datum) × (e : Exp) × Reads c.source id d × Defines d e × IsRight e × (w ≡ seen c e v)
ComesTo c (step.Conjuncts p ids) v w =
    (ds : Items) × ReadAll c.source ids.now ds × AreRight (exprs ds) × (w ≡ conjoined c p (exprs ds) v)
ComesTo c (step.Alternatives p ids k) v w =
    (ds : Items) × ReadAll c.source ids.now ds × AreRight (exprs ds) × (k ≡ height v)
    × (w ≡ alternated c p (exprs ds) v)
ComesTo c (step.Clauses p ids k) v w =
    (ds : Items) × ReadAll c.source ids.now ds × (may_be_clauses is_clause ds ≡ true) × (in_clauses (clauses ds) ≡ [])
    × (k ≡ height v) × (w ≡ clauses_made c p (clauses ds) v)
ComesTo c (step.Cases p ids k) v w =
    (ds : Items) × ReadAll c.source ids.now ds × (may_be_clauses is_case ds ≡ true) × (in_cases (cases ds) ≡ [])
    × (height v ≡ suc k) × (w ≡ cases_made c p k (cases ds) v)
ComesTo c (step.IsAmong p ids k) v w =
    (ds : Items) × ReadAll c.source ids.now ds × (height v ≡ suc k)
    × (w ≡ pushed (is_one_of p (scope_of c v) (Fresh k) (each_constant ds)) v)
ComesTo c (step.Template p (part.Datum id)) v w =
    (a : Constant) × IsHeld c.source.nodes.now (held.Datum id) a × (w ≡ pushed (Const p a) v)
ComesTo c (step.Template p (part.Rest id from)) v w =
    (a : Constant) × IsHeld c.source.nodes.now (held.Rest id from) a × (w ≡ pushed (Const p a) v)
ComesTo c (step.Known p x n) v w =
    (d : Draft) × (known_draft p (height v) x (taken n v.made) ≡ Some d) × (w ≡ instead v (left_of n v.made) d)
ComesTo c x v w = w ≡ makes c x v

-- several steps, of which the last is the first to be done
abbrev pub AllCome : Context → List Step → (before after : View) → Type 0
AllCome c [] v w = w ≡ v
AllCome c (x ∷ steps) v w = (u : View) × AllCome c steps v u × ComesTo c x u w
