-- What a naming notes and puts, step by step.
--
-- Steps are put at the end of a block, so each is told by what it does before any rest of the block.
use Rattle.std.specs.Prelude.{ℕ, suc, ◌≡◌, ◌+◌, List, [], ◌∷◌, ◌++◌, length, map, Option, None, Some, is_some, if◌then◌else◌}
use Rattle.scheme_base.specs.declared.pos.Pos.{Pos}
use Rattle.core_form.specs.declared.program.Node.{Node}
use Rattle.core_form.specs.declared.program.VarRef.{VarRef}
use Rattle.core_form.specs.Trees.{Tree, Trees, Stands, StandAll}
use Rattle.core_form.specs.Trees as tree
use Rattle.named_form.specs.declared.program.Step.{Step}
use Rattle.named_form.specs.declared.program.Block.{Block}
use Rattle.named_form.specs.Code.{Code, Ends, Then, Act, Fix, MakeBox}
use Rattle.named_form.specs.Written.{Onto, all_onto, onto}
use Rattle.named_form.specs.Valid.{numbers_from}
use Rattle.named_form.specs.Written as written
use Rattle.box_name.specs.declared.facts.Stand.{Stand}
use Rattle.box_name.specs.declared.namer.Namer.{Namer}
use Rattle.box_name.specs.Told.{Expr, Exprs, told, all_told, told_operand, told_operands}
use Rattle.box_name.specs.Counts.{procs_in, all_procs_in, after, all_after, places, all_places, has_value, have_values, after_param, after_params, param_place, param_places, var_places}
use Rattle.box_name.specs.Naming.{Setting, value, values, valued, all_valued, code, all_code, procs_of, bind_param, bind_params}
use Rattle.box_name.specs.Fitting.{Fits}

-- steps before the rest of a block
abbrev pub linked : List Step → Onto
linked steps rest = all_onto (map onto steps) rest

-- steps that were `before` and are `behind` had these put at their end
abbrev pub Puts : (before behind : List Step) → Onto → Type 0
Puts before behind put = (rest : Code Pos) → linked behind rest ≡ linked before (put rest)

-- the last of some values
abbrev pub last_of : (other : ℕ) → List ℕ → ℕ
last_of other [] = other
last_of other (v ∷ vs) = last_of v vs

-- one step was put
abbrev pub PutsStep : (before behind : List Step) → Pos → (vars : List ℕ) → Act Pos → Type 0
PutsStep before behind q vars act = (rest : Code Pos) → linked behind rest ≡ linked before (Then q vars act rest)

abbrev pub with_next : Namer → Namer
with_next a = record a { next_var = a.next_var + 1 }

abbrev pub with_proc : Namer → ℕ → Namer
with_proc a p = record a { next_proc = p }

-- the next variable was taken
pub record Takes (a b : Namer) (v : ℕ) : Type 0 where
  pub var : v ≡ a.next_var
  pub next : b ≡ with_next a

-- a step was put that binds v
pub record PutsOne (a b : Namer) (before behind : List Step) (q : Pos) (v : ℕ) (act : Act Pos) (w : ℕ) : Type 0 where
  pub var : w ≡ v
  pub same : b ≡ a
  pub step : PutsStep before behind q (v ∷ []) act

-- a step was put that binds the next variable
pub record Binds (a b : Namer) (before behind : List Step) (q : Pos) (act : Act Pos) (v : ℕ) : Type 0 where
  pub var : v ≡ a.next_var
  pub next : b ≡ with_next a
  pub step : PutsStep before behind q (a.next_var ∷ []) act

-- the next procedure was taken, with those in the body of a lambda expression
pub record TakesProc (a b : Namer) (l : Expr) (taken : ℕ) : Type 0 where
  pub proc : taken ≡ a.next_proc
  pub next : b ≡ with_proc a (a.next_proc + procs_in l)

-- the places that are noted are the first ones of a setting
abbrev pub Agrees : Namer → Setting → Type 0
Agrees a s = (more : List (ℕ × ℕ)) × (s.places ≡ a.vars.entries ++ more)

-- places were noted, and the next variable and the next procedure are n and p
pub record Notes (a b : Namer) (noted : List (ℕ × ℕ)) (n p : ℕ) : Type 0 where
  pub entries : b.vars.entries ≡ a.vars.entries ++ noted
  pub next_var : b.next_var ≡ n
  pub next_proc : b.next_proc ≡ p

-- the same, and these steps were put, if the setting has all places that are noted by then
pub record Emits (s : Setting) (a b : Namer) (before behind : List Step) (noted : List (ℕ × ℕ)) (n p : ℕ) (put : Onto) : Type 0 where
  pub notes : Notes a b noted n p
  pub puts : Agrees b s → Puts before behind put

-- the steps of an expression were put, and its value is in v
abbrev pub EmitsExpr : Setting → (n p : ℕ) → (a b : Namer) → (before behind : List Step) → Expr → (v : ℕ) → Type 0
EmitsExpr s n p a b before behind e v =
    a.next_var ≡ n → a.next_proc ≡ p
    → Emits s a b before behind (places s.boxed n e) (after s.boxed n e) (p + procs_in e) (code s e n p)
    × (Agrees b s → v ≡ value s e n)

abbrev pub EmitsAll : Setting → (n p : ℕ) → (a b : Namer) → (before behind : List Step) → Exprs → (vs : List ℕ) → Type 0
EmitsAll s n p a b before behind es vs =
    a.next_var ≡ n → a.next_proc ≡ p
    → Emits s a b before behind (all_places s.boxed n es) (all_after s.boxed n es) (p + all_procs_in es) (all_code s es n p)
    × (Agrees b s → vs ≡ values s es n)

-- the steps of an operand of a direct call were put
abbrev pub EmitsOperand : Setting → (n p : ℕ) → (a b : Namer) → (before behind : List Step) → Expr → (v : Option ℕ) → Type 0
EmitsOperand s n p a b before behind e v =
    a.next_var ≡ n → a.next_proc ≡ p
    → Emits s a b before behind (places s.boxed n e) (after s.boxed n e) (p + procs_in e) (code s e n p)
    × (is_some v ≡ has_value e) × (Agrees b s → v ≡ valued s e n)

abbrev pub EmitsOperands : Setting → (n p : ℕ) → (a b : Namer) → (before behind : List Step) → Exprs → (vs : List (Option ℕ))
    → Type 0
EmitsOperands s n p a b before behind es vs =
    a.next_var ≡ n → a.next_proc ≡ p
    → Emits s a b before behind (all_places s.boxed n es) (all_after s.boxed n es) (p + all_procs_in es) (all_code s es n p)
    × (map is_some vs ≡ have_values es) × (Agrees b s → vs ≡ all_valued s es n)

-- the block of an arm was made
pub record MakesArm (s : Setting) (n p : ℕ) (a b : Namer) (e : Expr) (block : Block) : Type 0 where
  pub notes : Notes a b (places s.boxed n e) (after s.boxed n e) (p + procs_in e)
  pub code : Agrees b s → written.code block ≡ code s e n p (Ends (Some (value s e n)))

-- the box of a variable with its value in v was made, if it has one, and the place was noted
abbrev pub Settles : Setting → (n p : ℕ) → (a b : Namer) → (before behind : List Step) → Pos → (x v : ℕ) → Type 0
Settles s n p a b before behind q x v =
    a.next_var ≡ n → a.next_proc ≡ p
    → Emits s a b before behind ((x, if s.boxed x then n else v) ∷ []) (if s.boxed x then suc n else n) p
    (λ rest. if s.boxed x then Then q (n ∷ []) (MakeBox v) rest else rest)

-- a parameter of a direct call was bound to the value in v
abbrev pub BindsParam : Setting → (n p : ℕ) → (a b : Namer) → (before behind : List Step) → Pos → (x : ℕ) → (v : Option ℕ) → Type 0
BindsParam s n p a b before behind q x v =
    a.next_var ≡ n → a.next_proc ≡ p
    → Emits s a b before behind ((x, param_place s.boxed n x (is_some v)) ∷ []) (after_param s.boxed n x (is_some v)) p
    (bind_param s q x n v)

abbrev pub BindsParams : Setting → (n p : ℕ) → (a b : Namer) → (before behind : List Step) → Pos → (xs : List ℕ)
    → (vs : List (Option ℕ)) → Type 0
BindsParams s n p a b before behind q xs vs =
    a.next_var ≡ n → a.next_proc ≡ p
    → Emits s a b before behind (param_places s.boxed n xs (map is_some vs)) (after_params s.boxed n xs (map is_some vs)) p
    (bind_params s q xs vs n)

-- local variables were given the next variables
pub record NotesVars (a b : Namer) (xs vs : List ℕ) : Type 0 where
  pub notes : Notes a b (var_places a.next_var xs) (a.next_var + length xs) a.next_proc
  pub vars : vs ≡ numbers_from a.next_var (length xs)

-- lambda expressions were given the next procedures
pub record TakesProcs (a b : Namer) (ls : Exprs) (taken : List ℕ) : Type 0 where
  pub procs : taken ≡ procs_of a.next_proc ls
  pub next : b ≡ with_proc a (a.next_proc + all_procs_in ls)

-- the closures of a `letrec`'s lambda expressions were made
abbrev pub PutsFix : Setting → (n p : ℕ) → (a b : Namer) → (before behind : List Step) → Pos → (xs : List ℕ) → (ls : Exprs) → Type 0
PutsFix s n p a b before behind q xs ls =
    a.next_var ≡ n → a.next_proc ≡ p
    → Emits s a b before behind (var_places n xs) (n + length xs) (p + all_procs_in ls)
    (λ rest. Then q (numbers_from n (length xs)) (Fix (procs_of p ls)) rest)

-- a lambda expression at this position
abbrev pub IsLambdaAt : Pos → Tree VarRef → Type 0
IsLambdaAt q (tree.Lambda p xs r body) = p ≡ q
IsLambdaAt q e = ⊥

-- a lambda expression with these parameters, this body and no rest parameter, of which there are so many
abbrev pub IsDirect : List (Node VarRef) → (params : List VarRef) → (body many : ℕ) → Tree VarRef → Type 0
IsDirect exprs params body many f =
    (q : Pos) × (b : Tree VarRef) × (f ≡ tree.Lambda q params None b) × Stands exprs body b × (length params ≡ many)

-- What is done where an expression stands, in each setting that fits.

-- as for this expression
abbrev pub Does : Stand → (a b : Namer) → (before behind : List Step) → Expr → (v : ℕ) → Type 0
Does t a b before behind e v = (s : Setting) → Fits t s → (n p : ℕ) → EmitsExpr s n p a b before behind e v

-- as for an expression with this last part, behind the steps of the part, whose value is in `from`
abbrev pub DoesLast : Stand → (a b : Namer) → (before behind : List Step) → (from : ℕ) → (whole : Expr → Expr) → (v : ℕ) → Type 0
DoesLast t a b before behind from whole v =
    (s : Setting) → Fits t s → (n p : ℕ) (first : Namer) (start : List Step) (e : Expr)
    → EmitsExpr s n p first a start before e from → EmitsExpr s n p first b start behind (whole e) v

-- as for the expression of this number
abbrev pub DoesNode : Stand → (a b : Namer) → (before behind : List Step) → (expr v : ℕ) → Type 0
DoesNode t a b before behind expr v =
    (e : Tree VarRef) → Stands t.core.now.exprs expr e → Does t a b before behind (told t.core.now.lits e) v

abbrev pub DoesNodes : Stand → (a b : Namer) → (before behind : List Step) → (exprs vs : List ℕ) → Type 0
DoesNodes t a b before behind exprs vs =
    (es : Trees VarRef) → StandAll t.core.now.exprs exprs es → (s : Setting) → Fits t s → (n p : ℕ)
    → EmitsAll s n p a b before behind (all_told t.core.now.lits es) vs

abbrev pub DoesOperand : Stand → (a b : Namer) → (before behind : List Step) → (expr : ℕ) → (v : Option ℕ) → Type 0
DoesOperand t a b before behind expr v =
    (e : Tree VarRef) → Stands t.core.now.exprs expr e → (s : Setting) → Fits t s → (n p : ℕ)
    → EmitsOperand s n p a b before behind (told_operand t.core.now.lits e) v

abbrev pub DoesOperands : Stand → (a b : Namer) → (before behind : List Step) → (exprs : List ℕ) → (vs : List (Option ℕ)) → Type 0
DoesOperands t a b before behind exprs vs =
    (es : Trees VarRef) → StandAll t.core.now.exprs exprs es → (s : Setting) → Fits t s → (n p : ℕ)
    → EmitsOperands s n p a b before behind (told_operands t.core.now.lits es) vs

abbrev pub DoesArm : Stand → (a b : Namer) → (expr : ℕ) → Block → Type 0
DoesArm t a b expr block =
    (e : Tree VarRef) → Stands t.core.now.exprs expr e → (s : Setting) → Fits t s → (n p : ℕ) → a.next_var ≡ n → a.next_proc ≡ p
    → MakesArm s n p a b (told t.core.now.lits e) block
