-- The source machine: what a program does (after the formal semantics of R4RS 7.2).
--
-- It is a CEK machine (Felleisen and Friedman 1986) with a store: a state evaluates an expression in a scope,
-- or gives a value to a continuation. Each local variable is a location of the store, each other a name at
-- top level. The continuation is a list of frames, the newest first, and the rest of the program is its last.
-- What has an identity, procedures and continuations among it, is an object of a store that only grows at
-- its end.
--
-- Operands are evaluated from left to right, after the operator (R4RS 4.1.3 leaves this open). A lambda
-- expression that is called directly makes no object: its parameters are bound where the call stands.
use Rattle.std.specs.Prelude.{ℕ, zero, suc, nat_eq, List, [], ◌∷◌, ◌++◌, length, map, take, drop, slice_get, slice_set, Option, Some, None, is_some, Bool, true, false}
use Rattle.std.specs.Map.{lookup}
use Rattle.scheme_base.specs.declared.env.Env.{Env}
use Rattle.scheme_base.specs.declared.pos.Pos.{Pos}
use Rattle.scheme_base.specs.declared.op.Op.{Op}
use Rattle.scheme_base.specs.declared.lit.Lit.{Lit}
use Rattle.scheme_base.specs.declared.error.ErrKind.{ErrKind}
use Rattle.scheme_base.specs.declared.error.ErrKind.TheVariants as kind
use Rattle.scheme_base.specs.Outside.{Event, Ending}
use Rattle.scheme_base.specs.Runs.{Machine}
use Rattle.scheme_base.specs.Values.{Value, Unspecified, Undefined, Object, Thing, Holding, Procedure, ByRun, chosen}
use Rattle.scheme_base.specs.Literals.{literal, literal_objects}
use Rattle.scheme_base.specs.Operations.{Channels, no_channels, Outcome, Answers, Makes, Changes, Passes, Applies, Captures, Fails, Breaks, operate, sight, plain_store, entries_after, list_value, list_contents, takes, item_or}
use Rattle.scheme_base.specs.Stops.{Stop, End, Error, IoStop, told}
use Rattle.core_form.specs.Trees.{Tree, Const, Ref, Lambda, If, Set, Call, Prim, Seq, Fix, Define, Trees, none, item, count}

-- A program: its forms, its literals, and when two variables are one.
pub record Source (V : Type 0) : Type 0 where
  pub forms : Trees V
  pub lits : List Lit
  pub same : V → V → Bool

-- the locations of the local variables that can be seen, the innermost first
abbrev pub Scope : (V : Type 0) → Type 0
Scope V = List (V × ℕ)

-- what is done with operands once they have values
pub data Goal (V : Type 0) : Type 0 where
  Calls : (procedure : Value) → Goal V
  -- the parameters and the body of a lambda expression that is called directly
  Binds : (params : List V) → (body : Tree V) → Goal V
  Does : Op → Goal V

-- what is done with a value
pub data Frame (V : Type 0) : Type 0 where
  -- the forms after this one, to the end of the program
  Forms : Trees V → Frame V
  -- it is the operator, before these operands
  Operator : (operands : Trees V) → Scope V → (pos : Pos) → Frame V
  -- it is an operand after those that have values, and before those that are left
  Operand : Goal V → (valued : List Value) → (left : Trees V) → Scope V → (pos : Pos) → Frame V
  -- it is a test
  Choose : (yes no : Tree V) → Scope V → Frame V
  Assign : V → Scope V → (pos : Pos) → Frame V
  Bind : V → Frame V
  -- it is an item of a sequence before these
  Rest : Trees V → Scope V → Frame V

-- a procedure, or a continuation
pub data Proc (V : Type 0) : Type 0 where
  Closure : (params : List V) → (rest : Option V) → (body : Tree V) → Scope V → Proc V
  Continuation : List (Frame V) → Proc V

pub record World (V : Type 0) : Type 0 where
  -- the values of the locations
  pub locations : List Value
  pub things : List (Thing (Proc V))
  -- the top-level variables that are defined, with their values; the newest entry of a name counts
  pub tops : List (V × Value)
  pub channels : Channels

pub data State (V : Type 0) : Type 0 where
  Evaluates : Tree V → Scope V → List (Frame V) → World V → State V
  Gives : Value → List (Frame V) → World V → State V
  Stopped : Stop → World V → State V

abbrev pub fails : {V : Type 0} → ErrKind → Pos → World V → State V
fails k pos w = Stopped (Error k pos) w

-- Variables

abbrev pub read_local : {V : Type 0} → Value → Pos → List (Frame V) → World V → State V
read_local Undefined pos fs w = fails kind.Undefined pos w
read_local v pos fs w = Gives v fs w

abbrev pub read_top : {V : Type 0} → Option Value → Pos → List (Frame V) → World V → State V
read_top None pos fs w = fails kind.Unbound pos w
read_top (Some v) pos fs w = Gives v fs w

-- a variable that is seen at this location, or else is one at top level
abbrev pub refer : {V : Type 0} → Source V → Option ℕ → V → Pos → List (Frame V) → World V → State V
refer p (Some n) x pos fs w = read_local (item_or Undefined (slice_get w.locations n)) pos fs w
refer p None x pos fs w = read_top (lookup (p.same x) w.tops) pos fs w

abbrev pub with_top : {V : Type 0} → V → Value → World V → World V
with_top x v w = record w { tops = (x, v) ∷ w.tops }

abbrev pub assign_top : {V : Type 0} → Option Value → V → Value → Pos → List (Frame V) → World V → State V
assign_top None x v pos fs w = fails kind.Unbound pos w
assign_top (Some old) x v pos fs w = Gives Unspecified fs (with_top x v w)

abbrev pub assign : {V : Type 0} → Source V → Option ℕ → V → Value → Pos → List (Frame V) → World V → State V
assign p (Some n) x v pos fs w = Gives Unspecified fs (record w { locations = slice_set w.locations n v })
assign p None x v pos fs w = assign_top (lookup (p.same x) w.tops) x v pos fs w

-- variables that have the locations from n on
abbrev pub scope_with : {V : Type 0} → List V → ℕ → Scope V → Scope V
scope_with [] n ρ = ρ
scope_with (x ∷ xs) n ρ = scope_with xs (suc n) ((x, n) ∷ ρ)

-- new objects

abbrev pub next : {V : Type 0} → World V → Value
next w = Object (length w.things)

abbrev pub with_proc : {V : Type 0} → Proc V → World V → World V
with_proc f w = record w { things = w.things ++ Procedure f ∷ [] }

abbrev pub with_list : {V : Type 0} → List Value → World V → World V
with_list vs w =
    record w { things = w.things ++ map (λ c. Holding ByRun c) (list_contents (length w.things) vs) }

abbrev pub with_locations : {V : Type 0} → List Value → World V → World V
with_locations vs w = record w { locations = w.locations ++ vs }

-- Calls

-- the body of a procedure, its parameters bound to the operands, its rest parameter to a list of those
-- past them
abbrev pub enter : {V : Type 0} → (params : List V) → (rest : Option V) → (body : Tree V) → Scope V
    → List Value → List (Frame V) → World V → State V
enter xs None body ρ vs fs w = Evaluates body (scope_with xs (length w.locations) ρ) fs (with_locations vs w)
enter xs (Some x) body ρ vs fs w =
    let past = drop (length xs) vs in
    Evaluates body (scope_with (xs ++ x ∷ []) (length w.locations) ρ) fs
    (with_locations (take (length xs) vs ++ list_value (length w.things) past ∷ []) (with_list past w))

abbrev pub entered : {V : Type 0} → (taken : Bool) → Pos → World V → State V → State V
entered true pos w s = s
entered false pos w s = fails kind.Count pos w

-- a continuation takes one operand, and goes on as the run would have gone on from where it was made
abbrev pub resume : {V : Type 0} → List (Frame V) → List Value → Pos → World V → State V
resume fs (v ∷ []) pos w = Gives v fs w
resume fs vs pos w = fails kind.Count pos w

abbrev pub call_of : {V : Type 0} → Option (Thing (Proc V)) → List Value → Pos → List (Frame V) → World V → State V
call_of (Some (Procedure (Closure xs rest body ρ))) vs pos fs w =
    entered (takes (length xs) (is_some rest) (length vs)) pos w (enter xs rest body ρ vs fs w)
call_of (Some (Procedure (Continuation gs))) vs pos fs w = resume gs vs pos w
call_of thing vs pos fs w = fails kind.NotProcedure pos w

abbrev pub thing_at : {V : Type 0} → World V → Value → Option (Thing (Proc V))
thing_at w (Object n) = slice_get w.things n
thing_at w v = None

abbrev pub call : {V : Type 0} → Value → List Value → Pos → List (Frame V) → World V → State V
call f vs pos fs w = call_of (thing_at w f) vs pos fs w

-- Operations

abbrev pub with_outcome : {V : Type 0} → Outcome → World V → World V
with_outcome outcome w = record w { things = entries_after plain_store w.things outcome }

abbrev pub carry : {V : Type 0} → Outcome → Pos → List (Frame V) → World V → State V
carry (Answers v) pos fs w = Gives v fs w
carry (Makes c) pos fs w = Gives (next w) fs (with_outcome (Makes c) w)
carry (Changes n c) pos fs w = Gives Unspecified fs (with_outcome (Changes n c) w)
carry (Passes v channels) pos fs w = Gives v fs (record w { channels = channels })
carry (Applies f vs) pos fs w = call f vs pos fs w
carry (Captures f) pos fs w = call f (next w ∷ []) pos fs (with_proc (Continuation fs) w)
carry (Fails k) pos fs w = fails k pos w
carry (Breaks channels) pos fs w = Stopped IoStop (record w { channels = channels })

abbrev pub perform : {V : Type 0} → Env → Op → List Value → Pos → List (Frame V) → World V → State V
perform env o vs pos fs w = carry (operate env (sight plain_store w.things) w.channels o vs) pos fs w

-- operands that all have values
abbrev pub reach : {V : Type 0} → Env → Goal V → List Value → Scope V → Pos → List (Frame V) → World V → State V
reach env (Calls f) vs ρ pos fs w = call f vs pos fs w
reach env (Binds xs body) vs ρ pos fs w = enter xs None body ρ vs fs w
reach env (Does o) vs ρ pos fs w = perform env o vs pos fs w

abbrev pub operands : {V : Type 0} → Env → Goal V → (valued : List Value) → (left : Trees V) → Scope V → Pos
    → List (Frame V) → World V → State V
operands env goal vs none ρ pos fs w = reach env goal vs ρ pos fs w
operands env goal vs (item e es) ρ pos fs w = Evaluates e ρ (Operand goal vs es ρ pos ∷ fs) w

-- Expressions

-- the last item of a sequence is in its pos
abbrev pub sequence : {V : Type 0} → Trees V → Scope V → List (Frame V) → World V → State V
sequence none ρ fs w = Gives Unspecified fs w
sequence (item e none) ρ fs w = Evaluates e ρ fs w
sequence (item e (item f es)) ρ fs w = Evaluates e ρ (Rest (item f es) ρ ∷ fs) w

-- what a lambda expression is in this scope
abbrev pub closure : {V : Type 0} → Scope V → Tree V → Proc V
closure ρ (Lambda p xs rest body) = Closure xs rest body ρ
closure ρ e = Closure [] None e ρ

abbrev pub closures : {V : Type 0} → Scope V → Trees V → List (Thing (Proc V))
closures ρ none = []
closures ρ (item e es) = Procedure (closure ρ e) ∷ closures ρ es

-- the values of so many objects, from number n on
abbrev pub objects_from : ℕ → (many : ℕ) → List Value
objects_from n zero = []
objects_from n (suc many) = Object n ∷ objects_from (suc n) many

abbrev pub fix : {V : Type 0} → List V → Trees V → Tree V → Scope V → List (Frame V) → World V → State V
fix xs ls body ρ fs w =
    let inner = scope_with xs (length w.locations) ρ in
    Evaluates body inner fs
    (with_locations (objects_from (length w.things) (count ls)) (record w { things = w.things ++ closures inner ls }))

abbrev pub direct : {V : Type 0} → (exact : Bool) → List V → Tree V → Tree V → Trees V → Env → Scope V → Pos
    → List (Frame V) → World V → State V
direct true xs body f es env ρ pos fs w = operands env (Binds xs body) [] es ρ pos fs w
direct false xs body f es env ρ pos fs w = Evaluates f ρ (Operator es ρ pos ∷ fs) w

-- a call of an expression; a lambda expression without a rest parameter is called directly with its number
-- of operands
abbrev pub apply : {V : Type 0} → Tree V → Trees V → Env → Scope V → Pos → List (Frame V) → World V → State V
apply (Lambda p xs None body) es env ρ pos fs w =
    direct (nat_eq (length xs) (count es)) xs body (Lambda p xs None body) es env ρ pos fs w
apply f es env ρ pos fs w = Evaluates f ρ (Operator es ρ pos ∷ fs) w

abbrev pub evaluate : {V : Type 0} → Source V → Env → Tree V → Scope V → List (Frame V) → World V → State V
evaluate p env (Const pos lit) ρ fs w = Gives (literal p.lits lit) fs w
evaluate p env (Ref pos x) ρ fs w = refer p (lookup (p.same x) ρ) x pos fs w
evaluate p env (Lambda pos xs rest body) ρ fs w = Gives (next w) fs (with_proc (Closure xs rest body ρ) w)
evaluate p env (If pos t y n) ρ fs w = Evaluates t ρ (Choose y n ρ ∷ fs) w
evaluate p env (Set pos x e) ρ fs w = Evaluates e ρ (Assign x ρ pos ∷ fs) w
evaluate p env (Call pos f es) ρ fs w = apply f es env ρ pos fs w
evaluate p env (Prim pos o es) ρ fs w = operands env (Does o) [] es ρ pos fs w
evaluate p env (Seq pos es) ρ fs w = sequence es ρ fs w
evaluate p env (Fix pos xs ls body) ρ fs w = fix xs ls body ρ fs w
evaluate p env (Define pos x e) ρ fs w = Evaluates e ρ (Bind x ∷ fs) w

-- Values

abbrev pub next_form : {V : Type 0} → Trees V → List (Frame V) → World V → State V
next_form none fs w = Stopped End w
next_form (item e es) fs w = Evaluates e [] (Forms es ∷ fs) w

abbrev pub give : {V : Type 0} → Source V → Env → Value → List (Frame V) → World V → State V
give p env v [] w = Stopped End w
give p env v (Forms es ∷ fs) w = next_form es fs w
give p env v (Operator es ρ pos ∷ fs) w = operands env (Calls v) [] es ρ pos fs w
give p env v (Operand goal vs es ρ pos ∷ fs) w = operands env goal (vs ++ v ∷ []) es ρ pos fs w
give p env v (Choose y n ρ ∷ fs) w = Evaluates (chosen v y n) ρ fs w
give p env v (Assign x ρ pos ∷ fs) w = assign p (lookup (p.same x) ρ) x v pos fs w
give p env v (Bind x ∷ fs) w = Gives Unspecified fs (with_top x v w)
give p env v (Rest es ρ ∷ fs) w = sequence es ρ fs w

-- The machine

abbrev pub step : {V : Type 0} → Source V → Env → State V → State V
step p env (Evaluates e ρ fs w) = evaluate p env e ρ fs w
step p env (Gives v fs w) = give p env v fs w
step p env (Stopped stop w) = Stopped stop w

abbrev pub world_of : {V : Type 0} → State V → World V
world_of (Evaluates e ρ fs w) = w
world_of (Gives v fs w) = w
world_of (Stopped stop w) = w

abbrev pub trace_of : {V : Type 0} → State V → List Event
trace_of s = (world_of s).channels.calls.trace

abbrev pub ending_of : {V : Type 0} → State V → Option Ending
ending_of (Stopped stop w) = Some (told stop)
ending_of s = None

abbrev pub machine : {V : Type 0} → Source V → Env → Machine (State V)
machine p env = record { step = step p env; trace = trace_of; ending = ending_of }

-- a run begins before the first form, with the objects of the literals
abbrev pub start : {V : Type 0} → Source V → Env → State V
start p env =
    Gives Unspecified (Forms p.forms ∷ [])
    (record { locations = []; things = literal_objects p.lits; tops = []; channels = no_channels env })
