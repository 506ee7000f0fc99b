-- The named machine: what a program in named form does, step by step, and what storage it can name.
--
-- A call that enters a procedure begins an activation, which has the next number. A call that is no tail
-- call makes a return point; the continuation is a list of return points, the newest first, and a program's
-- own return points hold the rest of the program. Whatever a run makes is kept, with its site and the
-- activation that made it: objects, the boxes of assigned variables, return points.
--
-- A call is one step, with its return point, its rest list and the continuation that it takes; so is a
-- return, with the variable that it binds.
use Rattle.std.specs.Prelude.{ℕ, suc, nat_eq, List, [], ◌∷◌, ◌++◌, length, map, take, drop, slice_get, slice_set, Option, Some, None, is_some, Bool, true, false}
use Rattle.std.specs.Map.{lookup}
use Rattle.scheme_base.specs.declared.env.Env.{Env}
use Rattle.scheme_base.specs.declared.pos.Pos.{Pos}
use Rattle.scheme_base.specs.declared.op.Op.{Op}
use Rattle.scheme_base.specs.declared.op.Op.TheVariants as op
use Rattle.scheme_base.specs.declared.error.ErrKind.{ErrKind}
use Rattle.scheme_base.specs.declared.error.ErrKind.TheVariants as kind
use Rattle.scheme_base.specs.Outside.{Event, Ending}
use Rattle.scheme_base.specs.Runs.{Machine}
use Rattle.scheme_base.specs.Values.{Value, Unspecified, Undefined, Object, Box, Thing, Holding, Procedure, ByRun, chosen}
use Rattle.scheme_base.specs.Literals.{literal, literal_objects}
use Rattle.scheme_base.specs.Operations.{Channels, no_channels, Outcome, Answers, Makes, Changes, Passes, Applies, Captures, Fails, Breaks, Store, operate, sight, plain_seen, plain_change, entries_after, list_value, list_contents, number_of, takes, item_or}
use Rattle.scheme_base.specs.Stops.{Stop, End, Error, IoStop, told}
use Rattle.named_form.specs.Code.{Code, Ends, Then, Act, Const, Copy, Prim, Call, Apply, CallCC, If, Closure, Fix, MakeBox, MakeHole, Unbox, SetBox, TopGet, TopSet, TopDefine, Label, Program, Lambda, closure_site, single}

-- the values of variables, the newest first
abbrev pub Vars : Type 0
Vars = List (ℕ × Value)

-- one run of a procedure's body
pub record Activation : Type 0 where
  pub number : ℕ
  pub proc : ℕ
  -- the object that it was entered by; none where nothing entered it
  pub closure : Option ℕ
  -- the values of its variables and of its procedure's free variables
  pub vars : Vars

-- an arm that is not yet at its end: the variable of its `If`, and the block after it
pub record Open : Type 0 where
  pub var : ℕ
  pub rest : Code Label

-- where a call returns to: the variable that it binds, what is left of the block and of the arms around it,
-- and the activation
pub record Point : Type 0 where
  pub var : ℕ
  pub rest : Code Label
  pub arms : List Open
  pub activation : Activation

pub data Callee : Type 0 where
  -- a closure, with the values of its procedure's free variables
  Closes : (proc : ℕ) → (kept : Vars) → Callee
  Continues : List Point → Callee

-- who made an object: its site and the activation. A literal has none.
pub record Maker : Type 0 where
  pub site : ℕ
  pub activation : ℕ

pub record Entry : Type 0 where
  pub thing : Thing Callee
  pub maker : Option Maker

pub record Boxed : Type 0 where
  pub value : Value
  pub maker : Maker

pub record World : Type 0 where
  pub entries : List Entry
  pub boxes : List Boxed
  -- every return point ever made, the oldest first
  pub points : List Point
  -- how many activations were begun
  pub started : ℕ
  -- the top-level variables that are defined, with their values; the newest entry of a variable counts
  pub tops : Vars
  pub channels : Channels

-- the running activation: the block that is left to do, the arms around it, and the continuation
pub record Now : Type 0 where
  pub block : Code Label
  pub arms : List Open
  pub activation : Activation
  pub points : List Point

-- A stopped state holds what the state before it held.
pub record State : Type 0 where
  pub stop : Option Stop
  pub now : Now
  pub world : World

-- Variables

abbrev pub value_of : Vars → ℕ → Value
value_of vars x = item_or Unspecified (lookup (nat_eq x) vars)

abbrev pub values_of : Vars → List ℕ → List Value
values_of vars [] = []
values_of vars (x ∷ xs) = value_of vars x ∷ values_of vars xs

-- variables with these values
abbrev pub bind_all : List ℕ → List Value → Vars → Vars
bind_all [] vs vars = vars
bind_all (x ∷ xs) [] vars = vars
bind_all (x ∷ xs) (v ∷ vs) vars = bind_all xs vs ((x, v) ∷ vars)

-- what a closure keeps of the variables that are seen where it is made
abbrev pub keep : List ℕ → Vars → Vars
keep [] vars = []
keep (x ∷ xs) vars = (x, value_of vars x) ∷ keep xs vars

abbrev pub with_vars : Activation → Vars → Activation
with_vars a vars = record a { vars = vars }

-- States

abbrev pub stopped : Stop → State → State
stopped stop s = record s { stop = Some stop }

abbrev pub fails : ErrKind → Pos → State → State
fails k place s = stopped (Error k place) s

-- the block goes on after a step, with these variables bound
abbrev pub goes_on : List ℕ → List Value → (rest : Code Label) → World → State → State
goes_on xs vs rest w s =
    let a = s.now.activation in
    record s { now = record s.now { block = rest; activation = with_vars a (bind_all xs vs a.vars) }; world = w }

abbrev pub gives : (var : ℕ) → Value → (rest : Code Label) → World → State → State
gives x v rest w s = goes_on (x ∷ []) (v ∷ []) rest w s

-- new objects

abbrev pub next : World → Value
next w = Object (length w.entries)

abbrev pub entry : Maker → Thing Callee → Entry
entry maker thing = record { thing = thing; maker = Some maker }

abbrev pub with_entry : Entry → World → World
with_entry e w = record w { entries = w.entries ++ e ∷ [] }

abbrev pub with_list : Maker → List Value → World → World
with_list maker vs w =
    record w {
      entries = w.entries ++ map (λ c. entry maker (Holding ByRun c)) (list_contents (length w.entries) vs);
    }

abbrev pub with_box : Maker → Value → World → World
with_box maker v w = record w { boxes = w.boxes ++ record { value = v; maker = maker } ∷ [] }

-- a store whose new objects are made by this maker
abbrev pub store : Maker → Store Entry
store maker =
    record {
      seen = λ e. plain_seen e.thing;
      enter = λ c. entry maker (Holding ByRun c);
      change = λ c e. record e { thing = plain_change c e.thing };
    }

-- Calls

-- a call on its way: the continuation that it is called with, the world with its return point, and the
-- state in which it stops where it is refused
pub record Leaving : Type 0 where
  pub points : List Point
  pub world : World
  pub before : State
  pub place : Pos

abbrev pub leave : (tail : Bool) → Point → Pos → World → State → Leaving
leave true p place w s = record { points = s.now.points; world = w; before = s; place = place }
leave false p place w s =
    record {
      points = p ∷ s.now.points;
      world = record w { points = w.points ++ p ∷ [] };
      before = s;
      place = place;
    }

-- an activation begins in the body of a procedure
abbrev pub begin : Lambda → (proc : ℕ) → (closure : ℕ) → Vars → List Point → World → State
begin p q f vars points w =
    record {
      stop = None;
      now =
          record {
            block = p.body;
            arms = [];
            activation = record { number = w.started; proc = q; closure = Some f; vars = vars };
            points = points;
          };
      world = record w { started = suc w.started };
    }

-- the parameters are bound to the operands, the rest parameter to a list of those past them, which the new
-- activation makes
abbrev pub enter : Lambda → (rest : Option ℕ) → (proc closure : ℕ) → (kept : Vars) → List Value → Leaving → State
enter p None q f kept vs c = begin p q f (bind_all p.params vs kept) c.points c.world
enter p (Some x) q f kept vs c =
    let past = drop (length p.params) vs in
    let w = c.world in
    begin p q f
    ((x, list_value (length w.entries) past) ∷ bind_all p.params (take (length p.params) vs) kept)
    c.points
    (with_list (record { site = p.list_site; activation = w.started }) past w)

abbrev pub entered : (taken : Bool) → Leaving → State → State
entered true c s = s
entered false c s = fails kind.Count c.place c.before

abbrev pub enter_closure : Option Lambda → (proc closure : ℕ) → (kept : Vars) → List Value → Leaving → State
enter_closure None q f kept vs c = fails kind.NotProcedure c.place c.before
enter_closure (Some p) q f kept vs c =
    entered (takes (length p.params) (is_some p.rest) (length vs)) c (enter p p.rest q f kept vs c)

-- a value returns to the newest return point; the program ends where there is none
abbrev pub return : List Point → Value → World → State → State
return [] v w s = stopped End s
return (p ∷ ps) v w s =
    record {
      stop = None;
      now =
          record {
            block = p.rest;
            arms = p.arms;
            activation = with_vars p.activation (bind_all (p.var ∷ []) (v ∷ []) p.activation.vars);
            points = ps;
          };
      world = w;
    }

-- a continuation takes one operand, and goes on as the run would have gone on from where it was made
abbrev pub resume : List Point → List Value → Leaving → State
resume points (v ∷ []) c = return points v c.world c.before
resume points vs c = fails kind.Count c.place c.before

abbrev pub call_thing : Program → Thing Callee → (callee : ℕ) → List Value → Leaving → State
call_thing p (Holding o d) f vs c = fails kind.NotProcedure c.place c.before
call_thing p (Procedure (Closes q kept)) f vs c = enter_closure (slice_get p.procs q) q f kept vs c
call_thing p (Procedure (Continues points)) f vs c = resume points vs c

abbrev pub call_of : Program → Option Entry → (callee : ℕ) → List Value → Leaving → State
call_of p None f vs c = fails kind.NotProcedure c.place c.before
call_of p (Some e) f vs c = call_thing p e.thing f vs c

abbrev pub entry_at : World → Value → Option Entry
entry_at w (Object n) = slice_get w.entries n
entry_at w v = None

abbrev pub call : Program → Value → List Value → Leaving → State
call p f vs c = call_of p (entry_at c.world f) (number_of f) vs c

-- Steps

-- the step that runs: its label, the variable that it binds, and the block after it
pub record Current : Type 0 where
  pub label : Label
  pub var : ℕ
  pub rest : Code Label

abbrev pub maker : Label → State → Maker
maker l s = record { site = l.site; activation = s.now.activation.number }

abbrev pub leaves : Current → State → Leaving
leaves at s =
    leave at.label.tail
    (record { var = at.var; rest = at.rest; arms = s.now.arms; activation = s.now.activation })
    at.label.place s.world s

-- the call has this continuation as its one operand
abbrev pub capture : Program → (procedure : Value) → Maker → Leaving → State
capture p f m c =
    call p f (next c.world ∷ [])
    (record c { world = with_entry (entry m (Procedure (Continues c.points))) c.world })

abbrev pub with_outcome : Maker → Outcome → World → World
with_outcome m outcome w = record w { entries = entries_after (store m) w.entries outcome }

abbrev pub carry : Program → Outcome → Current → State → State
carry p (Answers v) at s = gives at.var v at.rest s.world s
carry p (Makes c) at s = gives at.var (next s.world) at.rest (with_outcome (maker at.label s) (Makes c) s.world) s
carry p (Changes n c) at s = gives at.var Unspecified at.rest (with_outcome (maker at.label s) (Changes n c) s.world) s
carry p (Passes v channels) at s = gives at.var v at.rest (record s.world { channels = channels }) s
carry p (Applies f vs) at s = call p f vs (leaves at s)
carry p (Captures f) at s = capture p f (maker at.label s) (leaves at s)
carry p (Fails k) at s = fails k at.label.place s
carry p (Breaks channels) at s = stopped IoStop (record s { world = record s.world { channels = channels } })

abbrev pub perform : Program → Env → Op → List Value → Current → State → State
perform p env o vs at s =
    carry p (operate env (sight (store (maker at.label s)) s.world.entries) s.world.channels o vs) at s

abbrev pub open_arm : Current → Code Label → State → State
open_arm at block s =
    record s { now = record s.now { block = block; arms = record { var = at.var; rest = at.rest } ∷ s.now.arms } }

abbrev pub free_of : Option Lambda → List ℕ
free_of None = []
free_of (Some p) = p.free

-- a closure of a procedure, in the activation that runs, where these variables are seen
abbrev pub closure : Program → (proc activation : ℕ) → Vars → Entry
closure p q a vars =
    entry (record { site = closure_site q; activation = a })
    (Procedure (Closes q (keep (free_of (slice_get p.procs q)) vars)))

abbrev pub closures : Program → (procs : List ℕ) → (activation : ℕ) → Vars → List Entry
closures p [] a vars = []
closures p (q ∷ qs) a vars = closure p q a vars ∷ closures p qs a vars

-- the values of as many objects, from number n on
abbrev pub objects_from : ℕ → (procs : List ℕ) → List Value
objects_from n [] = []
objects_from n (q ∷ qs) = Object n ∷ objects_from (suc n) qs

-- closures that see each other
abbrev pub fix : Program → (vars procs : List ℕ) → (rest : Code Label) → State → State
fix p xs qs rest s =
    let w = s.world in
    let a = s.now.activation in
    let vs = objects_from (length w.entries) qs in
    goes_on xs vs rest
    (record w { entries = w.entries ++ closures p qs a.number (bind_all xs vs a.vars) })
    s

abbrev pub make_box : Value → Current → State → State
make_box v at s =
    gives at.var (Box (length s.world.boxes)) at.rest (with_box (maker at.label s) v s.world) s

abbrev pub content : Option Boxed → Value
content None = Undefined
content (Some b) = b.value

abbrev pub box_at : World → Value → Option Boxed
box_at w (Box n) = slice_get w.boxes n
box_at w v = None

abbrev pub unbox : Value → Current → State → State
unbox Undefined at s = fails kind.Undefined at.label.place s
unbox v at s = gives at.var v at.rest s.world s

abbrev pub with_content : Option Boxed → (number : ℕ) → Value → World → World
with_content None n v w = w
with_content (Some b) n v w = record w { boxes = slice_set w.boxes n (record b { value = v }) }

abbrev pub box_number : Value → ℕ
box_number (Box n) = n
box_number v = 0

abbrev pub with_top : (top : ℕ) → Value → World → World
with_top g v w = record w { tops = (g, v) ∷ w.tops }

abbrev pub top_get : Option Value → Current → State → State
top_get None at s = fails kind.Unbound at.label.place s
top_get (Some v) at s = gives at.var v at.rest s.world s

abbrev pub top_set : Option Value → (top : ℕ) → Value → Current → State → State
top_set None g v at s = fails kind.Unbound at.label.place s
top_set (Some old) g v at s = gives at.var Unspecified at.rest (with_top g v s.world) s

abbrev pub run_act : Program → Env → Act Label → (vars : List ℕ) → Current → State → State
run_act p env (Const lit) xs at s = gives at.var (literal p.lits lit) at.rest s.world s
run_act p env (Copy y) xs at s = gives at.var (value_of s.now.activation.vars y) at.rest s.world s
run_act p env (Prim o ys) xs at s = perform p env o (values_of s.now.activation.vars ys) at s
run_act p env (Call f ys) xs at s =
    call p (value_of s.now.activation.vars f) (values_of s.now.activation.vars ys) (leaves at s)
run_act p env (Apply f y) xs at s = perform p env op.Apply (values_of s.now.activation.vars (f ∷ y ∷ [])) at s
run_act p env (CallCC f) xs at s = perform p env op.CallCC (values_of s.now.activation.vars (f ∷ [])) at s
run_act p env (If t this that) xs at s = open_arm at (chosen (value_of s.now.activation.vars t) this that) s
run_act p env (Closure q) xs at s =
    gives at.var (next s.world) at.rest
    (with_entry (closure p q s.now.activation.number s.now.activation.vars) s.world) s
run_act p env (Fix qs) xs at s = fix p xs qs at.rest s
run_act p env (MakeBox y) xs at s = make_box (value_of s.now.activation.vars y) at s
run_act p env MakeHole xs at s = make_box Undefined at s
run_act p env (Unbox b checked) xs at s = unbox (content (box_at s.world (value_of s.now.activation.vars b))) at s
run_act p env (SetBox b y) xs at s =
    let box = value_of s.now.activation.vars b in
    gives at.var Unspecified at.rest
    (with_content (box_at s.world box) (box_number box) (value_of s.now.activation.vars y) s.world) s
run_act p env (TopGet g checked) xs at s = top_get (lookup (nat_eq g) s.world.tops) at s
run_act p env (TopSet g y checked) xs at s =
    top_set (lookup (nat_eq g) s.world.tops) g (value_of s.now.activation.vars y) at s
run_act p env (TopDefine g y) xs at s =
    gives at.var Unspecified at.rest (with_top g (value_of s.now.activation.vars y) s.world) s

abbrev pub option_value : Vars → Option ℕ → Value
option_value vars None = Unspecified
option_value vars (Some x) = value_of vars x

-- at the end of a block its value goes to the `If` that it is an arm of, or to the newest return point
abbrev pub finish : Value → List Open → State → State
finish v [] s = return s.now.points v s.world s
finish v (a ∷ arms) s = gives a.var v a.rest s.world (record s { now = record s.now { arms = arms } })

abbrev pub go : Program → Env → Code Label → State → State
go p env (Ends x) s = finish (option_value s.now.activation.vars x) s.now.arms s
go p env (Then l xs act rest) s = run_act p env act xs (record { label = l; var = single xs; rest = rest }) s

-- The machine

abbrev pub step_from : Option Stop → Program → Env → State → State
step_from None p env s = go p env s.now.block s
step_from (Some stop) p env s = s

abbrev pub step : Program → Env → State → State
step p env s = step_from s.stop p env s

abbrev pub trace_of : State → List Event
trace_of s = s.world.channels.calls.trace

abbrev pub ending_from : Option Stop → Option Ending
ending_from None = None
ending_from (Some stop) = Some (told stop)

abbrev pub ending_of : State → Option Ending
ending_of s = ending_from s.stop

abbrev pub machine : Program → Env → Machine State
machine p env = record { step = step p env; trace = trace_of; ending = ending_of }

abbrev pub body_of : Option Lambda → Code Label
body_of None = Ends None
body_of (Some p) = p.body

-- a run begins activation 0, of the program itself, with the objects of the literals
abbrev pub start : Program → Env → State
start p env =
    record {
      stop = None;
      now =
          record {
            block = body_of (slice_get p.procs 0);
            arms = [];
            activation = record { number = 0; proc = 0; closure = None; vars = [] };
            points = [];
          };
      world =
          record {
            entries = map (λ thing. record { thing = thing; maker = None }) (literal_objects p.lits);
            boxes = [];
            points = [];
            started = 1;
            tops = [];
            channels = no_channels env;
          };
    }
