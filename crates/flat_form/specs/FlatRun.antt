-- The flat machine: what a flat program does, step by step, and what storage it can name.
--
-- It goes step for step as the named machine does. A frame has slots by number, and beside its closure the
-- values that this keeps. The one closure of each procedure comes first among the objects, then those of the
-- literals; a closure without a mark is the one of its procedure, and makes no object. A call in record mode
-- makes a record of its caller's frame. The machine tests always, and looks at no flag: an arm that is absent
-- is an empty block, and a part that is absent is never entered.
use Rattle.std.specs.Prelude.{ℕ, suc, ◌+◌, nat_eq, List, [], ◌∷◌, ◌++◌, length, map, take, drop, slice_get, slice_set, Option, Some, None, Bool, true, false}
use Rattle.std.specs.Map.{lookup}
use Rattle.scheme_base.specs.declared.env.Env.{Env}
use Rattle.scheme_base.specs.declared.pos.Pos.{Pos}
use Rattle.scheme_base.specs.declared.op.Op.{Op}
use Rattle.scheme_base.specs.declared.op.Op.TheVariants as op
use Rattle.scheme_base.specs.declared.error.ErrKind.{ErrKind}
use Rattle.scheme_base.specs.declared.error.ErrKind.TheVariants as kind
use Rattle.scheme_base.specs.declared.place.Mark.{Mark}
use Rattle.scheme_base.specs.declared.place.Mark.TheVariants as mark
use Rattle.scheme_base.specs.declared.place.Stated.{Stated}
use Rattle.scheme_base.specs.declared.place.Stated.TheVariants as stated
use Rattle.scheme_base.specs.Outside.{Event, Ending}
use Rattle.scheme_base.specs.Runs.{Machine}
use Rattle.scheme_base.specs.Values.{Value, False, True, Nil, Unspecified, Eof, Undefined, Object, Box, Thing, Holding, Procedure, ByRun, chosen, renumber, renumber_content}
use Rattle.scheme_base.specs.Literals.{literal, literal_objects}
use Rattle.scheme_base.specs.Operations.{Channels, no_channels, Outcome, Answers, Makes, Changes, Passes, Applies, Captures, Fails, Breaks, Store, operate, sight, plain_seen, plain_change, entries_after, list_value, list_contents, number_of, takes, item_or}
use Rattle.scheme_base.specs.Stops.{Stop, End, Error, IoStop, told}
use Rattle.flat_form.specs.declared.program.At.{At}
use Rattle.flat_form.specs.declared.program.At.TheVariants as at
use Rattle.flat_form.specs.declared.program.Made.{Made}
use Rattle.flat_form.specs.declared.program.Mode.{Mode}
use Rattle.flat_form.specs.declared.program.Mode.TheVariants as mode
use Rattle.flat_form.specs.declared.program.Place.{Place}
use Rattle.flat_form.specs.FlatCode.{Code, Ends, Then, Act, Const, Copy, Prim, Call, Apply, CallCC, If, Closure, Fix, MakeBox, MakeHole, Unbox, SetBox, TopGet, TopSet, TopDefine, Arm, Absent, Present, Known, Part, Program}
use Rattle.flat_form.specs.FlatCode as flat

-- values by number, the newest first
abbrev pub Held : Type 0
Held = List (ℕ × Value)

-- one run of a procedure's body
pub record Frame : Type 0 where
  pub number : ℕ
  pub proc : ℕ
  -- the object that it was entered by; none where nothing entered it
  pub closure : Option ℕ
  -- what that object keeps
  pub kept : List Value
  pub slots : Held

-- an arm that is not yet at its end: where its value goes, and the block after it
pub record Open : Type 0 where
  pub to : Place
  pub rest : Code

-- where a call returns to: where its value goes, what is left of the block and of the arms around it, the
-- frame, and whether the frame is in a record
pub record Point : Type 0 where
  pub to : Place
  pub rest : Code
  pub arms : List Open
  pub frame : Frame
  pub recorded : Bool

pub data Callee : Type 0 where
  -- a closure, with the values that it keeps
  Closes : (proc : ℕ) → (kept : List Value) → Callee
  Continues : List Point → Callee

-- who made an object: where, and in which activation. A literal has none, nor has the one closure of a
-- procedure.
pub record Maker : Type 0 where
  pub mark : Mark
  pub activation : ℕ

pub record Entry : Type 0 where
  pub thing : Thing Callee
  pub maker : Option Maker

pub record Boxed : Type 0 where
  pub value : Value
  pub maker : Maker

pub record World : Type 0 where
  pub entries : List Entry
  pub boxes : List Boxed
  -- every record ever made, the oldest first
  pub records : List Point
  -- how many activations were begun
  pub started : ℕ
  -- the top-level variables that are defined, and the other cells that are written
  pub tops : Held
  pub globals : Held
  pub channels : Channels

-- the running activation: the block that is left to do, the arms around it, and the continuation
pub record Now : Type 0 where
  pub block : Code
  pub arms : List Open
  pub frame : Frame
  pub points : List Point

-- A stopped state holds what the state before it held.
pub record State : Type 0 where
  pub stop : Option Stop
  pub now : Now
  pub world : World

-- Places

abbrev pub held_at : Held → ℕ → Value
held_at held n = item_or Unspecified (lookup (nat_eq n) held)

abbrev pub stated_value : Stated → Value
stated_value stated.False = False
stated_value stated.True = True
stated_value stated.Nil = Nil
stated_value stated.Unspecified = Unspecified
stated_value stated.Eof = Eof
stated_value (stated.Closure q) = Object q

abbrev pub value_at : Frame → World → At → Value
value_at f w (at.Slot n) = held_at f.slots n
value_at f w (at.Cell n) = held_at w.globals n
value_at f w (at.Kept j) = item_or Unspecified (slice_get f.kept j)
value_at f w (at.Stated s) = stated_value s

-- the value of a place
abbrev pub value_of : Frame → World → Place → Value
value_of f w p = value_at f w p.at

abbrev pub values_of : Frame → World → List Place → List Value
values_of f w ps = map (value_of f w) ps

-- what is put into a place that is no slot changes no slot
abbrev pub slot_put : At → Value → Held → Held
slot_put (at.Slot n) v held = (n, v) ∷ held
slot_put other v held = held

abbrev pub cell_put : At → Value → Held → Held
cell_put (at.Cell n) v held = (n, v) ∷ held
cell_put other v held = held

abbrev pub put_slots : List Place → List Value → Held → Held
put_slots [] vs held = held
put_slots (p ∷ ps) [] held = held
put_slots (p ∷ ps) (v ∷ vs) held = put_slots ps vs (slot_put p.at v held)

abbrev pub put_cells : List Place → List Value → Held → Held
put_cells [] vs held = held
put_cells (p ∷ ps) [] held = held
put_cells (p ∷ ps) (v ∷ vs) held = put_cells ps vs (cell_put p.at v held)

abbrev pub with_slots : Frame → List Place → List Value → Frame
with_slots f ps vs = record f { slots = put_slots ps vs f.slots }

abbrev pub with_cells : World → List Place → List Value → World
with_cells w ps vs = record w { globals = put_cells ps vs w.globals }

-- States

abbrev pub stopped : Stop → State → State
stopped stop s = record s { stop = Some stop }

abbrev pub fails : ErrKind → Pos → State → State
fails k pos s = stopped (Error k pos) s

-- the block goes on after a step, with these values put
abbrev pub goes_on : List Place → List Value → (rest : Code) → World → State → State
goes_on ps vs rest w s =
    record s {
      now = record s.now { block = rest; frame = with_slots s.now.frame ps vs };
      world = with_cells w ps vs;
    }

-- new objects

abbrev pub next : World → Value
next w = Object (length w.entries)

abbrev pub entry : Maker → Thing Callee → Entry
entry maker thing = record { thing = thing; maker = Some maker }

abbrev pub with_entry : Entry → World → World
with_entry e w = record w { entries = w.entries ++ e ∷ [] }

abbrev pub with_list : Maker → List Value → World → World
with_list maker vs w =
    record w {
      entries = w.entries ++ map (λ c. entry maker (Holding ByRun c)) (list_contents (length w.entries) vs);
    }

abbrev pub with_box : Maker → Value → World → World
with_box maker v w = record w { boxes = w.boxes ++ record { value = v; maker = maker } ∷ [] }

abbrev pub maker : Mark → State → Maker
maker m s = record { mark = m; activation = s.now.frame.number }

-- a store whose new objects are made by this maker
abbrev pub store : Maker → Store Entry
store maker =
    record {
      seen = λ e. plain_seen e.thing;
      enter = λ c. entry maker (Holding ByRun c);
      change = λ c e. record e { thing = plain_change c e.thing };
    }

-- Calls

-- a call on its way: the continuation that it is called with, the world with its record, and the state in
-- which it stops where it is refused
pub record Leaving : Type 0 where
  pub points : List Point
  pub world : World
  pub before : State
  pub pos : Pos

-- the step that runs: what is known of it, the places that it writes, and the block after it
pub record Current : Type 0 where
  pub known : Known
  pub to : List Place
  pub rest : Code

-- the one place of a list of one
abbrev pub only : List Place → Place
only [] = record { at = at.Stated stated.Unspecified; raw = false }
only (p ∷ ps) = p

abbrev pub point : Current → (recorded : Bool) → State → Point
point c recorded s =
    record { to = only c.to; rest = c.rest; arms = s.now.arms; frame = s.now.frame; recorded = recorded }

abbrev pub leave : Mode → Current → World → State → Leaving
leave mode.Stack c w s =
    record { points = point c false s ∷ s.now.points; world = w; before = s; pos = c.known.pos }
leave mode.Record c w s =
    record {
      points = point c true s ∷ s.now.points;
      world = record w { records = w.records ++ point c true s ∷ [] };
      before = s;
      pos = c.known.pos;
    }
leave other c w s = record { points = s.now.points; world = w; before = s; pos = c.known.pos }

-- a procedure takes from its least to its greatest count
abbrev pub takes_count : flat.Procedure → (operands : ℕ) → Bool
takes_count p n = by_greatest p.greatest
  where
    by_greatest : Option ℕ → Bool
    by_greatest None = takes p.least true n
    by_greatest (Some most) = takes p.least false n

abbrev pub begin : Part → Frame → List Point → World → State
begin part f points w =
    record {
      stop = None;
      now = record { block = part.body; arms = []; frame = f; points = points };
      world = record w { started = suc w.started };
    }

-- the operands are put into the places of the parameters, and a list of those past them into that of the rest
-- parameter, which the new activation makes
abbrev pub enter : Part → (rest : Option Place) → Frame → List Value → Leaving → State
enter part None f vs c =
    begin part (with_slots f part.params vs) c.points (with_cells c.world part.params vs)
enter part (Some r) f vs c =
    let first = take (length part.params) vs in
    let past = drop (length part.params) vs in
    let made = list_value (length c.world.entries) past ∷ [] in
    let w = with_list (record { mark = part.rest_mark; activation = c.world.started }) past c.world in
    begin part (with_slots (with_slots f part.params first) (r ∷ []) made) c.points
    (with_cells (with_cells w part.params first) (r ∷ []) made)

-- a procedure is entered in its first part
abbrev pub enter_part : Option Part → Frame → List Value → Leaving → State
enter_part None f vs c = c.before
enter_part (Some part) f vs c = enter part part.rest f vs c

abbrev pub entered : (taken : Bool) → Leaving → State → State
entered true c s = s
entered false c s = fails kind.Count c.pos c.before

abbrev pub new_frame : (proc closure : ℕ) → (kept : List Value) → World → Frame
new_frame q f kept w =
    record { number = w.started; proc = q; closure = Some f; kept = kept; slots = [] }

abbrev pub enter_closure : Option flat.Procedure → (proc closure : ℕ) → (kept : List Value) → List Value → Leaving → State
enter_closure None q f kept vs c = fails kind.NotProcedure c.pos c.before
enter_closure (Some p) q f kept vs c =
    entered (takes_count p (length vs)) c (enter_part (slice_get p.parts 0) (new_frame q f kept c.world) vs c)

-- a value returns to the newest return point; the program ends where there is none
abbrev pub return : List Point → Value → World → State → State
return [] v w s = stopped End s
return (p ∷ ps) v w s =
    record {
      stop = None;
      now =
          record { block = p.rest; arms = p.arms; frame = with_slots p.frame (p.to ∷ []) (v ∷ []); points = ps };
      world = with_cells w (p.to ∷ []) (v ∷ []);
    }

-- a continuation takes one operand, and goes on as the run would have gone on from where it was made
abbrev pub resume : List Point → List Value → Leaving → State
resume points (v ∷ []) c = return points v c.world c.before
resume points vs c = fails kind.Count c.pos c.before

abbrev pub call_thing : Program → Thing Callee → (callee : ℕ) → List Value → Leaving → State
call_thing p (Holding o d) f vs c = fails kind.NotProcedure c.pos c.before
call_thing p (Procedure (Closes q kept)) f vs c = enter_closure (slice_get p.procs q) q f kept vs c
call_thing p (Procedure (Continues points)) f vs c = resume points vs c

abbrev pub call_of : Program → Option Entry → (callee : ℕ) → List Value → Leaving → State
call_of p None f vs c = fails kind.NotProcedure c.pos c.before
call_of p (Some e) f vs c = call_thing p e.thing f vs c

abbrev pub entry_at : World → Value → Option Entry
entry_at w (Object n) = slice_get w.entries n
entry_at w v = None

abbrev pub call : Program → Value → List Value → Leaving → State
call p f vs c = call_of p (entry_at c.world f) (number_of f) vs c

-- a jump to a part of the running procedure keeps the frame's slots, and begins the next activation
abbrev pub jump_to : Option Part → List Value → State → State
jump_to None vs s = s
jump_to (Some part) vs s =
    let f = record s.now.frame { number = s.world.started } in
    begin part (with_slots f part.params vs) s.now.points (with_cells s.world part.params vs)

abbrev pub parts_of : Option flat.Procedure → List Part
parts_of None = []
parts_of (Some p) = p.parts

abbrev pub in_mode : Program → Mode → Value → List Value → Current → State → State
in_mode p (mode.Enter part) f vs c s =
    jump_to (slice_get (parts_of (slice_get p.procs s.now.frame.proc)) part) vs s
in_mode p m f vs c s = call p f vs (leave m c s.world s)

-- the call has this continuation as its one operand; continuations are made for good
abbrev pub capture : Program → (procedure : Value) → Maker → Leaving → State
capture p f m c =
    call p f (next c.world ∷ [])
    (record c { world = with_entry (entry m (Procedure (Continues c.points))) c.world })

-- Steps

abbrev pub with_outcome : Maker → Outcome → World → World
with_outcome m outcome w = record w { entries = entries_after (store m) w.entries outcome }

abbrev pub gives : Current → Value → World → State → State
gives c v w s = goes_on c.to (v ∷ []) c.rest w s

abbrev pub carry : Program → Maker → Mode → Outcome → Current → State → State
carry p m how (Answers v) c s = gives c v s.world s
carry p m how (Makes content) c s = gives c (next s.world) (with_outcome m (Makes content) s.world) s
carry p m how (Changes n content) c s = gives c Unspecified (with_outcome m (Changes n content) s.world) s
carry p m how (Passes v channels) c s = gives c v (record s.world { channels = channels }) s
carry p m how (Applies f vs) c s = in_mode p how f vs c s
carry p m how (Captures f) c s = capture p f m (leave how c s.world s)
carry p m how (Fails k) c s = fails k c.known.pos s
carry p m how (Breaks channels) c s = stopped IoStop (record s { world = record s.world { channels = channels } })

abbrev pub perform : Program → Env → Maker → Mode → Op → List Value → Current → State → State
perform p env m how o vs c s =
    carry p m how (operate env (sight (store m) s.world.entries) s.world.channels o vs) c s

abbrev pub arm_block : Arm → Code
arm_block Absent = Ends None
arm_block (Present block) = block

abbrev pub open_arm : Current → Code → State → State
open_arm c block s =
    record s { now = record s.now { block = block; arms = record { to = only c.to; rest = c.rest } ∷ s.now.arms } }

abbrev pub if_marked : {A : Type 0} → Option Mark → (static : A) → (made : Mark → A) → A
if_marked None static made = static
if_marked (Some k) static made = made k

-- closures, where the next object has number n: what they are, and which of them are new objects
abbrev pub closure_values : ℕ → List Made → List Value
closure_values n [] = []
closure_values n (m ∷ ms) =
    if_marked m.mark (Object m.proc ∷ closure_values n ms) (λ k. Object n ∷ closure_values (suc n) ms)

abbrev pub closure_entries : (activation : ℕ) → Frame → World → List Made → List Entry
closure_entries a f w [] = []
closure_entries a f w (m ∷ ms) =
    if_marked m.mark [] (λ k. entry (record { mark = k; activation = a }) (Procedure (Closes m.proc (values_of f w m.kept))) ∷ [])
    ++ closure_entries a f w ms

-- closures that see each other
abbrev pub fix : List Made → Current → State → State
fix ms c s =
    let vs = closure_values (length s.world.entries) ms in
    let f = with_slots s.now.frame c.to vs in
    let w = with_cells s.world c.to vs in
    goes_on c.to vs c.rest
    (record s.world { entries = s.world.entries ++ closure_entries s.now.frame.number f w ms }) s

-- a closure sees nothing of its own step
abbrev pub close : Made → Current → State → State
close m c s =
    goes_on c.to (closure_values (length s.world.entries) (m ∷ [])) c.rest
    (record s.world {
      entries = s.world.entries ++ closure_entries s.now.frame.number s.now.frame s.world (m ∷ []);
    })
    s

abbrev pub make_box : Mark → Value → Current → State → State
make_box m v c s = gives c (Box (length s.world.boxes)) (with_box (maker m s) v s.world) s

abbrev pub content : Option Boxed → Value
content None = Undefined
content (Some b) = b.value

abbrev pub box_at : World → Value → Option Boxed
box_at w (Box n) = slice_get w.boxes n
box_at w v = None

abbrev pub unbox : Value → Current → State → State
unbox Undefined c s = fails kind.Undefined c.known.pos s
unbox v c s = gives c v s.world s

abbrev pub with_content : Option Boxed → (number : ℕ) → Value → World → World
with_content None n v w = w
with_content (Some b) n v w = record w { boxes = slice_set w.boxes n (record b { value = v }) }

abbrev pub box_number : Value → ℕ
box_number (Box n) = n
box_number v = 0

abbrev pub with_top : (top : ℕ) → Value → World → World
with_top g v w = record w { tops = (g, v) ∷ w.tops }

abbrev pub top_get : Option Value → Current → State → State
top_get None c s = fails kind.Unbound c.known.pos s
top_get (Some v) c s = gives c v s.world s

abbrev pub top_set : Option Value → (top : ℕ) → Value → Current → State → State
top_set None g v c s = fails kind.Unbound c.known.pos s
top_set (Some old) g v c s = gives c Unspecified (with_top g v s.world) s

-- objects of literals come after the one closure of each procedure
abbrev pub behind : Program → ℕ → ℕ
behind p n = length p.procs + n

abbrev pub run_act : Program → Env → Act → Current → State → State
run_act p env (Const lit) c s = gives c (renumber (behind p) (literal p.lits lit)) s.world s
run_act p env (Copy y) c s = gives c (value_of s.now.frame s.world y) s.world s
run_act p env (Prim o ys m) c s =
    perform p env (maker (item_or mark.Global m) s) mode.Stack o (values_of s.now.frame s.world ys) c s
run_act p env (Call f ys how) c s =
    in_mode p how (value_of s.now.frame s.world f) (values_of s.now.frame s.world ys) c s
run_act p env (Apply f y how) c s =
    perform p env (maker mark.Global s) how op.Apply (values_of s.now.frame s.world (f ∷ y ∷ [])) c s
run_act p env (CallCC f how) c s =
    perform p env (maker mark.Global s) how op.CallCC (values_of s.now.frame s.world (f ∷ [])) c s
run_act p env (If t tail this that) c s =
    open_arm c (arm_block (chosen (value_of s.now.frame s.world t) this that)) s
run_act p env (Closure m) c s = close m c s
run_act p env (Fix ms) c s = fix ms c s
run_act p env (MakeBox y m) c s = make_box m (value_of s.now.frame s.world y) c s
run_act p env (MakeHole m) c s = make_box m Undefined c s
run_act p env (Unbox b checked) c s = unbox (content (box_at s.world (value_of s.now.frame s.world b))) c s
run_act p env (SetBox b y) c s =
    let box = value_of s.now.frame s.world b in
    gives c Unspecified
    (with_content (box_at s.world box) (box_number box) (value_of s.now.frame s.world y) s.world) s
run_act p env (TopGet g checked) c s = top_get (lookup (nat_eq g) s.world.tops) c s
run_act p env (TopSet g y checked) c s =
    top_set (lookup (nat_eq g) s.world.tops) g (value_of s.now.frame s.world y) c s
run_act p env (TopDefine g y) c s =
    gives c Unspecified (with_top g (value_of s.now.frame s.world y) s.world) s

abbrev pub option_value : Frame → World → Option Place → Value
option_value f w None = Unspecified
option_value f w (Some p) = value_of f w p

-- at the end of a block its value goes to the `If` that it is an arm of, or to the newest return point
abbrev pub finish : Value → List Open → State → State
finish v [] s = return s.now.points v s.world s
finish v (a ∷ arms) s =
    goes_on (a.to ∷ []) (v ∷ []) a.rest s.world (record s { now = record s.now { arms = arms } })

abbrev pub go : Program → Env → Code → State → State
go p env (Ends x) s = finish (option_value s.now.frame s.world x) s.now.arms s
go p env (Then k to act rest) s = run_act p env act (record { known = k; to = to; rest = rest }) s

-- The machine

abbrev pub step_from : Option Stop → Program → Env → State → State
step_from None p env s = go p env s.now.block s
step_from (Some stop) p env s = s

abbrev pub step : Program → Env → State → State
step p env s = step_from s.stop p env s

abbrev pub trace_of : State → List Event
trace_of s = s.world.channels.calls.trace

abbrev pub ending_from : Option Stop → Option Ending
ending_from None = None
ending_from (Some stop) = Some (told stop)

abbrev pub ending_of : State → Option Ending
ending_of s = ending_from s.stop

abbrev pub machine : Program → Env → Machine State
machine p env = record { step = step p env; trace = trace_of; ending = ending_of }

abbrev pub first_body : List Part → Code
first_body [] = Ends None
first_body (part ∷ ps) = part.body

-- the one closure of each procedure, numbered from q on
abbrev pub static_closures : (q : ℕ) → List flat.Procedure → List Entry
static_closures q [] = []
static_closures q (p ∷ ps) =
    record { thing = Procedure (Closes q []); maker = None } ∷ static_closures (suc q) ps

abbrev pub renumber_thing : (ℕ → ℕ) → Thing Callee → Thing Callee
renumber_thing φ (Holding o c) = Holding o (renumber_content φ c)
renumber_thing φ (Procedure f) = Procedure f

-- a run begins activation 0, of the program itself
abbrev pub start : Program → Env → State
start p env =
    record {
      stop = None;
      now =
          record {
            block = first_body (parts_of (slice_get p.procs 0));
            arms = [];
            frame = record { number = 0; proc = 0; closure = None; kept = []; slots = [] };
            points = [];
          };
      world =
          record {
            entries =
                static_closures 0 p.procs
                ++ map (λ thing. record { thing = renumber_thing (behind p) thing; maker = None }) (literal_objects p.lits);
            boxes = [];
            records = [];
            started = 1;
            tops = [];
            globals = [];
            channels = no_channels env;
          };
    }
