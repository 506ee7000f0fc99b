-- Valid plans: what must hold in each state of each run, part by part.
use Rattle.std.specs.Prelude.{ℕ, zero, suc, nat_eq, nat_lt, ◌≡◌, ◌↔◌, ◌&&◌, ◌||◌, List, [], ◌∷◌, ◌++◌, length, map, drop, slice_get, Option, Some, None, is_some, Bool, true, false, not, if◌then◌else◌, IsTrue}
use Rattle.std.specs.List.{list_any, list_all, filter, flat_map}
use Rattle.scheme_base.specs.declared.env.Env.{Env}
use Rattle.scheme_base.specs.declared.op.Op.TheVariants as op
use Rattle.scheme_base.specs.declared.place.Mark.{Mark}
use Rattle.scheme_base.specs.declared.place.Mark.TheVariants as mark
use Rattle.scheme_base.specs.declared.place.Stated.{Stated}
use Rattle.scheme_base.specs.declared.place.Stated.TheVariants as stated
use Rattle.scheme_base.specs.Operands.{operands_of}
use Rattle.scheme_base.specs.Operations.{Sight, all_fit, is_integer, item_or, same, sight, link_at, items_at, Link, Ended, Further, Broken, takes}
use Rattle.scheme_base.specs.Laws.{values_in}
use Rattle.scheme_base.specs.Runs.{after}
use Rattle.scheme_base.specs.Stops.{Stop, Error}
use Rattle.scheme_base.specs.Values.{Value, Object, Box, Content, Thing, Holding, Procedure, chosen, truth}
use Rattle.scheme_base.specs.Values as value
use Rattle.named_form.specs.declared.plan.Plan.{Plan}
use Rattle.named_form.specs.declared.plan.Fiction.{Fiction}
use Rattle.named_form.specs.declared.plan.Repr.{Repr}
use Rattle.named_form.specs.declared.plan.Repr.TheVariants as repr
use Rattle.named_form.specs.declared.plan.StepUse.{StepUse}
use Rattle.named_form.specs.Code.{Code, Ends, Then, Act, Prim, Call, Apply, CallCC, If, Label, Program, Lambda, Written, bound_in, totals, has, needs, option_list, single, operator_of, is_call, is_callcc}
use Rattle.named_form.specs.NamedRun.{Vars, Activation, Callee, Closes, Continues, Maker, Entry, Boxed, State, value_of, values_of, entry_at, store, machine, start, step}
use Rattle.named_form.specs.Storage.{captures, records, is_fictitious, is_global, keeps, is_compared, is_static, mark_of, bound, frame_vars, live, is_held}

-- A state and the plan that is looked at

pub record At : Type 0 where
  pub plan : Plan
  pub program : Program
  pub state : State
  pub next : State

abbrev pub at : Plan → Program → Env → State → At
at plan p env s = record { plan = plan; program = p; state = s; next = step p env s }

abbrev pub running_proc : At → ℕ
running_proc a = a.state.now.activation.proc

abbrev pub vars : At → Vars
vars a = a.state.now.activation.vars

-- what is asked of the step that is next, in a state that goes on
abbrev pub OfNext : Type 0
OfNext = Label → (var : ℕ) → Act Label → Bool

abbrev pub of_block : OfNext → (ends : Option ℕ → Bool) → Code Label → Bool
of_block test ends (Ends x) = ends x
of_block test ends (Then l xs act rest) = test l (single xs) act

abbrev pub of_running : Bool → Bool → Bool
of_running true b = true
of_running false b = b

-- a test of the step that is next, or of the value of the block that ends next
abbrev pub on_next : OfNext → (ends : Option ℕ → Bool) → At → Bool
on_next test ends a = of_running (is_some a.state.stop) (of_block test ends a.state.now.block)

-- (a) Nothing runs that the plan calls unreached.

abbrev pub use_of : Plan → (step : ℕ) → StepUse
use_of plan n = item_or (record { reached = false; checked = false }) (slice_get plan.reprs.steps n)

abbrev pub block_reached : Plan → (block : ℕ) → Bool
block_reached plan b = item_or false (slice_get plan.reprs.blocks b)

abbrev pub arm_reached : At → Label → Act Label → Bool
arm_reached a l (If t this that) = block_reached a.plan (chosen (value_of (vars a) t) l.arm (suc l.arm))
arm_reached a l act = true

abbrev pub body_reached : Plan → Option Lambda → Bool
body_reached plan None = true
body_reached plan (Some p) = block_reached plan p.block

-- whether the step enters a procedure, with a new activation
abbrev pub enters : At → Bool
enters a = nat_lt a.state.world.started a.next.world.started

-- the step and the block that it begins, an arm or a body, are reached
abbrev pub reached : At → Bool
reached a =
    on_next (λ l x act. (use_of a.plan l.step).reached && arm_reached a l act) (λ x. true) a
    && (not (enters a) || body_reached a.plan (slice_get a.program.procs a.next.now.activation.proc))

-- (b) What is read is found.

abbrev pub fiction_of : List Fiction → (var : ℕ) → Option Stated
fiction_of [] x = None
fiction_of (f ∷ fs) x = if nat_eq x f.var then Some f.value else fiction_of fs x

abbrev pub closure_of : Option Entry → Option ℕ
closure_of None = None
closure_of (Some e) = by_thing e.thing
  where
    by_thing : Thing Callee → Option ℕ
    by_thing (Procedure (Closes q kept)) = Some q
    by_thing (Procedure (Continues points)) = None
    by_thing (Holding o c) = None

abbrev pub is_closure : (proc : ℕ) → Option ℕ → Bool
is_closure q None = false
is_closure q (Some r) = nat_eq q r

-- a value is the stated one; a closure is stated only of a procedure that has one closure
abbrev pub is_stated : At → Stated → Value → Bool
is_stated a stated.False v = same v value.False
is_stated a stated.True v = same v value.True
is_stated a stated.Nil v = same v value.Nil
is_stated a stated.Unspecified v = same v value.Unspecified
is_stated a stated.Eof v = same v value.Eof
is_stated a (stated.Closure q) v =
    is_static a.plan q && is_closure q (closure_of (entry_at a.state.world v))

abbrev pub agrees : At → Option Stated → Value → Bool
agrees a None v = true
agrees a (Some s) v = is_stated a s v

-- each variable that needs no slot has its stated value
abbrev pub fictions : At → Bool
fictions a = list_all (λ b. agrees a (fiction_of a.plan.slots.fictitious b.0) b.1) (vars a)

-- a procedure finds a variable in its frame, in a cell for good, as a stated value, or in its closure
abbrev pub has_home : At → (var : ℕ) → Bool
has_home a x =
    has (frame_vars a.plan a.program (running_proc a)) x || is_fictitious a.plan x || is_global a.plan x
    || has (keeps a.plan (running_proc a)) x

-- the variables that a step reads, and those that the closures keep that it makes, have homes
abbrev pub homes : At → Bool
homes a =
    on_next
    (λ l x act. list_all (has_home a) (needs (keeps a.plan) act))
    (λ x. list_all (has_home a) (option_list x)) a

-- procedures numbered from q on keep only variables that are free in them
abbrev pub kept_free_from : Plan → (number : ℕ) → List Lambda → Bool
kept_free_from plan q [] = true
kept_free_from plan q (p ∷ ps) = list_all (has p.free) (keeps plan q) && kept_free_from plan (suc q) ps

abbrev pub kept_free : Plan → Program → Bool
kept_free plan p = kept_free_from plan 0 p.procs

-- variables with a cell for good are the program's own, and there are none where a procedure captures
abbrev pub globals_own : Plan → Program → Bool
globals_own plan p =
    list_all (has (bound (slice_get p.procs 0))) plan.slots.global
    && (nat_eq (length plan.slots.global) 0 || nat_eq (length plan.capturing.procs) 0)

-- (c) Nothing that is in storage points to a local object of an activation that has ended.

-- static objects are held for good
abbrev pub held_by : At → Option Maker → Bool
held_by a None = true
held_by a (Some m) = is_held a.plan (live a.state) m

abbrev pub entry_held : At → Option Entry → Bool
entry_held a None = true
entry_held a (Some e) = held_by a e.maker

abbrev pub box_held : At → Option Boxed → Bool
box_held a None = true
box_held a (Some b) = held_by a (Some b.maker)

-- what a value names is still in storage
abbrev pub sound : At → Value → Bool
sound a (Object n) = entry_held a (slice_get a.state.world.entries n)
sound a (Box n) = box_held a (slice_get a.state.world.boxes n)
sound a v = true

abbrev pub sound_vars : At → Vars → Bool
sound_vars a xs = list_all (λ b. sound a b.1) xs

abbrev pub closure_value : Option ℕ → List Value
closure_value None = []
closure_value (Some n) = Object n ∷ []

abbrev pub sound_activation : At → Activation → Bool
sound_activation a r = sound_vars a r.vars && list_all (sound a) (closure_value r.closure)

abbrev pub sound_thing : At → Thing Callee → Bool
sound_thing a (Holding o c) = list_all (sound a) (values_in c)
sound_thing a (Procedure (Closes q kept)) = sound_vars a kept
sound_thing a (Procedure (Continues points)) = true

-- the top-level variables with the values that they have now
abbrev pub latest : Vars → Vars
latest [] = []
latest (b ∷ tops) = b ∷ filter (λ c. not (nat_eq b.0 c.0)) (latest tops)

-- all that is in storage: variables and closures of the running activation and of return points, records,
-- top-level variables, objects and boxes
abbrev pub pointers : At → Bool
pointers a =
    sound_activation a a.state.now.activation
    && list_all (λ p. sound_activation a p.activation) a.state.now.points
    && list_all (λ p. not (records a.plan p.var) || sound_activation a p.activation) a.state.world.points
    && sound_vars a (latest a.state.world.tops)
    && list_all (λ e. not (held_by a e.maker) || sound_thing a e.thing) a.state.world.entries
    && list_all (λ b. not (held_by a (Some b.maker)) || sound a b.value) a.state.world.boxes

abbrev pub pairs_from : Link → Value → (rest : Value → List Value) → List Value
pairs_from Ended v rest = []
pairs_from (Further car cdr) v rest = v ∷ rest cdr
pairs_from Broken v rest = []

-- the pairs of a list, of so many at most
abbrev pub pairs_of : (most : ℕ) → Sight → Value → List Value
pairs_of zero s v = []
pairs_of (suc n) s v = pairs_from (link_at s v) v (pairs_of n s)

abbrev pub made_here : At → Option Maker → Bool
made_here a None = false
made_here a (Some m) = local (mark_of a.plan m.site) && nat_eq m.activation a.state.now.activation.number
  where
    local : Mark → Bool
    local mark.Local = true
    local mark.Global = false

abbrev pub local_here : At → Value → Bool
local_here a v = by_entry (entry_at a.state.world v)
  where
    by_entry : Option Entry → Bool
    by_entry None = false
    by_entry (Some e) = made_here a e.maker

-- what an operation would see of the objects
abbrev pub seen_by : At → Sight
seen_by a = sight (store (record { site = 0; activation = 0 })) a.state.world.entries

abbrev pub list_survives : At → Act Label → Bool
list_survives a (Apply f y) =
    not (list_any (local_here a) (pairs_of (length a.state.world.entries) (seen_by a) (value_of (vars a) y)))
list_survives a act = true

-- a tail call by `%apply` is given no list of which a pair is a local object of the caller
abbrev pub lists : At → Bool
lists a = on_next (λ l x act. not l.tail || list_survives a act) (λ x. true) a

-- (d) No check that is dropped would refuse.

abbrev pub callee_takes : At → Option Entry → (operands : ℕ) → Bool
callee_takes a None n = false
callee_takes a (Some e) n = by_thing e.thing
  where
    by_proc : Option Lambda → Bool
    by_proc None = false
    by_proc (Some p) = takes (length p.params) (is_some p.rest) n

    by_thing : Thing Callee → Bool
    by_thing (Procedure (Closes q kept)) = by_proc (slice_get a.program.procs q)
    by_thing (Procedure (Continues points)) = nat_eq n 1
    by_thing (Holding o c) = false

-- whether a value is a procedure that takes these operands; there are none where the list is not proper
abbrev pub takes_list : At → Value → Option (List Value) → Bool
takes_list a v None = false
takes_list a v (Some vs) = callee_takes a (entry_at a.state.world v) (length vs)

abbrev pub passes : At → Act Label → Bool
passes a (Prim o ys) = all_fit (seen_by a) (operands_of o) (values_of (vars a) ys)
passes a (Call f ys) = callee_takes a (entry_at a.state.world (value_of (vars a) f)) (length ys)
passes a (Apply f y) = takes_list a (value_of (vars a) f) (items_at (seen_by a) (value_of (vars a) y))
passes a (CallCC f) = callee_takes a (entry_at a.state.world (value_of (vars a) f)) 1
passes a act = true

abbrev pub checks : At → Bool
checks a = on_next (λ l x act. (use_of a.plan l.step).checked || passes a act) (λ x. true) a

-- (e) Representations fit.

abbrev pub repr_of : Plan → (var : ℕ) → Repr
repr_of plan x = item_or repr.Tagged (slice_get plan.reprs.vars x)

abbrev pub fits_repr : Repr → Value → Bool
fits_repr repr.Raw v = is_integer v
fits_repr repr.Nothing v = true
fits_repr repr.Tagged v = true

-- a variable that is held as a bare integer has an integer
abbrev pub bare : At → Bool
bare a = list_all (λ b. fits_repr (repr_of a.plan b.0) b.1) (vars a)

-- (f) Capturing procedures

-- whether a call of this value is one of a continuation or of a capturing procedure
abbrev pub reaches_capture : At → Value → Bool
reaches_capture a v = by_entry (entry_at a.state.world v)
  where
    by_thing : Thing Callee → Bool
    by_thing (Procedure (Closes q kept)) = captures a.plan q
    by_thing (Procedure (Continues points)) = true
    by_thing (Holding o c) = false

    by_entry : Option Entry → Bool
    by_entry None = false
    by_entry (Some e) = by_thing e.thing

-- whether a call is in record mode: a tail call never is
abbrev pub in_record_mode : At → Label → (var : ℕ) → Bool
in_record_mode a l x = not l.tail && records a.plan x

abbrev pub calls_capture : At → Option ℕ → Bool
calls_capture a None = false
calls_capture a (Some f) = reaches_capture a (value_of (vars a) f)

abbrev pub is_error : Option Stop → Bool
is_error (Some (Error k place)) = true
is_error s = false

-- whether the step that is next stops with an error; a call is refused so, and then calls and enters nothing
abbrev pub refused : At → Bool
refused a = is_error a.next.stop

-- a procedure that is not capturing runs no `%call/cc` and no call in record mode, refused or not, and calls no
-- continuation and no capturing procedure
abbrev pub quiet_calls : At → Bool
quiet_calls a =
    captures a.plan (running_proc a)
    || on_next
    (λ l x act.
    not (is_callcc act || is_call act && in_record_mode a l x || not (refused a) && calls_capture a (operator_of act)))
    (λ x. true) a

abbrev pub is_local : Plan → Option Maker → Bool
is_local plan None = false
is_local plan (Some m) = by_mark (mark_of plan m.site)
  where
    by_mark : Mark → Bool
    by_mark mark.Local = true
    by_mark mark.Global = false

-- the procedure of the activation of this number, which runs before or after the step
abbrev pub maker_proc : At → Option Maker → ℕ
maker_proc a None = running_proc a
maker_proc a (Some m) =
    if nat_eq m.activation a.state.now.activation.number then running_proc a else a.next.now.activation.proc

-- who made what the step has made
abbrev pub new_makers : At → List (Option Maker)
new_makers a =
    map (λ e. e.maker) (drop (length a.state.world.entries) a.next.world.entries)
    ++ map (λ b. Some b.maker) (drop (length a.state.world.boxes) a.next.world.boxes)

-- a capturing procedure makes no local object
abbrev pub captured_global : At → Bool
captured_global a = list_all (λ m. not (is_local a.plan m && captures a.plan (maker_proc a m))) (new_makers a)

-- a capturing procedure enters a procedure or a continuation by a `%call/cc` only by a tail call or in record
-- mode
abbrev pub capture_modes : At → Bool
capture_modes a =
    not (captures a.plan (running_proc a)) || refused a
    || on_next (λ l x act. not (is_callcc act) || l.tail || in_record_mode a l x) (λ x. true) a

-- a capturing procedure is entered from record mode, or by a tail call of a capturing one
abbrev pub capture_entries : At → Bool
capture_entries a =
    not (enters a && captures a.plan a.next.now.activation.proc)
    || on_next (λ l x act. in_record_mode a l x || l.tail && captures a.plan (running_proc a)) (λ x. true) a

-- a tail call of a capturing procedure enters no procedure that is not capturing
abbrev pub capture_tails : At → Bool
capture_tails a =
    not (captures a.plan (running_proc a) && enters a)
    || on_next (λ l x act. not l.tail || captures a.plan a.next.now.activation.proc) (λ x. true) a

-- (g) Closures that `%eqv?` may tell apart are compared.

abbrev pub told_apart : At → Option ℕ → Option ℕ → Bool
told_apart a (Some q) (Some r) = not (nat_eq q r) || is_compared a.plan q
told_apart a q r = true

abbrev pub compares : At → Act Label → Bool
compares a (Prim op.Eqv (x ∷ y ∷ [])) =
    told_apart a (closure_of (entry_at a.state.world (value_of (vars a) x)))
    (closure_of (entry_at a.state.world (value_of (vars a) y)))
compares a act = true

abbrev pub compared : At → Bool
compared a = on_next (λ l x act. compares a act) (λ x. true) a

-- The shape of a plan

abbrev pub rises : List ℕ → Bool
rises [] = true
rises (x ∷ []) = true
rises (x ∷ y ∷ ys) = nat_lt x y && rises (y ∷ ys)

-- a list that stands for a set of numbers below this one
abbrev pub is_set : (below : ℕ) → List ℕ → Bool
is_set below xs = rises xs && list_all (λ x. nat_lt x below) xs

abbrev pub states_procedure : (procs : ℕ) → Stated → Bool
states_procedure procs (stated.Closure q) = nat_lt q procs
states_procedure procs s = true

-- A plan speaks of each procedure, site, variable, block and step of a program, and of nothing else.
pub record FitsProgram (plan : Plan) (ps : List Written) : Type 0 where
  pub kept : length plan.slots.kept ≡ length ps
  pub marks : length plan.marks ≡ (totals ps).sites
  pub vars : length plan.reprs.vars ≡ length (flat_map bound_in ps)
  pub blocks : length plan.reprs.blocks ≡ (totals ps).blocks
  pub steps : length plan.reprs.steps ≡ (totals ps).steps
  pub capturing : IsTrue (is_set (length ps) plan.capturing.procs)
  pub recording : IsTrue (is_set (length plan.reprs.vars) plan.capturing.recording)
  pub each_kept : IsTrue (list_all (is_set (length plan.reprs.vars)) plan.slots.kept)
  pub fictitious : IsTrue (is_set (length plan.reprs.vars) (map (λ f. f.var) plan.slots.fictitious))
  pub stated : IsTrue (list_all (λ f. states_procedure (length ps) f.value) plan.slots.fictitious)
  pub global : IsTrue (is_set (length plan.reprs.vars) plan.slots.global)
  pub compared : IsTrue (is_set (length ps) plan.slots.compared)

-- Valid plans

-- a test is passed in each state of each run
abbrev pub Always : Plan → Program → (At → Bool) → Type 0
Always plan p test =
    (env : Env) (n : ℕ) → IsTrue (test (at plan p env (after (machine p env) n (start p env))))

pub record ValidPlan (plan : Plan) (p : Program) : Type 0 where
  pub begun : IsTrue (body_reached plan (slice_get p.procs 0))
  pub reached : Always plan p reached
  pub fictions : Always plan p fictions
  pub homes : Always plan p homes
  pub kept_free : IsTrue (kept_free plan p)
  pub globals_own : IsTrue (globals_own plan p)
  pub pointers : Always plan p pointers
  pub lists : Always plan p lists
  pub checks : Always plan p checks
  pub bare : Always plan p bare
  pub nothing : (x : ℕ) → repr_of plan x ≡ repr.Nothing ↔ (is_fictitious plan x ≡ true)
  pub quiet_calls : Always plan p quiet_calls
  pub captured_global : Always plan p captured_global
  pub capture_modes : Always plan p capture_modes
  pub capture_entries : Always plan p capture_entries
  pub capture_tails : Always plan p capture_tails
  pub compared : Always plan p compared
