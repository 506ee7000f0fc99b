-- What a step does to the world of its state, handler by handler: a property of worlds that each change
-- keeps holds after the step.
use Rattle.std.proofs.Common.{ℕ, suc, Bool, true, false, List, [], ◌∷◌, ◌++◌, length, Option, Some, None}
use Rattle.std.specs.Prelude.{nat_eq, is_some, slice_get}
use Rattle.std.specs.Map.{lookup}
use Rattle.scheme_base.specs.declared.env.Env.{Env}
use Rattle.scheme_base.specs.declared.op.Op.{Op}
use Rattle.scheme_base.specs.declared.op.Op.TheVariants as op
use Rattle.scheme_base.specs.declared.pos.Pos.{Pos}
use Rattle.scheme_base.specs.Values.{Value, Undefined, Content, Thing, Holding, Procedure, ByRun}
use Rattle.scheme_base.specs.Operations.{Outcome, Answers, Makes, Changes, Passes, Applies, Captures, Fails, Breaks, operate, sight, changed, channels_after, number_of, takes}
use Rattle.scheme_base.specs.Stops.{Stop}
use Rattle.named_form.specs.Code.{Code, Ends, Then, Act, Const, Copy, Prim, Call, Apply, CallCC, If, Closure, Fix, MakeBox, MakeHole, Unbox, SetBox, TopGet, TopSet, TopDefine, Label, Program, Lambda}
use Rattle.named_form.specs.NamedRun.{Vars, Open, Point, Callee, Closes, Continues, Maker, Entry, Boxed, World, State, Leaving, Current, value_of, values_of, entry, next, store, leave, enter, entered, enter_closure, return, resume, call_thing, call_of, call, entry_at, maker, leaves, capture, carry, perform, content, box_at, box_number, unbox, with_content, top_get, top_set, run_act, option_value, finish, go, step_from, step}

-- a property of worlds that holds after each change of what a world has
pub record Stable (P : World → Type 0) : Type 0 where
  pub tops : (w : World) (vars : Vars) → P w → P (record w { tops = vars })
  pub entries : (w : World) (es : List Entry) → P w → P (record w { entries = w.entries ++ es })
  pub changed :
      (m : Maker) (w : World) (n : ℕ) (c : Content) → P w
      → P (record w { entries = changed (store m) w.entries n c (slice_get w.entries n) })
  pub boxes : (w : World) (bs : List Boxed) → P w → P (record w { boxes = w.boxes ++ bs })
  pub contents : (w : World) (box v : Value) → P w → P (with_content (box_at w box) (box_number box) v w)
  pub points : (w : World) (ps : List Point) → P w → P (record w { points = w.points ++ ps })
  pub started : (w : World) → P w → P (record w { started = suc w.started })

-- the property holds after each operation's calls
abbrev pub Passing : (P : World → Type 0) → Env → World → Type 0
Passing P env w =
    (m : Maker) (o : Op) (vs : List Value)
    → P (record w { channels = channels_after w.channels (operate env (sight (store m) w.entries) w.channels o vs) })

-- a call on its way and the state that it comes from both have the property
record Both (P : World → Type 0) (c : Leaving) : Type 0 where
  going : P c.world
  before : P c.before.world

leave_world : (P : World → Type 0) → Stable P → (b : Bool) (p : Point) (place : Pos) (w : World) (s : State)
    → P w → P s.world → Both P (leave b p place w s)
leave_world P stable true p place w s h k = record { going = h; before = k }
leave_world P stable false p place w s h k = record { going = stable.points w (p ∷ []) h; before = k }

leaves_world : (P : World → Type 0) → Stable P → (at : Current) (s : State) → P s.world → Both P (leaves at s)
leaves_world P stable at s h =
    leave_world P stable (at.label.tail)
    (record { var = at.var; rest = at.rest; arms = s.now.arms; activation = s.now.activation })
    at.label.place s.world s h h

enter_world : (P : World → Type 0) → Stable P → (p : Lambda) (rest : Option ℕ) (q f : ℕ) (kept : Vars) (vs : List Value) (c : Leaving)
    → Both P c → P (enter p rest q f kept vs c).world
enter_world P stable p None q f kept vs c h = stable.started c.world h.going
enter_world P stable p (Some x) q f kept vs c h =
    stable.started _ (stable.entries c.world _ h.going)

entered_world : (P : World → Type 0) (b : Bool) (c : Leaving) (s : State)
    → Both P c → P s.world → P (entered b c s).world
entered_world P true c s h k = k
entered_world P false c s h k = h.before

enter_closure_world : (P : World → Type 0) → Stable P → (o : Option Lambda) (q f : ℕ) (kept : Vars) (vs : List Value) (c : Leaving)
    → Both P c → P (enter_closure o q f kept vs c).world
enter_closure_world P stable None q f kept vs c h = h.before
enter_closure_world P stable (Some p) q f kept vs c h =
    entered_world P (takes (length p.params) (is_some p.rest) (length vs)) c (enter p p.rest q f kept vs c) h
    (enter_world P stable p p.rest q f kept vs c h)

return_world : (P : World → Type 0) (ps : List Point) (v : Value) (w : World) (s : State)
    → P w → P s.world → P (return ps v w s).world
return_world P [] v w s h k = k
return_world P (p ∷ ps) v w s h k = h

resume_world : (P : World → Type 0) (ps : List Point) (vs : List Value) (c : Leaving)
    → Both P c → P (resume ps vs c).world
resume_world P ps [] c h = h.before
resume_world P ps (v ∷ []) c h = return_world P ps v c.world c.before h.going h.before
resume_world P ps (v ∷ u ∷ vs) c h = h.before

call_thing_world : (P : World → Type 0) → Stable P → (p : Program) (t : Thing Callee) (f : ℕ) (vs : List Value) (c : Leaving)
    → Both P c → P (call_thing p t f vs c).world
call_thing_world P stable p (Holding o d) f vs c h = h.before
call_thing_world P stable p (Procedure (Closes q kept)) f vs c h =
    enter_closure_world P stable (slice_get p.procs q) q f kept vs c h
call_thing_world P stable p (Procedure (Continues points)) f vs c h = resume_world P points vs c h

call_of_world : (P : World → Type 0) → Stable P → (p : Program) (o : Option Entry) (f : ℕ) (vs : List Value) (c : Leaving)
    → Both P c → P (call_of p o f vs c).world
call_of_world P stable p None f vs c h = h.before
call_of_world P stable p (Some e) f vs c h = call_thing_world P stable p e.thing f vs c h

call_world : (P : World → Type 0) → Stable P → (p : Program) (f : Value) (vs : List Value) (c : Leaving)
    → Both P c → P (call p f vs c).world
call_world P stable p f vs c h = call_of_world P stable p (entry_at c.world f) (number_of f) vs c h

capture_world : (P : World → Type 0) → Stable P → (p : Program) (f : Value) (m : Maker) (c : Leaving)
    → Both P c → P (capture p f m c).world
capture_world P stable p f m c h =
    call_world P stable p f (next c.world ∷ []) _
    (record { going = stable.entries c.world _ h.going; before = h.before })

carry_world : (P : World → Type 0) → Stable P → (p : Program) (outcome : Outcome) (at : Current) (s : State)
    → P s.world → P (record s.world { channels = channels_after s.world.channels outcome })
    → P (carry p outcome at s).world
carry_world P stable p (Answers v) at s h k = h
carry_world P stable p (Makes c) at s h k =
    stable.entries s.world (entry (maker at.label s) (Holding ByRun c) ∷ []) h
carry_world P stable p (Changes n c) at s h k = stable.changed (maker at.label s) s.world n c h
carry_world P stable p (Passes v channels) at s h k = k
carry_world P stable p (Applies f vs) at s h k =
    call_world P stable p f vs (leaves at s) (leaves_world P stable at s h)
carry_world P stable p (Captures f) at s h k =
    capture_world P stable p f (maker at.label s) (leaves at s) (leaves_world P stable at s h)
carry_world P stable p (Fails kind) at s h k = h
carry_world P stable p (Breaks channels) at s h k = k

perform_world : (P : World → Type 0) → Stable P → (p : Program) (env : Env) (o : Op) (vs : List Value) (at : Current) (s : State)
    → P s.world → Passing P env s.world → P (perform p env o vs at s).world
perform_world P stable p env o vs at s h passing =
    carry_world P stable p
    (operate env (sight (store (maker at.label s)) s.world.entries) s.world.channels o vs) at s h
    (passing (maker at.label s) o vs)

unbox_world : (P : World → Type 0) (v : Value) (at : Current) (s : State) → P s.world → P (unbox v at s).world
unbox_world P Undefined at s h = h
unbox_world P v at s h = h

top_get_world : (P : World → Type 0) (o : Option Value) (at : Current) (s : State) → P s.world → P (top_get o at s).world
top_get_world P None at s h = h
top_get_world P (Some v) at s h = h

top_set_world : (P : World → Type 0) → Stable P → (o : Option Value) (g : ℕ) (v : Value) (at : Current) (s : State)
    → P s.world → P (top_set o g v at s).world
top_set_world P stable None g v at s h = h
top_set_world P stable (Some old) g v at s h = stable.tops s.world ((g, v) ∷ s.world.tops) h

act_world : (P : World → Type 0) → Stable P → (p : Program) (env : Env) (act : Act Label) (xs : List ℕ) (at : Current) (s : State)
    → P s.world → Passing P env s.world → P (run_act p env act xs at s).world
act_world P stable p env (Const lit) xs at s h passing = h
act_world P stable p env (Copy y) xs at s h passing = h
act_world P stable p env (Prim o ys) xs at s h passing =
    perform_world P stable p env o (values_of s.now.activation.vars ys) at s h passing
act_world P stable p env (Call f ys) xs at s h passing =
    call_world P stable p (value_of s.now.activation.vars f) (values_of s.now.activation.vars ys) (leaves at s)
    (leaves_world P stable at s h)
act_world P stable p env (Apply f y) xs at s h passing =
    perform_world P stable p env op.Apply (values_of s.now.activation.vars (f ∷ y ∷ [])) at s h passing
act_world P stable p env (CallCC f) xs at s h passing =
    perform_world P stable p env op.CallCC (values_of s.now.activation.vars (f ∷ [])) at s h passing
act_world P stable p env (If t this that) xs at s h passing = h
act_world P stable p env (Closure q) xs at s h passing = stable.entries s.world _ h
act_world P stable p env (Fix qs) xs at s h passing = stable.entries s.world _ h
act_world P stable p env (MakeBox y) xs at s h passing = stable.boxes s.world _ h
act_world P stable p env MakeHole xs at s h passing = stable.boxes s.world _ h
act_world P stable p env (Unbox b checked) xs at s h passing =
    unbox_world P (content (box_at s.world (value_of s.now.activation.vars b))) at s h
act_world P stable p env (SetBox b y) xs at s h passing =
    stable.contents s.world (value_of s.now.activation.vars b) (value_of s.now.activation.vars y) h
act_world P stable p env (TopGet g checked) xs at s h passing = top_get_world P (lookup (nat_eq g) s.world.tops) at s h
act_world P stable p env (TopSet g y checked) xs at s h passing =
    top_set_world P stable (lookup (nat_eq g) s.world.tops) g (value_of s.now.activation.vars y) at s h
act_world P stable p env (TopDefine g y) xs at s h passing =
    stable.tops s.world ((g, value_of s.now.activation.vars y) ∷ s.world.tops) h

finish_world : (P : World → Type 0) (v : Value) (arms : List Open) (s : State) → P s.world → P (finish v arms s).world
finish_world P v [] s h = return_world P s.now.points v s.world s h h
finish_world P v (a ∷ arms) s h = h

go_world : (P : World → Type 0) → Stable P → (p : Program) (env : Env) (block : Code Label) (s : State)
    → P s.world → Passing P env s.world → P (go p env block s).world
go_world P stable p env (Ends x) s h passing =
    finish_world P (option_value s.now.activation.vars x) s.now.arms s h
go_world P stable p env (Then l xs act rest) s h passing = act_world P stable p env act xs _ s h passing

step_from_world : (P : World → Type 0) → Stable P → (o : Option Stop) (p : Program) (env : Env) (s : State)
    → P s.world → Passing P env s.world → P (step_from o p env s).world
step_from_world P stable None p env s h passing = go_world P stable p env s.now.block s h passing
step_from_world P stable (Some stop) p env s h passing = h

-- a property that each change keeps, and that holds after an operation's calls, holds after a step
pub step_world : (P : World → Type 0) → Stable P → (p : Program) (env : Env) (s : State)
    → P s.world → Passing P env s.world → P (step p env s).world
step_world P stable p env s h passing = step_from_world P stable s.stop p env s h passing
