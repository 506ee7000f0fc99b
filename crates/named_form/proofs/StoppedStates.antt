-- A step that stops the run leaves what the state holds, handler by handler.
use Rattle.std.proofs.Common.{◌≡◌, ℕ, Bool, true, false, List, [], ◌∷◌, length, Option, Some, None, refl, sym, subst, ◌⊎◌, inl, inr}
use Rattle.std.specs.Prelude.{nat_eq, is_some, slice_get}
use Rattle.std.specs.Map.{lookup}
use Rattle.scheme_base.specs.declared.env.Env.{Env}
use Rattle.scheme_base.specs.declared.op.Op.{Op}
use Rattle.scheme_base.specs.declared.op.Op.TheVariants as op
use Rattle.scheme_base.specs.declared.pos.Pos.{Pos}
use Rattle.scheme_base.specs.Values.{Value, Undefined, Thing, Holding, Procedure}
use Rattle.scheme_base.specs.Operations.{Outcome, Answers, Makes, Changes, Passes, Applies, Captures, Fails, Breaks, operate, sight, number_of, takes}
use Rattle.scheme_base.specs.Stops.{Stop, End, Error}
use Rattle.named_form.specs.Code.{Code, Ends, Then, Act, Const, Copy, Prim, Call, Apply, CallCC, If, Closure, Fix, MakeBox, MakeHole, Unbox, SetBox, TopGet, TopSet, TopDefine, Label, Program, Lambda}
use Rattle.named_form.specs.NamedRun.{Vars, Open, Point, Callee, Closes, Continues, Maker, Entry, World, State, Leaving, Current, stopped, value_of, values_of, next, store, leave, enter, entered, enter_closure, return, resume, call_thing, call_of, call, entry_at, maker, leaves, capture, carry, perform, content, box_at, unbox, top_get, top_set, run_act, option_value, finish, go, step_from, step}
use Rattle.named_form.specs.Laws.{HoldsAsMuch}

-- a state goes on, or it holds what the other held
abbrev Halts : State → State → Type 0
Halts s t = (t.stop ≡ None) ⊎ HoldsAsMuch s t

halted : (s : State) (stop : Stop) → Halts s (stopped stop s)
halted s stop = inr (record { now = refl; entries = refl; boxes = refl; points = refl; started = refl; tops = refl })

-- a refused call stops in the state that it comes from
refused : (s : State) (c : Leaving) (stop : Stop) → c.before ≡ s → Halts s (stopped stop c.before)
refused s c stop h = subst (λ t. Halts s (stopped stop t)) (sym h) (halted s stop)

leave_before : (b : Bool) (p : Point) (place : Pos) (w : World) (s : State) → (leave b p place w s).before ≡ s
leave_before true p place w s = refl
leave_before false p place w s = refl

leaves_before : (at : Current) (s : State) → (leaves at s).before ≡ s
leaves_before at s =
    leave_before (at.label.tail)
    (record { var = at.var; rest = at.rest; arms = s.now.arms; activation = s.now.activation })
    at.label.place s.world s

enter_halts : (s : State) (p : Lambda) (rest : Option ℕ) (q f : ℕ) (kept : Vars) (vs : List Value) (c : Leaving)
    → Halts s (enter p rest q f kept vs c)
enter_halts s p None q f kept vs c = inl refl
enter_halts s p (Some x) q f kept vs c = inl refl

entered_halts : (s : State) (b : Bool) (c : Leaving) (t : State) → c.before ≡ s → Halts s t → Halts s (entered b c t)
entered_halts s true c t h k = k
entered_halts s false c t h k = refused s c _ h

enter_closure_halts : (s : State) (o : Option Lambda) (q f : ℕ) (kept : Vars) (vs : List Value) (c : Leaving)
    → c.before ≡ s → Halts s (enter_closure o q f kept vs c)
enter_closure_halts s None q f kept vs c h = refused s c _ h
enter_closure_halts s (Some p) q f kept vs c h =
    entered_halts s (takes (length p.params) (is_some p.rest) (length vs)) c (enter p p.rest q f kept vs c) h
    (enter_halts s p p.rest q f kept vs c)

return_halts : (s : State) (ps : List Point) (v : Value) (w : World) (t : State) → t ≡ s → Halts s (return ps v w t)
return_halts s [] v w t h = subst (λ t. Halts s (stopped End t)) (sym h) (halted s End)
return_halts s (p ∷ ps) v w t h = inl refl

resume_halts : (s : State) (ps : List Point) (vs : List Value) (c : Leaving) → c.before ≡ s → Halts s (resume ps vs c)
resume_halts s ps [] c h = refused s c _ h
resume_halts s ps (v ∷ []) c h = return_halts s ps v c.world c.before h
resume_halts s ps (v ∷ u ∷ vs) c h = refused s c _ h

call_thing_halts : (s : State) (p : Program) (t : Thing Callee) (f : ℕ) (vs : List Value) (c : Leaving)
    → c.before ≡ s → Halts s (call_thing p t f vs c)
call_thing_halts s p (Holding o d) f vs c h = refused s c _ h
call_thing_halts s p (Procedure (Closes q kept)) f vs c h = enter_closure_halts s (slice_get p.procs q) q f kept vs c h
call_thing_halts s p (Procedure (Continues points)) f vs c h = resume_halts s points vs c h

call_of_halts : (s : State) (p : Program) (o : Option Entry) (f : ℕ) (vs : List Value) (c : Leaving)
    → c.before ≡ s → Halts s (call_of p o f vs c)
call_of_halts s p None f vs c h = refused s c _ h
call_of_halts s p (Some e) f vs c h = call_thing_halts s p e.thing f vs c h

call_halts : (s : State) (p : Program) (f : Value) (vs : List Value) (c : Leaving) → c.before ≡ s → Halts s (call p f vs c)
call_halts s p f vs c h = call_of_halts s p (entry_at c.world f) (number_of f) vs c h

capture_halts : (s : State) (p : Program) (f : Value) (m : Maker) (c : Leaving) → c.before ≡ s → Halts s (capture p f m c)
capture_halts s p f m c h =
    call_halts s p f (next c.world ∷ []) _ h

carry_halts : (p : Program) (outcome : Outcome) (at : Current) (s : State) → s.stop ≡ None → Halts s (carry p outcome at s)
carry_halts p (Answers v) at s h = inl h
carry_halts p (Makes c) at s h = inl h
carry_halts p (Changes n c) at s h = inl h
carry_halts p (Passes v channels) at s h = inl h
carry_halts p (Applies f vs) at s h = call_halts s p f vs (leaves at s) (leaves_before at s)
carry_halts p (Captures f) at s h = capture_halts s p f (maker at.label s) (leaves at s) (leaves_before at s)
carry_halts p (Fails k) at s h = halted s (Error k at.label.place)
carry_halts p (Breaks channels) at s h =
    inr (record { now = refl; entries = refl; boxes = refl; points = refl; started = refl; tops = refl })

perform_halts : (p : Program) (env : Env) (o : Op) (vs : List Value) (at : Current) (s : State)
    → s.stop ≡ None → Halts s (perform p env o vs at s)
perform_halts p env o vs at s h =
    carry_halts p (operate env (sight (store (maker at.label s)) s.world.entries) s.world.channels o vs) at s h

unbox_halts : (v : Value) (at : Current) (s : State) → s.stop ≡ None → Halts s (unbox v at s)
unbox_halts Undefined at s h = halted s _
unbox_halts v at s h = inl h

top_get_halts : (o : Option Value) (at : Current) (s : State) → s.stop ≡ None → Halts s (top_get o at s)
top_get_halts None at s h = halted s _
top_get_halts (Some v) at s h = inl h

top_set_halts : (o : Option Value) (g : ℕ) (v : Value) (at : Current) (s : State) → s.stop ≡ None → Halts s (top_set o g v at s)
top_set_halts None g v at s h = halted s _
top_set_halts (Some old) g v at s h = inl h

act_halts : (p : Program) (env : Env) (act : Act Label) (xs : List ℕ) (at : Current) (s : State)
    → s.stop ≡ None → Halts s (run_act p env act xs at s)
act_halts p env (Const lit) xs at s h = inl h
act_halts p env (Copy y) xs at s h = inl h
act_halts p env (Prim o ys) xs at s h = perform_halts p env o (values_of s.now.activation.vars ys) at s h
act_halts p env (Call f ys) xs at s h =
    call_halts s p (value_of s.now.activation.vars f) (values_of s.now.activation.vars ys) (leaves at s)
    (leaves_before at s)
act_halts p env (Apply f y) xs at s h =
    perform_halts p env op.Apply (values_of s.now.activation.vars (f ∷ y ∷ [])) at s h
act_halts p env (CallCC f) xs at s h =
    perform_halts p env op.CallCC (values_of s.now.activation.vars (f ∷ [])) at s h
act_halts p env (If t this that) xs at s h = inl h
act_halts p env (Closure q) xs at s h = inl h
act_halts p env (Fix qs) xs at s h = inl h
act_halts p env (MakeBox y) xs at s h = inl h
act_halts p env MakeHole xs at s h = inl h
act_halts p env (Unbox b checked) xs at s h =
    unbox_halts (content (box_at s.world (value_of s.now.activation.vars b))) at s h
act_halts p env (SetBox b y) xs at s h = inl h
act_halts p env (TopGet g checked) xs at s h = top_get_halts (lookup (nat_eq g) s.world.tops) at s h
act_halts p env (TopSet g y checked) xs at s h =
    top_set_halts (lookup (nat_eq g) s.world.tops) g (value_of s.now.activation.vars y) at s h
act_halts p env (TopDefine g y) xs at s h = inl h

finish_halts : (v : Value) (arms : List Open) (s : State) → s.stop ≡ None → Halts s (finish v arms s)
finish_halts v [] s h = return_halts s s.now.points v s.world s refl
finish_halts v (a ∷ arms) s h = inl h

go_halts : (p : Program) (env : Env) (block : Code Label) (s : State) → s.stop ≡ None → Halts s (go p env block s)
go_halts p env (Ends x) s h = finish_halts (option_value s.now.activation.vars x) s.now.arms s h
go_halts p env (Then l xs act rest) s h = act_halts p env act xs _ s h

step_halts : (o : Option Stop) (p : Program) (env : Env) (s : State) → s.stop ≡ o → Halts s (step_from o p env s)
step_halts None p env s h = go_halts p env s.now.block s h
step_halts (Some stop) p env s h =
    inr (record { now = refl; entries = refl; boxes = refl; points = refl; started = refl; tops = refl })

holds_where : (s t : State) (stop : Stop) → Halts s t → t.stop ≡ Some stop → HoldsAsMuch s t
holds_where s t stop (inl goes) h = cc
holds_where s t stop (inr same) h = same

pub holds : (p : Program) (env : Env) (s : State) (stop : Stop) → (step p env s).stop ≡ Some stop → HoldsAsMuch s (step p env s)
holds p env s stop h = holds_where s (step p env s) stop (step_halts s.stop p env s refl) h
