-- What a step does to the world of its state, handler by handler: a property of worlds that each change
-- keeps holds after the step.
use Rattle.std.proofs.Common.{ℕ, Bool, true, false, List, [], ◌∷◌, ◌++◌, length, Option, Some, None}
use Rattle.std.specs.Prelude.{map, take, drop, nat_eq, is_some, slice_get, slice_set}
use Rattle.std.specs.Map.{lookup}
use Rattle.scheme_base.specs.declared.env.Env.{Env}
use Rattle.scheme_base.specs.declared.op.Op.{Op}
use Rattle.scheme_base.specs.declared.pos.Pos.{Pos}
use Rattle.scheme_base.specs.Values.{Value, Undefined, Content, Thing, Holding, Procedure, ByRun}
use Rattle.scheme_base.specs.Operations.{Outcome, Answers, Makes, Changes, Passes, Applies, Captures, Fails, Breaks, operate, sight, plain_store, changed, channels_after, list_value, list_contents, takes, item_or}
use Rattle.core_form.specs.Trees.{Tree, Const, Ref, Lambda, If, Set, Call, Prim, Seq, Fix, Define, Trees, none, item, count}
use Rattle.core_form.specs.Source.{Source, Scope, Goal, Calls, Binds, Does, Frame, Forms, Operator, Operand, Choose, Assign, Bind, Rest, Proc, Closure, Continuation, World, State, Evaluates, Gives, Stopped, read_local, read_top, refer, assign_top, assign, scope_with, next, with_proc, with_list, enter, entered, resume, call_of, thing_at, carry, reach, operands, sequence, closures, objects_from, direct, apply, evaluate, next_form, give, step, world_of}

-- a property of worlds that holds after each change of what a world has
pub record Stable {V : Type 0} (P : World V → Type 0) : Type 0 where
  pub tops : (w : World V) (ts : List (V × Value)) → P w → P (record w { tops = ts })
  pub locations : (w : World V) (vs : List Value) → P w → P (record w { locations = w.locations ++ vs })
  pub assigned : (w : World V) (n : ℕ) (v : Value) → P w → P (record w { locations = slice_set w.locations n v })
  pub things : (w : World V) (ts : List (Thing (Proc V))) → P w → P (record w { things = w.things ++ ts })
  pub changed :
      (w : World V) (n : ℕ) (c : Content) → P w
      → P (record w { things = changed plain_store w.things n c (slice_get w.things n) })

-- the property holds after each operation's calls
abbrev pub Passing : {V : Type 0} → (P : World V → Type 0) → Env → World V → Type 0
Passing P env w =
    (o : Op) (vs : List Value)
    → P (record w { channels = channels_after w.channels (operate env (sight plain_store w.things) w.channels o vs) })

read_local_world : {V : Type 0} (P : World V → Type 0) (v : Value) (pos : Pos) (fs : List (Frame V)) (w : World V)
    → P w → P (world_of (read_local v pos fs w))
read_local_world P Undefined pos fs w h = h
read_local_world P v pos fs w h = h

read_top_world : {V : Type 0} (P : World V → Type 0) (o : Option Value) (pos : Pos) (fs : List (Frame V)) (w : World V)
    → P w → P (world_of (read_top o pos fs w))
read_top_world P None pos fs w h = h
read_top_world P (Some v) pos fs w h = h

refer_world : {V : Type 0} (P : World V → Type 0) (p : Source V) (o : Option ℕ) (x : V) (pos : Pos) (fs : List (Frame V)) (w : World V)
    → P w → P (world_of (refer p o x pos fs w))
refer_world P p (Some n) x pos fs w h = read_local_world P (item_or Undefined (slice_get w.locations n)) pos fs w h
refer_world P p None x pos fs w h = read_top_world P (lookup (p.same x) w.tops) pos fs w h

assign_top_world : {V : Type 0} (P : World V → Type 0) → Stable P → (o : Option Value) (x : V) (v : Value) (pos : Pos) (fs : List (Frame V)) (w : World V)
    → P w → P (world_of (assign_top o x v pos fs w))
assign_top_world P stable None x v pos fs w h = h
assign_top_world P stable (Some old) x v pos fs w h = stable.tops w ((x, v) ∷ w.tops) h

assign_world : {V : Type 0} (P : World V → Type 0) → Stable P → (p : Source V) (o : Option ℕ) (x : V) (v : Value) (pos : Pos) (fs : List (Frame V)) (w : World V)
    → P w → P (world_of (assign p o x v pos fs w))
assign_world P stable p (Some n) x v pos fs w h = stable.assigned w n v h
assign_world P stable p None x v pos fs w h = assign_top_world P stable (lookup (p.same x) w.tops) x v pos fs w h

enter_world : {V : Type 0} (P : World V → Type 0) → Stable P → (xs : List V) (rest : Option V) (body : Tree V) (ρ : Scope V) (vs : List Value) (fs : List (Frame V)) (w : World V)
    → P w → P (world_of (enter xs rest body ρ vs fs w))
enter_world P stable xs None body ρ vs fs w h = stable.locations w vs h
enter_world P stable xs (Some x) body ρ vs fs w h =
    let past = drop (length xs) vs in
    stable.locations (with_list past w) (take (length xs) vs ++ list_value (length w.things) past ∷ [])
    (stable.things w (map (λ c. Holding ByRun c) (list_contents (length w.things) past)) h)

entered_world : {V : Type 0} (P : World V → Type 0) (b : Bool) (pos : Pos) (w : World V) (s : State V)
    → P w → P (world_of s) → P (world_of (entered b pos w s))
entered_world P true pos w s h k = k
entered_world P false pos w s h k = h

resume_world : {V : Type 0} (P : World V → Type 0) (gs : List (Frame V)) (vs : List Value) (pos : Pos) (w : World V)
    → P w → P (world_of (resume gs vs pos w))
resume_world P gs [] pos w h = h
resume_world P gs (v ∷ []) pos w h = h
resume_world P gs (v ∷ u ∷ vs) pos w h = h

call_world : {V : Type 0} (P : World V → Type 0) → Stable P → (o : Option (Thing (Proc V))) (vs : List Value) (pos : Pos) (fs : List (Frame V)) (w : World V)
    → P w → P (world_of (call_of o vs pos fs w))
call_world P stable (Some (Procedure (Closure xs rest body ρ))) vs pos fs w h =
    entered_world P (takes (length xs) (is_some rest) (length vs)) pos w (enter xs rest body ρ vs fs w) h
    (enter_world P stable xs rest body ρ vs fs w h)
call_world P stable (Some (Procedure (Continuation gs))) vs pos fs w h = resume_world P gs vs pos w h
call_world P stable (Some (Holding o c)) vs pos fs w h = h
call_world P stable None vs pos fs w h = h

carry_world : {V : Type 0} (P : World V → Type 0) → Stable P → (outcome : Outcome) (pos : Pos) (fs : List (Frame V)) (w : World V)
    → P w → P (record w { channels = channels_after w.channels outcome }) → P (world_of (carry outcome pos fs w))
carry_world P stable (Answers v) pos fs w h k = h
carry_world P stable (Makes c) pos fs w h k = stable.things w (Holding ByRun c ∷ []) h
carry_world P stable (Changes n c) pos fs w h k = stable.changed w n c h
carry_world P stable (Passes v channels) pos fs w h k = k
carry_world P stable (Applies f vs) pos fs w h k = call_world P stable (thing_at w f) vs pos fs w h
carry_world P stable (Captures f) pos fs w h k =
    let after = with_proc (Continuation fs) w in
    call_world P stable (thing_at after f) (next w ∷ []) pos fs after
    (stable.things w (Procedure (Continuation fs) ∷ []) h)
carry_world P stable (Fails kind) pos fs w h k = h
carry_world P stable (Breaks channels) pos fs w h k = k

reach_world : {V : Type 0} (P : World V → Type 0) → Stable P → (env : Env) (goal : Goal V) (vs : List Value) (ρ : Scope V) (pos : Pos) (fs : List (Frame V)) (w : World V)
    → P w → Passing P env w → P (world_of (reach env goal vs ρ pos fs w))
reach_world P stable env (Calls f) vs ρ pos fs w h passing = call_world P stable (thing_at w f) vs pos fs w h
reach_world P stable env (Binds xs body) vs ρ pos fs w h passing = enter_world P stable xs None body ρ vs fs w h
reach_world P stable env (Does o) vs ρ pos fs w h passing =
    carry_world P stable (operate env (sight plain_store w.things) w.channels o vs) pos fs w h (passing o vs)

operands_world : {V : Type 0} (P : World V → Type 0) → Stable P → (env : Env) (goal : Goal V) (vs : List Value) (es : Trees V) (ρ : Scope V) (pos : Pos) (fs : List (Frame V)) (w : World V)
    → P w → Passing P env w → P (world_of (operands env goal vs es ρ pos fs w))
operands_world P stable env goal vs none ρ pos fs w h passing = reach_world P stable env goal vs ρ pos fs w h passing
operands_world P stable env goal vs (item e es) ρ pos fs w h passing = h

sequence_world : {V : Type 0} (P : World V → Type 0) (es : Trees V) (ρ : Scope V) (fs : List (Frame V)) (w : World V)
    → P w → P (world_of (sequence es ρ fs w))
sequence_world P none ρ fs w h = h
sequence_world P (item e none) ρ fs w h = h
sequence_world P (item e (item f es)) ρ fs w h = h

direct_world : {V : Type 0} (P : World V → Type 0) → Stable P → (b : Bool) (xs : List V) (body f : Tree V) (es : Trees V) (env : Env) (ρ : Scope V) (pos : Pos) (fs : List (Frame V)) (w : World V)
    → P w → Passing P env w → P (world_of (direct b xs body f es env ρ pos fs w))
direct_world P stable true xs body f es env ρ pos fs w h passing =
    operands_world P stable env (Binds xs body) [] es ρ pos fs w h passing
direct_world P stable false xs body f es env ρ pos fs w h passing = h

apply_world : {V : Type 0} (P : World V → Type 0) → Stable P → (f : Tree V) (es : Trees V) (env : Env) (ρ : Scope V) (pos : Pos) (fs : List (Frame V)) (w : World V)
    → P w → Passing P env w → P (world_of (apply f es env ρ pos fs w))
apply_world P stable (Lambda p xs None body) es env ρ pos fs w h passing =
    direct_world P stable (nat_eq (length xs) (count es)) xs body (Lambda p xs None body) es env ρ pos fs w h passing
apply_world P stable f es env ρ pos fs w h passing = h

evaluate_world : {V : Type 0} (P : World V → Type 0) → Stable P → (p : Source V) (env : Env) (e : Tree V) (ρ : Scope V) (fs : List (Frame V)) (w : World V)
    → P w → Passing P env w → P (world_of (evaluate p env e ρ fs w))
evaluate_world P stable p env (Const pos lit) ρ fs w h passing = h
evaluate_world P stable p env (Ref pos x) ρ fs w h passing = refer_world P p (lookup (p.same x) ρ) x pos fs w h
evaluate_world P stable p env (Lambda pos xs rest body) ρ fs w h passing =
    stable.things w (Procedure (Closure xs rest body ρ) ∷ []) h
evaluate_world P stable p env (If pos t y n) ρ fs w h passing = h
evaluate_world P stable p env (Set pos x e) ρ fs w h passing = h
evaluate_world P stable p env (Call pos f es) ρ fs w h passing = apply_world P stable f es env ρ pos fs w h passing
evaluate_world P stable p env (Prim pos o es) ρ fs w h passing =
    operands_world P stable env (Does o) [] es ρ pos fs w h passing
evaluate_world P stable p env (Seq pos es) ρ fs w h passing = sequence_world P es ρ fs w h
evaluate_world P stable p env (Fix pos xs ls body) ρ fs w h passing =
    let inner = scope_with xs (length w.locations) ρ in
    stable.locations (record w { things = w.things ++ closures inner ls }) (objects_from (length w.things) (count ls))
    (stable.things w (closures inner ls) h)
evaluate_world P stable p env (Define pos x e) ρ fs w h passing = h

next_form_world : {V : Type 0} (P : World V → Type 0) (es : Trees V) (fs : List (Frame V)) (w : World V)
    → P w → P (world_of (next_form es fs w))
next_form_world P none fs w h = h
next_form_world P (item e es) fs w h = h

give_world : {V : Type 0} (P : World V → Type 0) → Stable P → (p : Source V) (env : Env) (v : Value) (fs : List (Frame V)) (w : World V)
    → P w → Passing P env w → P (world_of (give p env v fs w))
give_world P stable p env v [] w h passing = h
give_world P stable p env v (Forms es ∷ fs) w h passing = next_form_world P es fs w h
give_world P stable p env v (Operator es ρ pos ∷ fs) w h passing =
    operands_world P stable env (Calls v) [] es ρ pos fs w h passing
give_world P stable p env v (Operand goal vs es ρ pos ∷ fs) w h passing =
    operands_world P stable env goal (vs ++ v ∷ []) es ρ pos fs w h passing
give_world P stable p env v (Choose y n ρ ∷ fs) w h passing = h
give_world P stable p env v (Assign x ρ pos ∷ fs) w h passing =
    assign_world P stable p (lookup (p.same x) ρ) x v pos fs w h
give_world P stable p env v (Bind x ∷ fs) w h passing = stable.tops w ((x, v) ∷ w.tops) h
give_world P stable p env v (Rest es ρ ∷ fs) w h passing = sequence_world P es ρ fs w h

-- a property that each change keeps, and that holds after an operation's calls, holds after a step
pub step_world : {V : Type 0} (P : World V → Type 0) → Stable P → (p : Source V) (env : Env) (s : State V)
    → P (world_of s) → Passing P env (world_of s) → P (world_of (step p env s))
step_world P stable p env (Evaluates e ρ fs w) h passing = evaluate_world P stable p env e ρ fs w h passing
step_world P stable p env (Gives v fs w) h passing = give_world P stable p env v fs w h passing
step_world P stable p env (Stopped stop w) h passing = h
