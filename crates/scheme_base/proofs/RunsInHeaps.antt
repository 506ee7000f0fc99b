-- Runs in a heap: where every state has room they are the runs without a heap, they stop for storage at the
-- first state that has none, and machines in step stop alike.
use Rattle.std.proofs.Common.{ℕ, zero, suc, ◌+◌, ◌-◌, ◌<◌, ◌≤◌, ◌≡◌, Bool, true, false, Option, Some, None, refl, sym, ap, subst, ◌∙◌, ◌⊎◌, inl, inr, ⊎_elim, arith, eq-or-lt_of_le}
use Rattle.std.proofs.lemmas.Bool.{cases_lt}
use Rattle.std.proofs.lemmas.Option.{none-some, same_Some}
use Rattle.std.specs.Prelude.{nat_le}
use Rattle.scheme_base.specs.Outside.{Ending}
use Rattle.scheme_base.specs.Runs.{Machine, after, GrowsByOne, Lawful, SameRuns}
use Rattle.scheme_base.specs.Heaps.{Confined, InHeap, Fits, Full, looked_at, look, step_in, trace_in, ending_in, in_heap, HasRoom, AlwaysHasRoom, RunsOut, StopsFull, InStep}
use Rattle.scheme_base.proofs.Simulations.{after-add, after_end}

-- A look

look_fits : {S : Type 0} (c : Confined S) (s : S) → HasRoom c s → look c s ≡ Fits s
look_fits c s room = by (c.machine.ending s) refl (nat_le (c.bytes s) c.heap) refl where
  by : (o : Option Ending) → c.machine.ending s ≡ o → (b : Bool) → nat_le (c.bytes s) c.heap ≡ b → looked_at o b s ≡ Fits s
  by (Some e) h b k = refl
  by None h true k = refl
  by None h false k = let low = room h in absurd (grind (arith, low, k))

look_full : {S : Type 0} (c : Confined S) (s : S) → c.machine.ending s ≡ None → c.heap < c.bytes s → look c s ≡ Full s
look_full c s goes wants =
    ap (λ o. looked_at o (nat_le (c.bytes s) c.heap) s) goes
    ∙ ap (λ b. looked_at None b s) (above (nat_le (c.bytes s) c.heap) refl)
  where
    above : (b : Bool) → nat_le (c.bytes s) c.heap ≡ b → b ≡ false
    above false k = refl
    above true k = absurd (grind (arith, k, wants))

look_trace : {S : Type 0} (c : Confined S) (s : S) → trace_in c (look c s) ≡ c.machine.trace s
look_trace c s = by (c.machine.ending s) (nat_le (c.bytes s) c.heap) where
  by : (o : Option Ending) (b : Bool) → trace_in c (looked_at o b s) ≡ c.machine.trace s
  by (Some e) b = refl
  by None true = refl
  by None false = refl

-- A run in a heap is one of a lawful machine

stays_in : {S : Type 0} (c : Confined S) → Lawful c.machine → (x : InHeap S) (e : Ending)
    → ending_in c x ≡ Some e → step_in c x ≡ x
stays_in c lawful (Fits s) e h =
    ap (look c) (lawful.stays s e h) ∙ look_fits c s (λ goes. absurd (none-some e (sym goes ∙ h)))
stays_in c lawful (Full s) e h = refl

grows_in : {S : Type 0} (c : Confined S) → Lawful c.machine → (x : InHeap S)
    → GrowsByOne (trace_in c x) (trace_in c (step_in c x))
grows_in c lawful (Fits s) =
    subst (GrowsByOne (c.machine.trace s)) (sym (look_trace c (c.machine.step s))) (lawful.grows s)
grows_in c lawful (Full s) = inl refl

pub lawful_in : {S : Type 0} (c : Confined S) → Lawful c.machine → Lawful (in_heap c)
lawful_in c lawful = record { stays = stays_in c lawful; grows = grows_in c lawful }

-- The states of a run in a heap

fits_after : {S : Type 0} (c : Confined S) (n : ℕ) (s : S) → ((k : ℕ) → k ≤ n → HasRoom c (after c.machine k s))
    → after (in_heap c) n (look c s) ≡ Fits (after c.machine n s)
fits_after c zero s room = look_fits c s (room 0 (omega arith))
fits_after c (suc n) s room =
    ap (λ x. after (in_heap c) n (step_in c x)) (look_fits c s (room 0 (omega arith)))
    ∙ fits_after c n (c.machine.step s) (λ k low. room (suc k) (omega (arith, low)))

full_stays : {S : Type 0} (c : Confined S) (n : ℕ) (s : S) → after (in_heap c) n (Full s) ≡ Full s
full_stays c zero s = refl
full_stays c (suc n) s = full_stays c n s

full_at : {S : Type 0} (c : Confined S) (n : ℕ) (s : S) → RunsOut c s n
    → after (in_heap c) n (look c s) ≡ Full (after c.machine n s)
full_at c zero s out = look_full c s out.goes out.wants
full_at c (suc n) s out =
    let rest : RunsOut c (c.machine.step s) n =
    record { room = λ k low. out.room (suc k) (omega (arith, low)); goes = out.goes; wants = out.wants }
    in
    ap (λ x. after (in_heap c) n (step_in c x)) (look_fits c s (out.room 0 (omega arith)))
    ∙ full_at c n (c.machine.step s) rest

full_from : {S : Type 0} (c : Confined S) (n k : ℕ) (s : S) → RunsOut c s n → n ≤ k
    → after (in_heap c) k (look c s) ≡ Full (after c.machine n s)
full_from c n k s out later =
    let e : k ≡ n + (k - n) = omega arith in
    ap (λ j. after (in_heap c) j (look c s)) e
    ∙ (after-add (in_heap c) n (k - n) (look c s)
    ∙ (ap (after (in_heap c) (k - n)) (full_at c n s out) ∙ full_stays c (k - n) (after c.machine n s)))

-- Where every state has room

pub without_a_stop : {S T : Type 0} (c : Confined S) (other : Machine T) (s : S) (t : T) → AlwaysHasRoom c s
    → SameRuns (in_heap c) other (look c s) t → SameRuns c.machine other s t
without_a_stop c other s t room same =
    record {
      shows = λ n. let r = same.shows n in (r.0, r.1 ∙ ap (trace_in c) (state n));
      shown = λ m. let r = same.shown m in (r.0, sym (ap (trace_in c) (state r.0)) ∙ r.1);
      ends = λ n e h.
          let r = same.ends n e (ap (ending_in c) (state n) ∙ h) in
          (r.0, record { stopped = r.1.stopped; shown = r.1.shown ∙ ap (trace_in c) (state n) });
      ended = λ m e h.
          let r = same.ended m e h in (
            r.0,
            record {
              stopped = sym (ap (ending_in c) (state r.0)) ∙ r.1.stopped;
              shown = sym (ap (trace_in c) (state r.0)) ∙ r.1.shown;
            },
          );
    }
  where
    state : (n : ℕ) → after (in_heap c) n (look c s) ≡ Fits (after c.machine n s)
    state n = fits_after c n s (λ k low. room k)

-- Where some state has none

trace_till : {S : Type 0} (c : Confined S) (n : ℕ) (s : S) → RunsOut c s n → (k : ℕ) → k ≤ n
    → trace_in c (after (in_heap c) k (look c s)) ≡ c.machine.trace (after c.machine k s)
trace_till c n s out k low =
    ⊎_elim
    (λ (last : k ≡ n).
    ap (λ j. trace_in c (after (in_heap c) j (look c s))) last
    ∙ (ap (trace_in c) (full_at c n s out) ∙ ap (λ j. c.machine.trace (after c.machine j s)) (sym last)))
    (λ (before : k < n).
    ap (trace_in c) (fits_after c k s (λ j small. out.room j (omega (arith, small, before)))))
    (eq-or-lt_of_le low)

full_shown : {S T : Type 0} (c : Confined S) (other : Machine T) (s : S) (t : T) (n m : ℕ) → RunsOut c s n
    → (k : ℕ) → trace_in c (after (in_heap c) k (look c s)) ≡ other.trace (after other m t)
    → (k : ℕ) × (k ≤ n) × (c.machine.trace (after c.machine k s) ≡ other.trace (after other m t))
full_shown c other s t n m out k shown =
    ⊎_elim
    (λ (before : k < n).
    let found : (k : ℕ) × (k ≤ n) × (c.machine.trace (after c.machine k s) ≡ other.trace (after other m t)) =
    (k, omega (arith, before), sym (trace_till c n s out k (omega (arith, before))) ∙ shown)
    in found)
    (λ (past : n ≤ k).
    let found : (k : ℕ) × (k ≤ n) × (c.machine.trace (after c.machine k s) ≡ other.trace (after other m t)) =
    (n, omega arith, sym (ap (trace_in c) (full_from c n k s out past)) ∙ shown)
    in found)
    (cases_lt k n)

only_full : {S : Type 0} (c : Confined S) → Lawful c.machine → (s : S) (n : ℕ) → RunsOut c s n
    → (k : ℕ) (e : Ending) → ending_in c (after (in_heap c) k (look c s)) ≡ Some e → e ≡ c.full
only_full c lawful s n out k e stopped =
    ⊎_elim
    (λ (before : k < n).
    let fits = fits_after c k s (λ j small. out.room j (omega (arith, small, before))) in
    let ended : c.machine.ending (after c.machine k s) ≡ Some e = sym (ap (ending_in c) fits) ∙ stopped in
    let long : n ≡ k + (n - k) = omega (arith, before) in
    let last : after c.machine n s ≡ after c.machine k s =
    ap (λ j. after c.machine j s) long
    ∙ (after-add c.machine k (n - k) s ∙ after_end c.machine lawful (n - k) (after c.machine k s) e ended)
    in
    let never : e ≡ c.full = absurd (none-some e (sym out.goes ∙ (ap c.machine.ending last ∙ ended))) in never)
    (λ (past : n ≤ k). same_Some e c.full (sym stopped ∙ ap (ending_in c) (full_from c n k s out past)))
    (cases_lt k n)

pub with_a_stop : {S T : Type 0} (c : Confined S) (other : Machine T) (s : S) (t : T) (n : ℕ) → Lawful c.machine
    → RunsOut c s n → SameRuns (in_heap c) other (look c s) t → StopsFull c other s t n
with_a_stop c other s t n lawful out same =
    record {
      shows = λ k low. let r = same.shows k in (r.0, r.1 ∙ trace_till c n s out k low);
      shown = λ m. let r = same.shown m in full_shown c other s t n m out r.0 r.1;
      stops =
          let r = same.ends n c.full (ap (ending_in c) (full_at c n s out)) in
          (r.0, record { stopped = r.1.stopped; shown = r.1.shown ∙ trace_till c n s out n (omega arith) });
      only = λ m e h. let r = same.ended m e h in only_full c lawful s n out r.0 e r.1.stopped;
    }

-- Machines in step

-- machines that look the same after each number of steps have the same runs
pub same_by_step : {S T : Type 0} (one : Machine S) (other : Machine T) (s : S) (t : T)
    → ((n : ℕ) → other.trace (after other n t) ≡ one.trace (after one n s))
    → ((n : ℕ) → other.ending (after other n t) ≡ one.ending (after one n s))
    → SameRuns one other s t
same_by_step one other s t trace ending =
    record {
      shows = λ n. (n, trace n);
      shown = λ m. (m, sym (trace m));
      ends = λ n e h. (n, record { stopped = ending n ∙ h; shown = trace n });
      ended = λ m e h. (m, record { stopped = sym (ending m) ∙ h; shown = sym (trace m) });
    }

-- both have the states after so many steps, and have room or have stopped for storage alike
abbrev Paired : {S T : Type 0} → Confined S → Confined T → S → T → ℕ → InHeap S → InHeap T → Type 0
Paired one other s t n x y =
    ((x ≡ Fits (after one.machine n s)) × (y ≡ Fits (after other.machine n t)))
    ⊎ ((k : ℕ) × (x ≡ Full (after one.machine k s)) × (y ≡ Full (after other.machine k t)))

look_pair : {S T : Type 0} (one : Confined S) (other : Confined T) (s : S) (t : T) → InStep one other s t → (n : ℕ)
    → Paired one other s t n (look one (after one.machine n s)) (look other (after other.machine n t))
look_pair {S = S} {T = T} one other s t step n =
    subst (Paired one other s t n (look one here)) (sym same)
    (by (one.machine.ending here) (nat_le (one.bytes here) one.heap))
  where
    here : S
    here = after one.machine n s

    there : T
    there = after other.machine n t

    same : look other there ≡ looked_at (one.machine.ending here) (nat_le (one.bytes here) one.heap) there
    same =
        ap (λ o. looked_at o (nat_le (other.bytes there) other.heap) there) (step.ending n)
        ∙ (ap (λ b. looked_at (one.machine.ending here) (nat_le b other.heap) there) (step.bytes n)
        ∙ ap (λ h. looked_at (one.machine.ending here) (nat_le (one.bytes here) h) there) step.heap)

    by : (o : Option Ending) (b : Bool) → Paired one other s t n (looked_at o b here) (looked_at o b there)
    by (Some e) b = inl (refl, refl)
    by None true = inl (refl, refl)
    by None false = inr (n, refl, refl)

after_last : {S : Type 0} (machine : Machine S) (n : ℕ) (s : S) → after machine (suc n) s ≡ machine.step (after machine n s)
after_last machine zero s = refl
after_last machine (suc n) s = after_last machine n (machine.step s)

pairs : {S T : Type 0} (one : Confined S) (other : Confined T) (s : S) (t : T) → InStep one other s t → (n : ℕ)
    → Paired one other s t n (after (in_heap one) n (look one s)) (after (in_heap other) n (look other t))
pairs one other s t step zero = look_pair one other s t step 0
pairs one other s t step (suc n) =
    subst (λ x. Paired one other s t (suc n) x (after (in_heap other) (suc n) (look other t)))
    (sym (after_last (in_heap one) n (look one s)))
    (subst (λ y. Paired one other s t (suc n) (step_in one (after (in_heap one) n (look one s))) y)
    (sym (after_last (in_heap other) n (look other t)))
    (⊎_elim
    (λ (fit : (after (in_heap one) n (look one s) ≡ Fits (after one.machine n s)) × (after (in_heap other) n (look other t) ≡ Fits (after other.machine n t))).
    let x : step_in one (after (in_heap one) n (look one s)) ≡ look one (after one.machine (suc n) s) =
    ap (step_in one) fit.0 ∙ ap (look one) (sym (after_last one.machine n s))
    in
    let y : step_in other (after (in_heap other) n (look other t)) ≡ look other (after other.machine (suc n) t) =
    ap (step_in other) fit.1 ∙ ap (look other) (sym (after_last other.machine n t))
    in
    subst (λ x. Paired one other s t (suc n) x (step_in other (after (in_heap other) n (look other t)))) (sym x)
    (subst (Paired one other s t (suc n) (look one (after one.machine (suc n) s))) (sym y)
    (look_pair one other s t step (suc n))))
    (λ (full : (k : ℕ) × (after (in_heap one) n (look one s) ≡ Full (after one.machine k s)) × (after (in_heap other) n (look other t) ≡ Full (after other.machine k t))).
    let stopped : Paired one other s t (suc n) (step_in one (after (in_heap one) n (look one s))) (step_in other (after (in_heap other) n (look other t))) =
    inr (full.0, ap (step_in one) full.1, ap (step_in other) full.2)
    in stopped)
    (pairs one other s t step n)))

-- what is seen of both alike where both have room and where both are full is seen of both alike throughout
seen_alike : {S T A : Type 0} (one : Confined S) (other : Confined T) (s : S) (t : T) → InStep one other s t
    → (f : InHeap S → A) (g : InHeap T → A)
    → ((k : ℕ) → g (Fits (after other.machine k t)) ≡ f (Fits (after one.machine k s)))
    → ((k : ℕ) → g (Full (after other.machine k t)) ≡ f (Full (after one.machine k s)))
    → (n : ℕ) → g (after (in_heap other) n (look other t)) ≡ f (after (in_heap one) n (look one s))
seen_alike one other s t step f g room none n =
    ⊎_elim
    (λ (fit : (after (in_heap one) n (look one s) ≡ Fits (after one.machine n s)) × (after (in_heap other) n (look other t) ≡ Fits (after other.machine n t))).
    ap g fit.1 ∙ (room n ∙ ap f (sym fit.0)))
    (λ (full : (k : ℕ) × (after (in_heap one) n (look one s) ≡ Full (after one.machine k s)) × (after (in_heap other) n (look other t) ≡ Full (after other.machine k t))).
    ap g full.2 ∙ (none full.0 ∙ ap f (sym full.1)))
    (pairs one other s t step n)

pub in_step : {S T : Type 0} (one : Confined S) (other : Confined T) (s : S) (t : T) → InStep one other s t
    → SameRuns (in_heap one) (in_heap other) (look one s) (look other t)
in_step one other s t step =
    same_by_step (in_heap one) (in_heap other) (look one s) (look other t)
    (seen_alike one other s t step (trace_in one) (trace_in other) step.trace step.trace)
    (seen_alike one other s t step (ending_in one) (ending_in other) step.ending (λ k. ap Some step.full))
