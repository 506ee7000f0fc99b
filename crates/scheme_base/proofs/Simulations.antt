-- A simulation in one direction gives the same runs in both.
--
-- Whoever compares two machines shows that they meet ever later: for each n both have states, at n steps
-- or more, that look the same. `same_runs` makes of it that each trace and each ending of one machine is
-- one of the other's; no state in between is ever looked at, since a trace grows by one call at most.
-- `meets_by_turns` and `turn_by_measure` show the premise from a relation between states.
use Rattle.std.proofs.Common.{ℕ, zero, suc, ◌+◌, ◌-◌, ◌<◌, ◌≤◌, ◌≡◌, refl, sym, ap, subst, ◌∙◌, List, [], ◌∷◌, ◌++◌, length, drop, Some, ◌⊎◌, arith, zero-add, suc-add, eq-or-lt_of_le, append_assoc, length-append, ⊎_elim}
use Rattle.std.proofs.Math.Seq.{drop-append_seam}
use Rattle.scheme_base.specs.Outside.{Event, Ending}
use Rattle.scheme_base.specs.Runs.{Machine, after, Lawful, HasEnded, SameRuns}

-- both machines have, at n steps or more, states that look the same
pub record Meets {S T : Type 0} (one : Machine S) (other : Machine T) (s : S) (t : T) (n : ℕ) : Type 0 where
  pub here : ℕ
  pub there : ℕ
  pub far_here : n ≤ here
  pub far_there : n ≤ there
  pub trace : other.trace (after other there t) ≡ one.trace (after one here s)
  pub ending : other.ending (after other there t) ≡ one.ending (after one here s)

-- a list is the end of another
pub record IsEndOf (short long : List Event) : Type 0 where
  pub front : List Event
  pub whole : long ≡ front ++ short

-- Steps

pub after-add : {S : Type 0} (machine : Machine S) (m n : ℕ) (s : S)
    → after machine (m + n) s ≡ after machine n (after machine m s)
after-add machine zero n s = ap (λ k. after machine k s) (zero-add n)
after-add machine (suc m) n s =
    ap (λ k. after machine k s) (suc-add m n) ∙ after-add machine m n (machine.step s)

after_from : {S : Type 0} (machine : Machine S) (n far : ℕ) (s : S) → n ≤ far
    → after machine far s ≡ after machine (far - n) (after machine n s)
after_from machine n far s later =
    let e : far ≡ n + (far - n) = omega arith in
    ap (λ k. after machine k s) e ∙ after-add machine n (far - n) s

-- a stopped machine stays where it is
pub after_end : {S : Type 0} (machine : Machine S) → Lawful machine
    → (n : ℕ) (s : S) (e : Ending) → machine.ending s ≡ Some e → after machine n s ≡ s
after_end machine lawful zero s e h = refl
after_end machine lawful (suc n) s e h =
    ap (after machine n) (lawful.stays s e h) ∙ after_end machine lawful n s e h

-- Traces

-- after any number of steps the trace ends with the one before
pub after_grows : {S : Type 0} (machine : Machine S) → Lawful machine
    → (n : ℕ) (s : S) → IsEndOf (machine.trace s) (machine.trace (after machine n s))
after_grows machine lawful zero s = record { front = []; whole = refl }
after_grows machine lawful (suc n) s =
    let rest = after_grows machine lawful n (machine.step s) in
    ⊎_elim
    (λ (same : machine.trace (machine.step s) ≡ machine.trace s).
    let grown : IsEndOf (machine.trace s) (machine.trace (after machine n (machine.step s))) =
    record { front = rest.front; whole = rest.whole ∙ ap (λ t. rest.front ++ t) same }
    in grown)
    (λ (more : (e : Event) × (machine.trace (machine.step s) ≡ e ∷ machine.trace s)).
    let grown : IsEndOf (machine.trace s) (machine.trace (after machine n (machine.step s))) =
    record {
      front = rest.front ++ more.0 ∷ [];
      whole =
          rest.whole
          ∙ (ap (λ t. rest.front ++ t) more.1
          ∙ sym (append_assoc rest.front (more.0 ∷ []) (machine.trace s)));
    }
    in grown)
    (lawful.grows s)

length-end : (short long : List Event) → IsEndOf short long → length short ≤ length long
length-end short long end =
    let e : length long ≡ length end.front + length short =
    ap length end.whole ∙ length-append end.front short
    in omega arith

-- two ends of one list that are equally long are equal
ends_alike : (a b long : List Event) → IsEndOf a long → IsEndOf b long → length a ≡ length b → a ≡ b
ends_alike a b long x y same =
    let one : length long ≡ length x.front + length a = ap length x.whole ∙ length-append x.front a in
    let two : length long ≡ length y.front + length b = ap length y.whole ∙ length-append y.front b in
    let fronts : length x.front ≡ length y.front = omega arith in
    sym (drop-append_seam x.front a)
    ∙ (ap (drop (length x.front)) (sym x.whole ∙ y.whole)
    ∙ (ap (λ k. drop k (y.front ++ b)) fronts ∙ drop-append_seam y.front b))

-- a trace passes through every length on its way
some_step : {S : Type 0} (machine : Machine S) → Lawful machine
    → (n : ℕ) (s : S) (size : ℕ) → length (machine.trace s) ≤ size
    → size ≤ length (machine.trace (after machine n s))
    → (m : ℕ) × (m ≤ n) × (length (machine.trace (after machine m s)) ≡ size)
some_step machine lawful zero s size low high = (0, omega arith, omega arith)
some_step machine lawful (suc n) s size low high =
    let later = λ (h : length (machine.trace (machine.step s)) ≤ size).
    some_step machine lawful n (machine.step s) size h high
    in
    let step : length (machine.trace (machine.step s)) ≤ length (machine.trace s) + 1 =
    ⊎_elim
    (λ (same : machine.trace (machine.step s) ≡ machine.trace s).
    let e : length (machine.trace (machine.step s)) ≡ length (machine.trace s) = ap length same in
    let l : length (machine.trace (machine.step s)) ≤ length (machine.trace s) + 1 = omega arith in l)
    (λ (more : (e : Event) × (machine.trace (machine.step s) ≡ e ∷ machine.trace s)).
    let e : length (machine.trace (machine.step s)) ≡ suc (length (machine.trace s)) =
    ap length more.1
    in
    let l : length (machine.trace (machine.step s)) ≤ length (machine.trace s) + 1 = omega arith in l)
    (lawful.grows s)
    in
    ⊎_elim
    (λ (here : length (machine.trace s) ≡ size).
    let found : (m : ℕ) × (m ≤ suc n) × (length (machine.trace (after machine m s)) ≡ size) =
    (0, omega arith, here)
    in found)
    (λ (below : length (machine.trace s) < size).
    let found : (m : ℕ) × (m ≤ suc n) × (length (machine.trace (after machine m s)) ≡ size) =
    let r = later (omega (arith, step)) in (suc r.0, omega (arith, r.1), r.2)
    in found)
    (eq-or-lt_of_le low)

-- Both directions

turned : {S T : Type 0} (one : Machine S) (other : Machine T) (s : S) (t : T) (n : ℕ)
    → Meets one other s t n → Meets other one t s n
turned one other s t n meets =
    record {
      here = meets.there;
      there = meets.here;
      far_here = meets.far_there;
      far_there = meets.far_here;
      trace = sym meets.trace;
      ending = sym meets.ending;
    }

shows_trace : {S T : Type 0} (one : Machine S) (other : Machine T) → Lawful one → Lawful other
    → (s : S) (t : T) → other.trace t ≡ one.trace s → (n : ℕ) → Meets one other s t n
    → (m : ℕ) × (other.trace (after other m t) ≡ one.trace (after one n s))
shows_trace one other lawful_one lawful_other s t start n meets =
    let moved : after one meets.here s ≡ after one (meets.here - n) (after one n s) =
    after_from one n meets.here s meets.far_here
    in
    let grown = after_grows one lawful_one (meets.here - n) (after one n s) in
    let end_one : IsEndOf (one.trace (after one n s)) (other.trace (after other meets.there t)) =
    record { front = grown.front; whole = meets.trace ∙ (ap one.trace moved ∙ grown.whole) }
    in
    let low : length (one.trace s) ≤ length (one.trace (after one n s)) =
    length-end _ _ (after_grows one lawful_one n s)
    in
    let same : length (other.trace t) ≡ length (one.trace s) = ap length start in
    let found =
    some_step other lawful_other meets.there t (length (one.trace (after one n s)))
    (omega arith)
    (length-end _ _ end_one)
    in
    let rest : after other meets.there t ≡ after other (meets.there - found.0) (after other found.0 t) =
    after_from other found.0 meets.there t found.1
    in
    let more = after_grows other lawful_other (meets.there - found.0) (after other found.0 t) in
    let end_other : IsEndOf (other.trace (after other found.0 t)) (other.trace (after other meets.there t)) =
    record { front = more.front; whole = ap other.trace rest ∙ more.whole }
    in
    (found.0, ends_alike _ _ _ end_other end_one found.2)

ends_too : {S T : Type 0} (one : Machine S) (other : Machine T) → Lawful one
    → (s : S) (t : T) (n : ℕ) → Meets one other s t n
    → (e : Ending) → one.ending (after one n s) ≡ Some e
    → (m : ℕ) × HasEnded other (after other m t) e (one.trace (after one n s))
ends_too one other lawful s t n meets e stopped =
    let stays : after one meets.here s ≡ after one n s =
    after_from one n meets.here s meets.far_here
    ∙ after_end one lawful (meets.here - n) (after one n s) e stopped
    in (
      meets.there,
      record {
        stopped = meets.ending ∙ (ap one.ending stays ∙ stopped);
        shown = meets.trace ∙ ap one.trace stays;
      },
    )

-- machines that meet ever later have the same runs
pub same_runs : {S T : Type 0} (one : Machine S) (other : Machine T) → Lawful one → Lawful other
    → (s : S) (t : T) → other.trace t ≡ one.trace s → ((n : ℕ) → Meets one other s t n)
    → SameRuns one other s t
same_runs one other lawful_one lawful_other s t start meets =
    record {
      shows = λ n. shows_trace one other lawful_one lawful_other s t start n (meets n);
      shown =
          λ m.
          shows_trace other one lawful_other lawful_one t s (sym start) m
          (turned one other s t m (meets m));
      ends = λ n e stopped. ends_too one other lawful_one s t n (meets n) e stopped;
      ended =
          λ m e stopped.
          ends_too other one lawful_other t s m (turned one other s t m (meets m)) e stopped;
    }

-- The premise, from a relation between states

-- related states look the same
pub record LooksAlike {S T : Type 0} (one : Machine S) (other : Machine T) (s : S) (t : T) : Type 0 where
  pub trace : other.trace t ≡ one.trace s
  pub ending : other.ending t ≡ one.ending s

-- some steps of both machines, one at least of each, lead to related states
pub record Turn {S T : Type 0} (one : Machine S) (other : Machine T) (R : S → T → Type 0) (s : S) (t : T) : Type 0 where
  pub here : ℕ
  pub there : ℕ
  pub related : R (after one (suc here) s) (after other (suc there) t)

record Related {S T : Type 0} (one : Machine S) (other : Machine T) (R : S → T → Type 0) (s : S) (t : T) (n : ℕ) : Type 0 where
  here : ℕ
  there : ℕ
  far_here : n ≤ here
  far_there : n ≤ there
  related : R (after one here s) (after other there t)

related_ever : {S T : Type 0} (one : Machine S) (other : Machine T) (R : S → T → Type 0)
    → ((s : S) (t : T) → R s t → Turn one other R s t)
    → (n : ℕ) (s : S) (t : T) → R s t → Related one other R s t n
related_ever one other R turn zero s t r =
    record { here = 0; there = 0; far_here = omega arith; far_there = omega arith; related = r }
related_ever one other R turn (suc n) s t r =
    let one_turn = turn s t r in
    let rest =
    related_ever one other R turn n (after one (suc one_turn.here) s) (after other (suc one_turn.there) t)
    one_turn.related
    in
    record {
      here = suc one_turn.here + rest.here;
      there = suc one_turn.there + rest.there;
      far_here = omega (arith, rest.far_here);
      far_there = omega (arith, rest.far_there);
      related =
          subst (λ x. R x (after other (suc one_turn.there + rest.there) t))
          (sym (after-add one (suc one_turn.here) rest.here s))
          (subst (λ y. R (after one rest.here (after one (suc one_turn.here) s)) y)
          (sym (after-add other (suc one_turn.there) rest.there t))
          rest.related);
    }

-- where each related pair has a turn, machines that begin related meet ever later
pub meets_by_turns : {S T : Type 0} (one : Machine S) (other : Machine T) (R : S → T → Type 0)
    → ((s : S) (t : T) → R s t → LooksAlike one other s t)
    → ((s : S) (t : T) → R s t → Turn one other R s t)
    → (s : S) (t : T) → R s t → (n : ℕ) → Meets one other s t n
meets_by_turns one other R alike turn s t r n =
    let found = related_ever one other R turn n s t r in
    let same = alike _ _ found.related in
    record {
      here = found.here;
      there = found.there;
      far_here = found.far_here;
      far_there = found.far_there;
      trace = same.trace;
      ending = same.ending;
    }

-- One step of the first machine is followed by any number of the second's, none where the measure of the
-- first falls.
pub record Follows {S T : Type 0} (one : Machine S) (other : Machine T) (R : S → T → Type 0) (left : S → ℕ) (s : S) (t : T) : Type 0 where
  pub there : ℕ
  pub related : R (one.step s) (after other there t)
  pub moves : (1 ≤ there) ⊎ (left (one.step s) < left s)

-- a machine that idles only while a measure falls has a turn from each related pair
pub turn_by_measure : {S T : Type 0} (one : Machine S) (other : Machine T) (R : S → T → Type 0) (left : S → ℕ)
    → ((s : S) (t : T) → R s t → Follows one other R left s t)
    → (bound : ℕ) (s : S) (t : T) → R s t → left s < bound → Turn one other R s t
turn_by_measure one other R left follows zero s t r low = absurd (omega arith)
turn_by_measure one other R left follows (suc bound) s t r low =
    let step = follows s t r in
    let later = λ (falls : left (one.step s) < left s).
    turn_by_measure one other R left follows bound (one.step s) (after other step.there t) step.related
    (omega arith)
    in
    ⊎_elim
    (λ (moved : 1 ≤ step.there).
    let e : step.there ≡ suc (step.there - 1) = omega arith in
    let turn : Turn one other R s t =
    record {
      here = 0;
      there = step.there - 1;
      related = subst (λ k. R (one.step s) (after other k t)) e step.related;
    }
    in turn)
    (λ (falls : left (one.step s) < left s).
    let rest = later falls in
    let e : step.there + suc rest.there ≡ suc (step.there + rest.there) = omega arith in
    let turn : Turn one other R s t =
    record {
      here = suc rest.here;
      there = step.there + rest.there;
      related =
          subst (λ k. R (after one (suc (suc rest.here)) s) (after other k t)) e
          (subst (λ y. R (after one (suc (suc rest.here)) s) y)
          (sym (after-add other step.there (suc rest.there) t))
          rest.related);
    }
    in turn)
    step.moves
