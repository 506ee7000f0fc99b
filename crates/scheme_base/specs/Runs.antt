-- Runs of machines, and when two of them are the same to everybody outside.
use Rattle.std.specs.Prelude.{ℕ, zero, suc, ◌≤◌, ◌≡◌, ◌⊎◌, List, ◌∷◌, ◌++◌, length, Option, Some}
use Rattle.scheme_base.specs.Outside.{Event, Ending, written}

-- A machine over states S. Its trace has the calls on channels 0 and 1, the newest first; a state that
-- has an ending has stopped.
pub record Machine (S : Type 0) : Type 0 where
  pub step : S → S
  pub trace : S → List Event
  pub ending : S → Option Ending

-- the state after n steps
abbrev pub after : {S : Type 0} → Machine S → ℕ → S → S
after machine zero s = s
after machine (suc n) s = after machine n (machine.step s)

-- a trace has grown by one call at most
abbrev pub GrowsByOne : (before now : List Event) → Type 0
GrowsByOne before now = (now ≡ before) ⊎ ((e : Event) × (now ≡ e ∷ before))

-- a machine that stays where it has stopped, and makes one call a step at most
pub record Lawful {S : Type 0} (machine : Machine S) : Type 0 where
  pub stays : (s : S) (e : Ending) → machine.ending s ≡ Some e → machine.step s ≡ s
  pub grows : (s : S) → GrowsByOne (machine.trace s) (machine.trace (machine.step s))

-- what was written has got so many bytes more at its end
pub record WritesMore (most : ℕ) (before now : List Event) : Type 0 where
  pub more : List ℕ
  pub whole : written now ≡ written before ++ more
  pub few : length more ≤ most

-- a state has stopped with this ending and this trace
pub record HasEnded {S : Type 0} (machine : Machine S) (s : S) (e : Ending) (calls : List Event) : Type 0 where
  pub stopped : machine.ending s ≡ Some e
  pub shown : machine.trace s ≡ calls

-- Two runs, one from the state s and one from the state t, are the same from outside: each comes to
-- every trace that the other comes to, and each ends where and as the other ends, then with equal traces.
pub record SameRuns {S T : Type 0} (one : Machine S) (other : Machine T) (s : S) (t : T) : Type 0 where
  pub shows : (n : ℕ) → (m : ℕ) × (other.trace (after other m t) ≡ one.trace (after one n s))
  pub shown : (m : ℕ) → (n : ℕ) × (one.trace (after one n s) ≡ other.trace (after other m t))
  pub ends :
      (n : ℕ) (e : Ending) → one.ending (after one n s) ≡ Some e
      → (m : ℕ) × HasEnded other (after other m t) e (one.trace (after one n s))
  pub ended :
      (m : ℕ) (e : Ending) → other.ending (after other m t) ≡ Some e
      → (n : ℕ) × HasEnded one (after one n s) e (other.trace (after other m t))
