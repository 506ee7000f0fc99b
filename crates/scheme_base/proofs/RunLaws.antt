-- Runs that are the same compose, and what a lawful machine has written only grows.
use Rattle.std.proofs.Common.{ℕ, zero, suc, List, [], ◌∷◌, ◌++◌, inl, inr, refl, sym, ap, subst, ◌∙◌, arith, append_assoc, append-nil, length-append}
use Rattle.scheme_base.specs.Outside.{Event, Wrote, written}
use Rattle.scheme_base.specs.Runs.{Machine, after, GrowsByOne, Lawful, WritesMore, SameRuns}

-- Runs

pub runs_compose : {S T U : Type 0} (one : Machine S) (two : Machine T) (three : Machine U) (s : S) (t : T) (u : U)
    → SameRuns one two s t → SameRuns two three t u → SameRuns one three s u
runs_compose one two three s t u first second =
    record {
      shows = λ n.
          let a = first.shows n in
          let b = second.shows a.0 in (b.0, b.1 ∙ a.1);
      shown = λ m.
          let b = second.shown m in
          let a = first.shown b.0 in (a.0, a.1 ∙ b.1);
      ends = λ n e stopped.
          let a = first.ends n e stopped in
          let b = second.ends a.0 e a.1.stopped in
          (b.0, record { stopped = b.1.stopped; shown = b.1.shown ∙ a.1.shown });
      ended = λ m e stopped.
          let b = second.ended m e stopped in
          let a = first.ended b.0 e b.1.stopped in
          (a.0, record { stopped = a.1.stopped; shown = a.1.shown ∙ b.1.shown });
    }

pub runs_turn : {S T : Type 0} (one : Machine S) (other : Machine T) (s : S) (t : T)
    → SameRuns one other s t → SameRuns other one t s
runs_turn one other s t same =
    record { shows = same.shown; shown = same.shows; ends = same.ended; ended = same.ends }

-- What was written

one_call : (before : List Event) (e : Event) → WritesMore 1 before (e ∷ before)
one_call before (Wrote byte) = record { more = byte ∷ []; whole = refl; few = omega arith }
one_call before e = record { more = []; whole = sym (append-nil (written before)); few = omega arith }

one_step : (before now : List Event) → GrowsByOne before now → WritesMore 1 before now
one_step before now (inl same) =
    record { more = []; whole = ap written same ∙ sym (append-nil (written before)); few = omega arith }
one_step before now (inr (e, more)) = subst (WritesMore 1 before) (sym more) (one_call before e)

pub writes_more : {S : Type 0} (machine : Machine S) → Lawful machine → (n : ℕ) (s : S)
    → WritesMore n (machine.trace s) (machine.trace (after machine n s))
writes_more machine lawful zero s =
    record { more = []; whole = sym (append-nil (written (machine.trace s))); few = omega arith }
writes_more machine lawful (suc n) s =
    let first = one_step (machine.trace s) (machine.trace (machine.step s)) (lawful.grows s) in
    let rest = writes_more machine lawful n (machine.step s) in
    let long = length-append first.more rest.more in
    record {
      more = first.more ++ rest.more;
      whole =
          rest.whole
          ∙ (ap (λ bytes. bytes ++ rest.more) first.whole
          ∙ append_assoc (written (machine.trace s)) first.more rest.more);
      few = omega (arith, long, first.few, rest.few);
    }
