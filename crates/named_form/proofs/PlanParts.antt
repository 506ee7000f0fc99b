-- Plans for small programs, and what of a valid plan fails first in a run.
use Rattle.std.proofs.Common.{◌≡◌, ℕ, zero, suc, List, [], ◌∷◌, ◌++◌}
use Rattle.std.specs.Prelude.{Bool, true, false, ◌&&◌, not, map, replicate, length, slice_get}
use Rattle.std.specs.List.{flat_map}
use Rattle.scheme_base.specs.declared.lit.Lit.{Lit}
use Rattle.scheme_base.specs.declared.place.Mark.{Mark}
use Rattle.named_form.specs.declared.plan.Plan.{Plan}
use Rattle.named_form.specs.declared.plan.Repr.{Repr}
use Rattle.named_form.specs.declared.plan.Repr.TheVariants.{Nothing, Raw, Tagged}
use Rattle.named_form.specs.declared.plan.StepUse.{StepUse}
use Rattle.named_form.specs.Code.{Written, Program, program, bound_in, totals}
use Rattle.named_form.specs.NamedRun.{State, start, step}
use Rattle.named_form.specs.Storage.{open_bytes, is_fictitious}
use Rattle.named_form.specs.ValidPlan.{At, at, body_reached, kept_free, globals_own, repr_of, reached, fictions, homes, pointers, lists, checks, bare, quiet_calls, captured_global, capture_modes, capture_entries, capture_tails, compared}
use Rattle.scheme_base.proofs.Fixtures.{quiet}
use Rattle.named_form.proofs.Programs.{state}

abbrev pub used : StepUse
used = record { reached = true; checked = true }

-- a plan of a program in which all is reached and checked, nothing captures or is compared, and each variable
-- has a place in its frame
abbrev pub plan : List Written → (kept : List (List ℕ)) → List Mark → Plan
plan ps kept marks =
    record {
      capturing = record { procs = []; recording = [] };
      slots = record { kept = kept; fictitious = []; global = []; compared = [] };
      marks = marks;
      reprs =
          record {
            vars = replicate (length (flat_map bound_in ps)) Tagged;
            blocks = replicate (totals ps).blocks true;
            steps = replicate (totals ps).steps used;
          };
    }

-- open storage after so many steps
abbrev held : Plan → List Written → List Lit → ℕ → ℕ
held plan procs lits n = open_bytes plan (program procs lits) (state procs lits quiet n)

-- the parts of a valid plan: those that are looked at once, and those that are looked at in each state
pub data Part : Type 0 where
  Begun : Part
  KeptFree : Part
  GlobalsOwn : Part
  HeldOrNot : Part
  Reached : Part
  Fictions : Part
  Homes : Part
  Pointers : Part
  Lists : Part
  Checks : Part
  Bare : Part
  QuietCalls : Part
  CapturedGlobal : Part
  CaptureModes : Part
  CaptureEntries : Part
  CaptureTails : Part
  Compared : Part

abbrev fails_by : Bool → Part → List Part → List Part
fails_by true part parts = parts
fails_by false part parts = part ∷ parts

abbrev stated_or_held : Repr → (fictitious : Bool) → Bool
stated_or_held Nothing fictitious = fictitious
stated_or_held Raw fictitious = not fictitious
stated_or_held Tagged fictitious = not fictitious

-- what a variable is held as, where nothing is to be held exactly where its value is stated
abbrev held_or_not : Plan → List ℕ → Bool
held_or_not plan [] = true
held_or_not plan (x ∷ xs) = stated_or_held (repr_of plan x) (is_fictitious plan x) && held_or_not plan xs

-- the parts that fail of those that are looked at once
abbrev failing_once : Plan → List Written → Program → List Part
failing_once plan ps p =
    fails_by (body_reached plan (slice_get p.procs 0)) Begun
    (fails_by (kept_free plan p) KeptFree
    (fails_by (globals_own plan p) GlobalsOwn
    (fails_by (held_or_not plan (flat_map bound_in ps)) HeldOrNot [])))

-- the parts that fail in a state
abbrev failing : At → List Part
failing a =
    fails_by (reached a) Reached
    (fails_by (fictions a) Fictions
    (fails_by (homes a) Homes
    (fails_by (pointers a) Pointers
    (fails_by (lists a) Lists
    (fails_by (checks a) Checks
    (fails_by (bare a) Bare
    (fails_by (quiet_calls a) QuietCalls
    (fails_by (captured_global a) CapturedGlobal
    (fails_by (capture_modes a) CaptureModes
    (fails_by (capture_entries a) CaptureEntries
    (fails_by (capture_tails a) CaptureTails
    (fails_by (compared a) Compared []))))))))))))

abbrev first_of_two : List Part → List Part → List Part
first_of_two [] parts = parts
first_of_two (p ∷ ps) parts = p ∷ ps

abbrev fails_within : ℕ → Plan → Program → State → List Part
fails_within zero plan p s = failing (at plan p quiet s)
fails_within (suc n) plan p s =
    first_of_two (failing (at plan p quiet s)) (fails_within n plan p (step p quiet s))

-- the parts that fail, of those that are looked at once and in the first state in which one does, of so many steps
abbrev pub fails : Plan → List Written → List Lit → ℕ → List Part
fails plan procs lits n =
    let p = program procs lits in failing_once plan procs p ++ fails_within n plan p (start p quiet)

-- open storage has so many bytes after each of these numbers of steps, and no part fails up to the last number
abbrev pub Holds : Plan → List Written → List Lit → (steps bytes : List ℕ) → ℕ → Type 0
Holds plan procs lits steps bytes n = (map (held plan procs lits) steps ≡ bytes) × (fails plan procs lits n ≡ [])
