-- Small programs and their flat programs, run side by side: the same bytes state by state, the same calls and
-- the same stop. Each flat program is valid.
--
-- They refuse a flat machine or a `flat_of` that counts or goes otherwise: `tail` a tail call that leaves a
-- frame, `waiting` local objects that end while their activation waits, `box` boxes that are not put back,
-- `closure` closures that keep other values, `record` records that take nothing and continuations that come
-- back to another point, `place` cells that are slots, `short` static closures that are made.
use Rattle.std.proofs.Common.{◌≡◌, ℕ, zero, suc, List, [], ◌∷◌, length, map, Option, not, refl}
use Rattle.scheme_base.specs.declared.lit.Lit.{Lit}
use Rattle.scheme_base.specs.Outside.{Event}
use Rattle.scheme_base.specs.Stops.{Stop}
use Rattle.flat_form.specs.FlatCode as flat
use Rattle.flat_form.specs.FlatRun as flat_run
use Rattle.flat_form.specs.FlatStorage as flat_storage
use Rattle.flat_form.specs.FlatValid.{IsValid}
use Rattle.named_form.specs.declared.plan.Plan.{Plan}
use Rattle.named_form.specs.Code.{Written, Program, program}
use Rattle.named_form.specs.NamedRun.{State, start, step, trace_of}
use Rattle.named_form.specs.Storage.{open_bytes, is_static}
use Rattle.named_form.specs.Valid.{numbers_from}
use Rattle.scheme_base.proofs.Fixtures.{quiet}
use Rattle.named_form.proofs.StorageHeld.{frames_procs, frames_lits, frames_plan, short_plan, place_plan, tail_procs, tail_lits, tail_plan, pair_procs, pair_lits, local_plan, global_plan, waiting_procs, waiting_plan, rest_procs, rest_lits, rest_plan, box_procs, box_lits, box_plan, closure_procs, closure_lits, closure_plan, record_procs, record_lits, record_plan}
use Rattle.closure_conv.specs.FlatOf.{flat_of}

-- what is seen of a run: the bytes of each state, and the calls and the stop of the last
pub record Shown : Type 0 where
  pub bytes : List ℕ
  pub trace : List Event
  pub stop : Option Stop

abbrev more : ℕ → Shown → Shown
more n shown = record shown { bytes = n ∷ shown.bytes }

abbrev named_shown : ℕ → Plan → Program → State → Shown
named_shown zero plan p s = record { bytes = open_bytes plan p s ∷ []; trace = trace_of s; stop = s.stop }
named_shown (suc n) plan p s = more (open_bytes plan p s) (named_shown n plan p (step p quiet s))

abbrev flat_shown : ℕ → flat.Program → flat_run.State → Shown
flat_shown zero p s =
    record { bytes = flat_storage.open_bytes p s ∷ []; trace = flat_run.trace_of s; stop = s.stop }
flat_shown (suc n) p s = more (flat_storage.open_bytes p s) (flat_shown n p (flat_run.step p quiet s))

-- the flat program of a program with five top-level variables at most
abbrev flattened : Plan → List Written → List Lit → flat.Program
flattened plan ps lits = flat_of plan 5 (program ps lits)

-- both show the same, over so many steps
abbrev Alike : Plan → List Written → List Lit → ℕ → Type 0
Alike plan ps lits n =
    named_shown n plan (program ps lits) (start (program ps lits) quiet)
    ≡ flat_shown n (flattened plan ps lits) (flat_run.start (flattened plan ps lits) quiet)

frames : Alike frames_plan frames_procs frames_lits 20
frames = refl

short : Alike short_plan frames_procs frames_lits 20
short = refl

place : Alike place_plan frames_procs frames_lits 20
place = refl

tail : Alike tail_plan tail_procs tail_lits 20
tail = refl

local : Alike local_plan pair_procs pair_lits 20
local = refl

global : Alike global_plan pair_procs pair_lits 20
global = refl

waiting : Alike waiting_plan waiting_procs pair_lits 20
waiting = refl

rest_list : Alike rest_plan rest_procs rest_lits 20
rest_list = refl

boxes : Alike box_plan box_procs box_lits 20
boxes = refl

closures : Alike closure_plan closure_procs closure_lits 20
closures = refl

records : Alike record_plan record_procs record_lits 40
records = refl

-- how many values closures keep, and whether steps make them
abbrev valid_by : Plan → List Written → List Lit → Type 0
valid_by plan ps lits = IsValid (flattened plan ps lits)

frames_valid : valid_by frames_plan frames_procs frames_lits
frames_valid =
    record {
      keeps = map length frames_plan.slots.kept;
      made = map (λ q. not (is_static frames_plan q)) (numbers_from 0 (length frames_procs));
      procedures = refl;
    }

place_valid : valid_by place_plan frames_procs frames_lits
place_valid =
    record {
      keeps = map length place_plan.slots.kept;
      made = map (λ q. not (is_static place_plan q)) (numbers_from 0 (length frames_procs));
      procedures = refl;
    }

closures_valid : valid_by closure_plan closure_procs closure_lits
closures_valid =
    record {
      keeps = map length closure_plan.slots.kept;
      made = map (λ q. not (is_static closure_plan q)) (numbers_from 0 (length closure_procs));
      procedures = refl;
    }

records_valid : valid_by record_plan record_procs record_lits
records_valid =
    record {
      keeps = map length record_plan.slots.kept;
      made = map (λ q. not (is_static record_plan q)) (numbers_from 0 (length record_procs));
      procedures = refl;
    }
