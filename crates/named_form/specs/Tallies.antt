-- What a walk over a program counts, and the calls that it finds.
use Rattle.std.specs.Prelude.{ℕ, ◌+◌, ◌-◌, ◌||◌, List, [], ◌∷◌, ◌++◌, length, replicate, Bool, true, false}
use Rattle.scheme_base.specs.declared.place.Mark.TheVariants.{Global}
use Rattle.scheme_base.specs.declared.pos.Pos.{Pos}
use Rattle.named_form.specs.declared.plan.Plan.{Plan}
use Rattle.named_form.specs.declared.plan.Repr.TheVariants.{Tagged}
use Rattle.named_form.specs.declared.tally.Tally.{Tally}
use Rattle.named_form.specs.Code.{Code, Ends, Then, Act, If, Written, in_tail, sites_of, arms_of, is_callcc, option_list}
use Rattle.named_form.specs.PlainPlan.{capturing, used, waits}
use Rattle.named_form.specs.Valid.{numbers_from}

-- a step is met, its arms aside
abbrev pub met_step : (tail : Bool) → (vars : List ℕ) → Act Pos → Tally → Tally
met_step tail vars act t =
    record {
      steps = t.steps + 1;
      sites = t.sites + sites_of act;
      blocks = t.blocks + arms_of act;
      vars = t.vars + length vars;
      recording = t.recording ++ waits tail vars act;
      captures = t.captures || is_callcc act;
    }

abbrev mutual
  -- a block is met, which is in tail position or not
  pub met_code : (tail : Bool) → Code Pos → Tally → Tally
  met_code tail (Ends value) t = t
  met_code tail (Then pos vars act rest) t =
      met_code tail rest (met_arms (in_tail tail rest vars) act (met_step (in_tail tail rest vars) vars act t))

  pub met_arms : (tail : Bool) → Act Pos → Tally → Tally
  met_arms tail (If test this that) t = met_code tail that (met_code tail this t)
  met_arms tail act t = t

-- a procedure is met: its rest list, what it binds, and its body
abbrev pub met_proc : Written → Tally → Tally
met_proc p t =
    met_code true p.body
    (record t {
      sites = t.sites + length (option_list p.rest);
      blocks = t.blocks + 1;
      vars = t.vars + (length p.params + length (option_list p.rest));
    })

abbrev pub met_all : List Written → Tally → Tally
met_all [] t = t
met_all (p ∷ ps) t = met_all ps (met_proc p t)

-- where each procedure is met, so many variables are met before it
abbrev pub vars_before : List Written → Tally → List ℕ
vars_before [] t = []
vars_before (p ∷ ps) t = t.vars ∷ vars_before ps (met_proc p t)

-- before any procedure is met, the closures of so many have sites
abbrev pub started : (closures : ℕ) → Tally
started n = record { steps = 0; sites = n; blocks = 0; vars = 0; recording = []; captures = false }

-- the plain plan of what has been met, where so many procedures keep these variables
abbrev pub planned : Tally → (kept : List (List ℕ)) → (procs : ℕ) → Plan
planned t kept procs =
    record {
      capturing = capturing t.captures procs t.recording;
      slots = record { kept = kept; fictitious = []; global = []; compared = numbers_from 1 (procs - 1) };
      marks = replicate t.sites Global;
      reprs =
          record {
            vars = replicate t.vars Tagged;
            blocks = replicate t.blocks true;
            steps = replicate t.steps used;
          };
    }
