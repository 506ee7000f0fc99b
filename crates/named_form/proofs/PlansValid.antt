-- Plans that are valid, under every environment: those of the program with a local pair, and of the program that
-- enters a record twice.
use Rattle.std.proofs.Common.{◌≡◌, ℕ, zero, suc, List, [], ◌∷◌, Bool, true, false, Some, refl, rules, subst}
use Rattle.std.specs.Prelude.{IsTrue, slice_get, replicate}
use Rattle.std.specs.List.{list_all}
use Rattle.scheme_base.specs.declared.env.Env.{Env}
use Rattle.scheme_base.specs.Operations.{item_or}
use Rattle.scheme_base.specs.Runs.{after}
use Rattle.named_form.specs.declared.plan.Plan.{Plan}
use Rattle.named_form.specs.declared.plan.Repr.TheVariants as repr
use Rattle.scheme_base.specs.Outside.{Exits}
use Rattle.named_form.specs.Code.{Program, program}
use Rattle.named_form.specs.NamedRun.{machine, start, ending_of}
use Rattle.named_form.specs.Storage.{is_fictitious}
use Rattle.named_form.specs.ValidPlan.{At, at, Always, FitsProgram, ValidPlan, body_reached, kept_free, globals_own, repr_of, reached, fictions, homes, pointers, lists, checks, bare, quiet_calls, captured_global, capture_modes, capture_entries, capture_tails, compared}
use Rattle.named_form.proofs.RunsThatStop.{passed, always, both}
use Rattle.named_form.proofs.StorageHeld.{pair_procs, pair_lits, local_plan, record_procs, record_lits, record_plan}

-- so many variables that are all tagged, and those past them
tagged : (n x : ℕ) → item_or repr.Tagged (slice_get (replicate n repr.Tagged) x) ≡ repr.Tagged
tagged zero x = refl
tagged (suc n) zero = refl
tagged (suc n) (suc x) = tagged n x

-- all that is looked at in a state
abbrev tests : List (At → Bool)
tests =
    reached ∷ fictions ∷ homes ∷ pointers ∷ lists ∷ checks ∷ bare ∷ quiet_calls ∷ captured_global ∷ capture_modes
    ∷ capture_entries ∷ capture_tails ∷ compared ∷ []

abbrev sound : At → Bool
sound a = list_all (λ test. test a) tests

each : (ts : List (At → Bool)) (a : At) → list_all (λ test. test a) ts ≡ true → (i : ℕ) (test : At → Bool)
    → slice_get ts i ≡ Some test → IsTrue (test a)
each [] a h i test e = cc
each (t ∷ ts) a h zero test e = let same : t ≡ test = cc in subst (λ u. u a ≡ true) same (both (t a) (list_all (λ test. test a) ts) h).0
each (t ∷ ts) a h (suc i) test e = each ts a (both (t a) (list_all (λ test. test a) ts) h).1 i test e

-- a plan is valid that passes all of it in each state of a run that stops after so many steps
valid : (plan : Plan) (p : Program) (most : ℕ) → IsTrue (body_reached plan (slice_get p.procs 0))
    → IsTrue (kept_free plan p) → IsTrue (globals_own plan p)
    → ((x : ℕ) → repr_of plan x ≡ repr.Tagged) → ((x : ℕ) → is_fictitious plan x ≡ false)
    → ((env : Env) → passed most (λ s. sound (at plan p env s)) p env (start p env) ≡ true)
    → ((env : Env) → ending_of (after (machine p env) most (start p env)) ≡ Some (Exits 0 [])) → ValidPlan plan p
valid plan p most begun free own held placed h stops =
    record {
      begun = begun;
      reached = part 0 reached refl;
      fictions = part 1 fictions refl;
      homes = part 2 homes refl;
      kept_free = free;
      globals_own = own;
      pointers = part 3 pointers refl;
      lists = part 4 lists refl;
      checks = part 5 checks refl;
      bare = part 6 bare refl;
      nothing = λ x. let e = held x in let f = placed x in ((λ h. cc), (λ h. cc));
      quiet_calls = part 7 quiet_calls refl;
      captured_global = part 8 captured_global refl;
      capture_modes = part 9 capture_modes refl;
      capture_entries = part 10 capture_entries refl;
      capture_tails = part 11 capture_tails refl;
      compared = part 12 compared refl;
    }
  where
    part : (i : ℕ) (test : At → Bool) → slice_get tests i ≡ Some test → Always plan p test
    part i test e env n =
        let all = always most (λ s. sound (at plan p env s)) p env (start p env) (Exits 0 []) (h env) (stops env) n in
        each tests (at plan p env (after (machine p env) n (start p env))) all i test e

local_plan_fits : FitsProgram local_plan pair_procs
local_plan_fits = search rules

local_plan_is_valid : ValidPlan local_plan (program pair_procs pair_lits)
local_plan_is_valid =
    valid local_plan (program pair_procs pair_lits) 9 refl refl refl (tagged 8) (λ x. refl) (λ env. refl) (λ env. refl)

record_plan_fits : FitsProgram record_plan record_procs
record_plan_fits = search rules

record_plan_is_valid : ValidPlan record_plan (program record_procs record_lits)
record_plan_is_valid =
    valid record_plan (program record_procs record_lits) 31 refl refl refl (tagged 21) (λ x. refl) (λ env. refl) (λ env. refl)
