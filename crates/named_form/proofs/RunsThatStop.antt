-- What holds in each state of a run that stops, by looking at the states until then.
use Rattle.std.proofs.Common.{◌≡◌, ℕ, zero, suc, Bool, true, false, Some, refl, sym, subst}
use Rattle.std.specs.Prelude.{◌&&◌, IsTrue}
use Rattle.scheme_base.specs.declared.env.Env.{Env}
use Rattle.scheme_base.specs.Outside.{Ending}
use Rattle.scheme_base.specs.Runs.{after}
use Rattle.scheme_base.proofs.Simulations.{after_end}
use Rattle.named_form.specs.Code.{Program}
use Rattle.named_form.specs.NamedRun.{State, machine, step, ending_of}
use Rattle.named_form.proofs.StepLaws.{lawful}

-- a test is passed in a state and in those after it, so many steps on
abbrev pub passed : ℕ → (State → Bool) → Program → Env → State → Bool
passed zero test p env s = test s
passed (suc n) test p env s = test s && passed n test p env (step p env s)

pub both : (a b : Bool) → a && b ≡ true → (a ≡ true) × (b ≡ true)
both true b h = (refl, h)
both false b h = cc

-- where the run has stopped by then, it is passed for good
pub always : (most : ℕ) (test : State → Bool) (p : Program) (env : Env) (s : State) (e : Ending)
    → passed most test p env s ≡ true → ending_of (after (machine p env) most s) ≡ Some e
    → (n : ℕ) → IsTrue (test (after (machine p env) n s))
always zero test p env s e h stop n =
    subst (λ t. IsTrue (test t)) (sym (after_end (machine p env) (lawful p env) n s e stop)) h
always (suc most) test p env s e h stop zero = (both (test s) (passed most test p env (step p env s)) h).0
always (suc most) test p env s e h stop (suc n) =
    always most test p env (step p env s) e (both (test s) (passed most test p env (step p env s)) h).1 stop n
