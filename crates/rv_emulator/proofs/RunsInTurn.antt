-- Runs with a console, one after another.
use Rattle.std.proofs.Common.{◌≡◌, ℕ, zero, suc, ◌+◌, ◌-◌, ◌<◌, ◌≤◌, List, [], ◌∷◌, ◌++◌, refl, sym, ap, ◌∙◌, subst, arith}
use Rattle.scheme_base.specs.declared.env.Env.{Env}
use Rattle.scheme_base.specs.Outside.{Calls}
use Rattle.scheme_base.specs.Runs.{after}
use Rattle.scheme_base.proofs.Simulations.{after-add}
use Rattle.rv_form.specs.Machine.{World, Run, Running, act_at, machine_in, step}
use Rattle.rv_emulator.specs.declared.next.End.{End}
use Rattle.rv_emulator.specs.declared.next.End.TheVariants as ends
use Rattle.rv_emulator.specs.declared.region.Region.{Region}
use Rattle.rv_emulator.specs.declared.registers.Registers.{Registers}
use Rattle.rv_words.specs.declared.decoded.Decoded.{Decoded}
use Rattle.rv_words.specs.Packed.{fetched_of}
use Rattle.rv_emulator.specs.Memory.{Contents}
use Rattle.rv_emulator.specs.States.{StandsAt, ended_as, state_of, world_with}
use Rattle.stalin_outside.specs.Console.{Told}
use Rattle.stalin_outside.specs.Environment.{AnswersAs, with_call, calls_with, Gives}
use Rattle.stalin_outside.specs.Transcript.{Call, Passes}
use Rattle.rv_emulator.specs.Plays.{Plays}

-- nothing was called
pub plays_alone : {from : Env → Calls → Run} {to : Calls → Run} {before : Told}
    → ((env : Env) (calls : Calls) → from env calls ≡ to calls) → Plays from to before before
plays_alone is = record { made = []; passes = refl; runs = λ env calls gives. is env calls }

passes_then : (made earlier : List Call) (before between now : Told) → Passes earlier before between → Passes made between now
    → Passes (made ++ earlier) before now
passes_then [] earlier before between now first second = subst (λ t. Passes earlier before t) (sym second) first
passes_then (call ∷ made) earlier before between now first second =
    (second.0, passes_then made earlier before between second.0 first second.1, second.2)

calls_then : (env : Env) (calls : Calls) (made earlier : List Call)
    → calls_with env calls (made ++ earlier) ≡ calls_with env (calls_with env calls earlier) made
calls_then env calls [] earlier = refl
calls_then env calls (call ∷ made) earlier = ap (with_call env call) (calls_then env calls made earlier)

-- what was given in the whole was given in each part
pub record Parts (env : Env) (calls : Calls) (made earlier : List Call) : Type 0 where
  pub first : Gives env calls earlier
  pub second : Gives env (calls_with env calls earlier) made

parts : (env : Env) (calls : Calls) (made earlier : List Call) → Gives env calls (made ++ earlier) → Parts env calls made earlier
parts env calls [] earlier gives = record { first = gives; second = tt }
parts env calls (call ∷ made) earlier gives =
    let more = parts env calls made earlier gives.0 in
    record {
      first = more.first;
      second = (more.second, subst (λ cs. AnswersAs env cs call) (calls_then env calls made earlier) gives.1);
    }

-- a run, and then one from where it has come to
pub plays_then : {from : Env → Calls → Run} {middle to : Calls → Run} {before between now : Told}
    → (again : Env → Run → Run) → Plays from middle before between → Plays (λ env calls. again env (middle calls)) to between now
    → Plays (λ env calls. again env (from env calls)) to before now
plays_then {from = from} {middle = middle} {to = to} {before = before} {between = between} {now = now} again one other =
    record {
      made = other.made ++ one.made;
      passes = passes_then other.made one.made before between now one.passes other.passes;
      runs = λ env calls gives.
          let both = parts env calls other.made one.made gives in
          ap (again env) (one.runs env calls both.first)
          ∙ (other.runs env (calls_with env calls one.made) both.second
          ∙ ap to (sym (calls_then env calls other.made one.made)));
    }

pub plays_same : {from from' : Env → Calls → Run} {to : Calls → Run} {before now : Told}
    → ((env : Env) (calls : Calls) → from' env calls ≡ from env calls) → Plays from to before now → Plays from' to before now
plays_same same one =
    record { made = one.made; passes = one.passes; runs = λ env calls gives. same env calls ∙ one.runs env calls gives }

-- regions that are the same are the same world
pub plays_world : {to : Calls → Run} {before now : Told} {old new : List Region} (run : World → Calls → Run) → new ≡ old
    → Plays (λ env calls. run (world_with new env) calls) to before now
    → Plays (λ env calls. run (world_with old env) calls) to before now
plays_world run same one =
    plays_same (λ env calls. ap (λ regions. run (world_with regions env) calls) (sym same)) one

-- a step of a word that stands at a place, and calls nothing
pub acts : {to : Calls → Run} {t : Told} (memory : Contents) (pc : ℕ) (word : Decoded) (registers : Registers)
    → StandsAt memory pc word
    → ((env : Env) (calls : Calls) → act_at (world_with memory.regions env) (fetched_of word) (state_of pc registers memory calls) ≡ to calls)
    → Plays (λ env calls. step (world_with memory.regions env) (Running (state_of pc registers memory calls))) to t t
acts memory pc word registers here does =
    plays_alone (λ env calls.
    ap (λ seen. act_at (world_with memory.regions env) seen (state_of pc registers memory calls)) here.stands ∙ does env calls)

-- one step more
pub after_one_more : (w : World) (n : ℕ) (run : Run) → after (machine_in w) (n + 1) run ≡ step w (after (machine_in w) n run)
after_one_more w n run = after-add (machine_in w) n 1 run

-- what comes after a run leaves it as it is
pub plays_on : {from : Env → Calls → Run} {to : Calls → Run} {before now : Told} (again : Env → Run → Run)
    → ((env : Env) (calls : Calls) → again env (to calls) ≡ to calls) → Plays from to before now
    → Plays (λ env calls. again env (from env calls)) to before now
plays_on {to = to} again stays one =
    record {
      made = one.made;
      passes = one.passes;
      runs = λ env calls gives.
          ap (again env) (one.runs env calls gives) ∙ stays env (calls_with env calls one.made);
    }

-- so many steps, and then one
pub one_more : {to : Calls → Run} {before between now : Told} (old new : List Region) (n k : ℕ) (start middle : Calls → Run)
    → k ≡ n + 1 → new ≡ old
    → Plays (λ env calls. after (machine_in (world_with old env)) n (start calls)) middle before between
    → Plays (λ env calls. step (world_with new env) (middle calls)) to between now
    → Plays (λ env calls. after (machine_in (world_with old env)) k (start calls)) to before now
one_more old new n k start middle e same earlier last =
    plays_same
    (λ env calls. ap (λ m. after (machine_in (world_with old env)) m (start calls)) e ∙ after_one_more (world_with old env) n (start calls))
    (plays_then (λ env run. step (world_with old env) run) earlier (plays_world (λ w calls. step w (middle calls)) same last))

pub ended_stays : (w : World) (n : ℕ) (end : End) (calls : Calls) → after (machine_in w) n (ended_as end calls) ≡ ended_as end calls
ended_stays w zero end calls = refl
ended_stays w (suc n) (ends.Exited status) calls = ended_stays w n (ends.Exited status) calls
ended_stays w (suc n) (ends.Trapped kind pc) calls = ended_stays w n (ends.Trapped kind pc) calls

-- so many steps, and then those that are left but for fewer
pub after_split : (w : World) (count left next : ℕ) (run : Run) → next ≤ left → left ≤ count
    → after (machine_in w) (count - next) run ≡ after (machine_in w) (left - next) (after (machine_in w) (count - left) run)
after_split w count left next run fewer most =
    let e : count - next ≡ count - left + (left - next) = omega arith in
    ap (λ k. after (machine_in w) k run) e ∙ after-add (machine_in w) (count - left) (left - next) run

pub after_whole : (w : World) (count left : ℕ) (run : Run) → left ≤ count
    → after (machine_in w) count run ≡ after (machine_in w) left (after (machine_in w) (count - left) run)
after_whole w count left run most =
    let e : count ≡ count - left + left = omega arith in
    ap (λ k. after (machine_in w) k run) e ∙ after-add (machine_in w) (count - left) left run

pub after_rest : (w : World) (n count : ℕ) (run : Run) → n < count
    → after (machine_in w) count run ≡ after (machine_in w) (count - (n + 1)) (step w (after (machine_in w) n run))
after_rest w n count run within =
    let e : count ≡ n + 1 + (count - (n + 1)) = omega arith in
    ap (λ k. after (machine_in w) k run) e
    ∙ (after-add (machine_in w) (n + 1) (count - (n + 1)) run
    ∙ ap (after (machine_in w) (count - (n + 1))) (after_one_more w n run))

-- of many steps all but one are left after one
pub after_first : (w : World) (count : ℕ) (run : Run) → 0 < count → after (machine_in w) (count - (count - 1)) run ≡ step w run
after_first w count run some =
    let e : count - (count - 1) ≡ 0 + 1 = omega arith in ap (λ k. after (machine_in w) k run) e ∙ after_one_more w 0 run

-- a step that ends a run ends all of it
pub ends_all : (w : World) (count : ℕ) (run : Run) → 0 < count
    → after (machine_in w) (count - 0) run ≡ after (machine_in w) (count - 1) (step w run)
ends_all w count run some =
    let e : count - 0 ≡ count = omega arith in
    ap (λ k. after (machine_in w) k run) e ∙ after_rest w 0 count run some
