-- Where a machine has stopped.
use Rattle.std.proofs.Common.{◌≡◌, ℕ, Bool, true, false, Option, Some, None, refl, sym, ap, subst, ◌∙◌}
use Rattle.scheme_base.specs.declared.env.Env.{Env}
use Rattle.scheme_base.specs.Outside.{Calls}
use Rattle.scheme_base.specs.Runs.{after}
use Rattle.rv_form.specs.Machine.{World, State, Run, Running, Ended, Trapped, Fetched, Found, NoWord, NoPlace, Ask, Answers, Reads, Writes, Sends, Leaves, Unknown, loaded, stored, asked, system, act, act_at, fetch, machine_in, step}
use Rattle.rv_form.specs.declared.instr.Instr.{Instr}
use Rattle.rv_form.specs.declared.instr.Instr.TheVariants.{Lb, Lh, Lw, Ld, Lbu, Lhu, Lwu, Sb, Sh, Sw, Sd, Ecall, Ebreak}
use Rattle.rv_emulator.specs.declared.next.End.{End}
use Rattle.rv_emulator.specs.declared.next.End.TheVariants as ends
use Rattle.rv_emulator.specs.Held.{Held, run_in, run_of, settled, settled_by, world_under}
use Rattle.stalin_outside.specs.Console.{Told}
use Rattle.rv_emulator.specs.Plays.{Plays}
use Rattle.std.specs.Prelude.{List, slice_index}
use Rattle.rv_emulator.specs.declared.region.Region.{Region}
use Rattle.rv_emulator.specs.declared.system.Ask.{Ask as Wish}
use Rattle.rv_emulator.specs.declared.system.Ask.TheVariants as wishes
use Rattle.rv_emulator.specs.Memory.{Contents, memory_of}
use Rattle.rv_emulator.specs.declared.registers.Registers.{Registers}
use Rattle.rv_emulator.specs.States.{ask_as, ended_as, state_of, trap_asked, trap_of, world_with}
use Rattle.rv_emulator.proofs.RunsInTurn.{plays_alone, plays_then, plays_world, ended_stays}

pub ended_settled : (w : World) (end : End) (calls : Calls) → settled w (ended_as end calls) ≡ ended_as end calls
ended_settled w (ends.Exited status) calls = refl
ended_settled w (ends.Trapped kind pc) calls = refl

-- a state whose next step is no trap is where it is
pub goes_on : (w : World) (s : State) → trap_of (step w (Running s)) ≡ None → settled w (Running s) ≡ Running s
goes_on w s none = by_next (step w (Running s)) none
  where
    by_next : (next : Run) → trap_of next ≡ None → settled_by (Running s) next ≡ Running s
    by_next (Running t) none = refl
    by_next (Ended status calls) none = refl
    by_next (Trapped kind pc calls) none = cc

-- a trap stands where the instruction does
abbrev pub TrapsAt : State → Run → Type 0
TrapsAt s (Running t) = Unit {0}
TrapsAt s (Ended status calls) = Unit {0}
TrapsAt s (Trapped kind pc calls) = (pc ≡ s.pc) × (calls ≡ s.calls)

loaded_traps : (usable : Bool) (count : ℕ) (shape : ℕ → ℕ) (rd a : ℕ) (s : State) → TrapsAt s (loaded usable count shape rd a s)
loaded_traps true count shape rd a s = tt
loaded_traps false count shape rd a s = (refl, refl)

stored_traps : (usable : Bool) (count a value : ℕ) (s : State) → TrapsAt s (stored usable count a value s)
stored_traps true count a value s = tt
stored_traps false count a value s = (refl, refl)

system_traps : (w : World) (ask : Ask) (s : State) → TrapsAt s (system w ask s)
system_traps w (Answers answer) s = tt
system_traps w Reads s = tt
system_traps w (Writes byte) s = tt
system_traps w (Sends byte) s = tt
system_traps w (Leaves status) s = tt
system_traps w Unknown s = (refl, refl)

act_traps : (w : World) (instr : Instr) (s : State) → TrapsAt s (act w instr s)
act_traps w (Lb rd rs1 imm) s = loaded_traps _ _ _ _ _ s
act_traps w (Lh rd rs1 imm) s = loaded_traps _ _ _ _ _ s
act_traps w (Lw rd rs1 imm) s = loaded_traps _ _ _ _ _ s
act_traps w (Ld rd rs1 imm) s = loaded_traps _ _ _ _ _ s
act_traps w (Lbu rd rs1 imm) s = loaded_traps _ _ _ _ _ s
act_traps w (Lhu rd rs1 imm) s = loaded_traps _ _ _ _ _ s
act_traps w (Lwu rd rs1 imm) s = loaded_traps _ _ _ _ _ s
act_traps w (Sb rs1 rs2 imm) s = stored_traps _ _ _ _ s
act_traps w (Sh rs1 rs2 imm) s = stored_traps _ _ _ _ s
act_traps w (Sw rs1 rs2 imm) s = stored_traps _ _ _ _ s
act_traps w (Sd rs1 rs2 imm) s = stored_traps _ _ _ _ s
act_traps w Ecall s = system_traps w (asked w s) s
act_traps w Ebreak s = (refl, refl)
act_traps w instr s = tt

at_traps : (w : World) (at : Fetched) (s : State) → TrapsAt s (act_at w at s)
at_traps w (Found instr) s = act_traps w instr s
at_traps w NoWord s = (refl, refl)
at_traps w NoPlace s = (refl, refl)

step_traps : (w : World) (s : State) → TrapsAt s (step w (Running s))
step_traps w s = at_traps w (fetch w s.memory s.pc) s

-- one whose next step is a trap has stopped there
pub stops : (w : World) (s : State) (kind : ℕ) → trap_of (step w (Running s)) ≡ Some kind
    → settled w (Running s) ≡ Trapped kind s.pc s.calls
stops w s kind is = by_next (step w (Running s)) is (step_traps w s)
  where
    by_next : (next : Run) → trap_of next ≡ Some kind → TrapsAt s next → settled_by (Running s) next ≡ Trapped kind s.pc s.calls
    by_next (Running t) is at = cc
    by_next (Ended status calls) is at = cc
    by_next (Trapped k pc calls) is at =
        let same : k ≡ kind = cc in
        ap (λ k. Trapped k pc calls) same ∙ (ap (λ p. Trapped kind p calls) at.0 ∙ ap (λ c. Trapped kind s.pc c) at.1)

pub asked_traps : (w : World) (wish : Wish) (s : State) → trap_of (system w (ask_as wish) s) ≡ trap_asked wish
asked_traps w wishes.Unknown s = refl
asked_traps w wish s = refl

-- a run, and then a look at its next step
pub settles : {from : Env → Calls → Run} {to : Calls → Run} {before now : Told} (old new : List Region) (s : Calls → State)
    → new ≡ old → Plays from (λ calls. Running (s calls)) before now
    → ((env : Env) (calls : Calls) → settled (world_with new env) (Running (s calls)) ≡ to calls)
    → Plays (λ env calls. settled (world_with old env) (from env calls)) to before now
settles old new s same plays is =
    plays_then (λ env run. settled (world_with old env) run) plays
    (plays_world (λ w calls. settled w (Running (s calls))) same (plays_alone is))

-- a machine that has stopped stays so
pub stopped_plays : (held : Held) (end : End) (steps : ℕ) (t : Told) → held.end ≡ Some end
    → Plays (λ env calls. settled (world_under held env) (after (machine_in (world_under held env)) steps (run_of held calls))) (run_of held) t t
stopped_plays held end steps t is =
    plays_alone (λ env calls.
    let here : run_of held calls ≡ ended_as end calls = ap (λ e. run_in e (record { pc = held.pc; regs = λ r. slice_index held.registers r; memory = memory_of held.regions held.bytes; calls = calls })) is in
    ap (λ run. settled (world_under held env) (after (machine_in (world_under held env)) steps run)) here
    ∙ (ap (settled (world_under held env)) (ended_stays (world_under held env) steps end calls)
    ∙ (ended_settled (world_under held env) end calls ∙ sym here)))

-- a run of the machine that is held here
abbrev held_plays : (held held' : Held) (steps : ℕ) (t t' : Told) → Type 0
held_plays held held' steps t t' =
    Plays
    (λ env calls. settled (world_under held env) (after (machine_in (world_under held env)) steps (run_of held calls)))
    (run_of held')
    t t'

abbrev part_plays : (steps pc gone : ℕ) (registers registers' : Registers) (memory new : Contents) (end : Option End) (t t' : Told) → Type 0
part_plays steps pc gone registers registers' memory new end t t' =
    Plays
    (λ env calls.
    settled (world_with memory.regions env)
    (after (machine_in (world_with memory.regions env)) steps (Running (state_of pc registers memory calls))))
    (λ calls. run_in end (state_of gone registers' new calls))
    t t'

abbrev holding : (pc : ℕ) → Registers → Contents → Option End → Held
holding pc registers memory end =
    record { regions = memory.regions; bytes = memory.bytes; registers = registers.words; pc = pc; end = end }

-- what is said of the parts of a machine, said of the whole
pub whole_plays : (held : Held) (steps pc gone : ℕ) (registers registers' : Registers) (memory new : Contents)
    (at end : Option End) (t t' : Told) → at ≡ None → holding pc registers memory at ≡ held
    → part_plays steps pc gone registers registers' memory new end t t'
    → held_plays held (holding gone registers' new end) steps t t'
whole_plays held steps pc gone registers registers' memory new at end t t' none is plays =
    subst (λ h. held_plays h (holding gone registers' new end) steps t t')
    (ap (holding pc registers memory) (sym none) ∙ is) plays
