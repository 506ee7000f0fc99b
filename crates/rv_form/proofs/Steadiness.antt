-- The machine stays where it has stopped, and makes one call a step at most.
use Rattle.std.proofs.Common.{◌≡◌, ℕ, Bool, true, false, refl, ap, inl, inr, Some}
use Rattle.scheme_base.specs.Outside.{Calls, Ending}
use Rattle.scheme_base.specs.Runs.{GrowsByOne, Lawful}
use Rattle.rv_form.specs.declared.instr.Instr.{Instr}
use Rattle.rv_form.specs.declared.instr.Instr.TheVariants.{Lb, Lh, Lw, Ld, Lbu, Lhu, Lwu, Sb, Sh, Sw, Sd, Ecall, Ebreak}
use Rattle.rv_form.specs.Machine.{World, State, Run, Running, Ended, Trapped, Fetched, Found, NoWord, NoPlace, Ask, Answers, Reads, Writes, Sends, Leaves, Unknown, asked, system, loaded, stored, act, act_at, fetch, step, trace_of, ending_of, machine_in}
use Rattle.rv_form.proofs.Walk.{Coded, coded_step, coded_machine}

system_grows : (w : World) (ask : Ask) (s : State) → GrowsByOne s.calls.trace (trace_of (system w ask s))
system_grows w (Answers answer) s = inl refl
system_grows w Reads s = inr (_, refl)
system_grows w (Writes byte) s = inr (_, refl)
system_grows w (Sends byte) s = inl refl
system_grows w (Leaves status) s = inl refl
system_grows w Unknown s = inl refl

loaded_grows : (usable : Bool) (count : ℕ) (shape : ℕ → ℕ) (rd a : ℕ) (s : State)
    → GrowsByOne s.calls.trace (trace_of (loaded usable count shape rd a s))
loaded_grows true count shape rd a s = inl refl
loaded_grows false count shape rd a s = inl refl

stored_grows : (usable : Bool) (count a value : ℕ) (s : State)
    → GrowsByOne s.calls.trace (trace_of (stored usable count a value s))
stored_grows true count a value s = inl refl
stored_grows false count a value s = inl refl

-- what holds of each way in which an instruction can end holds of what it does
pub by_act : (P : Run → Type 0) (w : World) (s : State)
    → ((usable : Bool) (count : ℕ) (shape : ℕ → ℕ) (rd a : ℕ) → P (loaded usable count shape rd a s))
    → ((usable : Bool) (count a value : ℕ) → P (stored usable count a value s)) → P (system w (asked w s) s)
    → P (Trapped 6 s.pc s.calls) → ((t : State) → t.calls ≡ s.calls → P (Running t)) → (instr : Instr) → P (act w instr s)
by_act P w s loads stores asks breaks goes (Lb rd rs1 imm) = loads _ _ _ _ _
by_act P w s loads stores asks breaks goes (Lh rd rs1 imm) = loads _ _ _ _ _
by_act P w s loads stores asks breaks goes (Lw rd rs1 imm) = loads _ _ _ _ _
by_act P w s loads stores asks breaks goes (Ld rd rs1 imm) = loads _ _ _ _ _
by_act P w s loads stores asks breaks goes (Lbu rd rs1 imm) = loads _ _ _ _ _
by_act P w s loads stores asks breaks goes (Lhu rd rs1 imm) = loads _ _ _ _ _
by_act P w s loads stores asks breaks goes (Lwu rd rs1 imm) = loads _ _ _ _ _
by_act P w s loads stores asks breaks goes (Sb rs1 rs2 imm) = stores _ _ _ _
by_act P w s loads stores asks breaks goes (Sh rs1 rs2 imm) = stores _ _ _ _
by_act P w s loads stores asks breaks goes (Sw rs1 rs2 imm) = stores _ _ _ _
by_act P w s loads stores asks breaks goes (Sd rs1 rs2 imm) = stores _ _ _ _
by_act P w s loads stores asks breaks goes Ecall = asks
by_act P w s loads stores asks breaks goes Ebreak = breaks
by_act P w s loads stores asks breaks goes instr = goes _ refl

-- every instruction but a system call leaves the trace as it is
act_grows : (w : World) (instr : Instr) (s : State) → GrowsByOne s.calls.trace (trace_of (act w instr s))
act_grows w instr s =
    by_act (λ run. GrowsByOne s.calls.trace (trace_of run)) w s (λ u n shape rd a. loaded_grows u n shape rd a s)
    (λ u n a value. stored_grows u n a value s) (system_grows w (asked w s) s) (inl refl)
    (λ t same. inl (ap (λ calls. calls.trace) same)) instr

pub act_at_grows : (w : World) (at : Fetched) (s : State) → GrowsByOne s.calls.trace (trace_of (act_at w at s))
act_at_grows w (Found instr) s = act_grows w instr s
act_at_grows w NoWord s = inl refl
act_at_grows w NoPlace s = inl refl

step_grows : (w : World) (run : Run) → GrowsByOne (trace_of run) (trace_of (step w run))
step_grows w (Running s) = act_at_grows w (fetch w s.memory s.pc) s
step_grows w (Ended status calls) = inl refl
step_grows w (Trapped kind pc calls) = inl refl

-- what stays where it has ended or trapped stays where it has an ending
stays : (step : Run → Run) → ((status : ℕ) (calls : Calls) → step (Ended status calls) ≡ Ended status calls)
    → ((kind pc : ℕ) (calls : Calls) → step (Trapped kind pc calls) ≡ Trapped kind pc calls)
    → (run : Run) (e : Ending) → ending_of run ≡ Some e → step run ≡ run
stays step ended trapped (Running s) e h = cc
stays step ended trapped (Ended status calls) e h = ended status calls
stays step ended trapped (Trapped kind pc calls) e h = trapped kind pc calls

pub is_steady : (w : World) → Lawful (machine_in w)
is_steady w =
    record { stays = stays (step w) (λ status calls. refl) (λ kind pc calls. refl); grows = step_grows w }

-- the same of the machine whose code is given

coded_grows : (c : Coded) (run : Run) → GrowsByOne (trace_of run) (trace_of (coded_step c run))
coded_grows c (Running s) = act_at_grows c.world (c.code s.pc) s
coded_grows c (Ended status calls) = inl refl
coded_grows c (Trapped kind pc calls) = inl refl

pub coded_is_steady : (c : Coded) → Lawful (coded_machine c)
coded_is_steady c =
    record { stays = stays (coded_step c) (λ status calls. refl) (λ kind pc calls. refl); grows = coded_grows c }
