-- What a system call comes to, once it is known what is asked.
use Rattle.std.proofs.Common.{◌≡◌, ℕ, ◌+◌, sym, ap, ◌∙◌}
use Rattle.std.specs.Prelude.{ℤ}
use Rattle.scheme_base.specs.Outside.{Calls, next_fails, next_error_fails, read_event, write_event, after_read, after_write, after_send}
use Rattle.stalin_outside.specs.declared.console.In.{In}
use Rattle.stalin_outside.specs.declared.console.Out.{Out}
use Rattle.rv_form.specs.Numbers.{word}
use Rattle.rv_form.specs.Machine.{World, Run, Running, Ask, Answers, Reads, Writes, Sends, answer_of, received, with_reg, system}
use Rattle.rv_emulator.specs.declared.registers.Registers.{Registers}
use Rattle.rv_emulator.specs.Memory.{Contents, cells}
use Rattle.stalin_outside.specs.Transcript.{read_event_of, write_event_of}
use Rattle.rv_emulator.specs.States.{reads, regs_of, state_of}

abbrev at : (pc : ℕ) (regs memory : ℕ → ℕ) → Calls → Run
at pc regs memory calls = Running (record { pc = pc; regs = regs; memory = memory; calls = calls })

pub answers_so : (w : World) (ask : Ask) (registers registers' : Registers) (memory : Contents) (pc next : ℕ) (calls : Calls) (answer : ℤ)
    → ask ≡ Answers answer
    → next ≡ pc + 4
    → regs_of registers' ≡ with_reg (regs_of registers) 10 (word answer)
    → system w ask (state_of pc registers memory calls) ≡ Running (state_of next registers' memory calls)
answers_so w ask registers registers' memory pc next calls answer is to regs =
    ap (λ ask. system w ask (state_of pc registers memory calls)) is
    ∙ (ap (λ regs. at (pc + 4) regs (cells memory) calls) (sym regs)
    ∙ ap (λ n. at n (regs_of registers') (cells memory) calls) (sym to))

pub reads_so : (w : World) (ask : Ask) (registers registers' : Registers) (memory memory' : Contents) (pc next : ℕ) (calls : Calls) (answer : In)
    → ask ≡ Reads
    → read_event (next_fails w.env calls) calls.input ≡ read_event_of answer
    → cells memory' ≡ received (read_event_of answer) (reads registers 11) (cells memory)
    → next ≡ pc + 4
    → regs_of registers' ≡ with_reg (regs_of registers) 10 (word (answer_of (read_event_of answer)))
    → system w ask (state_of pc registers memory calls)
    ≡ Running (state_of next registers' memory' (after_read w.env calls))
reads_so w ask registers registers' memory memory' pc next calls answer is event same to regs =
    ap (λ ask. system w ask (state_of pc registers memory calls)) is
    ∙ (ap (λ event. at (pc + 4) (with_reg (regs_of registers) 10 (word (answer_of event))) (received event (reads registers 11) (cells memory)) (after_read w.env calls)) event
    ∙ (ap (λ cells. at (pc + 4) (with_reg (regs_of registers) 10 (word (answer_of (read_event_of answer)))) cells (after_read w.env calls)) (sym same)
    ∙ (ap (λ regs. at (pc + 4) regs (cells memory') (after_read w.env calls)) (sym regs)
    ∙ ap (λ n. at n (regs_of registers') (cells memory') (after_read w.env calls)) (sym to))))

pub writes_so : (w : World) (ask : Ask) (registers registers' : Registers) (memory : Contents) (pc next : ℕ) (calls : Calls) (byte : ℕ) (answer : Out)
    → ask ≡ Writes byte
    → write_event (next_fails w.env calls) byte ≡ write_event_of byte answer
    → next ≡ pc + 4
    → regs_of registers' ≡ with_reg (regs_of registers) 10 (word (answer_of (write_event_of byte answer)))
    → system w ask (state_of pc registers memory calls)
    ≡ Running (state_of next registers' memory (after_write w.env byte calls))
writes_so w ask registers registers' memory pc next calls byte answer is event to regs =
    ap (λ ask. system w ask (state_of pc registers memory calls)) is
    ∙ (ap (λ event. at (pc + 4) (with_reg (regs_of registers) 10 (word (answer_of event))) (cells memory) (after_write w.env byte calls)) event
    ∙ (ap (λ regs. at (pc + 4) regs (cells memory) (after_write w.env byte calls)) (sym regs)
    ∙ ap (λ n. at n (regs_of registers') (cells memory) (after_write w.env byte calls)) (sym to)))

pub sends_so : (w : World) (ask : Ask) (registers registers' : Registers) (memory : Contents) (pc next : ℕ) (calls : Calls) (byte : ℕ) (answer : Out)
    → ask ≡ Sends byte
    → write_event (next_error_fails w.env calls) byte ≡ write_event_of byte answer
    → next ≡ pc + 4
    → regs_of registers' ≡ with_reg (regs_of registers) 10 (word (answer_of (write_event_of byte answer)))
    → system w ask (state_of pc registers memory calls)
    ≡ Running (state_of next registers' memory (after_send byte calls))
sends_so w ask registers registers' memory pc next calls byte answer is event to regs =
    ap (λ ask. system w ask (state_of pc registers memory calls)) is
    ∙ (ap (λ event. at (pc + 4) (with_reg (regs_of registers) 10 (word (answer_of event))) (cells memory) (after_send byte calls)) event
    ∙ (ap (λ regs. at (pc + 4) regs (cells memory) (after_send byte calls)) (sym regs)
    ∙ ap (λ n. at n (regs_of registers') (cells memory) (after_send byte calls)) (sym to)))
