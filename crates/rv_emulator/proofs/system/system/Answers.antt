use Rattle.std.proofs.Common.{[], ◌∷◌, refl, ap, ◌∙◌}
use Rattle.std.specs.Prelude.{pos, negsuc}
use Rattle.rv_form.specs.Machine.{received, system, with_reg}
use Rattle.rv_emulator.specs.Memory.{cells}
use Rattle.stalin_outside.specs.Transcript.{Read, Write, Send, read_event_of}
use Rattle.rv_emulator.specs.States.{regs_of, state_of, world_with}
use Rattle.rv_emulator.proofs.AnsweredCalls.{answers_so, reads_so, writes_so, sends_so}
use Rattle.rv_emulator.proofs.RunsInTurn.{plays_alone}
use Rattle.rv_emulator.proofs.system.system.Goals as goal

pub returns-in-Nothing-clause-plays : goal.returns-in-Nothing-clause-plays
returns-in-Nothing-clause-plays g c =
    plays_alone (λ env calls.
    answers_so (world_with c.args.memory.now.regions env) _ c.args.registers.now c.go_on.new.registers
    c.args.memory.now c.args.pc c.go_on.result calls (pos 0) (c.in-Nothing.ensures.ask c.args.pc env calls) c.go_on.ensures.next
    c.go_on.ensures.registers)

pub returns-in-NoChannel-clause-plays : goal.returns-in-NoChannel-clause-plays
returns-in-NoChannel-clause-plays g c =
    plays_alone (λ env calls.
    answers_so (world_with c.args.memory.now.regions env) _ c.args.registers.now c.go_on-in-NoChannel.new.registers
    c.args.memory.now c.args.pc c.go_on-in-NoChannel.result calls (negsuc 8) (c.in-NoChannel.ensures.ask c.args.pc env calls) c.go_on-in-NoChannel.ensures.next
    (c.go_on-in-NoChannel.ensures.registers ∙ ap (with_reg (regs_of c.args.registers.now) 10) c.word.ensures))

pub returns-in-NoPlace-clause-plays : goal.returns-in-NoPlace-clause-plays
returns-in-NoPlace-clause-plays g c =
    plays_alone (λ env calls.
    answers_so (world_with c.args.memory.now.regions env) _ c.args.registers.now c.go_on-in-NoPlace.new.registers
    c.args.memory.now c.args.pc c.go_on-in-NoPlace.result calls (negsuc 13) (c.in-NoPlace.ensures.ask c.args.pc env calls) c.go_on-in-NoPlace.ensures.next
    (c.go_on-in-NoPlace.ensures.registers ∙ ap (with_reg (regs_of c.args.registers.now) 10) c.word-in-NoPlace.ensures))

pub returns-in-Reads-clause-plays : goal.returns-in-Reads-clause-plays
returns-in-Reads-clause-plays g c =
    record {
      made = Read c.read_byte-answer.result ∷ [];
      passes = (_, refl, (c.read_byte-answer.ensures.byte, c.read_byte-answer.ensures.call));
      runs = λ env calls gives.
          reads_so (world_with c.args.memory.now.regions env) _ c.args.registers.now c.go_on-in-Reads.new.registers
          c.args.memory.now c.read_byte-answer.new.memory c.args.pc c.go_on-in-Reads.result calls c.read_byte-answer.result
          (c.in-Reads.ensures.ask c.args.pc env calls) gives.1 (c.read_byte-answer.ensures.memory ∙ ap (λ a. received (read_event_of c.read_byte-answer.result) a (cells c.args.memory.now)) c.read.ensures) c.go_on-in-Reads.ensures.next
          (c.go_on-in-Reads.ensures.registers ∙ ap (with_reg (regs_of c.args.registers.now) 10) c.answer_of_read.ensures);
    }

pub returns-in-Writes-clause-plays : goal.returns-in-Writes-clause-plays
returns-in-Writes-clause-plays g c =
    record {
      made = Write c.in-Writes.byte c.out-answer.result ∷ [];
      passes = (_, refl, c.out-answer.ensures);
      runs = λ env calls gives.
          writes_so (world_with c.args.memory.now.regions env) _ c.args.registers.now c.go_on-in-Writes.new.registers
          c.args.memory.now c.args.pc c.go_on-in-Writes.result calls c.in-Writes.byte c.out-answer.result
          (c.in-Writes.ensures.ask c.args.pc env calls) gives.1 c.go_on-in-Writes.ensures.next
          (c.go_on-in-Writes.ensures.registers ∙ ap (with_reg (regs_of c.args.registers.now) 10) (c.answer_of_write.ensures c.in-Writes.byte));
    }

pub returns-in-Sends-clause-plays : goal.returns-in-Sends-clause-plays
returns-in-Sends-clause-plays g c =
    record {
      made = Send c.in-Sends.byte c.err-answer.result ∷ [];
      passes = (_, refl, c.err-answer.ensures);
      runs = λ env calls gives.
          sends_so (world_with c.args.memory.now.regions env) _ c.args.registers.now c.go_on-in-Sends.new.registers
          c.args.memory.now c.args.pc c.go_on-in-Sends.result calls c.in-Sends.byte c.err-answer.result
          (c.in-Sends.ensures.ask c.args.pc env calls) gives.1 c.go_on-in-Sends.ensures.next
          (c.go_on-in-Sends.ensures.registers ∙ ap (with_reg (regs_of c.args.registers.now) 10) (c.answer_of_write-in-Sends.ensures c.in-Sends.byte));
    }

pub returns-in-Leaves-clause-plays : goal.returns-in-Leaves-clause-plays
returns-in-Leaves-clause-plays g c =
    plays_alone (λ env calls.
    ap (λ ask. system (world_with c.args.memory.now.regions env) ask (state_of c.args.pc c.args.registers.now c.args.memory.now calls))
    (c.in-Leaves.ensures.ask c.args.pc env calls))

pub returns-in-Unknown-clause-plays : goal.returns-in-Unknown-clause-plays
returns-in-Unknown-clause-plays g c =
    plays_alone (λ env calls.
    ap (λ ask. system (world_with c.args.memory.now.regions env) ask (state_of c.args.pc c.args.registers.now c.args.memory.now calls))
    (c.in-Unknown.ensures.ask c.args.pc env calls))
