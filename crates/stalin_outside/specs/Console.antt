-- What a console tells of itself, and what each of its calls does to that: to its streams, to the lists of
-- its answers and to its counts of faults.
use Rattle.std.specs.Prelude.{ℕ, ◌≡◌, List, [], ◌∷◌, ◌++◌, Option, Some, None}
use Rattle.std.specs.Option.{option_map}
use Rattle.stalin_outside.specs.Causes.{HasCause}
use Rattle.stalin_outside.specs.declared.console.Answer.{Answer}
use Rattle.stalin_outside.specs.declared.console.Answer.TheVariants as answers
use Rattle.stalin_outside.specs.declared.console.In.{In}
use Rattle.stalin_outside.specs.declared.console.In.TheVariants as inputs
use Rattle.stalin_outside.specs.declared.console.Out.{Out}
use Rattle.stalin_outside.specs.declared.console.Out.TheVariants as writes

-- The bytes and the answers are those of a console that tells them; the counts are told by each.
pub record Told : Type 0 where
  -- the bytes that are left to read
  pub input : Option (List ℕ)
  -- the bytes that were written to the output and to the errors, the oldest first
  pub output : Option (List ℕ)
  pub errors : Option (List ℕ)
  -- the answers of reads and of writes to the output together, and those of writes to the errors, the
  -- newest first
  pub answers : Option (List Answer)
  pub err_answers : Option (List Answer)
  -- how many calls have failed at least, by the same two kinds
  pub faults : ℕ
  pub err_faults : ℕ

-- a byte is the first of those left and is taken; an end comes where none is left; a failure takes none
abbrev pub Takes : In → (before now : Option (List ℕ)) → Type 0
Takes answer None now = Unit {0}
Takes answer (Some before) None = ⊥
Takes (inputs.Byte byte) (Some before) (Some now) = before ≡ byte ∷ now
Takes inputs.End (Some before) (Some now) = (before ≡ []) × (now ≡ [])
Takes inputs.Failed (Some before) (Some now) = now ≡ before

-- what an output holds after a write of a byte
abbrev pub text_after : (byte : ℕ) → Out → Option (List ℕ) → Option (List ℕ)
text_after byte writes.Took text = option_map (λ bytes. bytes ++ byte ∷ []) text
text_after byte writes.Failed text = text

-- Where the answers are told after a call, they were told before it, and it has added its own.
abbrev pub Adds : Answer → (before now : Option (List Answer)) → Type 0
Adds answer before None = Unit {0}
Adds answer None (Some now) = ⊥
Adds answer (Some before) (Some now) = now ≡ answer ∷ before

-- The same of several answers, the newest first.
abbrev pub AddsAll : (more : List Answer) (before now : Option (List Answer)) → Type 0
AddsAll more before None = Unit {0}
AddsAll more None (Some now) = ⊥
AddsAll more (Some before) (Some now) = now ≡ more ++ before

abbrev pub answer_of_input : In → Answer
answer_of_input (inputs.Byte byte) = answers.Byte byte
answer_of_input inputs.End = answers.End
answer_of_input inputs.Failed = answers.Failed

abbrev pub answer_of_write : (byte : ℕ) → Out → Answer
answer_of_write byte writes.Took = answers.Took byte
answer_of_write byte writes.Failed = answers.Failed

-- a read of the input
pub record IsRead (answer : In) (before now : Told) : Type 0 where
  pub input : Takes answer before.input now.input
  pub output : now.output ≡ before.output
  pub errors : now.errors ≡ before.errors
  pub answers : Adds (answer_of_input answer) before.answers now.answers
  pub err_answers : now.err_answers ≡ before.err_answers
  pub faults : HasCause before.faults now.faults (answer ≡ inputs.Failed)
  pub err_faults : now.err_faults ≡ before.err_faults

-- a write of a byte to the output
pub record IsWrite (byte : ℕ) (answer : Out) (before now : Told) : Type 0 where
  pub input : now.input ≡ before.input
  pub output : now.output ≡ text_after byte answer before.output
  pub errors : now.errors ≡ before.errors
  pub answers : Adds (answer_of_write byte answer) before.answers now.answers
  pub err_answers : now.err_answers ≡ before.err_answers
  pub faults : HasCause before.faults now.faults (answer ≡ writes.Failed)
  pub err_faults : now.err_faults ≡ before.err_faults

-- a write of a byte to the errors
pub record IsSend (byte : ℕ) (answer : Out) (before now : Told) : Type 0 where
  pub input : now.input ≡ before.input
  pub output : now.output ≡ before.output
  pub errors : now.errors ≡ text_after byte answer before.errors
  pub answers : now.answers ≡ before.answers
  pub err_answers : Adds (answer_of_write byte answer) before.err_answers now.err_answers
  pub faults : now.faults ≡ before.faults
  pub err_faults : HasCause before.err_faults now.err_faults (answer ≡ writes.Failed)
