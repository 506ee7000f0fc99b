-- What a console tells after some calls is the trace.
use Rattle.std.proofs.Common.{◌≡◌, ℕ, List, [], ◌∷◌, ◌++◌, Option, sym, ap, subst, ◌∙◌, arith}
use Rattle.std.specs.Prelude.{◌%◌, map}
use Rattle.std.specs.Option.{option_map}
use Rattle.scheme_base.specs.Outside.{written}
use Rattle.stalin_outside.specs.declared.console.In.TheVariants as inputs
use Rattle.stalin_outside.specs.declared.console.Out.TheVariants as writes
use Rattle.stalin_outside.specs.declared.console.Answer.{Answer}
use Rattle.stalin_outside.specs.declared.console.Answer.TheVariants as answers
use Rattle.stalin_outside.specs.Console.{Told, Adds, AddsAll}
use Rattle.stalin_outside.proofs.Appended.{gains_nothing, gains_both, adds_nothing, adds_one, adds_both}
use Rattle.stalin_outside.specs.Transcript.{Call, Read, Write, Send, Passes, events_in, answer_of_event, sent_answers, errors_in, Shows}

adds_more : (answer : Answer) (more : List Answer) (before between now : Option (List Answer)) → AddsAll more before between
    → Adds answer between now → AddsAll (answer ∷ more) before now
adds_more answer more before between now first one =
    adds_both more (answer ∷ []) before between now first (adds_one answer between now one)

gains_more : (byte : ℕ) (more : List ℕ) (before between now : Option (List ℕ))
    → between ≡ option_map (λ bytes. bytes ++ more) before
    → now ≡ option_map (λ bytes. bytes ++ byte ∷ []) between
    → now ≡ option_map (λ bytes. bytes ++ (more ++ byte ∷ [])) before
gains_more byte more before between now first one =
    one ∙ (ap (option_map (λ bytes. bytes ++ byte ∷ [])) first ∙ gains_both more (byte ∷ []) before)

-- one answer more on channels 0 and 1, and none on channel 2
told_out : (answer : Answer) (earlier : List Call) (before between now : Told) → Shows earlier before between
    → Adds answer between.answers now.answers → now.err_answers ≡ between.err_answers → now.errors ≡ between.errors
    → AddsAll (answer ∷ map answer_of_event (events_in earlier)) before.answers now.answers
    × AddsAll (sent_answers earlier) before.err_answers now.err_answers
    × (now.errors ≡ option_map (λ bytes. bytes ++ errors_in earlier) before.errors)
told_out answer earlier before between now first one err_answers errors = (
  adds_more answer (map answer_of_event (events_in earlier)) before.answers between.answers now.answers first.answers one,
  subst (AddsAll (sent_answers earlier) before.err_answers) (sym err_answers) first.err_answers,
  errors ∙ first.errors,
)

-- one answer more on channel 2, and none on channels 0 and 1
told_err : (answer : Answer) (earlier : List Call) (before between now : Told) → Shows earlier before between
    → Adds answer between.err_answers now.err_answers → now.answers ≡ between.answers → now.output ≡ between.output
    → AddsAll (answer ∷ sent_answers earlier) before.err_answers now.err_answers
    × AddsAll (map answer_of_event (events_in earlier)) before.answers now.answers
    × (now.output ≡ option_map (λ bytes. bytes ++ written (events_in earlier)) before.output)
told_err answer earlier before between now first one answers output = (
  adds_more answer (sent_answers earlier) before.err_answers between.err_answers now.err_answers first.err_answers one,
  subst (AddsAll (map answer_of_event (events_in earlier)) before.answers) (sym answers) first.answers,
  output ∙ first.output,
)

pub shows : (made : List Call) (before now : Told) → Passes made before now → Shows made before now
shows [] before now passes =
    subst (Shows [] before) (sym passes)
    (record {
      answers = adds_nothing before.answers;
      err_answers = adds_nothing before.err_answers;
      output = gains_nothing before.output;
      errors = gains_nothing before.errors;
    })
shows (Read (inputs.Byte byte) ∷ earlier) before now passes =
    let first = shows earlier before passes.0 passes.1 in
    let one = passes.2.1 in
    let small : byte ≡ byte % 256 = omega (arith, passes.2.0) in
    let out = told_out (answers.Byte byte) earlier before passes.0 now first one.answers one.err_answers one.errors in
    let All : ℕ → Type 0 =
    λ b. AddsAll (answers.Byte b ∷ map answer_of_event (events_in earlier)) before.answers now.answers in
    record { answers = subst All small out.0; err_answers = out.1; output = one.output ∙ first.output; errors = out.2 }
shows (Read inputs.End ∷ earlier) before now passes =
    let first = shows earlier before passes.0 passes.1 in
    let one = passes.2.1 in
    let out = told_out answers.End earlier before passes.0 now first one.answers one.err_answers one.errors in
    record { answers = out.0; err_answers = out.1; output = one.output ∙ first.output; errors = out.2 }
shows (Read inputs.Failed ∷ earlier) before now passes =
    let first = shows earlier before passes.0 passes.1 in
    let one = passes.2.1 in
    let out = told_out answers.Failed earlier before passes.0 now first one.answers one.err_answers one.errors in
    record { answers = out.0; err_answers = out.1; output = one.output ∙ first.output; errors = out.2 }
shows (Write byte writes.Took ∷ earlier) before now passes =
    let first = shows earlier before passes.0 passes.1 in
    let one = passes.2 in
    let out = told_out (answers.Took byte) earlier before passes.0 now first one.answers one.err_answers one.errors in
    let bytes = gains_more byte (written (events_in earlier)) before.output passes.0.output now.output first.output one.output in
    record { answers = out.0; err_answers = out.1; output = bytes; errors = out.2 }
shows (Write byte writes.Failed ∷ earlier) before now passes =
    let first = shows earlier before passes.0 passes.1 in
    let one = passes.2 in
    let out = told_out answers.Failed earlier before passes.0 now first one.answers one.err_answers one.errors in
    record { answers = out.0; err_answers = out.1; output = one.output ∙ first.output; errors = out.2 }
shows (Send byte writes.Took ∷ earlier) before now passes =
    let first = shows earlier before passes.0 passes.1 in
    let one = passes.2 in
    let err = told_err (answers.Took byte) earlier before passes.0 now first one.err_answers one.answers one.output in
    let bytes = gains_more byte (errors_in earlier) before.errors passes.0.errors now.errors first.errors one.errors in
    record { answers = err.1; err_answers = err.0; output = err.2; errors = bytes }
shows (Send byte writes.Failed ∷ earlier) before now passes =
    let first = shows earlier before passes.0 passes.1 in
    let one = passes.2 in
    let err = told_err answers.Failed earlier before passes.0 now first one.err_answers one.answers one.output in
    record { answers = err.1; err_answers = err.0; output = err.2; errors = one.errors ∙ first.errors }
