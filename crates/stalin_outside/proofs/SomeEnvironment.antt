-- For any answers there is an environment that gives them.
use Rattle.std.proofs.Common.{◌≡◌, ℕ, suc, ◌+◌, ◌<◌, ◌≤◌, true, false, List, [], ◌∷◌, ◌++◌, length, Option, Some, None, refl, sym, ap, subst, ◌∙◌, append_assoc, arith}
use Rattle.scheme_base.specs.declared.env.Env.{Env}
use Rattle.scheme_base.specs.Outside.{Event, ReadByte, ReadEnd, ReadFailed, Wrote, WriteFailed, Calls, no_calls, lists, read_event, items_after, write_event}
use Rattle.stalin_outside.specs.declared.console.In.TheVariants as inputs
use Rattle.stalin_outside.specs.declared.console.Out.TheVariants as writes
use Rattle.stalin_outside.specs.Environment.{AnswersAs, with_call, calls_with, Gives, IsOf}
use Rattle.stalin_outside.specs.Transcript.{Call, Read, Write, Send, events_in, sent_in}

-- the items that were read, the oldest first
abbrev items_in : List Call → List (Option ℕ)
items_in [] = []
items_in (Read (inputs.Byte byte) ∷ earlier) = items_in earlier ++ Some byte ∷ []
items_in (Read inputs.End ∷ earlier) = items_in earlier ++ None ∷ []
items_in (Read inputs.Failed ∷ earlier) = items_in earlier
items_in (Write byte answer ∷ earlier) = items_in earlier
items_in (Send byte answer ∷ earlier) = items_in earlier

-- the numbers of the calls that failed
abbrev failing_in : List Event → List ℕ
failing_in [] = []
failing_in (ReadFailed ∷ earlier) = suc (length earlier) ∷ failing_in earlier
failing_in (WriteFailed byte ∷ earlier) = suc (length earlier) ∷ failing_in earlier
failing_in (ReadByte byte ∷ earlier) = failing_in earlier
failing_in (ReadEnd ∷ earlier) = failing_in earlier
failing_in (Wrote byte ∷ earlier) = failing_in earlier

abbrev err_failing_in : List Call → List ℕ
err_failing_in [] = []
err_failing_in (Send byte writes.Failed ∷ earlier) = suc (length (sent_in earlier)) ∷ err_failing_in earlier
err_failing_in (Send byte writes.Took ∷ earlier) = err_failing_in earlier
err_failing_in (Read answer ∷ earlier) = err_failing_in earlier
err_failing_in (Write byte answer ∷ earlier) = err_failing_in earlier

not_listed : (events : List Event) (k : ℕ) → length events < k → lists (failing_in events) k ≡ false
not_listed [] k high = refl
not_listed (ReadFailed ∷ earlier) k high = let more = not_listed earlier k (omega arith) in grind arith
not_listed (WriteFailed byte ∷ earlier) k high = let more = not_listed earlier k (omega arith) in grind arith
not_listed (ReadByte byte ∷ earlier) k high = not_listed earlier k (omega arith)
not_listed (ReadEnd ∷ earlier) k high = not_listed earlier k (omega arith)
not_listed (Wrote byte ∷ earlier) k high = not_listed earlier k (omega arith)

err_not_listed : (made : List Call) (k : ℕ) → length (sent_in made) < k → lists (err_failing_in made) k ≡ false
err_not_listed [] k high = refl
err_not_listed (Send byte writes.Failed ∷ earlier) k high = let more = err_not_listed earlier k (omega arith) in grind arith
err_not_listed (Send byte writes.Took ∷ earlier) k high = err_not_listed earlier k (omega arith)
err_not_listed (Read answer ∷ earlier) k high = err_not_listed earlier k high
err_not_listed (Write byte answer ∷ earlier) k high = err_not_listed earlier k high

-- an environment that has these calls before it has the rest of its input
record Has (env : Env) (made : List Call) (rest : List (Option ℕ)) : Type 0 where
  pub input : env.input ≡ items_in made ++ rest
  pub failing : (k : ℕ) → k ≤ length (events_in made) → lists env.failing k ≡ lists (failing_in (events_in made)) k
  pub err_failing : (k : ℕ) → k ≤ length (sent_in made) → lists env.err_failing k ≡ lists (err_failing_in made) k

abbrev left_with : (made : List Call) (rest : List (Option ℕ)) → Calls
left_with made rest = record { input = rest; trace = events_in made; sent = sent_in made }

record Goes (env : Env) (made : List Call) (rest : List (Option ℕ)) : Type 0 where
  pub gives : Gives env (no_calls env) made
  pub left : calls_with env (no_calls env) made ≡ left_with made rest

-- one call more
one_more : (env : Env) (call : Call) (earlier : List Call) (before rest : List (Option ℕ)) → Goes env earlier before
    → AnswersAs env (left_with earlier before) call
    → with_call env call (left_with earlier before) ≡ left_with (call ∷ earlier) rest
    → Goes env (call ∷ earlier) rest
one_more env call earlier before rest first answers left =
    record {
      gives = (first.gives, subst (λ calls. AnswersAs env calls call) (sym first.left) answers);
      left = ap (with_call env call) first.left ∙ left;
    }

earlier_items : (items : List (Option ℕ)) (item : Option ℕ) (rest whole : List (Option ℕ)) → whole ≡ (items ++ item ∷ []) ++ rest
    → whole ≡ items ++ item ∷ rest
earlier_items items item rest whole is = is ∙ append_assoc items (item ∷ []) rest

-- the same, part by part
had : (env : Env) (made : List Call) (rest : List (Option ℕ)) → env.input ≡ items_in made ++ rest
    → ((k : ℕ) → k ≤ length (events_in made) → lists env.failing k ≡ lists (failing_in (events_in made)) k)
    → ((k : ℕ) → k ≤ length (sent_in made) → lists env.err_failing k ≡ lists (err_failing_in made) k) → Has env made rest
had env made rest input failing err_failing = record { input = input; failing = failing; err_failing = err_failing }

goes : (env : Env) (made : List Call) (rest : List (Option ℕ)) → Has env made rest → Goes env made rest
goes env [] rest has = record { gives = tt; left = ap (λ input. record { input = input; trace = []; sent = [] }) has.input }
goes env (Read (inputs.Byte byte) ∷ earlier) rest has =
    let before =
    had env earlier (Some byte ∷ rest) (earlier_items (items_in earlier) (Some byte) rest env.input has.input)
    (λ k low. has.failing k (omega arith)) has.err_failing in
    let first = goes env earlier (Some byte ∷ rest) before in
    let next : lists env.failing (length (events_in earlier) + 1) ≡ false =
    has.failing (length (events_in earlier) + 1) (omega arith) ∙ not_listed (events_in earlier) (length (events_in earlier) + 1) (omega arith) in
    one_more env (Read (inputs.Byte byte)) earlier (Some byte ∷ rest) rest first
    (ap (λ b. read_event b (Some byte ∷ rest)) next)
    (ap (λ b. record { input = items_after b (Some byte ∷ rest); trace = read_event b (Some byte ∷ rest) ∷ events_in earlier; sent = sent_in earlier }) next)
goes env (Read inputs.End ∷ earlier) rest has =
    let before =
    had env earlier (None ∷ rest) (earlier_items (items_in earlier) None rest env.input has.input)
    (λ k low. has.failing k (omega arith)) has.err_failing in
    let first = goes env earlier (None ∷ rest) before in
    let next : lists env.failing (length (events_in earlier) + 1) ≡ false =
    has.failing (length (events_in earlier) + 1) (omega arith) ∙ not_listed (events_in earlier) (length (events_in earlier) + 1) (omega arith) in
    one_more env (Read inputs.End) earlier (None ∷ rest) rest first
    (ap (λ b. read_event b (None ∷ rest)) next)
    (ap (λ b. record { input = items_after b (None ∷ rest); trace = read_event b (None ∷ rest) ∷ events_in earlier; sent = sent_in earlier }) next)
goes env (Read inputs.Failed ∷ earlier) rest has =
    let before = had env earlier rest has.input (λ k low. has.failing k (omega arith) ∙ grind arith) has.err_failing in
    let first = goes env earlier rest before in
    let next : lists env.failing (length (events_in earlier) + 1) ≡ true =
    has.failing (length (events_in earlier) + 1) (omega arith) ∙ grind arith in
    one_more env (Read inputs.Failed) earlier rest rest first
    (ap (λ b. read_event b rest) next)
    (ap (λ b. record { input = items_after b rest; trace = read_event b rest ∷ events_in earlier; sent = sent_in earlier }) next)
goes env (Write byte writes.Took ∷ earlier) rest has =
    let before = had env earlier rest has.input (λ k low. has.failing k (omega arith)) has.err_failing in
    let first = goes env earlier rest before in
    let next : lists env.failing (length (events_in earlier) + 1) ≡ false =
    has.failing (length (events_in earlier) + 1) (omega arith) ∙ not_listed (events_in earlier) (length (events_in earlier) + 1) (omega arith) in
    one_more env (Write byte writes.Took) earlier rest rest first
    (ap (λ b. write_event b byte) next)
    (ap (λ b. record { input = rest; trace = write_event b byte ∷ events_in earlier; sent = sent_in earlier }) next)
goes env (Write byte writes.Failed ∷ earlier) rest has =
    let before = had env earlier rest has.input (λ k low. has.failing k (omega arith) ∙ grind arith) has.err_failing in
    let first = goes env earlier rest before in
    let next : lists env.failing (length (events_in earlier) + 1) ≡ true =
    has.failing (length (events_in earlier) + 1) (omega arith) ∙ grind arith in
    one_more env (Write byte writes.Failed) earlier rest rest first
    (ap (λ b. write_event b byte) next)
    (ap (λ b. record { input = rest; trace = write_event b byte ∷ events_in earlier; sent = sent_in earlier }) next)
goes env (Send byte writes.Took ∷ earlier) rest has =
    let before = had env earlier rest has.input has.failing (λ k low. has.err_failing k (omega arith)) in
    let first = goes env earlier rest before in
    let next : lists env.err_failing (length (sent_in earlier) + 1) ≡ false =
    has.err_failing (length (sent_in earlier) + 1) (omega arith) ∙ err_not_listed earlier (length (sent_in earlier) + 1) (omega arith) in
    one_more env (Send byte writes.Took) earlier rest rest first (ap (λ b. write_event b byte) next) refl
goes env (Send byte writes.Failed ∷ earlier) rest has =
    let before = had env earlier rest has.input has.failing (λ k low. has.err_failing k (omega arith) ∙ grind arith) in
    let first = goes env earlier rest before in
    let next : lists env.err_failing (length (sent_in earlier) + 1) ≡ true =
    has.err_failing (length (sent_in earlier) + 1) (omega arith) ∙ grind arith in
    one_more env (Send byte writes.Failed) earlier rest rest first (ap (λ b. write_event b byte) next) refl

append_nothing : (items : List (Option ℕ)) → items ≡ items ++ []
append_nothing [] = refl
append_nothing (item ∷ items) = ap (λ l. item ∷ l) (append_nothing items)

abbrev env_of : List Call → Env
env_of made =
    record { input = items_in made; failing = failing_in (events_in made); err_failing = err_failing_in made }

pub some_env : (made : List Call) → (env : Env) × IsOf made env
some_env made =
    let whole =
    goes (env_of made) made []
    (record { input = append_nothing (items_in made); failing = λ k low. refl; err_failing = λ k low. refl })
    in (
      env_of made,
      record { gives = whole.gives; trace = ap (λ calls. calls.trace) whole.left; sent = ap (λ calls. calls.sent) whole.left },
    )
