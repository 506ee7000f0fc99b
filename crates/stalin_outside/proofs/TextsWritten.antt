-- Texts that are written to a channel one after another are written as one, up to the first call that fails.
use Rattle.std.proofs.Common.{ℕ, zero, suc, ◌+◌, ◌<◌, ◌≤◌, ◌≡◌, refl, sym, ap, subst, ◌∙◌, List, [], ◌∷◌, ◌++◌, length, take, drop, get_or, Bool, true, false, arith, append_assoc, length-append, Bor}
use Rattle.std.specs.Prelude.{map, reverse}
use Rattle.std.specs.Option.{option_map}
use Rattle.std.proofs.lemmas.List.{map-append, reverse-append, take-append-le}
use Rattle.std.proofs.Math.Seq.{take-append-add}
use Rattle.stalin_outside.specs.declared.console.Answer.TheVariants as answers
use Rattle.stalin_outside.specs.Causes.{HasCause}
use Rattle.stalin_outside.specs.Console.{Told, AddsAll}
use Rattle.stalin_outside.specs.Sending.{Outlet, errors_of, output_of, IsTaken, answers_to, Gains, Prints, Sends, joined}
use Rattle.stalin_outside.proofs.Appended.{gains_both, adds_both}

-- Causes

cause_then : (before between now : ℕ) (failed : Type 0) → before ≤ between → HasCause between now failed → HasCause before now failed
cause_then before between now failed later cause =
    record { later = omega (arith, cause.later); rose = λ is. omega (arith, cause.rose is) }

-- The answers of two texts

both_taken : (first second : List ℕ)
    → reverse (map answers.Took (first ++ second)) ≡ reverse (map answers.Took second) ++ reverse (map answers.Took first)
both_taken first second =
    ap reverse (map-append answers.Took first second) ∙ reverse-append (map answers.Took first) (map answers.Took second)

answers_both : (first second : List ℕ) (whole : Bool)
    → answers_to (first ++ second) whole ≡ answers_to second whole ++ answers_to first true
answers_both first second true = both_taken first second
answers_both first second false = ap (λ l. answers.Failed ∷ l) (both_taken first second)

-- A text, and then another

taken_then : (text more taken : List ℕ) (whole : Bool) → IsTaken more taken whole → IsTaken (text ++ more) (text ++ taken) whole
taken_then text more taken true is = ap (λ l. text ++ l) is
taken_then text more taken false is = (
  length text + is.0,
  omega (arith, is.1, length-append text more),
  ap (λ l. text ++ l) is.2 ∙ sym (take-append-add text more is.0),
)

gains_then : (text more : List ℕ) (whole : Bool) (before between now : Outlet) → Gains text true before between
    → Gains more whole between now → Gains (text ++ more) whole before now
gains_then text more whole before between now one other =
    record {
      taken = text ++ other.taken;
      front = taken_then text more other.taken whole other.front;
      bytes =
          other.bytes
          ∙ (ap (option_map (λ bytes. bytes ++ other.taken)) one.bytes
          ∙ (gains_both one.taken other.taken before.bytes
          ∙ ap (λ t. option_map (λ bytes. bytes ++ (t ++ other.taken)) before.bytes) one.front));
      answers =
          subst (λ l. AddsAll l before.answers now.answers)
          (sym
          (answers_both text other.taken whole ∙ ap (λ t. answers_to other.taken whole ++ answers_to t true) (sym one.front)))
          (adds_both (answers_to one.taken true) (answers_to other.taken whole) before.answers between.answers now.answers one.answers other.answers);
      cause = cause_then before.faults between.faults now.faults (whole ≡ false) one.cause.later other.cause;
    }

-- what comes after a text that was cut off does not matter
cut_before : (text rest : List ℕ) (before now : Outlet) → Gains text false before now → Gains (text ++ rest) false before now
cut_before text rest before now one =
    record {
      taken = one.taken;
      front = (
        one.front.0,
        omega (arith, one.front.1, length-append text rest),
        one.front.2 ∙ sym (take-append-le one.front.0 text rest (omega (arith, one.front.1))),
      );
      bytes = one.bytes;
      answers = one.answers;
      cause = one.cause;
    }

-- the parts before one were written whole, and that one is cut off

joined_at : (parts : List (Bor (List ℕ))) (i : ℕ) (d : Bor (List ℕ)) → i < length parts
    → joined parts ≡ (joined (take i parts) ++ (get_or parts i d).now) ++ joined (drop (suc i) parts)
joined_at [] i d within = absurd (omega arith)
joined_at (part ∷ parts) zero d within = refl
joined_at (part ∷ parts) (suc i) d within =
    ap (λ text. part.now ++ text) (joined_at parts i d (omega arith))
    ∙ (sym (append_assoc part.now (joined (take i parts) ++ (get_or parts i d).now) (joined (drop (suc i) parts)))
    ∙ ap (λ text. text ++ joined (drop (suc i) parts)) (sym (append_assoc part.now (joined (take i parts)) (get_or parts i d).now)))

gains_cut : (parts : List (Bor (List ℕ))) (i : ℕ) (d : Bor (List ℕ)) (before between now : Outlet) → i < length parts
    → Gains (joined (take i parts)) true before between → Gains (get_or parts i d).now false between now
    → Gains (joined parts) false before now
gains_cut parts i d before between now within one other =
    subst (λ text. Gains text false before now) (sym (joined_at parts i d within))
    (cut_before (joined (take i parts) ++ (get_or parts i d).now) (joined (drop (suc i) parts)) before now
    (gains_then (joined (take i parts)) (get_or parts i d).now false before between now one other))

-- Texts to the errors

-- where a part is cut off, so is the text of all
abbrev Cuts : (List ℕ → Bool → Told → Told → Type 0) → Type 0
Cuts Adds =
    (parts : List (Bor (List ℕ))) (i : ℕ) (d : Bor (List ℕ)) (before between now : Told) → i < length parts
    → Adds (joined (take i parts)) true before between → Adds (get_or parts i d).now false between now
    → Adds (joined parts) false before now

pub sends_cut : Cuts Sends
sends_cut parts i d before between now within one other =
    let cut = gains_cut parts i d (errors_of before) (errors_of between) (errors_of now) within one.sent other.sent in
    record { sent = cut; input = other.input ∙ one.input; output = other.output ∙ one.output }

-- Texts to the output

pub prints_cut : Cuts Prints
prints_cut parts i d before between now within one other =
    let cut = gains_cut parts i d (output_of before) (output_of between) (output_of now) within one.printed other.printed in
    record { printed = cut; input = other.input ∙ one.input; errors = other.errors ∙ one.errors }

pub prints_then : (text more : List ℕ) (whole : Bool) (before between now : Told) → Prints text true before between
    → Prints more whole between now → Prints (text ++ more) whole before now
prints_then text more whole before between now one other =
    record {
      printed = gains_then text more whole (output_of before) (output_of between) (output_of now) one.printed other.printed;
      input = other.input ∙ one.input;
      errors = other.errors ∙ one.errors;
    }

pub prints_front : (text rest : List ℕ) (before now : Told) → Prints text false before now → Prints (text ++ rest) false before now
prints_front text rest before now one =
    record { printed = cut_before text rest (output_of before) (output_of now) one.printed; input = one.input; errors = one.errors }
