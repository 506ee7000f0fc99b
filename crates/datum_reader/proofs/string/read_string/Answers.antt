use Rattle.std.proofs.Common.{◌≡◌, ◌-◌, ◌+◌, ◌++◌, ◌∷◌, [], false, ℕ, List, length, take, drop, ap, sym, ◌∙◌, arith}
use Rattle.datum_form.specs.Text.{quoted}
use Rattle.datum_reader.specs.Strings.{ended, given}
use Rattle.datum_reader.proofs.StringsByRuns.{plain_length, none_left, unended, unended_escape, closed, past_escape}
use Rattle.datum_reader.proofs.string.read_string.Goals as goal

pub returns-in_default-clause-value : goal.returns-in_default-clause-value
returns-in_default-clause-value c =
    let rest = c.loop-bytes.rest.now in
    unended c.args.text.now c.loop-bytes.bytes rest c.loop-bytes.bad (length c.args.text.now - length rest)
    c.loop-bytes.invariant.same
    (ap (λ n. drop n rest) (sym c.plain_length.ensures.value) ∙ (sym c.split_at.ensures.back ∙ none_left _ c.in_default.ensures.cases))

pub returns-then-mark-eq34-clause-value : goal.returns-then-mark-eq34-clause-value
returns-then-mark-eq34-clause-value c =
    let text = c.args.text.now in
    let rest = c.loop-bytes.rest.now in
    let after = c.in-Some.after.now in
    let bytes = c.loop-bytes.bytes in
    let bad = c.loop-bytes.bad in
    let read : ℕ = length text - length rest in
    let held : bytes ++ take (plain_length rest) rest ≡ c.extend_from_slice.new.self =
    ap (λ n. bytes ++ take n rest) (sym c.plain_length.ensures.value)
    ∙ (ap (λ l. bytes ++ l) (sym c.split_at.ensures.front) ∙ sym c.in_ok-extend_from_slice.ensures.ok) in
    let cut = ap length c.in-Some.ensures.cases.0 in
    let kept = c.loop-bytes.invariant.shorter in
    let count : read + plain_length rest + 1 ≡ length text - length after =
    omega (arith, c.plain_length.ensures.value, c.plain_length.ensures.within, c.split_at.ensures.back_len, cut, kept) in
    closed text bytes rest after bad read c.in-Some.mark.now c.loop-bytes.invariant.same
    (ap (λ n. drop n rest) (sym c.plain_length.ensures.value) ∙ (sym c.split_at.ensures.back ∙ c.in-Some.ensures.cases.0))
    c.if-mark-eq34.true
    ∙ (ap (λ l. ended bad l (read + plain_length rest + 1)) held
    ∙ (ap (λ n. ended bad c.extend_from_slice.new.self n) count ∙ sym c.ended.ensures))

pub returns-in_default-split_first-clause-value : goal.returns-in_default-split_first-clause-value
returns-in_default-split_first-clause-value c =
    let rest = c.loop-bytes.rest.now in
    unended_escape c.args.text.now c.loop-bytes.bytes rest c.in-Some.after.now c.loop-bytes.bad
    (length c.args.text.now - length rest) c.in-Some.mark.now c.loop-bytes.invariant.same
    (ap (λ n. drop n rest) (sym c.plain_length.ensures.value) ∙ (sym c.split_at.ensures.back ∙ c.in-Some.ensures.cases.0))
    c.if-mark-eq34.false (none_left _ c.in_default-split_first.ensures.cases)

pub loop-bytes-preserved : goal.loop-bytes-preserved
loop-bytes-preserved c =
    let text = c.args.text.now in
    let rest = c.loop-bytes.rest.now in
    let after = c.in-Some.after.now in
    let next = c.in-Some-split_first.next.now in
    let escaped = c.in-Some-split_first.escaped.now in
    let bytes = c.loop-bytes.bytes in
    let read : ℕ = length text - length rest in
    let front : List ℕ = bytes ++ take (plain_length rest) rest in
    let held : front ≡ c.extend_from_slice.new.self =
    ap (λ n. bytes ++ take n rest) (sym c.plain_length.ensures.value)
    ∙ (ap (λ l. bytes ++ l) (sym c.split_at.ensures.front) ∙ sym c.in_ok-extend_from_slice.ensures.ok) in
    let all : front ++ escaped ∷ [] ≡ c.push.new.self = ap (λ l. l ++ escaped ∷ []) held ∙ sym c.in_ok-push.ensures.ok in
    let cut = ap length c.in-Some.ensures.cases.0 in
    let more_cut = ap length c.in-Some-split_first.ensures.cases.0 in
    let kept = c.loop-bytes.invariant.shorter in
    let count : read + plain_length rest + 2 ≡ length text - length next =
    omega (
      arith,
      c.plain_length.ensures.value,
      c.plain_length.ensures.within,
      c.split_at.ensures.back_len,
      cut,
      more_cut,
      kept,
    ) in
    record {
      same =
          past_escape text bytes rest after next c.loop-bytes.bad read c.in-Some.mark.now escaped
          c.loop-bytes.invariant.same
          (ap (λ n. drop n rest) (sym c.plain_length.ensures.value)
          ∙ (sym c.split_at.ensures.back ∙ c.in-Some.ensures.cases.0))
          c.if-mark-eq34.false c.in-Some-split_first.ensures.cases.0
          ∙ (ap (λ b. given b (front ++ escaped ∷ []) (read + plain_length rest + 2) (quoted false next)) (sym c.bad_after-bad.ensures)
          ∙ (ap (λ l. given c.bad_after-bad.result l (read + plain_length rest + 2) (quoted false next)) all
          ∙ ap (λ n. given c.bad_after-bad.result c.push.new.self n (quoted false next)) count));
      shorter = omega (arith, c.split_at.ensures.back_len, cut, more_cut, kept);
    }
