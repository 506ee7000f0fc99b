use Rattle.std.proofs.Common.{List, ℕ, ◌≡◌, ◌∙◌, sym, length, drop}
use Rattle.flow_form.specs.Shape.{size_of}
use Rattle.flow_plain.proofs.PlainSteps.{rows_hold, written_back}
use Rattle.flow_plain.proofs.solve.solve.Goals as goal

pub returns : goal.returns
returns c =
    let words : List ℕ = c.take_steps-steps.new.words in
    let kept : length words ≡ c.in_ok-words.words.len = c.take_steps-steps.auto.words ∙ c.deref_mut.ensures.len in
    let same : c.from_vec.result ≡ words =
    c.from_vec.ensures ∙ written_back words (drop (length words) c.in_ok-words.words.items) c.in_ok-words.words.len (sym kept) in
    let size : length words ≡ size_of c.args.c.now = kept ∙ c.in_ok-words.ensures.len ∙ c.size-size.ensures.value in (
      rows_hold c.args.c.now words record { stride = c.stride.result; words = c.from_vec.result } c.take_steps-steps.ensures.least
          size c.stride.ensures.value same,
      c.take_steps-steps.ensures.chain,
    )
