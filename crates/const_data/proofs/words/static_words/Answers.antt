use Rattle.std.proofs.Common.{◌++◌, length, ap, ◌∙◌}
use Rattle.flat_form.specs.FlatWritten.{form}
use Rattle.const_data.specs.Words.{fixed_words}
use Rattle.const_data.proofs.Counted.{fixed_long}
use Rattle.const_data.proofs.words.static_words.Goals as goal

pub put_symbols-requires-clause-place : goal.put_symbols-requires-clause-place
put_symbols-requires-clause-place c =
    let f = form c.args.flat.now in
    ap length (c.in_ok-put_fixed.ensures ∙ ap (λ ws. ws ++ fixed_words f) c.new-words.ensures) ∙ fixed_long f
