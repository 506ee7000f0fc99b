use Rattle.std.proofs.Common.{◌≡◌, ◌+◌, ◌++◌, refl, sym, ap, ◌∙◌}
use Rattle.std.specs.Prelude.{slice_get, Some}
use Rattle.flat_form.specs.FlatWritten.{form}
use Rattle.const_data.specs.Words.{symbol_words}
use Rattle.const_data.proofs.Placed.{item_is, symbol_put, symbol_ends, symbols_from}
use Rattle.const_data.proofs.words.put_symbols.Goals as goal

pub loop-lit-init : goal.loop-lit-init
loop-lit-init c = record { counted = refl; words = refl; end = c.requires.place ∙ sym (symbols_from (form c.args.flat.now)) }

pub put_if_first-requires-clause-literal : goal.put_if_first-requires-clause-literal
put_if_first-requires-clause-literal c =
    item_is c.as_slice-lit-items.result.now c.args.flat.now.lits c.loop-lit.lit-index c.loop-lit.number c.lit-item.result
    c.as_slice-lit-items.ensures c.loop-lit.invariant.counted c.loop-lit-test.true c.lit-item.is

pub loop-lit-preserved : goal.loop-lit-preserved
loop-lit-preserved c =
    let f = form c.args.flat.now in
    let i = c.loop-lit.lit-index in
    let l = c.lit-item.result in
    let is : slice_get f.lits i ≡ Some l =
    item_is c.as_slice-lit-items.result.now c.args.flat.now.lits i i l c.as_slice-lit-items.ensures refl c.loop-lit-test.true
    c.lit-item.is
    in
    let puts : c.put_if_first.new.words ≡ c.loop-lit.words ++ symbol_words f i l =
    c.in_ok-put_if_first.ensures ∙ ap (λ n. c.loop-lit.words ++ symbol_words f n l) c.loop-lit.invariant.counted
    in
    record {
      counted = c.in_ok-number.ensures ∙ ap (λ n. n + 1) c.loop-lit.invariant.counted;
      words = symbol_put f i l c.loop-lit.words c.put_if_first.new.words _ is puts c.loop-lit.invariant.words;
      end = symbol_ends f i l c.loop-lit.words c.put_if_first.new.words is puts c.loop-lit.invariant.end;
    }
