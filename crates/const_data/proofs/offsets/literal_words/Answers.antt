use Rattle.std.proofs.Common.{◌≡◌, ◌+◌, ◌++◌, length, refl, sym, ap, ◌∙◌, subst}
use Rattle.std.specs.Prelude.{slice_get, Some}
use Rattle.flat_form.specs.FlatWritten.{form}
use Rattle.const_data.specs.Words.{object_size, places_from}
use Rattle.const_data.specs.Naming.{Knows, symbol_word}
use Rattle.const_data.proofs.Placed.{item_is, object_more, objects_from, place_put}
use Rattle.const_data.proofs.offsets.literal_words.Goals as goal

pub loop-lit-init : goal.loop-lit-init
loop-lit-init c =
    let f = form c.args.flat.now in
    record {
      words = ap (λ ws. ws ++ places_from f 0 f.lits) c.new-words.ensures;
      next =
          c.in_ok-names.ensures.next
          ∙ ap (λ n. symbol_word n f.lits (length f.lits)) c.requires
          ∙ sym (objects_from f);
    }

pub loop-lit-preserved : goal.loop-lit-preserved
loop-lit-preserved c =
    let f = form c.args.flat.now in
    let i = c.loop-lit.lit-index in
    let l = c.lit-item.result in
    let is : slice_get f.lits i ≡ Some l =
    item_is c.as_slice-lit-items.result.now f.lits i i l c.as_slice-lit-items.ensures refl c.loop-lit-test.true c.lit-item.is
    in
    let knows = subst (λ n. Knows n f.lits (length f.lits) c.in_ok-names.names) c.requires c.in_ok-names.ensures in
    record {
      words =
          place_put f i l c.loop-lit.words c.push.new.self c.in_ok-first_word.field-0 is
          (c.in_ok-first_word.ensures f i knows c.loop-lit.invariant.next) c.in_ok-push.ensures.ok c.loop-lit.invariant.words;
      next =
          c.in_ok-next.ensures
          ∙ ap (λ n. c.loop-lit.next + n) c.in_ok-object_words.ensures
          ∙ ap (λ n. n + object_size l) c.loop-lit.invariant.next
          ∙ sym (object_more f i l is);
    }
