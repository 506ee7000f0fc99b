use Rattle.std.proofs.Common.{ap, ◌∙◌, ◌++◌}
use Rattle.std.specs.Prelude.{map, replicate}
use Rattle.flat_form.specs.FlatWritten.{form, procedure}
use Rattle.const_data.specs.declared.word.Word.{Word}
use Rattle.const_data.specs.declared.word.Word.TheVariants.{Number}
use Rattle.const_data.specs.Words.{arguments, all_closures, all_descriptors}
use Rattle.const_data.proofs.Counted.{all_put}
use Rattle.const_data.proofs.words.put_fixed.Goals as goal

pub returns : goal.returns
returns c =
    let f = form c.args.flat.now in
    all_put {X = Word} c.args.words.now c.push.new.self c.put_copies.new.words c.put_copies-2.new.words c.put_copies-3.new.words
    c.put_copies-4.new.words c.put_descriptors.new.words c.put_closures.new.words (Number 0xffff_ffff_ffff_ffff)
    (replicate 15 (Number 0)) (replicate (arguments f) (Number 0)) (replicate f.cells.tops (Number 25))
    (replicate f.cells.globals (Number 0)) (all_descriptors 0 f.procs) (all_closures f 0 f.procs)
    c.in_ok-push.ensures.ok c.in_ok-put_copies.ensures
    (c.in_ok-put_copies-2.ensures ∙ ap (λ n. c.put_copies.new.words ++ replicate n (Number 0)) c.in_ok-argument_words.ensures)
    c.in_ok-put_copies-3.ensures c.in_ok-put_copies-4.ensures
    (c.in_ok-put_descriptors.ensures
    ∙ ap (λ ps. c.put_copies-4.new.words ++ all_descriptors 0 (map procedure ps)) c.as_slice.ensures)
    c.in_ok-put_closures.ensures
