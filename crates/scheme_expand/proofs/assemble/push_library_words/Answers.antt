use Rattle.std.proofs.Common.{arith, sym, append-nil}
use Rattle.std.proofs.lemmas.List.{take_more}
use Rattle.scheme_expand.proofs.VariablesInOrder.{word_pushed, all_pushed}
use Rattle.scheme_expand.proofs.assemble.push_library_words.Goals as goal

pub loop-variable-init : goal.loop-variable-init
loop-variable-init c = sym (append-nil c.args.words.now.items)

pub loop-variable-preserved : goal.loop-variable-preserved
loop-variable-preserved c =
    word_pushed c.args.variables.now c.loop-variable.variable-index _ c.args.words.now.items c.loop-variable.words.items
    c.push_library_word.new.words.items (take_more c.args.variables.now c.loop-variable.variable-index _ c.loop-variable-test.true)
    c.loop-variable.invariant c.in_ok-push_library_word.ensures

pub returns : goal.returns
returns c =
    all_pushed c.args.variables.now c.loop-variable.variable-index c.args.words.now.items c.loop-variable.words.items
    (omega (arith, c.loop-variable-test.false)) c.loop-variable.invariant
