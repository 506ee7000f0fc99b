use Rattle.std.proofs.Common.{◌≡◌, length, get_or, refl, ◌∙◌, arith}
use Rattle.draft_form.proofs.LiteralsAdded.{on_ok, symbols_begin, symbols_go_on, symbols_end}
use Rattle.draft_form.proofs.literal.lay_symbols.Goals as goal

pub loop-symbol-init : goal.loop-symbol-init
loop-symbol-init c = symbols_begin c.args.names.now c.args.symbols.now c.args.lits.now.items

pub loop-symbol-preserved : goal.loop-symbol-preserved
loop-symbol-preserved c =
    let n : c.len-pair.result ≡ length c.loop-symbol.lits.items =
    omega (arith, c.len-pair.ensures, c.loop-symbol.lits.ok.0)
    in
    symbols_go_on c.args.names.now c.args.symbols.now c.loop-symbol.symbol-index (get_or c.args.symbols.now c.loop-symbol.symbol-index 0) c.len-pair.result
    c.in_ok-name.name c.args.lits.now.items c.loop-symbol.lits.items c.push.new.self.items c.push_leaf.new.lits.items
    c.set_pair.new.lits.items c.loop-symbol-test.true refl (c.in_ok-name.ensures ∙ c.in_ok-name_of.ensures) n c.in_ok-push.ensures.items
    c.in_ok-push_leaf.ensures c.in_ok-set_pair.ensures c.loop-symbol.invariant

pub returns : goal.returns
returns c =
    on_ok c.push_leaf-2.result
    (symbols_end c.args.names.now c.args.symbols.now c.loop-symbol.symbol-index c.args.lits.now.items c.loop-symbol.lits.items
    c.push_leaf-2.new.lits.items (omega (arith, c.loop-symbol-test.false)) c.loop-symbol.invariant)
    c.push_leaf-2.ensures
