use Rattle.std.proofs.Common.{◌≡◌, length, get_or, refl, sym, ap, ◌∙◌, arith}
use Rattle.datum_form.specs.declared.datums.Kind.TheVariants as kind
use Rattle.draft_form.proofs.LiteralsAdded.{on_ok, leaf_added, list_added, row_added, list_begins, list_goes_on, tail_ends, no_tail_ends, row_begins, row_goes_on, row_ends}
use Rattle.draft_form.proofs.literal.+lay.Goals as goal

pub lay-returns-in-List : goal.lay-returns-in-List
lay-returns-in-List t c =
    on_ok c.lay_list.result
    (list_added c.args.nodes.now c.args.id c.in_ok-node.node.now c.as_slice.result.now c.in-List.tail c.args.lits.now.items
    c.lay_list.new.lits.items c.in_ok-node.ensures
    (c.in-List.is ∙ ap (λ is. kind.List is c.in-List.tail) (sym c.as_slice.ensures)))
    c.lay_list.ensures

pub lay-returns-in-Vector : goal.lay-returns-in-Vector
lay-returns-in-Vector t c =
    on_ok c.lay_vector.result
    (row_added c.args.nodes.now c.args.id c.in_ok-node.node.now c.as_slice-in-Vector.result.now c.args.lits.now.items
    c.lay_vector.new.lits.items c.in_ok-node.ensures
    (c.in-Vector.is ∙ ap (λ is. kind.Vector is) (sym c.as_slice-in-Vector.ensures)))
    c.lay_vector.ensures

pub lay-returns-in_ok-lit-in_default : goal.lay-returns-in_ok-lit-in_default
lay-returns-in_ok-lit-in_default t c =
    on_ok c.push_leaf.result
    (leaf_added c.args.nodes.now c.args.id c.in_ok-node.node.now c.args.lits.now.items c.push_leaf.new.lits.items
    c.in_ok-lit-in_default.lit c.in_ok-node.ensures c.in_ok-lit-in_default.ensures)
    c.push_leaf.ensures

pub lay_list-loop-item-init : goal.lay_list-loop-item-init
lay_list-loop-item-init t c = list_begins c.args.nodes.now c.args.items.now c.args.lits.now.items

pub lay_list-loop-item-preserved : goal.lay_list-loop-item-preserved
lay_list-loop-item-preserved t c =
    let i = c.loop-item.invariant in
    let n : c.len-pair.result ≡ length c.loop-item.lits.items =
    omega (arith, c.len-pair.ensures, c.loop-item.lits.ok.0)
    in
    list_goes_on c.args.nodes.now c.args.items.now c.loop-item.item-index (get_or c.args.items.now c.loop-item.item-index 0) c.len-pair.result i.0
    c.args.lits.now.items c.loop-item.lits.items c.push.new.self.items c.lay.new.lits.items c.set_pair.new.lits.items
    c.loop-item-test.true refl n c.in_ok-push.ensures.items c.in_ok-lay.ensures c.in_ok-set_pair.ensures i.1 i.2

pub lay_list-returns-in-Some : goal.lay_list-returns-in-Some
lay_list-returns-in-Some t c =
    let i = c.loop-item.invariant in
    on_ok c.lay-in-Some.result
    (tail_ends c.args.nodes.now c.args.items.now c.loop-item.item-index i.0 c.args.tail c.in-Some.tail c.args.lits.now.items
    c.loop-item.lits.items c.lay-in-Some.new.lits.items (omega (arith, c.loop-item-test.false)) c.in-Some.is i.1 i.2)
    c.lay-in-Some.ensures

pub lay_list-returns-in-None : goal.lay_list-returns-in-None
lay_list-returns-in-None t c =
    let i = c.loop-item.invariant in
    on_ok c.push_leaf.result
    (no_tail_ends c.args.nodes.now c.args.items.now c.loop-item.item-index i.0 c.args.tail c.args.lits.now.items
    c.loop-item.lits.items c.push_leaf.new.lits.items (omega (arith, c.loop-item-test.false)) c.in-None.is i.1 i.2)
    c.push_leaf.ensures

pub lay_vector-loop-item-init : goal.lay_vector-loop-item-init
lay_vector-loop-item-init t c =
    row_begins c.args.nodes.now c.args.items.now c.new-ids.result c.args.lits.now.items c.push.new.self.items
    c.new-ids.ensures c.in_ok-push.ensures.items

pub lay_vector-loop-item-preserved : goal.lay_vector-loop-item-preserved
lay_vector-loop-item-preserved t c =
    let i = c.loop-item.invariant in
    let n : c.len.result ≡ length c.loop-item.lits.items =
    omega (arith, c.len.ensures, c.loop-item.lits.ok.0)
    in
    row_goes_on c.args.nodes.now c.args.items.now c.loop-item.item-index (get_or c.args.items.now c.loop-item.item-index 0) c.in_ok-id.id i.0
    c.args.lits.now.items c.loop-item.lits.items c.lay.new.lits.items c.loop-item.ids c.push-in-loop-item.new.self
    c.loop-item-test.true refl (c.in_ok-id.ensures ∙ n) c.in_ok-push-2.ensures.ok c.in_ok-lay.ensures i.1 i.2 i.3

pub lay_vector-returns : goal.lay_vector-returns
lay_vector-returns t c =
    let i = c.loop-item.invariant in
    let n : c.len-vector.result ≡ length c.args.lits.now.items =
    omega (arith, c.len-vector.ensures, c.args.lits.now.ok.0)
    in
    on_ok c.set_vector.result
    (row_ends c.args.nodes.now c.args.items.now c.loop-item.item-index c.len-vector.result i.0 c.args.lits.now.items
    c.loop-item.lits.items c.set_vector.new.lits.items c.loop-item.ids (omega (arith, c.loop-item-test.false)) n i.1 i.2 i.3)
    c.set_vector.ensures
