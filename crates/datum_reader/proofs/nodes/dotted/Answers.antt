use Rattle.std.proofs.Common.{Some, get_or, ◌≡◌, ◌++◌, ◌∷◌, [], sym, ap, ◌∙◌}
use Rattle.std.specs.Prelude.{slice_get}
use Rattle.datum_form.specs.declared.datums.Kind.TheVariants as kind
use Rattle.datum_reader.proofs.AddedNodeStands.{node, node_at, same_kind, joins, stays_dotted}
use Rattle.datum_reader.proofs.nodes.dotted.Goals as goal

pub returns-in_ok-id-in-List : goal.returns-in_ok-id-in-List
returns-in_ok-id-in-List c = λ is d h k.
    let nodes = c.args.nodes.now in
    let after = c.add.new.nodes in
    let pos = c.args.pos in
    let more = c.in-List.more in
    let end = c.in-List.end in
    let read = c.index-table-tail.result in
    let there = get_or c.as_slice-table.result.now c.args.tail read in
    let at_tail : slice_get c.args.nodes.now c.args.tail ≡ Some there =
    node_at c.args.nodes.now c.as_slice-table.result.now c.args.tail read c.requires c.index-table-tail.is
    c.as_slice-table.ensures in
    let all = c.in_ok-extend_from_slice-in-List.ensures.ok ∙ ap (λ l. c.args.items ++ l) c.as_slice.ensures in
    let at : slice_get nodes c.args.tail ≡ node (kind.List more end) there.pos =
    at_tail ∙ ap (λ l. node l there.pos) c.in-List.is in
    joins nodes after c.in_ok-id-in-List.id c.args.tail c.args.items more end is d pos there.pos
    c.in_ok-id-in-List.ensures.number
    (c.in_ok-id-in-List.ensures.added ∙ ap (λ l. nodes ++ record { kind = kind.List l end; pos = pos } ∷ []) all) at h k

pub returns-in_ok-id-in_default : goal.returns-in_ok-id-in_default
returns-in_ok-id-in_default c = λ is d h k.
    let read = c.index-table-tail.result in
    let there = get_or c.as_slice-table.result.now c.args.tail read in
    let at_tail : slice_get c.args.nodes.now c.args.tail ≡ Some there =
    node_at c.args.nodes.now c.as_slice-table.result.now c.args.tail read c.requires c.index-table-tail.is
    c.as_slice-table.ensures in
    stays_dotted c.args.nodes.now c.add-in_default.new.nodes c.in_ok-id-in_default.id c.args.tail c.args.items
    is d c.args.pos c.in_ok-id-in_default.ensures.number c.in_ok-id-in_default.ensures.added
    (λ more end q e.
    c.in_default.not-List more end (same_kind there.kind (kind.List more end) there.pos q (sym at_tail ∙ e)))
    h k
