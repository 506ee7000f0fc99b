use Rattle.std.proofs.Common.{subst, ◌∙◌, ℕ, List}
use Rattle.datum_form.specs.Data.{Datum as datum, mark_name}
use Rattle.datum_form.specs.Data.Items.{none, item}
use Rattle.datum_form.specs.declared.token.Atom.TheVariants.{Symbol}
use Rattle.datum_reader.specs.Nodes.{Builds}
use Rattle.datum_reader.proofs.AddedNodeStands.{builds_then, two_stand}
use Rattle.datum_reader.proofs.nodes.marked.Goals as goal

pub returns : goal.returns
returns c = λ d h.
    let before = c.args.nodes.now in
    let between = c.single.new.nodes in
    let pos = c.args.pos in
    let name : List ℕ = mark_name c.args.mark in
    let P : List ℕ → Type 0 = λ bytes. Builds before between c.in_ok-first.first (datum.Atomic pos (Symbol bytes)) in
    let one : P name = subst P (c.in_ok-name.ensures ∙ c.name.ensures) c.in_ok-first.ensures in
    let is = item (datum.Atomic pos (Symbol name)) (item d none) in
    builds_then before between c.list.new.nodes c.in_ok-first.first c.in_ok-id.id (datum.Atomic pos (Symbol name)) _ one
    (c.in_ok-id.ensures is
    (two_stand before between c.in_ok-first.first c.args.given c.in_ok-items.items (datum.Atomic pos (Symbol name)) d
    c.in_ok-items.ensures one h))
