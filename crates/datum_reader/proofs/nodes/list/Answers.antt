use Rattle.datum_reader.proofs.AddedNodeStands.{list_builds}
use Rattle.datum_reader.proofs.nodes.list.Goals as goal

pub returns : goal.returns
returns c = λ is h.
    list_builds c.args.nodes.now c.add.new.nodes c.in_ok-id.id c.args.items is c.args.pos c.in_ok-id.ensures.number
    c.in_ok-id.ensures.added h
