use Rattle.std.proofs.Common.{◌∙◌}
use Rattle.slot_facts.proofs.Searching.{found_is}
use Rattle.slot_facts.proofs.needs.is_among.Goals as goal

pub returns : goal.returns
returns c =
    c.is_ok.ensures.value
    ∙ found_is c.args.sorted.now c.args.number c.binary_search.result c.requires c.binary_search.ensures.position
