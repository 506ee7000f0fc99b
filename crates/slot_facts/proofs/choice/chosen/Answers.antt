use Rattle.slot_facts.proofs.Gathering.{same_slots}
use Rattle.slot_facts.proofs.choice.chosen.Goals as goal

pub returns : goal.returns
returns c =
    same_slots c.in_ok-kept.kept _ c.in_ok-fictitious.fictitious _ c.in_ok-global.global _ c.in_ok-compared.compared _
    c.in_ok-kept.ensures c.in_ok-fictitious.ensures c.in_ok-global.ensures c.in_ok-compared.ensures
