use Rattle.std.proofs.Common.{rules, ap}
use Rattle.indexmap.specs.IndexMap.{get}
use Rattle.rv_asm.proofs.Labels.{label_eqs}
use Rattle.rv_asm.proofs.symbols.Symbols.place_in_text.Goals as goal

pub returns : goal.returns
returns c =
    let value = c.get.ensures.value in
    let same = ap (λ eq. get eq c.args.self.now.places c.args.label) label_eqs in
    search rules
