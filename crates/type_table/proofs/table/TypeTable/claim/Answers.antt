use Rattle.std.proofs.Common.{◌≡◌, ◌-◌, arith, rules}
use Rattle.flow_form.specs.Shape.{size_of}
use Rattle.type_table.proofs.StepsAreMoves.{claim_allowed}
use Rattle.type_table.proofs.table.TypeTable.claim.Goals as goal

pub fetch_add-requires : goal.fetch_add-requires
fetch_add-requires c =
    let last : c.word_count-last.result - 1 ≡ size_of c.self.inside.table.shared.key.constraints.value =
    omega (arith, c.self.invariant.words, c.word_count-last.ensures) in (
      search rules,
      omega (arith, c.self.invariant.words),
      claim_allowed _ _ _ _ _ _ last c.pass.invariant.live,
    )
