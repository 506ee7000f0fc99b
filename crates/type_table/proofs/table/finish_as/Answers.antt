use Rattle.std.proofs.Common.{ℕ, bit_or, subst}
use mathlib.Core.Option.{none}
use Rattle.atomic_table.specs.Table.{Allows, step}
use Rattle.type_table.specs.SharedWords.{Finishes, IsRuled}
use Rattle.type_table.proofs.StepsAreMoves.{finish_allowed}
use Rattle.type_table.proofs.table.finish_as.Goals as goal

pub fetch_or-requires : goal.fetch_or-requires
fetch_or-requires g c =
    let key = c.args.shared.now.key in
    let table = c.args.shared.now.table_id in
    let seat = c.args.seat.now in
    let Allowed : ℕ → Type 0 =
    λ block.
    Allows (IsRuled key.constraints.value key.base.value) table.slots seat.id seat.me 0 (λ n. bit_or n 0)
    (Finishes block (step table.slots 0 0 0 none) seat.me) in (
      c.requires.of,
      c.requires.some,
      subst Allowed c.requires.named
          (finish_allowed key.constraints.value key.base.value table.slots seat.id seat.me c.args.block
          c.requires.there c.requires.live c.requires.seen),
    )
