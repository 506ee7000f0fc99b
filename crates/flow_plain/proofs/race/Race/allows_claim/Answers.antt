use Rattle.std.proofs.Common.{arith}
use Rattle.std.proofs.lemmas.Bool.{lt-ltb, ltb-true}
use Rattle.flow_plain.proofs.States.{can_claim}
use Rattle.flow_plain.proofs.race.Race.allows_claim.Goals as goal

pub returns : goal.returns
returns c =
    let race = c.self.inside in
    let can = can_claim c.args.self.now race.constraints race.base.items race.words.items race.claims race.seats.items c.args.worker c.self.view_is in (
      (λ t. let below = ltb-true c.args.worker c.len.result t in can.0 (omega (arith, c.len.ensures, c.self.inside.seats.ok))),
      (λ h.
          let below = can.1 h in
          lt-ltb c.args.worker c.len.result (omega (arith, c.len.ensures, c.self.inside.seats.ok))),
    )
