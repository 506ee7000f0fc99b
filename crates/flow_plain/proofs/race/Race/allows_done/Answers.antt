use Rattle.std.proofs.Common.{◌≤◌, ◌≡◌, ◌↔◌, List, ℕ, Some, IsTrue, length, slice_get, subst, arith, ap}
use Rattle.flow_form.specs.Least.{GivenByBlock, Within}
use Rattle.flow_form.specs.Race.{Seen}
use Rattle.flow_form.specs.Shape.{In}
use Rattle.flow_plain.proofs.States.{can_finish, no_finish, seat_found}
use Rattle.flow_plain.proofs.race.Race.allows_done.Goals as goal

pub block_seen-requires-clause-grown : goal.block_seen-requires-clause-grown
block_seen-requires-clause-grown c =
    let found = c.in-Some.ensures.lookup in
    let there : slice_get c.self.inside.seats.items c.args.worker ≡ Some c.in-Some.seat.now =
    seat_found c.self.inside.seats.items c.deref.result.now c.args.worker c.in-Some.seat.now c.deref.ensures.value found.3.0 found.1 in
    (c.self.invariant.seats_sized c.args.worker c.in-Some.seat.now there).grown

pub returns-in-None : goal.returns-in-None
returns-in-None c =
    let race = c.self.inside in
    let past : length c.deref.result.now ≤ c.args.worker = c.in-None.ensures.lookup.3 in (
      (λ h. cc),
      (λ h.
          absurd
          (no_finish c.args.self.now race.constraints race.base.items race.words.items race.claims race.seats.items c.args.worker c.args.block
          c.self.view_is (omega (arith, ap length c.deref.ensures.value)) h)),
    )

pub returns-then-block-blocks : goal.returns-then-block-blocks
returns-then-block-blocks c =
    let race = c.self.inside in
    let found = c.in-Some.ensures.lookup in
    let there : slice_get c.self.inside.seats.items c.args.worker ≡ Some c.in-Some.seat.now =
    seat_found c.self.inside.seats.items c.deref.result.now c.args.worker c.in-Some.seat.now c.deref.ensures.value found.3.0 found.1 in
    let can =
    can_finish c.args.self.now race.constraints race.base.items race.words.items race.claims race.seats.items c.args.worker c.args.block
    c.in-Some.seat.now c.self.view_is there (omega (arith, c.blocks-in-Some.ensures.value)) in
    let Tells : List ℕ → Type 0 =
    λ base. IsTrue c.block_seen.result
    ↔ Within (GivenByBlock c.self.inside.constraints.rules c.args.block (In c.self.inside.constraints base))
    (Seen c.self.inside.constraints c.in-Some.seat.now) in
    let tells = subst Tells c.as_slice.ensures.value c.block_seen.ensures in
    ((λ t. can.0 (tells.0 t)), (λ h. tells.1 (can.1 h)))
