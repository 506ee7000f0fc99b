use Rattle.std.proofs.Common.{ℕ, List, ◌≡◌, ◌+◌, ◌-◌, ◌*◌, ◌<◌, ◌≤◌, arith, subst}
use Rattle.bit_rows.specs.Members.{IsMember}
use Rattle.flow_form.specs.Shape.{size_of}
use Rattle.flow_workers.proofs.Reached.{rounds_few, solved}
use Rattle.flow_workers.proofs.rounds.solve.Goals as goal

pub loop-reached-smaller : goal.loop-reached-smaller
loop-reached-smaller g c =
    let few : c.loop-reached.reached.closed.rounds ≤ 64 * size_of c.args.c.now + 1 =
    rounds_few c.args.c.now c.loop-reached.reached.closed c.loop-reached.reached.grown.items c.loop-reached.invariant in
    let later : c.in_ok-reached-2.reached.closed.rounds ≡ c.loop-reached.reached.closed.rounds + 1 = c.in_ok-reached-2.ensures.later in
    let smaller :
    64 * size_of c.args.c.now + 2 - c.in_ok-reached-2.reached.closed.rounds
    < 64 * size_of c.args.c.now + 2 - c.loop-reached.reached.closed.rounds = omega arith in
    smaller

pub returns : goal.returns
returns g c =
    let None : List ℕ → Type 0 = λ grown. (row : ℕ) → row < c.args.c.now.rows → ¬ IsMember grown row in
    solved c.args.c.now c.loop-reached.reached.closed c.loop-reached.reached.grown.items c.loop-reached.invariant
    (subst None c.as_slice.ensures.value c.loop-reached-test.ensures)
