use Rattle.std.proofs.Common.{◌≡◌, ◌+◌, map, ap, arith}
use Rattle.named_form.specs.Written.{code, procedure}
use Rattle.flow_constraints.specs.Counting.{code_count, lambdas_count, procs_count}
use Rattle.flow_constraints.proofs.tally.count_rules.Goals as goal

pub returns : goal.returns
returns c =
    let f = c.args.flow.now in
    let lits = c.args.lits.now in
    let main = c.in-Some.main.now in
    let lambdas = c.in-Some.lambdas.now in
    let whole :
    procs_count f lits (map procedure c.args.procs.now)
    ≡ (1 + code_count f lits (code main.body)) + lambdas_count f lits (map procedure lambdas) =
    ap (λ ps. procs_count f lits (map procedure ps)) c.in-Some.ensures.cases.0 in
    omega (
      arith,
      c.count.ensures,
      whole,
      c.new-tally.ensures.rules,
      ap (λ t. t.rules) c.add.ensures,
      c.in_ok-meet_block.ensures.rules,
      c.in_ok-meet_lambdas.ensures.rules,
    )
