use Rattle.std.proofs.Common.{◌≤◌, sym, subst, arith}
use Rattle.stalin_top.proofs.Fitting.{workers_fit}
use Rattle.stalin_top.proofs.shape.Settings.workers.Goals as goal

pub overflow_cast-result : goal.overflow_cast-result
overflow_cast-result c =
    let few : c.unwrap_or.result ≤ 32 = subst (λ n. n ≤ 32) (sym c.unwrap_or.ensures) (workers_fit c.args.self c.requires).1 in
    omega arith

pub returns-clause-some : goal.returns-clause-some
returns-clause-some c = subst (λ n. 1 ≤ n) (sym c.unwrap_or.ensures) (workers_fit c.args.self c.requires).0

pub returns-clause-few : goal.returns-clause-few
returns-clause-few c = subst (λ n. n ≤ 32) (sym c.unwrap_or.ensures) (workers_fit c.args.self c.requires).1
