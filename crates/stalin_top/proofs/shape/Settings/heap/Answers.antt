use Rattle.std.proofs.Common.{◌≡◌, ◌≤◌, ◌%◌, ◌^◌, sym, subst}
use Rattle.stalin_top.proofs.Fitting.{heap_fits}
use Rattle.stalin_top.proofs.shape.Settings.heap.Goals as goal

pub returns-clause-least : goal.returns-clause-least
returns-clause-least c = subst (λ n. 4096 ≤ n) (sym c.unwrap_or.ensures) (heap_fits c.args.self c.requires).0

pub returns-clause-most : goal.returns-clause-most
returns-clause-most c = subst (λ n. n ≤ 2 ^ 30) (sym c.unwrap_or.ensures) (heap_fits c.args.self c.requires).1

pub returns-clause-aligned : goal.returns-clause-aligned
returns-clause-aligned c = subst (λ n. n % 16 ≡ 0) (sym c.unwrap_or.ensures) (heap_fits c.args.self c.requires).2
