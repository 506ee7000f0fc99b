use Rattle.std.proofs.Common.{[], rules, sym, subst}
use Rattle.named_form.specs.Valid.{Counted}
use Rattle.box_name.specs.Procedures.{NumbersFit}
use Rattle.box_name.specs.Told.{all_told}
use Rattle.box_name.specs.Whole.{placed_lambdas}
use Rattle.box_name.proofs.NumbersInOrder.{all_counted}
use Rattle.box_name.proofs.Whole.{procs_named}
use Rattle.box_name.proofs.naming.name_all.Goals as goal

pub returns-clause-are_named : goal.returns-clause-are_named
returns-clause-are_named c =
    λ forms holds knows.
    let all = all_told c.args.core.now.lits forms in
    procs_named all c.new-namer.result c.name_program.new.self c.name_procedures.new.self c.in_ok-program.program c.push.new.self
    c.name_procedures.new.procs c.new-namer.ensures.entries c.new-namer.ensures.next_var c.new-namer.ensures.next_proc
    (c.in_ok-program.ensures forms holds knows.knows) (search rules)
    (c.in_ok-name_procedures.ensures.are_named all (placed_lambdas 0 all) knows.knows knows.survey.procs)

pub returns-clause-counted : goal.returns-clause-counted
returns-clause-counted c =
    λ forms holds knows.
    let all = all_told c.args.core.now.lits forms in
    let named = returns-clause-are_named c forms holds knows in
    let after = (c.in_ok-program.ensures forms holds knows.knows c.new-namer.ensures.entries c.new-namer.ensures.next_var c.new-namer.ensures.next_proc).1 in
    subst Counted (sym named)
    (all_counted all []
    (subst (λ n. NumbersFit all n (placed_lambdas 0 all)) after
    (c.in_ok-name_procedures.ensures.fit all (placed_lambdas 0 all) knows.knows knows.survey.procs)))
