use Rattle.std.proofs.Common.{◌≡◌, List, ℕ, [], arith}
use Rattle.std.proofs.lemmas.Grind.{common_steps}
use Rattle.datum_form.proofs.PrintedByParts.{none_left}
use Rattle.quasi_expand.specs.Shapes.{are_clauses, is_case}
use Rattle.quasi_expand.proofs.EachIsAClause.{early_else, last_clause, no_clause, no_clauses, one_clause}
use Rattle.quasi_expand.proofs.case.each_is_clause.Goals as goal

pub returns-then-is_empty : goal.returns-then-is_empty
returns-then-is_empty c = λ ds h.
    let others : List ℕ = c.in-Some.others.now in
    let empty : others ≡ [] = grind (arith, common_steps, c.if-is_empty.ensures) in
    last_clause c.args.nodes.now c.loop-clause.rest.now others c.in-Some.clause.now (are_clauses is_case ds)
    c.in-Some-case_clause.read c.in-Some.ensures.cases.0 empty c.in-Some-case_clause.ensures (c.loop-clause.invariant ds h)

pub returns-then-is_none : goal.returns-then-is_none
returns-then-is_none c = λ ds h.
    let others : List ℕ = c.in-Some.others.now in
    let more : others ≡ [] → ⊥ = grind (arith, common_steps, c.if-is_empty.ensures) in
    early_else c.args.nodes.now c.loop-clause.rest.now others c.in-Some.clause.now (are_clauses is_case ds)
    c.in-Some-case_clause.read c.in-Some.ensures.cases.0 more c.if-is_none.ensures c.in-Some-case_clause.ensures
    (c.loop-clause.invariant ds h)

pub returns-in-None : goal.returns-in-None
returns-in-None c = λ ds h.
    no_clause c.args.nodes.now c.loop-clause.rest.now c.in-Some.others.now c.in-Some.clause.now (are_clauses is_case ds)
    c.in-Some.ensures.cases.0 c.in-None.ensures (c.loop-clause.invariant ds h)

pub loop-clause-preserved : goal.loop-clause-preserved
loop-clause-preserved c = λ ds h.
    let others : List ℕ = c.in-Some.others.now in
    let more : others ≡ [] → ⊥ = grind (arith, common_steps, c.if-is_empty.ensures) in
    one_clause c.args.nodes.now c.loop-clause.rest.now others c.in-Some.clause.now (are_clauses is_case ds)
    c.in-Some-case_clause.read c.in-Some.ensures.cases.0 more c.if-is_none.ensures c.in-Some-case_clause.ensures
    (c.loop-clause.invariant ds h)

pub returns : goal.returns
returns c = λ ds h.
    no_clauses c.args.nodes.now c.loop-clause.rest.now (are_clauses is_case ds)
    (none_left c.loop-clause.rest.now c.in_default.ensures.cases) (c.loop-clause.invariant ds h)
