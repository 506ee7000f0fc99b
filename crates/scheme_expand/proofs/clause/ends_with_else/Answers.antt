use Rattle.std.proofs.Common.{◌∙◌}
use Rattle.scheme_expand.proofs.CasesTurn.{found_end, none_told, no_last_found, no_case_left}
use Rattle.scheme_expand.proofs.HeldCalls.{no_more}
use Rattle.scheme_expand.proofs.clause.ends_with_else.Goals as goal

pub returns-in_default : goal.returns-in_default
returns-in_default c = λ ds h are.
    absurd (no_case_left c.args.source c.args.clauses.now ds h (no_more c.args.clauses.now c.in_default.ensures.cases) are)

pub returns-in-Some-case_clause : goal.returns-in-Some-case_clause
returns-in-Some-case_clause c = λ ds h are.
    none_told c.in-Some-case_clause.clause.data c.is_none.result c.is_none.ensures
    ∙ found_end c.args.source c.args.clauses.now _ c.in-Some.last.now ds c.in-Some-case_clause.clause h are c.in-Some.ensures.cases.0
    c.in-Some-case_clause.ensures

pub returns-in-None : goal.returns-in-None
returns-in-None c = λ ds h are.
    absurd
    (no_last_found c.args.source c.args.clauses.now _ c.in-Some.last.now ds h are c.in-Some.ensures.cases.0 c.in-None.ensures)
