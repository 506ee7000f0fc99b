use Rattle.std.proofs.Common.{refl, true, false}
use Rattle.scheme_expand.proofs.CondParts.{no_clauses, ended, bad_last, good_last, one_inner, not_inner, all_inner}
use Rattle.scheme_expand.proofs.Due.{none_left}
use Rattle.scheme_expand.proofs.expander.Expander.are_clauses.Goals as goal

pub returns-in_default : goal.returns-in_default
returns-in_default c = λ ds h. no_clauses c.args.self.now.source c.args.clauses.now ds h (none_left _ c.in_default.ensures.cases)

pub returns-in_default-read_clause : goal.returns-in_default-read_clause
returns-in_default-read_clause c = λ ds h.
    let s = c.args.self.now.source in
    let i = ended s c.args.clauses.now _ _ ds h c.in-Some.ensures.cases.0 in
    bad_last s _ _ ds i (c.in_default-read_clause.ensures i.last i.read)

pub loop-first-init : goal.loop-first-init
loop-first-init c = λ front h. record { left = front; read = h; same = refl }

pub loop-first-preserved : goal.loop-first-preserved
loop-first-preserved c = λ front h.
    one_inner c.args.self.now.source _ _ _ _ _ (c.loop-first.invariant front h) c.in-Some-split_first.ensures.cases.0 c.is_inner.ensures
    c.if-not-is_inner.false

pub returns-then-not-is_inner : goal.returns-then-not-is_inner
returns-then-not-is_inner c = λ ds h.
    let s = c.args.self.now.source in
    let i = ended s c.args.clauses.now _ _ ds h c.in-Some.ensures.cases.0 in
    good_last s _ _ ds false i (c.in-Some-read_clause.ensures i.last i.read).0
    (not_inner s _ _ _ _ _ (c.loop-first.invariant i.front i.rest) c.in-Some-split_first.ensures.cases.0 c.is_inner.ensures
    c.if-not-is_inner.true)

pub returns : goal.returns
returns c = λ ds h.
    let s = c.args.self.now.source in
    let i = ended s c.args.clauses.now _ _ ds h c.in-Some.ensures.cases.0 in
    good_last s _ _ ds true i (c.in-Some-read_clause.ensures i.last i.read).0
    (all_inner s _ _ (c.loop-first.invariant i.front i.rest) (none_left _ c.in_default-split_first.ensures.cases))
