use Rattle.std.proofs.Common.{◌<◌, [], ◌∷◌, true, false, length, set, sym, ◌∙◌, subst, arith}
use Rattle.least_set.specs.Search.{Grows, Tells}
use Rattle.least_set.proofs.Marks.{none_new, now_marked, one_new, read_mark}
use Rattle.least_set.proofs.search.mark.Goals as goal

pub returns-then-index-clause-grows : goal.returns-then-index-clause-grows
returns-then-index-clause-grows c =
    let within : c.args.number < length c.args.marks.now.items = omega (arith, c.requires.there, c.args.marks.now.ok.0) in
    none_new c.args.found.now c.args.number
    (sym (c.requires.tells.same c.args.number) ∙ read_mark c.args.marks.now.items c.args.number c.index.result.now true within c.index.ensures c.if-index.true)

pub returns-clause-tells : goal.returns-clause-tells
returns-clause-tells c =
    let within : c.args.number < length c.args.marks.now.items = omega (arith, c.requires.there, c.args.marks.now.ok.0) in
    subst (λ xs. Tells (set c.args.marks.now.items c.args.number true) xs) (sym c.in_ok-push.ensures.ok)
    (now_marked c.args.marks.now.items c.args.found.now c.args.number within
    (read_mark c.args.marks.now.items c.args.number c.index.result.now false within c.index.ensures c.if-index.false) c.requires.tells)

pub returns-clause-grows : goal.returns-clause-grows
returns-clause-grows c =
    subst (λ xs. Grows (c.args.number ∷ []) c.args.found.now xs) (sym c.in_ok-push.ensures.ok) (one_new c.args.found.now c.args.number)
