use Rattle.std.proofs.Common.{◌≡◌, ◌+◌, [], List, length, None, ap, subst, ◌∙◌, arith}
use Rattle.std.specs.Prelude.{map}
use Rattle.draft_form.specs.Drafts.{Name, Draft, Lambda, Seq, Call, none, item, ◌then◌}
use Rattle.draft_form.specs.Drawn.{name_of, Drawn}
use Rattle.draft_form.proofs.DraftsMade.{if_ok}
use Rattle.draft_form.proofs.LiteralsAdded.{on_ok}
use Rattle.scheme_expand.specs.Rewriting.{assignments, undefined, unnamed, variables}
use Rattle.scheme_expand.proofs.MadeLetrecs.{many_variables, set_is_drawn}
use Rattle.scheme_expand.proofs.Stacks.{draws_more, redrawn}
use Rattle.scheme_expand.proofs.make.Maker.letrec_by_set.Goals as goal

pub returns-clause-kept : goal.returns-clause-kept
returns-clause-kept c =
    on_ok c.bind-2.result
    (λ kept.
    draws_more _ _ _
    (draws_more _ _ _
    (draws_more _ _ _ c.in_ok-assigned.ensures.kept (redrawn c.assign_all.new.self c.bind.new.self c.in_ok-inner.ensures.kept))
    c.in_ok-undefined.ensures.kept)
    (redrawn c.undefined.new.self c.bind-2.new.self kept))
    c.bind-2.ensures.kept

pub returns-clause-drawn : goal.returns-clause-drawn
returns-clause-drawn c =
    if_ok c.bind-2.result
    (λ id drawn names nodes scope xs es e at named values body.
    let p = c.args.pos in
    let f = name_of names in
    let k = c.args.level in
    let vs = c.args.variables.items in
    let many : length vs ≡ length xs = many_variables names k vs xs named in
    let first : c.len.result ≡ length xs = omega (arith, c.len.ensures, c.args.variables.ok.0) in
    let second : c.len-2.result ≡ length xs = omega (arith, c.len-2.ensures, c.args.variables.ok.0) in
    let third : length xs ≡ c.len-3.result = omega (arith, c.len-3.ensures, c.args.variables.ok.0) in
    let keeps = c.in_ok-assigned.ensures.kept.drafts in
    let sets : Draft = Seq p (assignments p k c.in_ok-inside.inside xs then item (Call p (Lambda p [] None e) none) none) in
    let inner : Draft = Call p (Lambda p (map f c.in_ok-fresh.fresh) None sets) es in
    let inner_drawn =
    c.in_ok-inner.ensures.drawn names nodes sets es
    (c.in_ok-assigned.ensures.drawn names nodes k xs e (ap (map f) c.deref.ensures.value ∙ named) body)
    (keeps.all names nodes c.args.values es values) in
    let P : List Name → Type 0 = λ ys. Drawn names nodes c.bind-2.new.self id (Call p (Lambda p ys None inner) (undefined p xs)) in
    set_is_drawn names nodes c.bind-2.new.self id k c.in_ok-inside.inside p scope xs es e vs c.in_ok-fresh.fresh at
    (c.in_ok-inside.ensures ∙ ap (λ j. k + j) first) named
    (c.in_ok-fresh.ensures names ∙ ap (λ j. variables c.in_ok-inside.inside (unnamed j)) second)
    (subst P (ap (map f) c.from_vec.ensures)
    (drawn names nodes inner (undefined p xs)
    (c.in_ok-undefined.ensures.kept.drafts.one names nodes c.in_ok-inner.inner inner inner_drawn)
    (c.in_ok-undefined.ensures.drawn names nodes xs third))))
    c.bind-2.ensures.drawn
