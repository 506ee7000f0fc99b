use Rattle.std.proofs.Common.{w64, sym, ap, subst, arith}
use Rattle.std.proofs.lemmas.Int.{to_z-of_z}
use Rattle.scheme_base.specs.Constants.{Constant as constant}
use Rattle.draft_form.specs.Drafts.{Draft, Const, Ref}
use Rattle.draft_form.specs.Drawn.{name_of, Drawn}
use Rattle.draft_form.proofs.DraftsMade.{if_ok}
use Rattle.scheme_expand.proofs.HeldCalls.{few_summed, many_summed}
use Rattle.scheme_expand.proofs.make.Maker.fold.Goals as goal

pub returns-then-held-lt2-clause-drawn : goal.returns-then-held-lt2-clause-drawn
returns-then-held-lt2-clause-drawn c =
    let p = c.args.pos in
    let n = c.args.start in
    if_ok c.folded.result
    (λ id drawn names nodes.
    let P : Draft → Type 0 = λ e. Drawn names nodes c.folded.new.self.drafts id e in
    subst P (few_summed names p c.args.op n c.args.held.now (omega (arith, c.if-held-lt2.true)))
    (drawn names nodes (Const p (constant.Integer n))
    (c.in_ok-first.ensures.drawn names nodes (constant.Integer n) (ap constant.Integer (sym (to_z-of_z w64 n c.ranges.start))))))
    c.folded.ensures.drawn

pub returns-clause-drawn : goal.returns-clause-drawn
returns-clause-drawn c =
    let p = c.args.pos in
    let first = c.in-Some.first.now in
    if_ok c.folded-2.result
    (λ id drawn names nodes.
    let P : Draft → Type 0 = λ e. Drawn names nodes c.folded-2.new.self.drafts id e in
    subst P
    (many_summed names p c.args.op c.args.start c.args.held.now c.in-Some.others.now first (omega (arith, c.if-held-lt2.false))
    c.in-Some.ensures.cases.0)
    (drawn names nodes (Ref p (name_of names first)) (c.in_ok-first-2.ensures.drawn names nodes)))
    c.folded-2.ensures.drawn
