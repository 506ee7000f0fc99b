use Rattle.scheme_base.specs.declared.op.Op.TheVariants as op
use Rattle.draft_form.specs.Drafts.{Ref, Prim}
use Rattle.draft_form.specs.Drawn.{name_of}
use Rattle.draft_form.proofs.DraftsMade.{if_ok}
use Rattle.scheme_expand.specs.Calls.{two}
use Rattle.scheme_expand.proofs.Due.{on_ok}
use Rattle.scheme_expand.proofs.Stacks.{draws_more}
use Rattle.scheme_expand.proofs.make.Maker.not_less.Goals as goal

pub returns-clause-kept : goal.returns-clause-kept
returns-clause-kept c =
    on_ok c.negation.result (draws_more c.args.self.now c.binary.new.self c.negation.new.self c.in_ok-test.ensures.kept)
    c.negation.ensures.kept

pub returns-clause-drawn : goal.returns-clause-drawn
returns-clause-drawn c =
    let p = c.args.pos in
    if_ok c.negation.result
    (λ id drawn names nodes.
    drawn names nodes (Prim p op.Less (two (Ref p (name_of names c.args.first)) (Ref p (name_of names c.args.second))))
    (c.in_ok-test.ensures.drawn names nodes))
    c.negation.ensures.drawn
