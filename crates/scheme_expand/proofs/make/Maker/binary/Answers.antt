use Rattle.draft_form.specs.Drafts.{Draft, Ref}
use Rattle.draft_form.specs.Drawn.{name_of}
use Rattle.draft_form.proofs.DraftsMade.{if_ok}
use Rattle.scheme_expand.proofs.make.Maker.binary.Goals as goal

pub returns-clause-drawn : goal.returns-clause-drawn
returns-clause-drawn c =
    if_ok c.binary.result
    (λ id drawn names nodes.
    let first : Draft = Ref c.args.pos (name_of names c.args.first) in
    drawn names nodes first (Ref c.args.pos (name_of names c.args.second))
    (c.in_ok-second.ensures.kept.one names nodes c.in_ok-first.first first (c.in_ok-first.ensures.drawn names nodes))
    (c.in_ok-second.ensures.drawn names nodes))
    c.binary.ensures.drawn
