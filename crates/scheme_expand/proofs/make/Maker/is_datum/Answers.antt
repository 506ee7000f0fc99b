use Rattle.draft_form.specs.Drafts.{Fresh, Ref, Const}
use Rattle.draft_form.proofs.DraftsMade.{if_ok}
use Rattle.scheme_expand.proofs.make.Maker.is_datum.Goals as goal

pub returns-clause-drawn : goal.returns-clause-drawn
returns-clause-drawn c =
    if_ok c.binary.result
    (λ id drawn names nodes a held.
    let key = Ref c.args.pos (Fresh c.args.level) in
    drawn names nodes key (Const c.args.pos a)
    (c.in_ok-datum.ensures.kept.one names nodes c.in_ok-key.key key (c.in_ok-key.ensures.drawn names nodes))
    (c.in_ok-datum.ensures.drawn names nodes a held))
    c.binary.ensures.drawn
