use Rattle.draft_form.proofs.DraftsMade.{if_ok, if_made}
use Rattle.draft_form.proofs.draft.Drafts.conditional.Goals as goal

pub returns-clause-drawn : goal.returns-clause-drawn
returns-clause-drawn c =
    if_ok c.add.result
    (λ id adds names nodes d e f first second third.
    if_made names nodes c.args.self.now c.add.new.self c.args.test c.args.yes c.args.no c.args.pos id d e f adds first second third)
    c.add.ensures.added
