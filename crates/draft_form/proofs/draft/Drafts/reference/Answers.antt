use Rattle.draft_form.proofs.DraftsMade.{if_ok, ref_made}
use Rattle.draft_form.proofs.draft.Drafts.reference.Goals as goal

pub returns-clause-drawn : goal.returns-clause-drawn
returns-clause-drawn c =
    if_ok c.add.result
    (λ id adds names nodes. ref_made names nodes c.args.self.now c.add.new.self c.args.variable c.args.pos id adds)
    c.add.ensures.added
