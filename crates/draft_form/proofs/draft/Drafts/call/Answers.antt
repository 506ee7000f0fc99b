use Rattle.draft_form.proofs.DraftsMade.{if_ok, call_made}
use Rattle.draft_form.proofs.draft.Drafts.call.Goals as goal

pub returns-clause-drawn : goal.returns-clause-drawn
returns-clause-drawn c =
    if_ok c.add.result
    (λ id adds names nodes f es first others.
    call_made names nodes c.args.self.now c.add.new.self c.args.operator c.in_ok-operands.operands c.args.operands.now c.args.pos id f es adds
    c.in_ok-operands.ensures first others)
    c.add.ensures.added
