use Rattle.draft_form.proofs.DraftsMade.{if_ok, prim_made}
use Rattle.draft_form.proofs.draft.Drafts.binary.Goals as goal

pub returns-clause-drawn : goal.returns-clause-drawn
returns-clause-drawn c =
    if_ok c.add.result
    (λ id adds names nodes d e first second.
    prim_made names nodes c.args.self.now c.add.new.self c.args.op c.in_ok-operands.operands c.args.first c.args.second c.args.pos id d e adds
    c.in_ok-operands.ensures first second)
    c.add.ensures.added
