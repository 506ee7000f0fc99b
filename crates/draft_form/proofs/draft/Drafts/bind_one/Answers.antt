use Rattle.std.proofs.Common.{List, ap, subst}
use Rattle.std.specs.Prelude.{map, None}
use Rattle.draft_form.specs.Drafts.{Name, Lambda, Call, none, item}
use Rattle.draft_form.specs.Drawn.{name_of, Drawn}
use Rattle.draft_form.proofs.DraftsMade.{if_ok, one_drawn}
use Rattle.draft_form.proofs.draft.Drafts.bind_one.Goals as goal

pub returns-clause-drawn : goal.returns-clause-drawn
returns-clause-drawn c =
    if_ok c.bind.result
    (λ id drawn names nodes d e value body.
    let P : List Name → Type 0 = λ xs. Drawn names nodes c.bind.new.self id (Call c.args.pos (Lambda c.args.pos xs None e) (item d none)) in
    subst P (ap (map (name_of names)) c.in_ok-params.ensures)
    (drawn names nodes e (item d none) body
    (one_drawn names nodes c.args.self.now c.in_ok-operands.operands c.args.value d c.in_ok-operands.ensures value)))
    c.bind.ensures.drawn
