use Rattle.std.proofs.Common.{refl}
use Rattle.std.specs.Prelude.{map, None}
use Rattle.draft_form.specs.Drafts.{Lambda}
use Rattle.draft_form.specs.Drawn.{name_of}
use Rattle.draft_form.proofs.DraftsMade.{if_ok, call_made, lambda_made}
use Rattle.draft_form.proofs.DraftsStay.{then_kept}
use Rattle.draft_form.proofs.LiteralsAdded.{on_ok}
use Rattle.draft_form.proofs.draft.Drafts.bind.Goals as goal

pub returns-clause-kept : goal.returns-clause-kept
returns-clause-kept c =
    on_ok c.add-2.result (then_kept c.args.self.now c.add.new.self c.add-2.new.self c.in_ok-operator.ensures.kept) c.add-2.ensures.kept

pub returns-clause-drawn : goal.returns-clause-drawn
returns-clause-drawn c =
    if_ok c.add-2.result
    (λ id adds names nodes e es body operands.
    call_made names nodes c.add.new.self c.add-2.new.self c.in_ok-operator.operator c.args.operands c.args.operands c.args.pos id
    (Lambda c.args.pos (map (name_of names) c.args.params) None e) es adds refl
    (lambda_made names nodes c.args.self.now c.add.new.self c.args.params c.args.body c.args.pos c.in_ok-operator.operator e
    c.in_ok-operator.ensures.added body)
    (c.in_ok-operator.ensures.kept.all names nodes c.args.operands es operands))
    c.add-2.ensures.added
