use Rattle.std.proofs.Common.{◌≡◌, Some, sym, ap, subst, ◌∙◌}
use Rattle.draft_form.specs.Drafts.{Draft}
use Rattle.draft_form.specs.Drawn.{Drawn}
use Rattle.draft_form.proofs.DraftsMade.{if_ok}
use Rattle.scheme_expand.specs.Calls.{way, Differs}
use Rattle.scheme_expand.specs.Rewritten.{refs, over}
use Rattle.scheme_expand.proofs.HeldCalls.{differs_is}
use Rattle.scheme_expand.proofs.make.Maker.over.Goals as goal

pub returns-in-Subtract-clause-drawn : goal.returns-in-Subtract-clause-drawn
returns-in-Subtract-clause-drawn c =
    let p = c.args.pos in
    if_ok c.fold-in-Subtract.result
    (λ id drawn names nodes d h.
    let ts = refs names p c.args.held.now in
    let P : Draft → Type 0 = λ e. Drawn names nodes c.fold-in-Subtract.new.self.drafts id e in
    let is : way p Differs ts ≡ Some d = ap (λ k. over p k ts) (sym c.in-Subtract.is) ∙ h in
    subst P (differs_is p ts d is) (drawn names nodes))
    c.fold-in-Subtract.ensures.drawn
