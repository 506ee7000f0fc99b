use Rattle.std.proofs.Common.{◌≡◌, length, refl, ◌∙◌, arith}
use Rattle.draft_form.proofs.DraftsStay.{draft_added}
use Rattle.draft_form.proofs.draft.Drafts.add.Goals as goal

pub returns-clause-added : goal.returns-clause-added
returns-clause-added c =
    let n : c.len.result ≡ length c.args.self.now.exprs.items = omega (arith, c.len.ensures, c.args.self.now.exprs.ok.0) in
    record { number = c.in_ok-id.ensures ∙ n; exprs = c.in_ok-push.ensures.items; constants = refl }

pub returns-clause-kept : goal.returns-clause-kept
returns-clause-kept c = draft_added c.args.self.now _ c.args.what c.args.pos c.in_ok-id.id (returns-clause-added c)
