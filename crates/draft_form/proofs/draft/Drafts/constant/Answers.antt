use Rattle.std.proofs.Common.{◌≡◌, length, refl, ◌∙◌, arith}
use Rattle.draft_form.proofs.DraftsMade.{if_ok, const_made, symbols_made}
use Rattle.draft_form.proofs.DraftsStay.{constant_added, then_kept}
use Rattle.draft_form.proofs.LiteralsAdded.{on_ok}
use Rattle.draft_form.proofs.draft.Drafts.constant.Goals as goal

pub returns-clause-kept : goal.returns-clause-kept
returns-clause-kept c =
    on_ok c.add.result
    (then_kept c.args.self.now _ c.add.new.self (constant_added c.args.self.now _ c.args.constant refl c.in_ok-push.ensures.items))
    c.add.ensures.kept

pub returns-clause-drawn : goal.returns-clause-drawn
returns-clause-drawn c =
    let n : c.len.result ≡ length c.args.self.now.constants.items = omega (arith, c.len.ensures, c.args.self.now.constants.ok.0) in
    if_ok c.add.result
    (λ id adds names nodes q is_held.
    const_made names nodes c.args.self.now _ c.add.new.self c.args.constant c.in_ok-place.place c.args.pos id q c.in_ok-push.ensures.items
    (c.in_ok-place.ensures ∙ n) adds is_held)
    c.add.ensures.added

pub returns-clause-symbols : goal.returns-clause-symbols
returns-clause-symbols c =
    let n : c.len.result ≡ length c.args.self.now.constants.items = omega (arith, c.len.ensures, c.args.self.now.constants.ok.0) in
    if_ok c.add.result
    (λ id adds names nodes is_symbols.
    symbols_made names nodes c.args.self.now _ c.add.new.self c.args.constant c.in_ok-place.place c.args.pos id c.in_ok-push.ensures.items
    (c.in_ok-place.ensures ∙ n) adds is_symbols)
    c.add.ensures.added
