use Rattle.std.proofs.Common.{◌≡◌, None, length, map, sym, ap, subst, ◌∙◌}
use Rattle.draft_form.specs.Drafts.{Draft, Lambda, Call}
use Rattle.draft_form.specs.Drawn.{name_of, Drawn}
use Rattle.draft_form.proofs.DraftsMade.{if_ok}
use Rattle.scheme_expand.specs.Calls.{fresh, references}
use Rattle.scheme_expand.specs.Rewritten.{refs, over}
use Rattle.scheme_expand.proofs.HeldCalls.{refs_are, drawn_many, none_bound, some_bound}
use Rattle.scheme_expand.proofs.make.Maker.held_first.Goals as goal

pub returns-then-is_empty-clause-drawn : goal.returns-then-is_empty-clause-drawn
returns-then-is_empty-clause-drawn c = λ names nodes bs es d scope operands h.
    let p = c.args.pos in
    let ids = c.args.operands in
    let t = c.args.self.now.drafts in
    let held = c.in_ok-held.held in
    let are : map (name_of names) held ≡ fresh (length bs) es =
    c.in_ok-held.ensures names bs es scope (drawn_many names nodes t ids es operands ∙ sym c.len.ensures)
    in
    c.in_ok-body.ensures.drawn names nodes d
    (ap (λ vs. over p c.args.known (refs names p vs)) c.as_slice.ensures
    ∙ (ap (over p c.args.known) (refs_are names p held (length bs) es are)
    ∙ none_bound names nodes t ids es p (length bs) (over p c.args.known (references p (length bs) es)) d operands
    (c.is_empty.ensures.0 c.if-is_empty.true) h))

pub returns-clause-drawn : goal.returns-clause-drawn
returns-clause-drawn c =
    let p = c.args.pos in
    let ids = c.args.operands in
    let t = c.args.self.now.drafts in
    let held = c.in_ok-held.held in
    if_ok c.bind.result
    (λ id drawn names nodes bs es d scope operands h.
    let are : map (name_of names) held ≡ fresh (length bs) es =
    c.in_ok-held.ensures names bs es scope (drawn_many names nodes t ids es operands ∙ sym c.len.ensures)
    in
    let b =
    some_bound names nodes t ids es p (length bs) (over p c.args.known (references p (length bs) es)) d operands
    (λ e. let yes = c.is_empty.ensures.1 e in let no_ = c.if-is_empty.false in cc) h
    in
    let P : Draft → Type 0 = λ e. Drawn names nodes c.bind.new.self id e in
    subst P (ap (λ xs. Call p (Lambda p xs None b.body) es) are ∙ sym b.is)
    (drawn names nodes b.body es
    (c.in_ok-body.ensures.drawn names nodes b.body
    (ap (λ vs. over p c.args.known (refs names p vs)) c.as_slice.ensures
    ∙ (ap (over p c.args.known) (refs_are names p held (length bs) es are) ∙ b.some)))
    (c.in_ok-body.ensures.kept.drafts.all names nodes ids es operands)))
    c.bind.ensures.drawn
