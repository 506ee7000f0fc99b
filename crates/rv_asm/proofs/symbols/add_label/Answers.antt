use Rattle.std.proofs.Common.{◌≡◌, ap, ◌∙◌, sym, subst}
use Rattle.std.specs.Prelude.{Some}
use Rattle.std.proofs.Common.{cond}
use Rattle.indexmap.specs.IndexMap.{get}
use Rattle.const_data.specs.declared.word.Label.{Label}
use Rattle.rv_asm.specs.Layout.{same_label, here, or_else}
use Rattle.rv_asm.proofs.Labels.{label_eqs, or_else_cond}
use Rattle.rv_asm.proofs.symbols.add_label.Goals as goal

pub returns-in_ok-insert : goal.returns-in_ok-insert
returns-in_ok-insert c =
    let before = c.args.places.now in
    let after = c.insert.new.self in
    let key = c.in-Here.label in
    let updated =
    subst (λ eq. (q : Label) → get eq after q ≡ cond (eq key q) (Some c.args.at) (get eq before q)) label_eqs c.in_ok-insert.ensures.updates.0
    in
    λ l.
    updated l
    ∙ (sym (or_else_cond (same_label key l) c.args.at (get same_label before l))
    ∙ ap (λ i. or_else (here l c.args.at i) (get same_label before l)) (sym c.in-Here.is))
