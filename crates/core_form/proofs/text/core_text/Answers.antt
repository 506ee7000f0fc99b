use Rattle.std.proofs.Common.{rules, ◌++◌, sym, ap, subst, ◌∙◌, append-nil}
use Rattle.core_form.specs.Pieces.{LinesText}
use Rattle.core_form.proofs.PieceTexts.{one_line, no_line, line_after}
use Rattle.core_form.proofs.text.core_text.Goals as goal

pub loop-form-init : goal.loop-form-init
loop-form-init c =
    λ t h. (
      t,
      subst (λ ids. LinesText c.args.core.now ids t) (sym c.as_slice-forms.ensures) h,
      ap (λ x. x ++ t) (sym c.new-text.ensures.items),
    )

pub write_form-requires : goal.write_form-requires
write_form-requires c =
    let inv = c.loop-form.invariant c.requires.0 c.requires.1 in
    let line = one_line c.args.core.now c.loop-form.forms.now c.in-Some.others.now c.in-Some.form.now inv.0 (search rules) inv.1 in
    (line.0, line.2)

pub loop-form-smaller : goal.loop-form-smaller
loop-form-smaller c = search rules

pub loop-form-preserved : goal.loop-form-preserved
loop-form-preserved c =
    λ t h.
    let inv = c.loop-form.invariant t h in
    line_after c.args.core.now c.loop-form.forms.now c.in-Some.others.now c.in-Some.form.now c.loop-form.text.items
    c.write_form.new.text.items c.push.new.self.items t inv.0 (search rules) c.in_ok-write_form.ensures
    c.in_ok-push.ensures.items inv.1 inv.2

pub returns : goal.returns
returns c =
    λ t h.
    let inv = c.loop-form.invariant t h in
    sym
    (inv.2
    ∙ (ap (λ x. c.loop-form.text.items ++ x) (no_line c.args.core.now c.loop-form.forms.now inv.0 c.in_default.ensures.cases inv.1)
    ∙ append-nil c.loop-form.text.items))
