use Rattle.std.proofs.Common.{[], true, length, refl, sym, ap, ◌∙◌}
use Rattle.std.proofs.lemmas.List.{length-map}
use Rattle.scheme_expand.specs.Grammar.{forms}
use Rattle.scheme_expand.specs.Rewriting.{OfLibrary, form_cores}
use Rattle.scheme_expand.specs.Views.{empty_view}
use Rattle.scheme_expand.proofs.Noting.{scope_with}
use Rattle.scheme_expand.proofs.TopForms.{all_flags, all_library, forms_drawn, side_ends}
use Rattle.scheme_expand.proofs.answer.expand_library.Goals as goal

pub returns : goal.returns
returns c = λ κ ds suits side h n.
    let r = c.in_ok-resize.ensures in
    let all =
    c.deref.ensures.value
    ∙ all_flags _ _ _ _ κ.names c.new-all.ensures.items c.new-all.ensures.len r.items
    (c.len.ensures ∙ sym (ap length suits.names)) in
    let view =
    c.in_ok-expander.ensures.core κ suits.fits suits.source suits.helpers (all_library κ.names _ κ.side all side)
    (ap length all ∙ length-map κ.names (λ x. true)) in
    let ends = c.in_ok-forms.ensures.core κ (empty_view κ.names) ds view h c.in_ok-expander.ensures.fault.1 n refl in
    forms_drawn κ c.forms.new.self (form_cores (forms ds) (scope_with OfLibrary []))
    (side_ends κ c.forms.new.self (forms ds) OfLibrary side ends)
