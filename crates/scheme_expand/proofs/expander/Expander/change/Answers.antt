use Rattle.std.proofs.Common.{refl, sym, ap, ◌∷◌, []}
use Rattle.scheme_expand.specs.Views.{noting}
use Rattle.scheme_expand.proofs.Coming.{leaves_as, stays}
use Rattle.scheme_expand.proofs.Flagged.{library_noted, none_noted}
use Rattle.draft_form.specs.Drafts.{Changed}
use Rattle.draft_form.specs.Drawn.{name_of}
use Rattle.scheme_expand.proofs.expander.Expander.change.Goals as goal

pub returns-in_default-clause-core : goal.returns-in_default-clause-core
returns-in_default-clause-core c = λ κ v i not_local.
    let a = c.args.self.now in
    leaves_as κ a a v _ (none_noted κ c.args.variable v not_local c.in_default.not-Library) (stays κ a v i)

pub returns-clause-core : goal.returns-clause-core
returns-clause-core c = λ κ v i not_local.
    let a = c.args.self.now in
    leaves_as κ a _ _ (noting κ (Changed (name_of κ.names c.args.variable) ∷ []) v)
    (ap (λ x. noting κ (Changed (name_of κ.names x) ∷ []) v) (sym c.in-Library.is))
    (library_noted κ a _ v c.in-Library.word i refl refl refl refl c.mark.ensures)
