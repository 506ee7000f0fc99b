use Rattle.std.proofs.Common.{refl, sym, ap, ◌∷◌, []}
use Rattle.scheme_expand.specs.Views.{noting}
use Rattle.scheme_expand.proofs.Coming.{leaves_as}
use Rattle.scheme_expand.proofs.Flagged.{local_noted}
use Rattle.draft_form.specs.Drafts.{Changed}
use Rattle.draft_form.specs.Drawn.{name_of, word_name}
use Rattle.scheme_expand.proofs.expander.Expander.assign.Goals as goal

pub returns-in-Local-clause-core : goal.returns-in-Local-clause-core
returns-in-Local-clause-core c = λ κ v i.
    let a = c.args.self.now in
    let y = word_name κ.names c.in-Local.word in
    leaves_as κ a _ _ (noting κ (Changed (name_of κ.names c.args.variable) ∷ []) v)
    (ap (λ x. noting κ (Changed (name_of κ.names x) ∷ []) v) (sym c.in-Local.is))
    (local_noted κ a _ v c.in-Local.level y i (record { source = refl; library = refl; changed = refl })
    (record { made = refl; drafts = refl; helpers = refl }) refl (c.assign.ensures κ.names v.bound y i.made.scope))

pub returns-in_default-clause-core : goal.returns-in_default-clause-core
returns-in_default-clause-core c = λ κ v i. c.change.ensures.core κ v i c.in_default.not-Local
