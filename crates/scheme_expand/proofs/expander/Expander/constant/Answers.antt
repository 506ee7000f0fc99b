use Rattle.std.proofs.Common.{refl}
use Rattle.scheme_expand.proofs.Coming.{remade}
use Rattle.scheme_expand.proofs.Due.{on_ok}
use Rattle.scheme_expand.specs.Views.{pushed}
use Rattle.draft_form.specs.Drafts.{Const}
use Rattle.scheme_expand.proofs.expander.Expander.constant.Goals as goal

pub returns-clause-core : goal.returns-clause-core
returns-clause-core c =
    let a = c.args.self.now in
    on_ok c.constant.result
    (λ m κ v x i h.
    record {
      steps = refl;
      view =
          remade κ a _ v (pushed (Const c.args.pos x) v) i (record { source = refl; library = refl; changed = refl }) refl
          (m κ v x i.made h);
    })
    c.constant.ensures
