use Rattle.std.proofs.Common.{◌≡◌, [], subst, arith}
use Rattle.core_form.specs.Trees.{StandAll}
use Rattle.alpha_core.specs.Renaming.{past_all, all_renamed}
use Rattle.alpha_core.proofs.BoundOnce.{all_past_bound}
use Rattle.alpha_core.proofs.renaming.renamed_core.Goals as goal

pub returns-clause-forms : goal.returns-clause-forms
returns-clause-forms c =
    λ forms h.
    subst (λ n. StandAll c.rename_list.new.self.exprs c.in_ok-forms.forms (all_renamed [] n forms)) c.new-renamer.ensures.next
    (c.in_ok-forms.ensures forms h [] c.new-renamer.ensures.scope).1.stand

pub returns-clause-few : goal.returns-clause-few
returns-clause-few c =
    λ forms h.
    let r = c.in_ok-forms.ensures forms h [] c.new-renamer.ensures.scope in
    let next : c.rename_list.new.self.next ≡ past_all c.new-renamer.result.next forms = r.1.next in
    let start : c.new-renamer.result.next ≡ 0 = c.new-renamer.ensures.next in
    omega (arith, next, start, all_past_bound c.new-renamer.result.next forms, c.count-count.ensures.few)
