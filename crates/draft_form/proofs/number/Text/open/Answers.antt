use Rattle.std.proofs.Common.{◌++◌, reverse, ap, ◌∙◌}
use Rattle.std.specs.Prelude.{map}
use Rattle.draft_form.specs.declared.level.Visit.TheVariants.{Begin}
use Rattle.draft_form.specs.Parts.{ids_in}
use Rattle.draft_form.proofs.LiteralsAdded.{on_ok}
use Rattle.draft_form.proofs.number.Text.open.Goals as goal

pub returns : goal.returns
returns c =
    on_ok c.push_visits.result
    (λ parts. (
      c.number_bound.new.visits.items,
      (λ g h. c.in_ok-number_bound.ensures c.args.self.now.words.now g h),
      parts ∙ ap (λ vs. vs ++ map (λ part. Begin part) (reverse (ids_in c.args.draft.now.what))) c.in_ok-push.ensures.items,
    ))
    c.push_visits.ensures
