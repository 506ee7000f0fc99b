use Rattle.std.proofs.Common.{sym, subst, get_or, set, ap, ◌∙◌}
use Rattle.std.specs.Prelude.{length}
use Rattle.std.proofs.lemmas.List.{length-set}
use Rattle.scheme_base.specs.declared.place.Mark.TheVariants.{Global}
use Rattle.region_infer.specs.Regions.{AreMarks}
use Rattle.std.proofs.Common.{◌+◌, take}
use Rattle.region_infer.proofs.Marking.{one_marked}
use Rattle.region_infer.proofs.marks.marks_of.Goals as goal

pub loop-site-preserved : goal.loop-site-preserved
loop-site-preserved c =
    let i = c.loop-site.site-index in
    let site = get_or c.args.escaping.now i 0 in
    record {
      marked =
          subst (λ ms. AreMarks (take (i + 1) c.args.escaping.now) ms) (sym c.mark.ensures)
          (one_marked c.args.escaping.now i c.loop-site.marks.items c.loop-site-test.true c.loop-site.invariant.marked);
      long = ap (λ ms. length ms) c.mark.ensures ∙ (length-set c.loop-site.marks.items site Global ∙ c.loop-site.invariant.long);
    }
