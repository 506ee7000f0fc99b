use Rattle.std.proofs.Common.{◌+◌, sym, subst, take}
use Rattle.scheme_base.specs.declared.place.Stated.TheVariants.{False}
use Rattle.repr_choice.specs.Marks.{MarksFictions}
use Rattle.repr_choice.proofs.Marking.{one_marked}
use Rattle.repr_choice.proofs.choice.fictitious.Goals as goal

pub loop-fiction-preserved : goal.loop-fiction-preserved
loop-fiction-preserved c =
    let i = c.loop-fiction.fiction-index in
    subst (λ ms. MarksFictions c.args.many (take (i + 1) c.args.fictions.now) ms) (sym c.mark.ensures)
    (one_marked c.args.many c.args.fictions.now i (record { var = 0; value = False }) c.loop-fiction.marks.items c.loop-fiction-test.true c.loop-fiction.invariant)
