use Rattle.std.proofs.Common.{◌<◌, get_or, refl, ◌∙◌, arith}
use Rattle.std.specs.Prelude.{vec_len}
use Rattle.least_set.proofs.Has.{below_at, has_at}
use Rattle.least_set.proofs.Marks.{grows_on, nothing_new}
use Rattle.least_set.proofs.search.mark_all.Goals as goal

pub loop-number-init : goal.loop-number-init
loop-number-init c = record { size = refl; tells = c.requires.tells; grows = nothing_new c.args.found.now }

pub mark-requires-clause-there : goal.mark-requires-clause-there
mark-requires-clause-there c =
    let i = c.loop-number.number-index in
    let numbers = c.args.numbers.now in
    let below : get_or numbers i 0 < vec_len c.args.marks.now =
    below_at (vec_len c.args.marks.now) numbers (get_or numbers i 0) c.requires.below (has_at numbers i (get_or numbers i 0) c.loop-number-test.true refl) in
    omega (arith, below, c.loop-number.invariant.size)

pub loop-number-preserved : goal.loop-number-preserved
loop-number-preserved c =
    record {
      size = c.in_ok-mark.ensures.size ∙ c.loop-number.invariant.size;
      tells = c.in_ok-mark.ensures.tells;
      grows =
          grows_on c.args.numbers.now c.args.found.now c.loop-number.found c.mark.new.found c.loop-number.number-index
          (get_or c.args.numbers.now c.loop-number.number-index 0) c.loop-number-test.true refl c.loop-number.invariant.grows c.in_ok-mark.ensures.grows;
    }
