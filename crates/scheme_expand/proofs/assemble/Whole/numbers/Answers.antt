use Rattle.std.proofs.Common.{◌≡◌, ◌+◌, refl, ap, arith}
use Rattle.scheme_expand.specs.ByWord.{at_most_one}
use Rattle.scheme_expand.proofs.IndexOfNames.{index_more, all_indexed}
use Rattle.scheme_expand.proofs.assemble.Whole.numbers.Goals as goal

pub loop-name-preserved : goal.loop-name-preserved
loop-name-preserved c =
    let n : c.in_ok-number.number ≡ c.loop-name.name-index + 1 = omega (arith, c.in_ok-number.ensures, c.loop-name.invariant.count) in
    record {
      count = n;
      index = λ names one.
          index_more names c.args.self.defined.now c.loop-name.name-index c.in_ok-number.number c.loop-name.numbers.items
          c.set_number.new.numbers.items c.loop-name-test.true one (c.loop-name.invariant.index names one) n
          c.in_ok-set_number.ensures.there c.in_ok-set_number.ensures.set;
    }

pub returns : goal.returns
returns c = λ names one.
    all_indexed names c.args.self.defined.now c.loop-name.name-index c.loop-name.numbers.items
    (omega (arith, c.loop-name-test.false)) (c.loop-name.invariant.index names one)

pub loop-name-init : goal.loop-name-init
loop-name-init c =
    record {
      count = refl;
      index = λ names one w. ap at_most_one (c.in_ok-numbers.ensures w);
    }
