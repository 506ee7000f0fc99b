use Rattle.std.proofs.Common.{arith}
use Rattle.scheme_expand.proofs.IndexOfNames.{more_known, all_known}
use Rattle.scheme_expand.proofs.assemble.known_numbers.Goals as goal

pub loop-word-preserved : goal.loop-word-preserved
loop-word-preserved c =
    record {
      within = c.in_ok-add_number.ensures.within c.loop-word.invariant.within;
      exact = λ names defined index few.
          more_known names defined c.args.numbers.now c.args.words.now c.loop-word.word-index c.args.count c.loop-word.ids
          c.add_number.new.ids c.loop-word-test.true index few (c.loop-word.invariant.exact names defined index few)
          c.in_ok-add_number.ensures.exact;
    }

pub returns-clause-exact : goal.returns-clause-exact
returns-clause-exact c = λ names defined index few.
    all_known names defined c.args.words.now c.loop-word.word-index c.loop-word.ids (omega (arith, c.loop-word-test.false))
    (c.loop-word.invariant.exact names defined index few)
