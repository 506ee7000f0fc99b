use Rattle.std.proofs.Common.{[], ◌∷◌, ap, length, length-append, arith}
use Rattle.scheme_expand.proofs.DefinedWords.{none_defined, one_defined, all_defined}
use Rattle.scheme_expand.proofs.Due.{none_left}
use Rattle.scheme_expand.proofs.defined.defined_names.Goals as goal

pub loop-first-init : goal.loop-first-init
loop-first-init c = (
  λ names ds spelled h. none_defined names c.args.source _ c.args.tops.now ds c.new-words.ensures.items h,
  omega (arith, ap length c.new-words.ensures.items),
)

pub loop-first-preserved : goal.loop-first-preserved
loop-first-preserved c = (
  λ names ds spelled h.
      one_defined names c.args.source _ _ _ _ c.in-Some.first.now c.in_ok-word.word ds
      (c.loop-first.invariant.0 names ds spelled h) c.in-Some.ensures.cases.0 (λ d k. c.in_ok-word.ensures names d spelled k)
      c.in_ok-push.ensures.items,
  omega (
    arith,
    ap length c.in-Some.ensures.cases.0,
    ap length c.in_ok-push.ensures.items,
    length-append c.loop-first.words.items (c.in_ok-word.word ∷ []),
    c.loop-first.invariant.1,
  ),
)

pub returns-clause-names : goal.returns-clause-names
returns-clause-names c = λ names ds spelled h.
    all_defined names c.args.source _ _ ds (c.loop-first.invariant.0 names ds spelled h)
    (none_left c.loop-first.rest.now c.in_default.ensures.cases)

pub returns-clause-count : goal.returns-clause-count
returns-clause-count c = omega (arith, c.loop-first.invariant.1, c.in_default.ensures.cases)
