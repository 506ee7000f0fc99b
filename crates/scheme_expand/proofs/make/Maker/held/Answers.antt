use Rattle.std.proofs.Common.{◌≡◌, ap₂, ◌∙◌, arith}
use Rattle.scheme_expand.specs.Calls.{count}
use Rattle.scheme_expand.proofs.HeldCalls.{fresh_many, fresh_are, one_held}
use Rattle.scheme_expand.proofs.make.Maker.held.Goals as goal

pub loop-index-preserved : goal.loop-index-preserved
loop-index-preserved c = λ names.
    one_held names c.loop-index.held c.push.new.self c.in_ok-first.first c.loop-index.index c.in_ok-level.level
    (c.loop-index.invariant names) c.in_ok-level.ensures c.in_ok-push.ensures.ok

pub returns : goal.returns
returns c = λ names bs es scope many.
    let all : c.loop-index.index ≡ count es = omega (arith, many, c.loop-index-test.false, c.loop-index.auto.index-end) in
    c.loop-index.invariant names ∙ (ap₂ fresh_many (c.in_ok-first.ensures names bs scope) all ∙ fresh_are _ es)
