use Rattle.std.proofs.Common.{◌≡◌, ap, refl, ◌∙◌, arith}
use Rattle.std.specs.Prelude.{map}
use Rattle.draft_form.specs.Drawn.{name_of}
use Rattle.scheme_expand.specs.Rewriting.{unnamed, variables}
use Rattle.scheme_expand.proofs.MadeLetrecs.{one_fresh_behind}
use Rattle.scheme_expand.proofs.make.Maker.fresh_from.Goals as goal

pub loop-index-init : goal.loop-index-init
loop-index-init c = λ names. ap (map (name_of names)) c.new-fresh.ensures

pub loop-index-preserved : goal.loop-index-preserved
loop-index-preserved c = λ names.
    one_fresh_behind names c.args.level c.loop-index.index c.in_ok-level.level c.loop-index.fresh c.push.new.self _
    (c.loop-index.invariant names) c.in_ok-level.ensures refl c.in_ok-push.ensures.ok

pub returns : goal.returns
returns c = λ names.
    let all : c.loop-index.index ≡ c.args.count = omega arith in
    c.loop-index.invariant names ∙ ap (λ n. variables c.args.level (unnamed n)) all
