use Rattle.std.proofs.Common.{refl, sym, ap, ◌∙◌}
use Rattle.std.specs.Prelude.{◌||◌}
use Rattle.scheme_expand.specs.Grammar.{one_is_define}
use Rattle.scheme_expand.proofs.Due.{none_left}
use Rattle.scheme_expand.proofs.Parts.{first_of, no_items}
use Rattle.scheme_expand.proofs.body.defines.Goals as goal

pub loop-first-init : goal.loop-first-init
loop-first-init c = λ ds h. (ds, h, refl)

pub returns-then-defines : goal.returns-then-defines
returns-then-defines c = λ ds h.
    let i = c.loop-first.invariant ds h in
    let f = first_of c.args.source c.loop-first.rest.now c.in-Some.first.now c.in-Some.others.now i.0 c.in-Some.ensures.cases.0 i.1 in
    sym
    (i.2
    ∙ (ap one_is_define f.are
    ∙ ap (λ b. b || one_is_define f.others) (sym (c.defines.ensures f.datum f.first) ∙ c.if-defines.true)))

pub loop-first-preserved : goal.loop-first-preserved
loop-first-preserved c = λ ds h.
    let i = c.loop-first.invariant ds h in
    let f = first_of c.args.source c.loop-first.rest.now c.in-Some.first.now c.in-Some.others.now i.0 c.in-Some.ensures.cases.0 i.1 in (
      f.others,
      f.rest,
      i.2
          ∙ (ap one_is_define f.are
          ∙ ap (λ b. b || one_is_define f.others) (sym (c.defines.ensures f.datum f.first) ∙ c.if-defines.false)),
    )

pub returns : goal.returns
returns c = λ ds h.
    let i = c.loop-first.invariant ds h in
    sym (i.2 ∙ ap one_is_define (no_items c.args.source c.loop-first.rest.now i.0 (none_left c.loop-first.rest.now c.in_default.ensures.cases) i.1))
