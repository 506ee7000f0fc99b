use Rattle.std.proofs.Common.{◌≡◌, [], refl, sym, ◌∙◌, arith}
use Rattle.std.proofs.lemmas.Grind.{common_steps}
use Rattle.scheme_expand.proofs.Collecting.{definitions_at}
use Rattle.scheme_expand.proofs.Heading.{no_exprs, late_definition, body_read}
use Rattle.scheme_expand.proofs.body.read_body.Goals as goal

pub returns-then-is_empty : goal.returns-then-is_empty
returns-then-is_empty c = λ ds h.
    let empty : c.in_ok-exprs.exprs.now ≡ [] = grind (arith, common_steps, c.if-is_empty.ensures) in
    no_exprs c.args.source ds _ _ _ (c.in_ok-exprs.ensures ds h) empty

pub returns-then-defines : goal.returns-then-defines
returns-then-defines c = λ ds h.
    late_definition c.args.source ds _ _ _ (c.in_ok-exprs.ensures ds h)
    (λ es k. sym c.if-defines.true ∙ c.defines.ensures es k)

pub returns : goal.returns
returns c = λ ds h.
    let some : c.in_ok-exprs.exprs.now ≡ [] → ⊥ = grind (arith, common_steps, c.if-is_empty.ensures) in
    body_read c.args.source ds _ _ _ _ _ c.new-definitions.ensures.items (c.in_ok-exprs.ensures ds h)
    (λ es k. sym c.if-defines.false ∙ c.defines.ensures es k) some refl refl refl
    (λ defs k. c.in_ok-names.ensures defs (definitions_at c.args.source _ _ defs c.deref.ensures.value k))
