use Rattle.std.proofs.Common.{◌∙◌, sym, rules, arith}
use Rattle.std.proofs.lemmas.Grind.{common_steps}
use Rattle.stalin_top.proofs.Numbers.{no_number, is_number, parsed}
use Rattle.stalin_top.proofs.shape.Range.number.Goals as goal
use Rattle.stalin_top.proofs.shape.Range.number.Goals.{else-eq-via-then-eq+else-has, else-eq-via-else-eq}

pub returns-in_default : goal.returns-in_default
returns-in_default c =
    sym
    (no_number c.args.self c.args.word.now
    (λ n is holds.
    let ok = parsed c.args.self c.args.word.now n c.parse.result c.parse.ensures.value.0 is holds (omega (arith, c.well_formed)) in
    (first_of (search rules, grind (arith, common_steps)))))

pub returns-then-has : goal.returns-then-has
returns-then-has c =
    sym
    (is_number c.args.self c.args.word.now c.in-Ok.number (first_of (search rules, grind (arith, common_steps)))
    (sym c.has.ensures ∙ c.if-has.true)
    (omega (arith, c.well_formed)))

pub returns-else-eq : goal.returns-else-eq
returns-else-eq c =
    sym
    (no_number c.args.self c.args.word.now
    (λ n is holds.
    let ok = parsed c.args.self c.args.word.now n c.parse.result c.parse.ensures.value.0 is holds (omega (arith, c.well_formed)) in
    elim c.else-eq.branch [
      | else-eq-via-then-eq+else-has w ↦ (first_of (search rules, grind (arith, common_steps)))
      | else-eq-via-else-eq w ↦ (first_of (search rules, grind (arith, common_steps)))
    ]))
