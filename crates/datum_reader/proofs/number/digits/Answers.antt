use Rattle.std.proofs.Common.{◌+◌, ◌*◌, ap, ◌∙◌, arith}
use Rattle.datum_reader.specs.Numbers.{bounded}
use Rattle.datum_reader.proofs.BoundedNumbers.{one_digit}
use Rattle.datum_reader.proofs.number.digits.Goals as goal

pub loop-first-preserved : goal.loop-first-preserved
loop-first-preserved c =
    let value = c.loop-first.value in
    let radix = c.args.radix in
    let is_digit = c.digit-next.ensures in
    record {
      same =
          one_digit radix value c.with_digit-value.result c.in-Some.first.now c.in-Some.others.now c.loop-first.rest.now
          c.in-Some.ensures.cases.0 c.requires.some (omega (arith, is_digit, c.if-next-radix.false))
          (c.with_digit-value.ensures ∙ ap (λ d. bounded (value * radix + d)) is_digit)
          ∙ c.loop-first.invariant.same;
      few = grind (arith, c.with_digit-value.ensures);
    }
