use Rattle.std.proofs.Common.{◌≡◌, ◌<◌, length, take, drop, ap, sym, ◌∙◌, rules, arith, length-drop}
use Rattle.scheme_base.specs.Positions.{position_after}
use Rattle.datum_form.specs.Text.{lexed_after, piece}
use Rattle.datum_form.specs.declared.piece.Piece.TheVariants.{Blank, Found}
use Rattle.datum_reader.specs.Lexing.{token_then}
use Rattle.datum_reader.proofs.TokensByPieces.{piece_length_some, after_blank, at_token}
use Rattle.datum_reader.proofs.lexer.next_token.Goals as goal

pub loop-spot-smaller : goal.loop-spot-smaller
loop-spot-smaller c =
    let rest = c.loop-spot.spot.rest.now in
    let n = c.in-Blank.count in
    let there : 0 < length rest = search rules in
    let some : 0 < n =
    piece_length_some c.loop-spot.spot.pos rest (Blank n) there (sym c.in_ok-count.ensures.value ∙ c.in-Blank.is) in
    let shorter : length c.past-spot.result.rest.now < length rest =
    omega (arith, ap length c.past-spot.ensures.rest, length-drop n rest, some, there) in
    shorter

pub loop-spot-preserved : goal.loop-spot-preserved
loop-spot-preserved c =
    let rest = c.loop-spot.spot.rest.now in
    let p = c.loop-spot.spot.pos in
    let n = c.in-Blank.count in
    let there : 0 < length rest = search rules in
    let is : piece p rest ≡ Blank n = sym c.in_ok-count.ensures.value ∙ c.in-Blank.is in
    let after = c.past-spot.result in
    record {
      same =
          ap (λ q. lexed_after 0 q after.rest.now) c.past-spot.ensures.pos
          ∙ (ap (λ r. lexed_after 0 (position_after p (take n rest)) r) c.past-spot.ensures.rest
          ∙ (after_blank p rest n there is ∙ c.loop-spot.invariant.same));
      shorter =
          omega (
            arith,
            ap length c.past-spot.ensures.rest,
            length-drop n rest,
            c.loop-spot.invariant.shorter,
          );
      line = omega (arith, c.past-spot.ensures.line, c.loop-spot.invariant.line);
      col = omega (arith, c.past-spot.ensures.col, c.loop-spot.invariant.col);
    }

pub returns-in-Found-clause-value : goal.returns-in-Found-clause-value
returns-in-Found-clause-value c =
    let rest = c.loop-spot.spot.rest.now in
    let p = c.loop-spot.spot.pos in
    let n = c.in-Found.count in
    let t = c.in-Found.token in
    let there : 0 < length rest = search rules in
    let is : piece p rest ≡ Found t n = sym c.in_ok-count.ensures.value ∙ c.in-Found.is in
    let after = c.past.result in
    sym c.loop-spot.invariant.same
    ∙ (at_token p rest t n there is
    ∙ (ap (λ q. token_then t (lexed_after 0 q (drop n rest))) (sym c.past.ensures.pos)
    ∙ ap (λ r. token_then t (lexed_after 0 after.pos r)) (sym c.past.ensures.rest)))

pub returns-in-Found-clause-shorter : goal.returns-in-Found-clause-shorter
returns-in-Found-clause-shorter c =
    let rest = c.loop-spot.spot.rest.now in
    let n = c.in-Found.count in
    let there : 0 < length rest = search rules in
    let some : 0 < n =
    piece_length_some c.loop-spot.spot.pos rest (Found c.in-Found.token n) there
    (sym c.in_ok-count.ensures.value ∙ c.in-Found.is) in
    record {
      shorter =
          omega (
            arith,
            ap length c.past.ensures.rest,
            length-drop n rest,
            some,
            there,
            c.loop-spot.invariant.shorter,
          );
      line = omega (arith, c.past.ensures.line, c.loop-spot.invariant.line);
      col = omega (arith, c.past.ensures.col, c.loop-spot.invariant.col);
    }
