use Rattle.std.proofs.Common.{[], refl, subst, arith}
use Rattle.datum_form.specs.Syntax.{place_of}
use Rattle.datum_form.specs.Text.{lexed}
use Rattle.datum_form.specs.Text.Ending.{BadAt, RangeAt, OpenAt}
use Rattle.datum_reader.specs.declared.error.ReadErr.TheVariants.{Unclosed, Stray, BadToken, NumberRange, TooDeep}
use Rattle.datum_reader.specs.declared.lexer.Next.{Next}
use Rattle.datum_reader.specs.declared.reading.Taken.{Taken}
use Rattle.datum_reader.specs.Lexing.{Scans, Shorter}
use Rattle.datum_reader.specs.Machine.{step}
use Rattle.datum_reader.specs.Machine.Run.{Stray as StrayRun, Deep as DeepRun}
use Rattle.datum_reader.specs.Reading.{Follows}
use Rattle.datum_reader.specs.Answer.{max_depth}
use Rattle.datum_reader.proofs.AnswerFollows.{goes_on, stop_read, refused_read, all_read}
use Rattle.datum_reader.proofs.read.read_short.Goals as goal

pub loop-next-init : goal.loop-next-init
loop-next-init c =
    record {
      pending =
          record {
            state = record { room = max_depth; frames = []; trees = []; holds = c.new-reading.ensures };
            same = refl;
            ending = refl;
          };
      line = omega arith;
      col = omega arith;
    }

pub next_token-requires-clause-line : goal.next_token-requires-clause-line
next_token-requires-clause-line c = omega (arith, c.loop-next.invariant.line, c.requires)

pub next_token-requires-clause-col : goal.next_token-requires-clause-col
next_token-requires-clause-col c = omega (arith, c.loop-next.invariant.col, c.requires)

pub returns-in-End : goal.returns-in-End
returns-in-End c =
    let p = c.loop-next.invariant.pending in
    let spot = c.loop-next.spot in
    let P : Next → Type 0 = λ x. Scans spot x in
    all_read c.args.text.now c.finish.result c.loop-next.reading spot p c.requires
    (subst P c.in-End.is c.in-Ok.ensures.value) (c.finish.ensures p.state.room p.state.frames p.state.trees p.state.holds)

pub returns-in-BadToken : goal.returns-in-BadToken
returns-in-BadToken c =
    stop_read c.args.text.now c.loop-next.reading c.loop-next.spot (BadAt c.in-BadToken.pos) (BadToken c.in-BadToken.pos)
    c.loop-next.invariant.pending c.requires c.in-Ok.ensures.value c.in-BadToken.is (λ h. h) refl

pub returns-in-BadNumber : goal.returns-in-BadNumber
returns-in-BadNumber c =
    stop_read c.args.text.now c.loop-next.reading c.loop-next.spot (RangeAt c.in-BadNumber.pos) (NumberRange c.in-BadNumber.pos)
    c.loop-next.invariant.pending c.requires c.in-Ok.ensures.value c.in-BadNumber.is (λ h. h) refl

pub returns-in-OpenString : goal.returns-in-OpenString
returns-in-OpenString c =
    stop_read c.args.text.now c.loop-next.reading c.loop-next.spot (OpenAt c.in-OpenString.pos) (Unclosed c.in-OpenString.pos)
    c.loop-next.invariant.pending c.requires c.in-Ok.ensures.value c.in-OpenString.is (λ h. h) refl

pub loop-next-smaller : goal.loop-next-smaller
loop-next-smaller c =
    let P : Next → Type 0 = λ x. Shorter c.loop-next.spot x in
    let past = subst P c.in-Token.is c.in-Ok.ensures.shorter in
    past.shorter

pub loop-next-preserved : goal.loop-next-preserved
loop-next-preserved c =
    let i = c.loop-next.invariant in
    let p = i.pending in
    let spot = c.loop-next.spot in
    let pos = place_of c.in-Token.token in
    let P : Next → Type 0 = λ x. Scans spot x in
    let S : Next → Type 0 = λ x. Shorter spot x in
    let Q : Taken → Type 0 = λ x. Follows x c.take.new.self pos (step p.state.room p.state.frames p.state.trees c.in-Token.token) in
    let e = subst P c.in-Token.is c.in-Ok.ensures.value in
    let past = subst S c.in-Token.is c.in-Ok.ensures.shorter in
    let at = subst Q c.in-Goes.is (c.in-Ok-take.ensures p.state.room p.state.frames p.state.trees p.state.holds) in
    record {
      pending =
          goes_on (lexed c.args.text.now) c.loop-next.reading c.take.new.self spot c.in-Token.after
          c.in-Token.token p e at;
      line = omega (arith, i.line, past.line);
      col = omega (arith, i.col, past.col);
    }

pub returns-in-Stray : goal.returns-in-Stray
returns-in-Stray c =
    refused_read c.args.text.now c.loop-next.reading c.take.new.self c.loop-next.spot c.in-Token.after c.in-Token.token
    Stray StrayRun _ c.loop-next.invariant.pending c.requires c.in-Ok.ensures.value c.in-Token.is c.pos-pos.ensures
    c.in-Stray.is c.in-Ok-take.ensures (λ r h. h) refl

pub returns-in-Deep : goal.returns-in-Deep
returns-in-Deep c =
    refused_read c.args.text.now c.loop-next.reading c.take.new.self c.loop-next.spot c.in-Token.after c.in-Token.token
    TooDeep DeepRun _ c.loop-next.invariant.pending c.requires c.in-Ok.ensures.value c.in-Token.is c.pos-pos.ensures
    c.in-Deep.is c.in-Ok-take.ensures (λ r h. h) refl

pub take-requires : goal.take-requires
take-requires c = c.loop-next.invariant.pending.state
