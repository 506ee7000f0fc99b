-- Where a text stops before its end: what stands before is its tokens, no token of the grammar begins, and why.
use Rattle.std.proofs.Common.{◌≡◌, ℕ, zero, suc, ◌<◌, ◌≤◌, Bool, true, false, List, [], ◌∷◌, ◌++◌, length, Option, Some, None, refl, sym, ap, subst, ◌∙◌, append_assoc, length-append, arith}
use Rattle.std.specs.Prelude.{codes}
use Rattle.std.specs.Char.{is_ascii_whitespace}
use Rattle.std.specs.Str.{byte}
use Rattle.scheme_base.specs.declared.pos.Pos.{Pos}
use Rattle.scheme_base.specs.Positions.{position_after, after_byte}
use Rattle.datum_form.specs.Grammar.{Delimited, NotNext, IsToken, IsTokens, NumberOut, NeverEnds, AtLineEnd}
use Rattle.datum_form.specs.Grammar.IsToken.{opens, opens_vector, closes, quote, quasiquote, splice, unquote, string, character, word}
use Rattle.datum_form.specs.Grammar.IsTokens.{ended, white, comment, token}
use Rattle.datum_form.specs.declared.token.Token.{Token}
use Rattle.datum_form.specs.declared.piece.Piece.{Piece}
use Rattle.datum_form.specs.Text.{Lexed, Ending, token_piece, piece, lexed_after}
use Rattle.datum_form.specs.Text.Ending.{BadAt, RangeAt, OpenAt}
use Rattle.datum_form.specs.declared.piece.Piece.TheVariants.{Blank, Found, BadToken, BadNumber, OpenString}
use Rattle.datum_form.specs.Words.{begins_with}
use Rattle.datum_form.proofs.FirstPieceOrStop.{Tells, tells_first}
use Rattle.datum_form.proofs.FirstPieceOrStop.Tells.{found, out, unclosed, bad}
use Rattle.datum_form.proofs.TokensAsWritten.{token_found, out_found, open_found}
use Rattle.datum_reader.specs.Answer.{stop_of, Causes, Stops}
use Rattle.datum_reader.specs.Lexing.{token_then, ends}
use Rattle.datum_reader.proofs.TokensByPieces.{at_bad_token, at_bad_number, at_open_string}
use Rattle.datum_reader.proofs.ValidDataReadBack.{position_after-append}
use Rattle.datum_reader.proofs.TokensFoundAreSpelled.{NoBlank, past_white, past_comment, past_token, line_of, first_token, token_no_blank, first_byte, no_blank_first}

abbrev stop : Lexed → Option Pos
stop lex = stop_of lex.ending

-- A token of a text is one of each front of the text that it stands in

delimited_front : (front rest : List ℕ) → Delimited (front ++ rest) → Delimited front
delimited_front [] rest d = tt
delimited_front (b ∷ front) rest d = d

not_next_front : (k : ℕ) (front rest : List ℕ) → NotNext k (front ++ rest) → NotNext k front
not_next_front k [] rest d = tt
not_next_front k (b ∷ front) rest d = d

token_front : (p : Pos) (bytes after front rest : List ℕ) (t : Token) → after ≡ front ++ rest → IsToken p bytes after t
    → IsToken p bytes front t
token_front p bytes after front rest t e (opens q a) = opens q front
token_front p bytes after front rest t e (opens_vector q a) = opens_vector q front
token_front p bytes after front rest t e (closes q a) = closes q front
token_front p bytes after front rest t e (quote q a) = quote q front
token_front p bytes after front rest t e (quasiquote q a) = quasiquote q front
token_front p bytes after front rest t e (splice q a) = splice q front
token_front p bytes after front rest t e (unquote q a h) =
    let P : List ℕ → Type 0 = λ l. NotNext (byte "@") l in unquote q front (not_next_front (byte "@") front rest (subst P e h))
token_front p bytes after front rest t e (string q a text read h) = string q front text read h
token_front p bytes after front rest t e (character q a b more c u d h) =
    let P : List ℕ → Type 0 = λ l. Delimited l in character q front b more c u (delimited_front front rest (subst P e d)) h
token_front p bytes after front rest t e (word q a w v u d h) =
    let P : List ℕ → Type 0 = λ l. Delimited l in word q front w v u (delimited_front front rest (subst P e d)) h

line_end_front : (front rest : List ℕ) → AtLineEnd (front ++ rest) → AtLineEnd front
line_end_front [] rest d = tt
line_end_front (b ∷ front) rest d = d

-- A text that stops here

here : (p q : Pos) (text : List ℕ) (x : Piece) (ending : Ending) → 0 < length text → piece p text ≡ x
    → ((t : Token) (n : ℕ) → x ≡ Found t n → ⊥) → Causes ending text → p ≡ q → Stops p text (ends ending) q
here p q text x ending there is other cause e =
    let P : Pos → Type 0 = λ r. Stops p text (ends ending) r in
    subst P e
    (record {
      front = [];
      rest = text;
      whole = refl;
      place = refl;
      before = ended p;
      some = there;
      none = λ bytes after t whole has.
          other t (length bytes) (sym is ∙ (ap (piece p) whole ∙ token_found p bytes after t has));
      cause = cause;
    })

number_out : (p : Pos) (text : List ℕ) (x : Piece) → Tells p text x → x ≡ BadNumber → NumberOut text
number_out p text x (found q l t n f) e = absurd (cc)
number_out p text x (out q l o) e = o
number_out p text x (unclosed q l o) e = absurd (cc)
number_out p text x (bad q l) e = absurd (cc)

never_ends : (p : Pos) (text : List ℕ) (x : Piece) → Tells p text x → x ≡ OpenString → NeverEnds text
never_ends p text x (found q l t n f) e = absurd (cc)
never_ends p text x (out q l o) e = absurd (cc)
never_ends p text x (unclosed q l o) e = o
never_ends p text x (bad q l) e = absurd (cc)

number_token : BadToken ≡ BadNumber → ⊥
number_token e = cc

open_token : BadToken ≡ OpenString → ⊥
open_token e = cc

-- A text that stops after some of it

same_lexed : (start : Pos) (text : List ℕ) (lex other : Lexed) (p : Pos) → lex ≡ other → Stops start text other p → Stops start text lex p
same_lexed start text lex other p e h = let P : Lexed → Type 0 = λ l. Stops start text l p in subst P (sym e) h

-- the front of a text and then more of it
further : (start : Pos) (text front rest : List ℕ) (lex more : Lexed) (p : Pos) → text ≡ front ++ rest
    → lex.ending ≡ more.ending
    → ((mid left : List ℕ) → rest ≡ mid ++ left → IsTokens (position_after start front) mid more.tokens
    → IsTokens start (front ++ mid) lex.tokens)
    → Stops (position_after start front) rest more p → Stops start text lex p
further start text front rest lex more p whole same joins s =
    let P : Ending → Type 0 = λ e. Causes e s.rest in
    record {
      front = front ++ s.front;
      rest = s.rest;
      whole = whole ∙ (ap (λ l. front ++ l) s.whole ∙ sym (append_assoc front s.front s.rest));
      place = s.place ∙ sym (position_after-append start front s.front);
      before = joins s.front s.rest s.whole s.before;
      some = s.some;
      none = s.none;
      cause = subst P (sym same) s.cause;
    }

abbrev Stopped : ℕ → Type 0
Stopped k =
    (p : Pos) (text : List ℕ) (q : Pos) → length text ≤ k → stop (lexed_after 0 p text) ≡ Some q
    → Stops p text (lexed_after 0 p text) q

same_place : (p q : Pos) → Some p ≡ Some q → p ≡ q
same_place p q e = cc

-- no token is at the front of the text
stops_here : (p q : Pos) (text : List ℕ) (x : Piece) (ending : Ending) → 0 < length text → piece p text ≡ x
    → ((t : Token) (n : ℕ) → x ≡ Found t n → ⊥) → lexed_after 0 p text ≡ ends ending → Causes ending text
    → stop (ends ending) ≡ Some p → stop (lexed_after 0 p text) ≡ Some q → Stops p text (lexed_after 0 p text) q
stops_here p q text x ending there is other all cause at e =
    same_lexed p text (lexed_after 0 p text) (ends ending) q all
    (here p q text x ending there is other cause (same_place p q (sym at ∙ (sym (ap stop all) ∙ e))))

token_stops : (k b : ℕ) (p : Pos) (bytes : List ℕ) (q : Pos) (x : Piece) → length (b ∷ bytes) ≤ suc k
    → piece p (b ∷ bytes) ≡ x → token_piece p (b ∷ bytes) ≡ x → NoBlank x → stop (lexed_after 0 p (b ∷ bytes)) ≡ Some q
    → Stopped k → Stops p (b ∷ bytes) (lexed_after 0 p (b ∷ bytes)) q
token_stops k b p bytes q (Blank n) few is its none e more = absurd none
token_stops k b p bytes q (Found t n) few is its none e more =
    let text : List ℕ = b ∷ bytes in
    let g = first_token k p text t n few (omega arith) is its in
    let f = g.front in
    let rest : Lexed = lexed_after 0 (position_after p f.bytes) f.after in
    let all : lexed_after 0 p text ≡ token_then t rest =
    ap (λ l. lexed_after 0 p l) f.whole ∙ past_token p f.bytes f.after t g.next in
    same_lexed p text (lexed_after 0 p text) (token_then t rest) q all
    (further p text f.bytes f.after (token_then t rest) rest q f.whole refl
    (λ mid left whole tokens. token p f.bytes mid t rest.tokens (token_front p f.bytes f.after mid left t whole f.has) tokens)
    (more (position_after p f.bytes) f.after q g.less (sym (ap stop all) ∙ e)))
token_stops k b p bytes q BadToken few is its none e more =
    let text : List ℕ = b ∷ bytes in
    stops_here p q text BadToken (BadAt p) (omega arith) is (λ t n h. cc) (at_bad_token p text (omega arith) is)
    ((λ o. number_token (sym is ∙ out_found p text o)), (λ o. open_token (sym is ∙ open_found p text o))) refl e
token_stops k b p bytes q BadNumber few is its none e more =
    let text : List ℕ = b ∷ bytes in
    stops_here p q text BadNumber (RangeAt p) (omega arith) is (λ t n h. cc) (at_bad_number p text (omega arith) is)
    (number_out p text (token_piece p text) (tells_first p text) its) refl e
token_stops k b p bytes q OpenString few is its none e more =
    let text : List ℕ = b ∷ bytes in
    stops_here p q text OpenString (OpenAt p) (omega arith) is (λ t n h. cc) (at_open_string p text (omega arith) is)
    (never_ends p text (token_piece p text) (tells_first p text) its) refl e

comment_stops : (k b : ℕ) (p : Pos) (bytes : List ℕ) (q : Pos) → length (b ∷ bytes) ≤ suc k → b ≡ 59
    → stop (lexed_after 0 p (b ∷ bytes)) ≡ Some q → Stopped k → Stops p (b ∷ bytes) (lexed_after 0 p (b ∷ bytes)) q
comment_stops k b p bytes q few mark e more =
    let l = line_of bytes in
    let whole : b ∷ bytes ≡ 59 ∷ (l.front ++ l.after) = ap (λ c. c ∷ bytes) mark ∙ ap (λ r. 59 ∷ r) l.whole in
    let less : length l.after ≤ k = omega (arith, few, ap length l.whole, length-append l.front l.after) in
    let rest : Lexed = lexed_after 0 (position_after p (59 ∷ l.front)) l.after in
    let all : lexed_after 0 p (b ∷ bytes) ≡ rest =
    ap (λ r. lexed_after 0 p r) whole ∙ past_comment p l.front l.after l.within l.behind in
    let P : List ℕ → Type 0 = λ r. AtLineEnd r in
    same_lexed p (b ∷ bytes) (lexed_after 0 p (b ∷ bytes)) rest q all
    (further p (b ∷ bytes) (59 ∷ l.front) l.after rest rest q whole refl
    (λ mid left whole tokens.
    comment p l.front mid rest.tokens l.within (line_end_front mid left (subst P whole l.behind)) tokens)
    (more (position_after p (59 ∷ l.front)) l.after q less (sym (ap stop all) ∙ e)))

step_stops : (k b : ℕ) (p : Pos) (bytes : List ℕ) (q : Pos) → length (b ∷ bytes) ≤ suc k
    → stop (lexed_after 0 p (b ∷ bytes)) ≡ Some q → Stopped k → Stops p (b ∷ bytes) (lexed_after 0 p (b ∷ bytes)) q
step_stops k b p bytes q few e more = at (is_ascii_whitespace b) (begins_with (b ∷ bytes) (codes ";")) refl refl
  where
    at : (w c : Bool) → is_ascii_whitespace b ≡ w → begins_with (b ∷ bytes) (codes ";") ≡ c
        → Stops p (b ∷ bytes) (lexed_after 0 p (b ∷ bytes)) q
    at true c hw hc =
        let rest : Lexed = lexed_after 0 (after_byte p b) bytes in
        let all : lexed_after 0 p (b ∷ bytes) ≡ rest = past_white p b bytes hw in
        same_lexed p (b ∷ bytes) (lexed_after 0 p (b ∷ bytes)) rest q all
        (further p (b ∷ bytes) (b ∷ []) bytes rest rest q refl refl
        (λ mid left whole tokens. white p b mid rest.tokens hw tokens)
        (more (after_byte p b) bytes q (omega (arith, few)) (sym (ap stop all) ∙ e)))
    at false true hw hc = comment_stops k b p bytes q few (first_byte b bytes hc) e more
    at false false hw hc =
        let is = no_blank_first p b bytes hw hc in
        token_stops k b p bytes q (token_piece p (b ∷ bytes)) few is refl (token_no_blank p (b ∷ bytes)) e more

never : (q : Pos) → None ≡ Some q → ⊥
never q e = cc

stopped : (k : ℕ) → Stopped k
stopped k p [] q few e = absurd (never q e)
stopped zero p (b ∷ bytes) q few e = absurd (omega (arith, few))
stopped (suc k) p (b ∷ bytes) q few e = step_stops k b p bytes q few e (stopped k)

pub no_token : (p : Pos) (text : List ℕ) (q : Pos) → stop (lexed_after 0 p text) ≡ Some q
    → Stops p text (lexed_after 0 p text) q
no_token p text q e = stopped (length text) p text q (omega arith) e
