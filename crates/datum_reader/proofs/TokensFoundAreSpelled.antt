-- A text is tokens as R4RS writes them exactly where it has these tokens and comes to its end.
use Rattle.std.proofs.Common.{◌≡◌, ◌≢◌, ℕ, zero, suc, ◌+◌, ◌<◌, ◌≤◌, Bool, true, false, List, [], ◌∷◌, ◌++◌, length, take, drop, refl, sym, ap, subst, ◌∙◌, length-append, arith, cond}
use Rattle.std.proofs.Math.Seq.{take-append_seam, drop-append_seam}
use Rattle.std.specs.Prelude.{not, codes}
use Rattle.std.specs.Char.{is_ascii_whitespace}
use Rattle.std.specs.Str.{str_to_ascii_lowercase}
use Rattle.scheme_base.specs.declared.pos.Pos.{Pos}
use Rattle.scheme_base.specs.Positions.{position_after, is_line_end, after_byte}
use Rattle.datum_form.specs.Grammar.{IsOneLine, AtLineEnd, IsTokens}
use Rattle.datum_form.specs.Grammar.IsTokens.{ended, white, comment, token}
use Rattle.datum_form.specs.declared.token.Token.{Token}
use Rattle.datum_form.specs.declared.token.Mark.TheVariants.{Quote, Quasiquote, Unquote, Splice}
use Rattle.datum_form.specs.declared.token.Token.TheVariants.{Open, OpenVector, Close, Marking}
use Rattle.datum_form.specs.declared.piece.Piece.{Piece}
use Rattle.datum_form.specs.Text.{Quoted, Lexed, quoted, run_length, line_length, word_piece, string_piece, character_piece, run_piece, mark_piece, token_piece, piece, lexed_after}
use Rattle.datum_form.specs.Text.Ending.{Clean, BadAt, RangeAt, OpenAt}
use Rattle.datum_form.specs.declared.piece.Piece.TheVariants.{Blank, Found, BadToken, BadNumber, OpenString}
use Rattle.datum_form.specs.Text.Quoted.{Closed, BadEscape, NeverClosed}
use Rattle.datum_form.specs.declared.piece.Word.{Word}
use Rattle.datum_form.specs.Words.{begins_with, small_word, character_word}
use Rattle.datum_form.specs.declared.piece.Word.TheVariants.{IsToken, OutOfRange, NoWord}
use Rattle.datum_form.proofs.NumbersAsWritten.{begins_one}
use Rattle.datum_form.proofs.TokensAsWritten.{Cut, token_found}
use Rattle.datum_form.proofs.FirstPieceOrStop.{Front, front_token}
use Rattle.datum_reader.specs.Lexing.{token_then, ends}
use Rattle.datum_reader.proofs.TokensByPieces.{piece_length_some, after_blank, at_token, at_bad_token, at_bad_number, at_open_string}
use Rattle.datum_form.proofs.TokensAsWritten.{length_while-step, length_while-none}

abbrev clean : List Token → Lexed
clean ts = record { tokens = ts; ending = Clean }

-- Lines

no_end : (b : ℕ) → b ≢ 10 → is_line_end b ≡ false
no_end b h = grind arith

an_end : (b : ℕ) → b ≡ 10 → is_line_end b ≡ true
an_end b h = grind arith

line_length-append : (line after : List ℕ) → IsOneLine line → AtLineEnd after → line_length (line ++ after) ≡ length line
line_length-append [] [] one end = refl
line_length-append [] (b ∷ after) one end = length_while-none (λ c. not (is_line_end c)) b after (ap not (an_end b end))
line_length-append (b ∷ line) after one end =
    length_while-step (λ c. not (is_line_end c)) b (line ++ after) (ap not (no_end b one.0))
    ∙ ap (λ n. suc n) (line_length-append line after one.1 end)

is_end : (b : ℕ) → is_line_end b ≡ true → b ≡ 10
is_end b h = grind arith

is_no_end : (b : ℕ) → is_line_end b ≡ false → b ≢ 10
is_no_end b h = grind arith

-- the bytes up to the line's end
pub line_of : (text : List ℕ) → Cut IsOneLine AtLineEnd text
line_of [] = record { front = []; after = []; whole = refl; within = tt; behind = tt }
line_of (b ∷ bytes) = at (is_line_end b) refl (line_of bytes)
  where
    at : (e : Bool) → is_line_end b ≡ e → Cut IsOneLine AtLineEnd bytes → Cut IsOneLine AtLineEnd (b ∷ bytes)
    at true h l = record { front = []; after = b ∷ bytes; whole = refl; within = tt; behind = is_end b h }
    at false h l =
        record {
          front = b ∷ l.front;
          after = l.after;
          whole = ap (λ r. b ∷ r) l.whole;
          within = (is_no_end b h, l.within);
          behind = l.behind;
        }

-- after a comment
pub past_comment : (p : Pos) (line after : List ℕ) → IsOneLine line → AtLineEnd after
    → lexed_after 0 p (59 ∷ (line ++ after)) ≡ lexed_after 0 (position_after p (59 ∷ line)) after
past_comment p line after one end =
    let start : List ℕ = 59 ∷ line in
    let text : List ℕ = start ++ after in
    let count : line_length text ≡ length start =
    length_while-step (λ c. not (is_line_end c)) 59 (line ++ after) refl ∙ ap (λ n. suc n) (line_length-append line after one end) in
    sym (after_blank p text (length start) (omega arith) (ap (λ n. Blank n) count))
    ∙ (ap (λ l. lexed_after 0 (position_after p l) (drop (length start) text)) (take-append_seam start after)
    ∙ ap (lexed_after 0 (position_after p start)) (drop-append_seam start after))

pub past_white : (p : Pos) (b : ℕ) (bytes : List ℕ) → is_ascii_whitespace b ≡ true
    → lexed_after 0 p (b ∷ bytes) ≡ lexed_after 0 (after_byte p b) bytes
past_white p b bytes h =
    let is : piece p (b ∷ bytes) ≡ Blank 1 = rw h refl in
    sym (after_blank p (b ∷ bytes) 1 (omega arith) is)

some_text : (p : Pos) (text : List ℕ) (t : Token) (n : ℕ) → piece p text ≡ Found t n → 0 < length text
some_text p [] t n e = absurd (cc)
some_text p (b ∷ bytes) t n e = omega arith

pub past_token : (p : Pos) (word after : List ℕ) (t : Token) → piece p (word ++ after) ≡ Found t (length word)
    → lexed_after 0 p (word ++ after) ≡ token_then t (lexed_after 0 (position_after p word) after)
past_token p word after t e =
    let text : List ℕ = word ++ after in
    at_token p text t (length word) (some_text p text t (length word) e) e
    ∙ (ap (λ l. token_then t (lexed_after 0 (position_after p l) (drop (length word) text))) (take-append_seam word after)
    ∙ ap (λ l. token_then t (lexed_after 0 (position_after p word) l)) (drop-append_seam word after))

pub tokens_lexed : (p : Pos) (text : List ℕ) (ts : List Token) → IsTokens p text ts → lexed_after 0 p text ≡ clean ts
tokens_lexed p text ts (ended q) = refl
tokens_lexed p text ts (white q b rest us h more) = past_white p b rest h ∙ tokens_lexed (after_byte p b) rest ts more
tokens_lexed p text ts (comment q line rest us one end more) =
    past_comment p line rest one end ∙ tokens_lexed (position_after p (59 ∷ line)) rest ts more
tokens_lexed p text ts (token q word rest t us h more) =
    past_token p word rest t (token_found p word rest t h)
    ∙ ap (token_then t) (tokens_lexed (position_after p word) rest us more)

-- The other way

abbrev pub NoBlank : Piece → Type 0
NoBlank (Blank n) = ⊥
NoBlank (Found t n) = Unit {0}
NoBlank BadToken = Unit {0}
NoBlank BadNumber = Unit {0}
NoBlank OpenString = Unit {0}

either : (b : Bool) (x y : Piece) → NoBlank x → NoBlank y → NoBlank (cond b x y)
either true x y h k = h
either false x y h k = k

word_no_blank : (w : Word) (n : ℕ) → NoBlank (word_piece w n)
word_no_blank (IsToken t) n = tt
word_no_blank OutOfRange n = tt
word_no_blank NoWord n = tt

string_no_blank : (p : Pos) (q : Quoted) → NoBlank (string_piece p q)
string_no_blank p (Closed bytes n) = tt
string_no_blank p BadEscape = tt
string_no_blank p NeverClosed = tt

run_no_blank : (p : Pos) (text : List ℕ) → NoBlank (run_piece p text)
run_no_blank p text =
    either (begins_with text (codes "#\\")) (character_piece p text)
    (word_piece (small_word p (str_to_ascii_lowercase (take (run_length text) text))) (run_length text))
    (word_no_blank (character_word p (take (3 + run_length (drop 3 text)) text)) (3 + run_length (drop 3 text)))
    (word_no_blank (small_word p (str_to_ascii_lowercase (take (run_length text) text))) (run_length text))

mark_no_blank : (p : Pos) (text : List ℕ) → NoBlank (mark_piece p text)
mark_no_blank p text =
    let unquote : Piece = cond (begins_with text (codes ",")) (Found (Marking p Unquote) 1) (run_piece p text) in
    let splice : Piece = cond (begins_with text (codes ",@")) (Found (Marking p Splice) 2) unquote in
    let quasi : Piece = cond (begins_with text (codes "`")) (Found (Marking p Quasiquote) 1) splice in
    either (begins_with text (codes "'")) (Found (Marking p Quote) 1) quasi tt
    (either (begins_with text (codes "`")) (Found (Marking p Quasiquote) 1) splice tt
    (either (begins_with text (codes ",@")) (Found (Marking p Splice) 2) unquote tt
    (either (begins_with text (codes ",")) (Found (Marking p Unquote) 1) (run_piece p text) tt (run_no_blank p text))))

pub token_no_blank : (p : Pos) (text : List ℕ) → NoBlank (token_piece p text)
token_no_blank p text =
    let string : Piece =
    cond (begins_with text (codes "\"")) (string_piece p (quoted false (drop 1 text))) (mark_piece p text) in
    let close : Piece = cond (begins_with text (codes ")")) (Found (Close p) 1) string in
    let vector : Piece = cond (begins_with text (codes "#(")) (Found (OpenVector p) 2) close in
    either (begins_with text (codes "(")) (Found (Open p) 1) vector tt
    (either (begins_with text (codes "#(")) (Found (OpenVector p) 2) close tt
    (either (begins_with text (codes ")")) (Found (Close p) 1) string tt
    (either (begins_with text (codes "\"")) (string_piece p (quoted false (drop 1 text))) (mark_piece p text)
    (string_no_blank p (quoted false (drop 1 text))) (mark_no_blank p text))))

abbrev all_tokens : Lexed → List Token
all_tokens lex = lex.tokens

record Tail (t : Token) (lex : Lexed) (ts : List Token) : Type 0 where
  others : List Token
  whole : ts ≡ t ∷ others
  rest : lex ≡ clean others

tail_of : (t : Token) (lex : Lexed) (ts : List Token) → token_then t lex ≡ clean ts → Tail t lex ts
tail_of t lex ts e =
    record {
      others = lex.tokens;
      whole = sym (ap all_tokens e);
      rest = ap (λ g. record { tokens = lex.tokens; ending = g }) (ap (λ l. l.ending) e);
    }

-- the token at the front of a text, and what is left when it is taken
pub record First (k : ℕ) (p : Pos) (text : List ℕ) (t : Token) (n : ℕ) : Type 0 where
  pub front : Front p text t n
  pub next : piece p (front.bytes ++ front.after) ≡ Found t (length front.bytes)
  pub less : length front.after ≤ k

pub first_token : (k : ℕ) (p : Pos) (text : List ℕ) (t : Token) (n : ℕ) → length text ≤ suc k → 0 < length text
    → piece p text ≡ Found t n → token_piece p text ≡ Found t n → First k p text t n
first_token k p text t n few there is its =
    let f = front_token p text t n its in
    let some : 0 < n = piece_length_some p text (Found t n) there is in
    record {
      front = f;
      next = sym (ap (piece p) f.whole) ∙ (is ∙ ap (λ m. Found t m) f.count);
      less = omega (arith, few, some, f.count, ap length f.whole, length-append f.bytes f.after);
    }

-- what a text without its first bytes is
abbrev Shown : ℕ → Type 0
Shown k = (p : Pos) (text : List ℕ) (ts : List Token) → length text ≤ k → lexed_after 0 p text ≡ clean ts → IsTokens p text ts

bad : (t : Lexed) (ts : List Token) → t ≡ clean ts → t.ending ≡ Clean
bad t ts e = ap (λ l. l.ending) e

token_shown : (k b : ℕ) (p : Pos) (bytes : List ℕ) (ts : List Token) (x : Piece) → length (b ∷ bytes) ≤ suc k
    → piece p (b ∷ bytes) ≡ x → token_piece p (b ∷ bytes) ≡ x → NoBlank x → lexed_after 0 p (b ∷ bytes) ≡ clean ts
    → Shown k → IsTokens p (b ∷ bytes) ts
token_shown k b p bytes ts (Blank n) few is its none e more = absurd none
token_shown k b p bytes ts (Found t n) few is its none e more =
    let text : List ℕ = b ∷ bytes in
    let g = first_token k p text t n few (omega arith) is its in
    let f = g.front in
    let rest : token_then t (lexed_after 0 (position_after p f.bytes) f.after) ≡ clean ts =
    sym (past_token p f.bytes f.after t g.next) ∙ (sym (ap (lexed_after 0 p) f.whole) ∙ e) in
    let r = tail_of t (lexed_after 0 (position_after p f.bytes) f.after) ts rest in
    let P : List ℕ → Type 0 = λ l. IsTokens p l ts in
    let Q : List Token → Type 0 = λ us. IsTokens p (f.bytes ++ f.after) us in
    subst P (sym f.whole)
    (subst Q (sym r.whole) (token p f.bytes f.after t r.others f.has (more (position_after p f.bytes) f.after r.others g.less r.rest)))
token_shown k b p bytes ts BadToken few is its none e more =
    absurd (differ (bad (ends (BadAt p)) ts (sym (at_bad_token p (b ∷ bytes) (omega arith) is) ∙ e)))
  where
    differ : BadAt p ≡ Clean → ⊥
    differ h = cc
token_shown k b p bytes ts BadNumber few is its none e more =
    absurd (differ (bad (ends (RangeAt p)) ts (sym (at_bad_number p (b ∷ bytes) (omega arith) is) ∙ e)))
  where
    differ : RangeAt p ≡ Clean → ⊥
    differ h = cc
token_shown k b p bytes ts OpenString few is its none e more =
    absurd (differ (bad (ends (OpenAt p)) ts (sym (at_open_string p (b ∷ bytes) (omega arith) is) ∙ e)))
  where
    differ : OpenAt p ≡ Clean → ⊥
    differ h = cc

comment_shown : (k b : ℕ) (p : Pos) (bytes : List ℕ) (ts : List Token) → length (b ∷ bytes) ≤ suc k → b ≡ 59
    → lexed_after 0 p (b ∷ bytes) ≡ clean ts → Shown k → IsTokens p (b ∷ bytes) ts
comment_shown k b p bytes ts few mark e more =
    let l = line_of bytes in
    let whole : b ∷ bytes ≡ 59 ∷ (l.front ++ l.after) = ap (λ c. c ∷ bytes) mark ∙ ap (λ r. 59 ∷ r) l.whole in
    let less : length l.after ≤ k = omega (arith, few, ap length l.whole, length-append l.front l.after) in
    let P : List ℕ → Type 0 = λ r. IsTokens p r ts in
    subst P (sym whole)
    (comment p l.front l.after ts l.within l.behind
    (more (position_after p (59 ∷ l.front)) l.after ts less
    (sym (past_comment p l.front l.after l.within l.behind) ∙ (sym (ap (lexed_after 0 p) whole) ∙ e))))

pub first_byte : (b : ℕ) (bytes : List ℕ) → begins_with (b ∷ bytes) (codes ";") ≡ true → b ≡ 59
first_byte b bytes e = ap head (begins_one (b ∷ bytes) 59 e)
  where
    head : List ℕ → ℕ
    head [] = 0
    head (c ∷ rest) = c

-- a text that begins with no white space and no comment begins with a token, if with anything
pub no_blank_first : (p : Pos) (b : ℕ) (bytes : List ℕ) → is_ascii_whitespace b ≡ false
    → begins_with (b ∷ bytes) (codes ";") ≡ false → piece p (b ∷ bytes) ≡ token_piece p (b ∷ bytes)
no_blank_first p b bytes hw hc =
    let text : List ℕ = b ∷ bytes in
    ap (λ t. cond t (Blank 1) (cond (begins_with text (codes ";")) (Blank (line_length text)) (token_piece p text))) hw
    ∙ ap (λ t. cond t (Blank (line_length text)) (token_piece p text)) hc

step_shown : (k b : ℕ) (p : Pos) (bytes : List ℕ) (ts : List Token) → length (b ∷ bytes) ≤ suc k
    → lexed_after 0 p (b ∷ bytes) ≡ clean ts → Shown k → IsTokens p (b ∷ bytes) ts
step_shown k b p bytes ts few e more =
    at (is_ascii_whitespace b) (begins_with (b ∷ bytes) (codes ";")) refl refl
  where
    at : (w c : Bool) → is_ascii_whitespace b ≡ w → begins_with (b ∷ bytes) (codes ";") ≡ c → IsTokens p (b ∷ bytes) ts
    at true c hw hc =
        white p b bytes ts hw (more (after_byte p b) bytes ts (omega (arith, few)) (sym (past_white p b bytes hw) ∙ e))
    at false true hw hc = comment_shown k b p bytes ts few (first_byte b bytes hc) e more
    at false false hw hc =
        let is = no_blank_first p b bytes hw hc in
        token_shown k b p bytes ts (token_piece p (b ∷ bytes)) few is refl (token_no_blank p (b ∷ bytes)) e more

none_read : (p : Pos) (ts : List Token) → clean [] ≡ clean ts → IsTokens p [] ts
none_read p ts e =
    let P : List Token → Type 0 = λ us. IsTokens p [] us in subst P (ap all_tokens e) (ended p)

shown : (k : ℕ) → Shown k
shown k p [] ts few e = none_read p ts e
shown zero p (b ∷ bytes) ts few e = absurd (omega (arith, few))
shown (suc k) p (b ∷ bytes) ts few e = step_shown k b p bytes ts few e (shown k)

pub lexed_tokens : (p : Pos) (text : List ℕ) (ts : List Token) → lexed_after 0 p text ≡ clean ts → IsTokens p text ts
lexed_tokens p text ts e = shown (length text) p text ts (omega arith) e
