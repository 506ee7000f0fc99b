-- What a text's first piece is, as R4RS writes it: a token, or else what stops the text.
use Rattle.std.proofs.Common.{◌≡◌, ◌≢◌, ℕ, ◌+◌, Bool, true, false, List, [], ◌∷◌, ◌++◌, length, take, drop, refl, sym, ap, subst, ◌∙◌, append_assoc, length-append, arith, cond}
use Rattle.std.proofs.Math.Seq.{take-append_seam}
use Rattle.std.specs.Prelude.{codes}
use Rattle.std.specs.Str.{str_to_ascii_lowercase}
use Rattle.scheme_base.specs.declared.pos.Pos.{Pos}
use Rattle.datum_form.specs.Grammar.{Undelimited, Delimited, IsToken, NumberOut, NeverEnds}
use Rattle.datum_form.specs.Grammar.IsToken.{opens, opens_vector, closes, quote, quasiquote, splice, unquote, string, character, word}
use Rattle.datum_form.specs.declared.token.Token.{Token}
use Rattle.datum_form.specs.declared.token.Atom.TheVariants.{String}
use Rattle.datum_form.specs.declared.token.Mark.TheVariants.{Quote, Quasiquote, Unquote, Splice}
use Rattle.datum_form.specs.declared.token.Token.TheVariants.{Open, OpenVector, Close, Marking, Atomic}
use Rattle.datum_form.specs.declared.piece.Piece.{Piece}
use Rattle.datum_form.specs.Text.{Quoted, quoted, run_length, word_piece, string_piece, character_piece, run_piece, mark_piece, token_piece}
use Rattle.datum_form.specs.declared.piece.Piece.TheVariants.{Found, BadToken, BadNumber, OpenString}
use Rattle.datum_form.specs.Text.Quoted.{Closed, BadEscape, NeverClosed}
use Rattle.datum_form.specs.declared.piece.Word.{Word}
use Rattle.datum_form.specs.Words.{begins_with, small_word, character_word}
use Rattle.datum_form.specs.declared.piece.Word.TheVariants.{IsToken as Is, OutOfRange, NoWord}
use Rattle.datum_form.proofs.NumbersAsWritten.{begins_one, begins_two}
use Rattle.datum_form.proofs.TokensAsWritten.{run_of, run_length-append}
use Rattle.datum_form.proofs.WordsAsWritten.{word_written, out_written}
use Rattle.datum_form.proofs.StringsAsWritten.{character_written, character_in_range, string_written, closed}

-- a text begins with this token, which has so many bytes
pub record Front (p : Pos) (text : List ℕ) (t : Token) (n : ℕ) : Type 0 where
  pub bytes : List ℕ
  pub after : List ℕ
  pub whole : text ≡ bytes ++ after
  pub count : n ≡ length bytes
  pub has : IsToken p bytes after t

-- what a text's first piece tells of the text
pub data Tells : Pos → List ℕ → Piece → Type 0 where
  found : (p : Pos) (text : List ℕ) (t : Token) (n : ℕ) → Front p text t n → Tells p text (Found t n)
  out : (p : Pos) (text : List ℕ) → NumberOut text → Tells p text BadNumber
  unclosed : (p : Pos) (text : List ℕ) → NeverEnds text → Tells p text OpenString
  bad : (p : Pos) (text : List ℕ) → Tells p text BadToken

front : (p : Pos) (text bytes after : List ℕ) (t : Token) (n : ℕ) → text ≡ bytes ++ after → n ≡ length bytes
    → IsToken p bytes after t → Tells p text (Found t n)
front p text bytes after t n whole count has =
    found p text t n (record { bytes = bytes; after = after; whole = whole; count = count; has = has })

same_piece : (p : Pos) (text : List ℕ) (x y : Piece) → y ≡ x → Tells p text x → Tells p text y
same_piece p text x y e h = let P : Piece → Type 0 = λ z. Tells p text z in subst P (sym e) h

-- Words, characters and strings

tells_run : (p : Pos) (text run after : List ℕ) (w : Word) → text ≡ run ++ after → Undelimited run → Delimited after
    → small_word p (str_to_ascii_lowercase run) ≡ w → Tells p text (word_piece w (length run))
tells_run p text run after (Is t) whole u d e =
    front p text run after t (length run) whole refl (word p after run t u d (word_written p (str_to_ascii_lowercase run) t e))
tells_run p text run after OutOfRange whole u d e =
    let o = out_written p (str_to_ascii_lowercase run) e in
    out p text
    (record {
      word = run;
      after = after;
      whole = whole;
      undelimited = u;
      delimited = d;
      value = o.value;
      is_number = o.is_number;
      out = o.out;
    })
tells_run p text run after NoWord whole u d e = bad p text

tells_word : (p : Pos) (text : List ℕ)
    → Tells p text (word_piece (small_word p (str_to_ascii_lowercase (take (run_length text) text))) (run_length text))
tells_word p text =
    let r = run_of text in
    let count : run_length text ≡ length r.front =
    ap (λ l. run_length l) r.whole ∙ run_length-append r.front r.after r.within r.behind in
    let read : take (run_length text) text ≡ r.front =
    ap (λ k. take k text) count ∙ (ap (take (length r.front)) r.whole ∙ take-append_seam r.front r.after) in
    let is : Word = small_word p (str_to_ascii_lowercase r.front) in
    same_piece p text (word_piece is (length r.front))
    (word_piece (small_word p (str_to_ascii_lowercase (take (run_length text) text))) (run_length text))
    (ap (λ l. word_piece (small_word p (str_to_ascii_lowercase l)) (run_length text)) read ∙ ap (word_piece is) count)
    (tells_run p text r.front r.after is r.whole r.within r.behind refl)

tells_named : (p : Pos) (b : ℕ) (run after : List ℕ) (w : Word) → Undelimited run → Delimited after
    → character_word p (35 ∷ 92 ∷ b ∷ run) ≡ w
    → Tells p (35 ∷ 92 ∷ b ∷ (run ++ after)) (word_piece w (length (35 ∷ 92 ∷ b ∷ run)))
tells_named p b run after (Is t) u d e =
    let start : List ℕ = 35 ∷ 92 ∷ b ∷ run in
    let c = character_written p b run t e in
    let P : Token → Type 0 = λ v. IsToken p start after v in
    front p (start ++ after) start after t (length start) refl refl
    (subst P (sym c.is) (character p after b run c.byte u d c.has))
tells_named p b run after OutOfRange u d e = absurd (character_in_range p (35 ∷ 92 ∷ b ∷ run) e)
tells_named p b run after NoWord u d e = bad p (35 ∷ 92 ∷ b ∷ (run ++ after))

tells_character : (p : Pos) (rest : List ℕ) → Tells p (35 ∷ 92 ∷ rest) (character_piece p (35 ∷ 92 ∷ rest))
tells_character p [] = bad p (35 ∷ 92 ∷ [])
tells_character p (b ∷ rest) =
    let text : List ℕ = 35 ∷ 92 ∷ b ∷ rest in
    let r = run_of rest in
    let start : List ℕ = 35 ∷ 92 ∷ b ∷ r.front in
    let whole : text ≡ start ++ r.after = ap (λ l. 35 ∷ 92 ∷ b ∷ l) r.whole in
    let length_run : run_length rest ≡ length r.front =
    ap (λ l. run_length l) r.whole ∙ run_length-append r.front r.after r.within r.behind in
    let count : 3 + run_length rest ≡ length start = omega (arith, length_run) in
    let read : take (3 + run_length rest) text ≡ start =
    ap (λ k. take k text) count ∙ (ap (take (length start)) whole ∙ take-append_seam start r.after) in
    let is : Word = character_word p start in
    let P : List ℕ → Type 0 = λ l. Tells p l (character_piece p text) in
    subst P (sym whole)
    (same_piece p (start ++ r.after) (word_piece is (length start)) (character_piece p text)
    (ap (λ l. word_piece (character_word p l) (3 + run_length rest)) read ∙ ap (word_piece is) count)
    (tells_named p b r.front r.after is r.within r.behind refl))

tells_string : (p : Pos) (rest : List ℕ) (q : Quoted) → quoted false rest ≡ q → Tells p (34 ∷ rest) (string_piece p q)
tells_string p rest (Closed bytes k) h =
    let s = string_written rest bytes k h in
    front p (34 ∷ rest) (34 ∷ (s.body ++ 34 ∷ [])) s.rest (Atomic p (String bytes)) (k + 1)
    (ap (λ l. 34 ∷ l) (s.whole ∙ sym (append_assoc s.body (34 ∷ []) s.rest)))
    (omega (arith, s.count, length-append s.body (34 ∷ []))) (string p s.rest s.body bytes s.has)
tells_string p rest BadEscape h = bad p (34 ∷ rest)
tells_string p rest NeverClosed h =
    unclosed p (34 ∷ rest)
    (record {
      inside = rest;
      begins = refl;
      unclosed = λ body after is e. closed body after is (sym (ap (quoted false) e) ∙ h);
    })

-- All first pieces

tells_comma : (p : Pos) (rest : List ℕ) → begins_with (44 ∷ rest) (codes ",@") ≡ false
    → Tells p (44 ∷ rest) (Found (Marking p Unquote) 1)
tells_comma p [] no_at = front p (44 ∷ []) (codes ",") [] (Marking p Unquote) 1 refl refl (unquote p [] tt)
tells_comma p (c ∷ rest) no_at =
    let other : c ≢ 64 = grind (arith, no_at) in
    front p (44 ∷ c ∷ rest) (codes ",") (c ∷ rest) (Marking p Unquote) 1 refl refl (unquote p (c ∷ rest) other)

-- a text that begins with this byte
from_byte : (p : Pos) (text : List ℕ) (b : ℕ) (x : Piece) → text ≡ b ∷ drop 1 text → Tells p (b ∷ drop 1 text) x → Tells p text x
from_byte p text b x same h = let P : List ℕ → Type 0 = λ l. Tells p l x in subst P (sym same) h

tells_run_piece : (p : Pos) (text : List ℕ) → Tells p text (run_piece p text)
tells_run_piece p text = at (begins_with text (codes "#\\")) refl
  where
    at : (c : Bool) → begins_with text (codes "#\\") ≡ c
        → Tells p text
        (cond c (character_piece p text)
        (word_piece (small_word p (str_to_ascii_lowercase (take (run_length text) text))) (run_length text)))
    at true h =
        let same = begins_two text 35 92 h in
        let P : List ℕ → Type 0 = λ l. Tells p l (character_piece p l) in
        subst P (sym same) (tells_character p (drop 2 text))
    at false h = tells_word p text

tells_mark : (p : Pos) (text : List ℕ) → Tells p text (mark_piece p text)
tells_mark p text =
    at (begins_with text (codes "'")) (begins_with text (codes "`")) (begins_with text (codes ",@"))
    (begins_with text (codes ",")) refl refl refl refl
  where
    at : (a b c d : Bool) → begins_with text (codes "'") ≡ a → begins_with text (codes "`") ≡ b
        → begins_with text (codes ",@") ≡ c → begins_with text (codes ",") ≡ d
        → Tells p text
        (cond a (Found (Marking p Quote) 1) (cond b (Found (Marking p Quasiquote) 1) (cond c (Found (Marking p Splice) 2)
        (cond d (Found (Marking p Unquote) 1) (run_piece p text)))))
    at true b c d ha hb hc hd =
        front p text (codes "'") (drop 1 text) (Marking p Quote) 1 (begins_one text 39 ha) refl (quote p (drop 1 text))
    at false true c d ha hb hc hd =
        front p text (codes "`") (drop 1 text) (Marking p Quasiquote) 1 (begins_one text 96 hb) refl
        (quasiquote p (drop 1 text))
    at false false true d ha hb hc hd =
        front p text (codes ",@") (drop 2 text) (Marking p Splice) 2 (begins_two text 44 64 hc) refl (splice p (drop 2 text))
    at false false false true ha hb hc hd =
        let same = begins_one text 44 hd in
        from_byte p text 44 (Found (Marking p Unquote) 1) same
        (tells_comma p (drop 1 text) (sym (ap (λ l. begins_with l (codes ",@")) same) ∙ hc))
    at false false false false ha hb hc hd = tells_run_piece p text

pub tells_first : (p : Pos) (text : List ℕ) → Tells p text (token_piece p text)
tells_first p text =
    at (begins_with text (codes "(")) (begins_with text (codes "#(")) (begins_with text (codes ")"))
    (begins_with text (codes "\"")) refl refl refl refl
  where
    at : (a b c d : Bool) → begins_with text (codes "(") ≡ a → begins_with text (codes "#(") ≡ b
        → begins_with text (codes ")") ≡ c → begins_with text (codes "\"") ≡ d
        → Tells p text
        (cond a (Found (Open p) 1) (cond b (Found (OpenVector p) 2) (cond c (Found (Close p) 1)
        (cond d (string_piece p (quoted false (drop 1 text))) (mark_piece p text)))))
    at true b c d ha hb hc hd =
        front p text (codes "(") (drop 1 text) (Open p) 1 (begins_one text 40 ha) refl (opens p (drop 1 text))
    at false true c d ha hb hc hd =
        front p text (codes "#(") (drop 2 text) (OpenVector p) 2 (begins_two text 35 40 hb) refl (opens_vector p (drop 2 text))
    at false false true d ha hb hc hd =
        front p text (codes ")") (drop 1 text) (Close p) 1 (begins_one text 41 hc) refl (closes p (drop 1 text))
    at false false false true ha hb hc hd =
        from_byte p text 34 (string_piece p (quoted false (drop 1 text))) (begins_one text 34 hd)
        (tells_string p (drop 1 text) (quoted false (drop 1 text)) refl)
    at false false false false ha hb hc hd = tells_mark p text

-- What each kind of first piece tells

front_of : (p : Pos) (text : List ℕ) (t : Token) (n : ℕ) (x : Piece) → Tells p text x → x ≡ Found t n → Front p text t n
front_of p text t n x (found q l u k f) e =
    let same : u ≡ t = cc in
    let count : k ≡ n = cc in
    let P : Token → Type 0 = λ v. Front p text v k in
    let Q : ℕ → Type 0 = λ m. Front p text t m in
    subst Q count (subst P same f)
front_of p text t n x (out q l o) e = absurd (cc)
front_of p text t n x (unclosed q l o) e = absurd (cc)
front_of p text t n x (bad q l) e = absurd (cc)

pub front_token : (p : Pos) (text : List ℕ) (t : Token) (n : ℕ) → token_piece p text ≡ Found t n → Front p text t n
front_token p text t n e = front_of p text t n (token_piece p text) (tells_first p text) e
