-- Tokens as R4RS writes them are the first pieces of texts, and no others are.
use Rattle.std.proofs.Common.{◌≡◌, ℕ, suc, ◌+◌, Bool, true, false, List, [], ◌∷◌, ◌++◌, length, take, refl, sym, ap, subst, ◌∙◌, append_assoc, length-append, arith}
use Rattle.std.proofs.Math.Seq.{take-append_seam}
use Rattle.std.proofs.lemmas.List.Folds.{length-prefix_len}
use Rattle.std.specs.Prelude.{not, nat_eq, codes, ◌&&◌}
use Rattle.std.specs.Char.{is_ascii_whitespace}
use Rattle.std.specs.List.{take_while, prefix_len}
use Rattle.std.specs.Str.{str_to_ascii_lowercase}
use Rattle.scheme_base.specs.declared.pos.Pos.{Pos}
use Rattle.datum_form.specs.Grammar.{Delimited, Undelimited, NotNext, IsWord, IsCharacter, IsString, IsToken, NumberOut, NeverEnds}
use Rattle.datum_form.specs.Grammar.IsToken.{opens, opens_vector, closes, quote, quasiquote, splice, unquote, string, character, word}
use Rattle.datum_form.specs.declared.token.Token.{Token}
use Rattle.datum_form.specs.declared.token.Atom.TheVariants.{String, Character}
use Rattle.datum_form.specs.declared.token.Mark.TheVariants.{Unquote}
use Rattle.datum_form.specs.declared.token.Token.TheVariants.{Marking, Atomic}
use Rattle.datum_form.specs.declared.piece.Piece.{Piece}
use Rattle.datum_form.specs.Text.{Quoted, quoted, is_delimiter, run_length, word_piece, string_piece, piece}
use Rattle.datum_form.specs.declared.piece.Piece.TheVariants.{Found, BadNumber, OpenString}
use Rattle.datum_form.specs.Text.Quoted.{Closed, BadEscape, NeverClosed}
use Rattle.datum_form.specs.declared.piece.Word.{Word}
use Rattle.datum_form.specs.Words.{begins_with, small_word, character_word}
use Rattle.datum_form.specs.declared.piece.Word.TheVariants.{IsToken as Is, OutOfRange, NoWord}
use Rattle.datum_form.proofs.NumbersAsWritten.{same_byte}
use Rattle.datum_form.proofs.WordsAsWritten.{word_read, out_read}
use Rattle.datum_form.proofs.StringsAsWritten.{character_read, string_read, ended}

-- Runs

pub length_while-step : (p : ℕ → Bool) (b : ℕ) (bytes : List ℕ) → p b ≡ true
    → length (take_while p (b ∷ bytes)) ≡ suc (length (take_while p bytes))
length_while-step p b bytes h =
    let one : prefix_len p (b ∷ bytes) ≡ 1 + prefix_len p bytes = rw h refl in
    omega (arith, length-prefix_len p (b ∷ bytes), length-prefix_len p bytes, one)

pub length_while-none : (p : ℕ → Bool) (b : ℕ) (bytes : List ℕ) → p b ≡ false → length (take_while p (b ∷ bytes)) ≡ 0
length_while-none p b bytes h =
    let none : prefix_len p (b ∷ bytes) ≡ 0 = rw h refl in
    omega (arith, length-prefix_len p (b ∷ bytes), none)

pub run_length-append : (run after : List ℕ) → Undelimited run → Delimited after → run_length (run ++ after) ≡ length run
run_length-append [] [] r d = refl
run_length-append [] (b ∷ after) r d = length_while-none (λ c. not (is_delimiter c)) b after (ap not d)
run_length-append (b ∷ run) after r d =
    length_while-step (λ c. not (is_delimiter c)) b (run ++ after) (ap not r.0)
    ∙ ap (λ n. suc n) (run_length-append run after r.1 d)

-- the front of a text, up to where something else begins
pub record Cut (Within Behind : List ℕ → Type 0) (text : List ℕ) : Type 0 where
  pub front : List ℕ
  pub after : List ℕ
  pub whole : text ≡ front ++ after
  pub within : Within front
  pub behind : Behind after

-- the bytes up to the first delimiter
pub run_of : (text : List ℕ) → Cut Undelimited Delimited text
run_of [] = record { front = []; after = []; whole = refl; within = tt; behind = tt }
run_of (b ∷ bytes) = at (is_delimiter b) refl (run_of bytes)
  where
    at : (d : Bool) → is_delimiter b ≡ d → Cut Undelimited Delimited bytes → Cut Undelimited Delimited (b ∷ bytes)
    at true h r = record { front = []; after = b ∷ bytes; whole = refl; within = tt; behind = h }
    at false h r =
        record {
          front = b ∷ r.front;
          after = r.after;
          whole = ap (λ l. b ∷ l) r.whole;
          within = (h, r.within);
          behind = r.behind;
        }

-- Each token is the first piece of what it begins

-- none of the tests before the last holds
record NoMark (b : ℕ) (bytes : List ℕ) : Type 0 where
  white : is_ascii_whitespace b ≡ false
  comment : nat_eq 59 b ≡ false
  opener : nat_eq 40 b ≡ false
  vector : begins_with (b ∷ bytes) (codes "#(") ≡ false
  closer : nat_eq 41 b ≡ false
  text : nat_eq 34 b ≡ false
  quoted : nat_eq 39 b ≡ false
  quasi : nat_eq 96 b ≡ false
  comma : nat_eq 44 b ≡ false
  char : begins_with (b ∷ bytes) (codes "#\\") ≡ false

abbrev small : Pos → List ℕ → (n : ℕ) → Piece
small p text n = word_piece (small_word p (str_to_ascii_lowercase (take n text))) n

no_mark : (p : Pos) (b : ℕ) (bytes : List ℕ) → NoMark b bytes → piece p (b ∷ bytes) ≡ small p (b ∷ bytes) (run_length (b ∷ bytes))
no_mark p b bytes m =
    rw (m.white, m.comment, m.opener, m.vector, m.closer, m.text, m.quoted, m.quasi, m.comma, m.char) refl

-- a byte that begins no word
begins_none : (p : Pos) (k b : ℕ) (more : List ℕ) → (small_word p (str_to_ascii_lowercase (b ∷ more)) ≡ NoWord → ⊥)
    → small_word p (str_to_ascii_lowercase (k ∷ more)) ≡ NoWord → nat_eq k b ≡ false
begins_none p k b more some none = at (nat_eq k b) refl
  where
    at : (x : Bool) → nat_eq k b ≡ x → x ≡ false
    at false e = refl
    at true e = absurd (some (ap (λ c. small_word p (str_to_ascii_lowercase (c ∷ more))) (same_byte k b e) ∙ none))

undelimited_byte : (b : ℕ) → is_delimiter b ≡ false
    → (is_ascii_whitespace b ≡ false) × (nat_eq 40 b ≡ false) × (nat_eq 41 b ≡ false) × (nat_eq 34 b ≡ false) × (nat_eq 59 b ≡ false)
undelimited_byte b h = (grind arith, grind arith, grind arith, grind arith, grind arith)

-- a `#` and a byte that begin no word
hash_none : (p : Pos) (k b : ℕ) (more after : List ℕ) → (small_word p (str_to_ascii_lowercase (b ∷ more)) ≡ NoWord → ⊥)
    → ((c : ℕ) (rest : List ℕ) → more ≡ c ∷ rest → nat_eq 35 b ≡ true → nat_eq k c ≡ false)
    → begins_with ((b ∷ more) ++ after) (35 ∷ k ∷ []) ≡ false
hash_none p k b [] after some next = rw (begins_none p 35 b [] some refl) refl
hash_none p k b (c ∷ rest) after some next = at (nat_eq 35 b) refl
  where
    at : (x : Bool) → nat_eq 35 b ≡ x → (x && (nat_eq k c && true)) ≡ false
    at false e = refl
    at true e = ap (λ y. y && true) (next c rest refl e)

two_none : (p : Pos) (b c : ℕ) (rest : List ℕ) → (small_word p (str_to_ascii_lowercase (b ∷ c ∷ rest)) ≡ NoWord → ⊥)
    → nat_eq 35 b ≡ true → nat_eq 92 c ≡ false
two_none p b c rest some hash = at (nat_eq 92 c) refl
  where
    at : (x : Bool) → nat_eq 92 c ≡ x → x ≡ false
    at false e = refl
    at true e =
        let none : small_word p (str_to_ascii_lowercase (35 ∷ 92 ∷ rest)) ≡ NoWord = refl in
        absurd
        (some
        (ap (λ d. small_word p (str_to_ascii_lowercase (d ∷ c ∷ rest))) (same_byte 35 b hash)
        ∙ (ap (λ d. small_word p (str_to_ascii_lowercase (35 ∷ d ∷ rest))) (same_byte 92 c e) ∙ none)))

word_marks : (p : Pos) (b : ℕ) (more after : List ℕ) → Undelimited (b ∷ more)
    → (small_word p (str_to_ascii_lowercase (b ∷ more)) ≡ NoWord → ⊥) → NoMark b (more ++ after)
word_marks p b more after u some =
    let d = undelimited_byte b u.0 in
    record {
      white = d.0;
      comment = d.4;
      opener = d.1;
      vector =
          hash_none p 40 b more after some
          (λ c rest e hash.
          let P : List ℕ → Type 0 = λ l. Undelimited l in (undelimited_byte c (subst P e u.1).0).1);
      closer = d.2;
      text = d.3;
      quoted = begins_none p 39 b more some refl;
      quasi = begins_none p 96 b more some refl;
      comma = begins_none p 44 b more some refl;
      char =
          hash_none p 92 b more after some
          (λ c rest e hash.
          let P : List ℕ → Type 0 = λ l. small_word p (str_to_ascii_lowercase (b ∷ l)) ≡ NoWord → ⊥ in
          two_none p b c rest (subst P e some) hash);
    }

-- a run of bytes that is some word
found_small : (p : Pos) (bytes after : List ℕ) (w : Word) → Undelimited bytes → Delimited after
    → small_word p (str_to_ascii_lowercase bytes) ≡ w → (w ≡ NoWord → ⊥)
    → piece p (bytes ++ after) ≡ word_piece w (length bytes)
found_small p [] after w u d is some = absurd (some (sym is))
found_small p (b ∷ more) after w u d is some =
    let text : List ℕ = (b ∷ more) ++ after in
    no_mark p b (more ++ after) (word_marks p b more after u (λ e. some (sym is ∙ e)))
    ∙ (ap (small p text) (run_length-append (b ∷ more) after u d)
    ∙ (ap (λ l. word_piece (small_word p (str_to_ascii_lowercase l)) (length (b ∷ more))) (take-append_seam (b ∷ more) after)
    ∙ ap (λ v. word_piece v (length (b ∷ more))) is))

token_word : (t : Token) → Is t ≡ NoWord → ⊥
token_word t e = cc

found_word : (p : Pos) (bytes after : List ℕ) (t : Token) → Undelimited bytes → Delimited after
    → IsWord p (str_to_ascii_lowercase bytes) t → piece p (bytes ++ after) ≡ Found t (length bytes)
found_word p bytes after t u d h =
    found_small p bytes after (Is t) u d (word_read p (str_to_ascii_lowercase bytes) t h) (token_word t)

found_character : (p : Pos) (b c : ℕ) (more after : List ℕ) → Undelimited more → Delimited after
    → IsCharacter (35 ∷ 92 ∷ b ∷ more) c
    → piece p ((35 ∷ 92 ∷ b ∷ more) ++ after) ≡ Found (Atomic p (Character c)) (length (35 ∷ 92 ∷ b ∷ more))
found_character p b c more after u d h =
    let text : List ℕ = (35 ∷ 92 ∷ b ∷ more) ++ after in
    let start : List ℕ = 35 ∷ 92 ∷ b ∷ more in
    let count : 3 + length more ≡ length start = omega arith in
    ap (λ n. word_piece (character_word p (take (3 + n) text)) (3 + n)) (run_length-append more after u d)
    ∙ (ap (λ n. word_piece (character_word p (take n text)) n) count
    ∙ (ap (λ l. word_piece (character_word p l) (length start)) (take-append_seam start after)
    ∙ ap (λ w. word_piece w (length start)) (character_read p start c h)))

found_string : (p : Pos) (text bytes after : List ℕ) → IsString text bytes
    → piece p ((34 ∷ (text ++ 34 ∷ [])) ++ after) ≡ Found (Atomic p (String bytes)) (length (34 ∷ (text ++ 34 ∷ [])))
found_string p text bytes after h =
    let count : (length text + 1) + 1 ≡ length (34 ∷ (text ++ 34 ∷ [])) = omega (arith, length-append text (34 ∷ [])) in
    ap (λ l. string_piece p (quoted false l)) (append_assoc text (34 ∷ []) after)
    ∙ (ap (string_piece p) (string_read text bytes after h) ∙ ap (Found (Atomic p (String bytes))) count)

found_comma : (p : Pos) (after : List ℕ) → NotNext 64 after → piece p (44 ∷ after) ≡ Found (Marking p Unquote) 1
found_comma p [] h = refl
found_comma p (c ∷ rest) h =
    let other : nat_eq 64 c ≡ false = grind arith in
    rw other refl

pub token_found : (p : Pos) (bytes after : List ℕ) (t : Token) → IsToken p bytes after t
    → piece p (bytes ++ after) ≡ Found t (length bytes)
token_found p bytes after t (opens q a) = refl
token_found p bytes after t (opens_vector q a) = refl
token_found p bytes after t (closes q a) = refl
token_found p bytes after t (quote q a) = refl
token_found p bytes after t (quasiquote q a) = refl
token_found p bytes after t (splice q a) = refl
token_found p bytes after t (unquote q a h) = found_comma p after h
token_found p bytes after t (string q a text read h) = found_string p text read after h
token_found p bytes after t (character q a b more c u d h) = found_character p b c more after u d h
token_found p bytes after t (word q a w u undelimited d h) = found_word p bytes after t undelimited d h

-- What stops a text is no piece of it

out_word : OutOfRange ≡ NoWord → ⊥
out_word e = cc

pub out_found : (p : Pos) (text : List ℕ) → NumberOut text → piece p text ≡ BadNumber
out_found p text n =
    ap (piece p) n.whole
    ∙ found_small p n.word n.after OutOfRange n.undelimited n.delimited
    (out_read p (str_to_ascii_lowercase n.word) n.value n.is_number n.out) out_word

closed_open : (bytes : List ℕ) (n : ℕ) → Closed bytes n ≡ NeverClosed → ⊥
closed_open bytes n e = cc

escape_open : BadEscape ≡ NeverClosed → ⊥
escape_open e = cc

pub open_found : (p : Pos) (text : List ℕ) → NeverEnds text → piece p text ≡ OpenString
open_found p text n = ap (piece p) n.begins ∙ ap (string_piece p) (is (quoted false n.inside) refl)
  where
    is_ended : (quoted false n.inside ≡ NeverClosed → ⊥) → ⊥
    is_ended h = let r = ended n.inside h in n.unclosed r.body r.after r.is r.whole

    is : (q : Quoted) → quoted false n.inside ≡ q → q ≡ NeverClosed
    is (Closed bytes k) e = absurd (is_ended (λ h. closed_open bytes k (sym e ∙ h)))
    is BadEscape e = absurd (is_ended (λ h. escape_open (sym e ∙ h)))
    is NeverClosed e = refl
