-- Characters and strings as R4RS writes them are what the bytes after their marks are, and no others are.
use Rattle.std.proofs.Common.{◌≡◌, ◌≢◌, ℕ, suc, ◌+◌, Bool, true, false, List, [], ◌∷◌, ◌++◌, length, refl, sym, ap, subst, ◌∙◌, arith, cond}
use Rattle.std.proofs.lemmas.List.{length-map}
use Rattle.std.specs.Prelude.{codes, slice_index, ◌==◌, ◌||◌}
use Rattle.std.specs.Char.{to_ascii_lowercase}
use Rattle.std.specs.Str.{bytes_eq, str_to_ascii_lowercase}
use Rattle.std.proofs.lemmas.Slice.Eq.{bytes_eq-Decides}
use Rattle.scheme_base.specs.declared.pos.Pos.{Pos}
use Rattle.datum_form.specs.Grammar.{IsCharacter, IsString, IsInside}
use Rattle.datum_form.specs.Grammar.IsCharacter.{itself, space, newline}
use Rattle.datum_form.specs.Grammar.IsInside.{at_start, plain_byte, escaped_byte}
use Rattle.datum_form.specs.Grammar.IsString.{empty, plain, escaped_quote, escaped_backslash}
use Rattle.datum_form.specs.declared.token.Token.{Token}
use Rattle.datum_form.specs.declared.token.Atom.TheVariants.{Character}
use Rattle.datum_form.specs.declared.token.Token.TheVariants.{Atomic}
use Rattle.datum_form.specs.Text.{Quoted, quoted, with_byte, with_bad_escape, after_backslash}
use Rattle.datum_form.specs.Text.Quoted.{Closed, BadEscape, NeverClosed}
use Rattle.datum_form.specs.Words.{named_character, character_word}
use Rattle.datum_form.specs.declared.piece.Word.TheVariants.{IsToken, OutOfRange, NoWord}

-- Characters

named : (p : Pos) (word name : List ℕ) (k : ℕ) → str_to_ascii_lowercase word ≡ name → length name ≡ k → (k == 3) ≡ false
    → character_word p word ≡ named_character p name
named p word name k e count no_three =
    let same : length word ≡ k = sym (length-map word to_ascii_lowercase) ∙ (ap length e ∙ count) in
    let differs : (length word == 3) ≡ false = ap (λ n. n == 3) same ∙ no_three in
    ap (λ b. cond b (IsToken (Atomic p (Character (slice_index word 2)))) (named_character p (str_to_ascii_lowercase word))) differs
    ∙ ap (named_character p) e

pub character_read : (p : Pos) (word : List ℕ) (c : ℕ) → IsCharacter word c
    → character_word p word ≡ IsToken (Atomic p (Character c))
character_read p word c (itself b) = refl
character_read p word c (space w e) = named p word (codes "#\\space") 7 e refl refl
character_read p word c (newline w e) = named p word (codes "#\\newline") 9 e refl refl

pub record IsCharacterToken (p : Pos) (word : List ℕ) (t : Token) : Type 0 where
  pub byte : ℕ
  pub is : t ≡ Atomic p (Character byte)
  pub has : IsCharacter word byte

same_token : (t u : Token) → IsToken u ≡ IsToken t → t ≡ u
same_token t u e = cc

no_token : (t : Token) → NoWord ≡ IsToken t → ⊥
no_token t e = cc

same_bytes : (a b : List ℕ) → bytes_eq a b ≡ true → a ≡ b
same_bytes a b e = (bytes_eq-Decides a b).0 e

name_written : (p : Pos) (word : List ℕ) (t : Token) → named_character p (str_to_ascii_lowercase word) ≡ IsToken t
    → IsCharacterToken p word t
name_written p word t h =
    at (bytes_eq (str_to_ascii_lowercase word) (codes "#\\space"))
    (bytes_eq (str_to_ascii_lowercase word) (codes "#\\newline")) refl refl h
  where
    at : (s n : Bool) → bytes_eq (str_to_ascii_lowercase word) (codes "#\\space") ≡ s
        → bytes_eq (str_to_ascii_lowercase word) (codes "#\\newline") ≡ n
        → cond s (IsToken (Atomic p (Character 32))) (cond n (IsToken (Atomic p (Character 10))) NoWord) ≡ IsToken t
        → IsCharacterToken p word t
    at true n hs hn e =
        record { byte = 32; is = same_token t (Atomic p (Character 32)) e; has = space word (same_bytes (str_to_ascii_lowercase word) (codes "#\\space") hs) }
    at false true hs hn e =
        record { byte = 10; is = same_token t (Atomic p (Character 10)) e; has = newline word (same_bytes (str_to_ascii_lowercase word) (codes "#\\newline") hn) }
    at false false hs hn e = absurd (no_token t e)

longer : (a b c d : ℕ) (rest : List ℕ) → (length (a ∷ b ∷ c ∷ d ∷ rest) == 3) ≡ false
longer a b c d rest = grind arith

pub character_written : (p : Pos) (b : ℕ) (more : List ℕ) (t : Token)
    → character_word p (35 ∷ 92 ∷ b ∷ more) ≡ IsToken t → IsCharacterToken p (35 ∷ 92 ∷ b ∷ more) t
character_written p b [] t h = record { byte = b; is = same_token t (Atomic p (Character b)) h; has = itself b }
character_written p b (d ∷ rest) t h =
    let word : List ℕ = 35 ∷ 92 ∷ b ∷ d ∷ rest in
    name_written p word t
    (sym (ap (λ x. cond x (IsToken (Atomic p (Character (slice_index word 2)))) (named_character p (str_to_ascii_lowercase word))) (longer 35 92 b d rest))
    ∙ h)

-- Strings

not_same : (b k : ℕ) → b ≢ k → (b == k) ≡ false
not_same b k h = grind arith

pub character_in_range : (p : Pos) (text : List ℕ) → character_word p text ≡ OutOfRange → ⊥
character_in_range p text e =
    let small : List ℕ = str_to_ascii_lowercase text in
    at (length text == 3) (bytes_eq small (codes "#\\space")) (bytes_eq small (codes "#\\newline")) e
  where
    at : (three space_name newline_name : Bool)
        → cond three (IsToken (Atomic p (Character (slice_index text 2))))
        (cond space_name (IsToken (Atomic p (Character 32))) (cond newline_name (IsToken (Atomic p (Character 10))) NoWord)) ≡ OutOfRange
        → ⊥
    at true s n h = cc
    at false true n h = cc
    at false false true h = cc
    at false false false h = cc

pub string_read : (text bytes rest : List ℕ) → IsString text bytes
    → quoted false (text ++ 34 ∷ rest) ≡ Closed bytes (length text + 1)
string_read text bytes rest empty = refl
string_read text bytes rest (plain b more read q s h) =
    let ih = string_read more read rest h in
    let tail : List ℕ = more ++ 34 ∷ rest in
    let count : (length more + 1) + 1 ≡ suc (length more) + 1 = omega arith in
    ap (λ x. cond x (Closed [] 1) (cond (b == 92) (after_backslash (quoted true tail)) (with_byte b (quoted false tail)))) (not_same b 34 q)
    ∙ (ap (λ x. cond x (after_backslash (quoted true tail)) (with_byte b (quoted false tail))) (not_same b 92 s)
    ∙ (ap (with_byte b) ih ∙ ap (Closed (b ∷ read)) count))
string_read text bytes rest (escaped_quote more read h) =
    let count : ((length more + 1) + 1) + 1 ≡ suc (suc (length more)) + 1 = omega arith in
    ap (λ q. after_backslash (with_byte 34 q)) (string_read more read rest h) ∙ ap (Closed (34 ∷ read)) count
string_read text bytes rest (escaped_backslash more read h) =
    let count : ((length more + 1) + 1) + 1 ≡ suc (suc (length more)) + 1 = omega arith in
    ap (λ q. after_backslash (with_byte 92 q)) (string_read more read rest h) ∙ ap (Closed (92 ∷ read)) count

pub record Strung (text bytes : List ℕ) (n : ℕ) : Type 0 where
  pub body : List ℕ
  pub rest : List ℕ
  pub whole : text ≡ body ++ 34 ∷ rest
  pub has : IsString body bytes
  pub count : n ≡ length body + 1

record WithByte (b : ℕ) (q : Quoted) (bytes : List ℕ) (n : ℕ) : Type 0 where
  read : List ℕ
  k : ℕ
  is : q ≡ Closed read k
  same : bytes ≡ b ∷ read
  count : n ≡ k + 1

with_byte_is : (b : ℕ) (q : Quoted) (bytes : List ℕ) (n : ℕ) → with_byte b q ≡ Closed bytes n → WithByte b q bytes n
with_byte_is b (Closed read k) bytes n e = record { read = read; k = k; is = refl; same = cc; count = cc }
with_byte_is b BadEscape bytes n e = absurd (cc)
with_byte_is b NeverClosed bytes n e = absurd (cc)

after_backslash_is : (q : Quoted) (bytes : List ℕ) (n : ℕ) → after_backslash q ≡ Closed bytes n
    → (k : ℕ) × (q ≡ Closed bytes k) × (n ≡ k + 1)
after_backslash_is (Closed read k) bytes n e = (k, cc, cc)
after_backslash_is BadEscape bytes n e = absurd (cc)
after_backslash_is NeverClosed bytes n e = absurd (cc)

bad_escape_is : (q : Quoted) (bytes : List ℕ) (n : ℕ) → with_bad_escape q ≡ Closed bytes n → ⊥
bad_escape_is (Closed read k) bytes n e = cc
bad_escape_is BadEscape bytes n e = cc
bad_escape_is NeverClosed bytes n e = cc

pub same_byte : (b k : ℕ) → (b == k) ≡ true → b ≡ k
same_byte b k e = grind arith

pub differs : (b k : ℕ) → (b == k) ≡ false → b ≢ k
differs b k e = grind arith

one_byte : (b n : ℕ) (text bytes : List ℕ) → b ≢ 34 → b ≢ 92 → (w : WithByte b (quoted false text) bytes n)
    → Strung text w.read w.k → Strung (b ∷ text) bytes n
one_byte b n text bytes q s w r =
    let P : List ℕ → Type 0 = λ l. IsString (b ∷ r.body) l in
    record {
      body = b ∷ r.body;
      rest = r.rest;
      whole = ap (λ l. b ∷ l) r.whole;
      has = subst P (sym w.same) (plain b r.body w.read q s r.has);
      count = omega (arith, w.count, r.count);
    }

escaped : (b k n : ℕ) (text bytes : List ℕ) (w : WithByte b (quoted false text) bytes n) → Strung text w.read w.k → b ≡ k
    → ((body read : List ℕ) → IsString body read → IsString (92 ∷ k ∷ body) (k ∷ read))
    → Strung (92 ∷ b ∷ text) bytes (n + 1)
escaped b k n text bytes w r is adds =
    let P : List ℕ → Type 0 = λ l. IsString (92 ∷ k ∷ r.body) l in
    record {
      body = 92 ∷ k ∷ r.body;
      rest = r.rest;
      whole = ap (λ c. 92 ∷ c ∷ text) is ∙ ap (λ l. 92 ∷ k ∷ l) r.whole;
      has = subst P (sym (w.same ∙ ap (λ c. c ∷ w.read) is)) (adds r.body w.read r.has);
      count = omega (arith, w.count, r.count);
    }

one_escape : (b n : ℕ) (text bytes : List ℕ) (x y : Bool) → (b == 34) ≡ x → (b == 92) ≡ y
    → cond (x || y) (with_byte b (quoted false text)) (with_bad_escape (quoted false text)) ≡ Closed bytes n
    → ((read : List ℕ) (k : ℕ) → quoted false text ≡ Closed read k → Strung text read k)
    → Strung (92 ∷ b ∷ text) bytes (n + 1)
one_escape b n text bytes true y hx hy e more =
    let w = with_byte_is b (quoted false text) bytes n e in
    escaped b 34 n text bytes w (more w.read w.k w.is) (same_byte b 34 hx) escaped_quote
one_escape b n text bytes false true hx hy e more =
    let w = with_byte_is b (quoted false text) bytes n e in
    escaped b 92 n text bytes w (more w.read w.k w.is) (same_byte b 92 hy) escaped_backslash
one_escape b n text bytes false false hx hy e more = absurd (bad_escape_is (quoted false text) bytes n e)

never : (bytes : List ℕ) (n : ℕ) → NeverClosed ≡ Closed bytes n → ⊥
never bytes n e = cc

at_mark : (n : ℕ) (text bytes : List ℕ) → Closed [] 1 ≡ Closed bytes n → Strung (34 ∷ text) bytes n
at_mark n text bytes e =
    let none : bytes ≡ [] = cc in
    let one : n ≡ 1 = cc in
    let P : List ℕ → Type 0 = λ l. IsString [] l in
    record { body = []; rest = text; whole = refl; has = subst P (sym none) empty; count = one }

pub string_written : (text bytes : List ℕ) (n : ℕ) → quoted false text ≡ Closed bytes n → Strung text bytes n
string_written [] bytes n e = absurd (never bytes n e)
string_written (b ∷ []) bytes n e = at (b == 34) (b == 92) refl e
  where
    at : (x y : Bool) → (b == 34) ≡ x
        → cond x (Closed [] 1) (cond y (after_backslash NeverClosed) (with_byte b NeverClosed)) ≡ Closed bytes n
        → Strung (b ∷ []) bytes n
    at true y hx h =
        let P : ℕ → Type 0 = λ c. Strung (c ∷ []) bytes n in subst P (sym (same_byte b 34 hx)) (at_mark n [] bytes h)
    at false true hx h = absurd (never bytes n h)
    at false false hx h = absurd (never bytes n h)
string_written (b ∷ c ∷ text) bytes n e =
    at (b == 34) (b == 92) refl refl e (string_written (c ∷ text)) (string_written text)
  where
    at : (x y : Bool) → (b == 34) ≡ x → (b == 92) ≡ y
        → cond x (Closed [] 1) (cond y (after_backslash (quoted true (c ∷ text))) (with_byte b (quoted false (c ∷ text)))) ≡ Closed bytes n
        → ((read : List ℕ) (k : ℕ) → quoted false (c ∷ text) ≡ Closed read k → Strung (c ∷ text) read k)
        → ((read : List ℕ) (k : ℕ) → quoted false text ≡ Closed read k → Strung text read k)
        → Strung (b ∷ c ∷ text) bytes n
    at true y hx hy h one two =
        let P : ℕ → Type 0 = λ d. Strung (d ∷ c ∷ text) bytes n in
        subst P (sym (same_byte b 34 hx)) (at_mark n (c ∷ text) bytes h)
    at false true hx hy h one two =
        let a = after_backslash_is (quoted true (c ∷ text)) bytes n h in
        let P : ℕ → Type 0 = λ d. Strung (d ∷ c ∷ text) bytes n in
        let Q : ℕ → Type 0 = λ m. Strung (92 ∷ c ∷ text) bytes m in
        subst P (sym (same_byte b 92 hy))
        (subst Q (sym a.2) (one_escape c a.0 text bytes (c == 34) (c == 92) refl refl a.1 two))
    at false false hx hy h one two =
        let w = with_byte_is b (quoted false (c ∷ text)) bytes n h in
        one_byte b n (c ∷ text) bytes (differs b 34 hx) (differs b 92 hy) w (one w.read w.k w.is)

-- Strings that are never closed

with_byte_open : (b : ℕ) (q : Quoted) → with_byte b q ≡ NeverClosed → q ≡ NeverClosed
with_byte_open b (Closed bytes n) e = absurd (cc)
with_byte_open b BadEscape e = absurd (cc)
with_byte_open b NeverClosed e = refl

after_backslash_open : (q : Quoted) → after_backslash q ≡ NeverClosed → q ≡ NeverClosed
after_backslash_open (Closed bytes n) e = absurd (cc)
after_backslash_open BadEscape e = absurd (cc)
after_backslash_open NeverClosed e = refl

bad_escape_open : (q : Quoted) → with_bad_escape q ≡ NeverClosed → q ≡ NeverClosed
bad_escape_open (Closed bytes n) e = absurd (cc)
bad_escape_open BadEscape e = absurd (cc)
bad_escape_open NeverClosed e = refl

escape_open : (b : ℕ) (x : Bool) (q : Quoted) → cond x (with_byte b q) (with_bad_escape q) ≡ NeverClosed → q ≡ NeverClosed
escape_open b true q e = with_byte_open b q e
escape_open b false q e = bad_escape_open q e

escape_never : (b : ℕ) (x : Bool) → cond x (with_byte b NeverClosed) (with_bad_escape NeverClosed) ≡ NeverClosed
escape_never b true = refl
escape_never b false = refl

plain_step : (b : ℕ) (text : List ℕ) → b ≢ 34 → b ≢ 92 → quoted false (b ∷ text) ≡ with_byte b (quoted false text)
plain_step b text q s =
    ap (λ x. cond x (Closed [] 1) (cond (b == 92) (after_backslash (quoted true text)) (with_byte b (quoted false text)))) (not_same b 34 q)
    ∙ ap (λ x. cond x (after_backslash (quoted true text)) (with_byte b (quoted false text))) (not_same b 92 s)

pub closed : (body after : List ℕ) → IsInside body → quoted false (body ++ 34 ∷ after) ≡ NeverClosed → ⊥
closed body after at_start e = cc
closed body after (plain_byte b text q s h) e =
    let tail : List ℕ = text ++ 34 ∷ after in
    closed text after h (with_byte_open b (quoted false tail) (sym (plain_step b tail q s) ∙ e))
closed body after (escaped_byte b text h) e =
    let tail : List ℕ = text ++ 34 ∷ after in
    closed text after h (escape_open b (b == 34 || b == 92) (quoted false tail) (after_backslash_open (quoted true (b ∷ tail)) e))

-- a string that is closed, with good escapes or bad
pub record Ended (text : List ℕ) : Type 0 where
  pub body : List ℕ
  pub after : List ℕ
  pub whole : text ≡ body ++ 34 ∷ after
  pub is : IsInside body

end_here : (b : ℕ) (text : List ℕ) → (b == 34) ≡ true → Ended (b ∷ text)
end_here b text h =
    record { body = []; after = text; whole = ap (λ c. c ∷ text) (same_byte b 34 h); is = at_start }

pub ended : (text : List ℕ) → (quoted false text ≡ NeverClosed → ⊥) → Ended text
ended [] h = absurd (h refl)
ended (b ∷ []) h = at (b == 34) (b == 92) refl h
  where
    at : (x y : Bool) → (b == 34) ≡ x
        → (cond x (Closed [] 1) (cond y (after_backslash NeverClosed) (with_byte b NeverClosed)) ≡ NeverClosed → ⊥)
        → Ended (b ∷ [])
    at true y hx k = end_here b [] hx
    at false true hx k = absurd (k refl)
    at false false hx k = absurd (k refl)
ended (b ∷ c ∷ text) h = at (b == 34) (b == 92) refl refl h (ended (c ∷ text)) (ended text)
  where
    at : (x y : Bool) → (b == 34) ≡ x → (b == 92) ≡ y
        → (cond x (Closed [] 1) (cond y (after_backslash (quoted true (c ∷ text))) (with_byte b (quoted false (c ∷ text)))) ≡ NeverClosed → ⊥)
        → ((quoted false (c ∷ text) ≡ NeverClosed → ⊥) → Ended (c ∷ text))
        → ((quoted false text ≡ NeverClosed → ⊥) → Ended text) → Ended (b ∷ c ∷ text)
    at true y hx hy k one two = end_here b (c ∷ text) hx
    at false true hx hy k one two =
        let is_escape : Bool = c == 34 || c == 92 in
        let r =
        two
        (λ e.
        k
        (ap after_backslash
        (ap (λ q. cond is_escape (with_byte c q) (with_bad_escape q)) e ∙ escape_never c is_escape))) in
        record {
          body = 92 ∷ c ∷ r.body;
          after = r.after;
          whole = ap (λ d. d ∷ c ∷ text) (same_byte b 92 hy) ∙ ap (λ l. 92 ∷ c ∷ l) r.whole;
          is = escaped_byte c r.body r.is;
        }
    at false false hx hy k one two =
        let r = one (λ e. k (ap (with_byte b) e)) in
        record {
          body = b ∷ r.body;
          after = r.after;
          whole = ap (λ l. b ∷ l) r.whole;
          is = plain_byte b r.body (differs b 34 hx) (differs b 92 hy) r.is;
        }
