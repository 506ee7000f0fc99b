-- The tokens of a text, piece by piece.
use Rattle.std.proofs.Common.{◌≡◌, ℕ, zero, suc, ◌+◌, ◌-◌, ◌<◌, Bool, true, false, List, [], ◌∷◌, length, take, drop, refl, sym, ap, subst, ◌∙◌, arith, cond}
use Rattle.std.specs.Prelude.{not, nat_eq, codes, ◌==◌, ◌||◌, ◌&&◌}
use Rattle.std.specs.Char.{is_ascii_whitespace}
use Rattle.scheme_base.specs.declared.pos.Pos.{Pos}
use Rattle.scheme_base.specs.Positions.{is_line_end, after_byte, position_after}
use Rattle.datum_form.specs.declared.token.Token.{Token}
use Rattle.datum_form.specs.declared.token.Mark.TheVariants.{Quote, Quasiquote, Unquote, Splice}
use Rattle.datum_form.specs.declared.token.Token.TheVariants.{Open, OpenVector, Close, Marking}
use Rattle.datum_form.specs.declared.piece.Piece.{Piece}
use Rattle.datum_form.specs.Text.{Quoted, is_delimiter, run_length, line_length, word_piece, string_piece, character_piece, run_piece, mark_piece, token_piece, piece, piece_length, quoted, before, lexed_after}
use Rattle.datum_form.specs.declared.piece.Piece.TheVariants.{Blank, Found, BadToken, BadNumber, OpenString}
use Rattle.datum_form.specs.Text.Quoted.{Closed, BadEscape, NeverClosed}
use Rattle.datum_form.specs.Text.Ending.{Clean, BadAt, RangeAt, OpenAt}
use Rattle.datum_form.specs.declared.piece.Word.{Word}
use Rattle.datum_form.specs.Words.{begins_with, small_word, character_word}
use Rattle.datum_form.specs.declared.piece.Word.TheVariants.{IsToken, OutOfRange, NoWord}
use Rattle.std.specs.Str.{str_to_ascii_lowercase}
use Rattle.datum_reader.specs.Lexing.{token_then, ends}
use Rattle.datum_form.proofs.TokensAsWritten.{length_while-step}

-- The bytes of a piece are passed over

skip : (n : ℕ) (p : Pos) (text : List ℕ)
    → lexed_after n p text ≡ lexed_after 0 (position_after p (take n text)) (drop n text)
skip zero p [] = refl
skip zero p (b ∷ bytes) = refl
skip (suc n) p [] = refl
skip (suc n) p (b ∷ bytes) = skip n (after_byte p b) bytes

-- counted from its first byte or from its second
rest_of_piece : (n b : ℕ) (p : Pos) (bytes : List ℕ) → 0 < n
    → lexed_after (n - 1) (after_byte p b) bytes
    ≡ lexed_after 0 (position_after p (take n (b ∷ bytes))) (drop n (b ∷ bytes))
rest_of_piece zero b p bytes h = absurd (omega arith)
rest_of_piece (suc n) b p bytes h =
    let one_less : suc n - 1 ≡ n = omega arith in
    ap (λ inside. lexed_after inside (after_byte p b) bytes) one_less ∙ skip n (after_byte p b) bytes

-- A piece has at least one byte

abbrev IsSome : Piece → Type 0
IsSome x = 0 < piece_length x

choose : (t : Bool) (x y : Piece) → (t ≡ true → IsSome x) → (t ≡ false → IsSome y) → IsSome (cond t x y)
choose true x y f g = f refl
choose false x y f g = g refl

word_some : (w : Word) (n : ℕ) → 0 < n → IsSome (word_piece w n)
word_some (IsToken t) n h = h
word_some OutOfRange n h = omega arith
word_some NoWord n h = omega arith

string_some : (p : Pos) (q : Quoted) → IsSome (string_piece p q)
string_some p (Closed bytes n) = omega arith
string_some p BadEscape = omega arith
string_some p NeverClosed = omega arith

head_differs : (k b : ℕ) → (nat_eq k b && true) ≡ false → (b == k) ≡ false
head_differs k b h = grind arith

none_of : (v w x y z : Bool) → v ≡ false → w ≡ false → x ≡ false → y ≡ false → z ≡ false
    → ((((v || w) || x) || y) || z) ≡ false
none_of v w x y z a b c d e = rw (a, b, c, d, e) refl

-- the test that a text begins with this byte
abbrev begins : ℕ → List ℕ → ℕ → Bool
begins b bytes k = begins_with (b ∷ bytes) (k ∷ [])

run_some : (p : Pos) (b : ℕ) (bytes : List ℕ) → is_delimiter b ≡ false → IsSome (run_piece p (b ∷ bytes))
run_some p b bytes other =
    let text : List ℕ = b ∷ bytes in
    choose (begins_with text (codes "#\\")) (character_piece p text)
    (word_piece (small_word p (str_to_ascii_lowercase (take (run_length text) text))) (run_length text))
    (λ e. word_some (character_word p (take (3 + run_length (drop 3 text)) text)) (3 + run_length (drop 3 text)) (omega arith))
    (λ e.
    word_some (small_word p (str_to_ascii_lowercase (take (run_length text) text))) (run_length text)
    (omega (arith, length_while-step (λ c. not (is_delimiter c)) b bytes (ap not other))))

mark_some : (p : Pos) (b : ℕ) (bytes : List ℕ) → is_delimiter b ≡ false → IsSome (mark_piece p (b ∷ bytes))
mark_some p b bytes other =
    let text : List ℕ = b ∷ bytes in
    let unquote : Piece = cond (begins_with text (codes ",")) (Found (Marking p Unquote) 1) (run_piece p text) in
    let splice : Piece = cond (begins_with text (codes ",@")) (Found (Marking p Splice) 2) unquote in
    let quasi : Piece = cond (begins_with text (codes "`")) (Found (Marking p Quasiquote) 1) splice in
    choose (begins_with text (codes "'")) (Found (Marking p Quote) 1) quasi (λ e. omega arith)
    (λ e. choose (begins_with text (codes "`")) (Found (Marking p Quasiquote) 1) splice (λ f. omega arith)
    (λ f. choose (begins_with text (codes ",@")) (Found (Marking p Splice) 2) unquote (λ g. omega arith)
    (λ g. choose (begins_with text (codes ",")) (Found (Marking p Unquote) 1) (run_piece p text) (λ h. omega arith)
    (λ h. run_some p b bytes other))))

token_some : (p : Pos) (b : ℕ) (bytes : List ℕ) → is_ascii_whitespace b ≡ false
    → begins_with (b ∷ bytes) (codes ";") ≡ false → IsSome (token_piece p (b ∷ bytes))
token_some p b bytes white mark =
    let text : List ℕ = b ∷ bytes in
    let string : Piece =
    cond (begins_with text (codes "\"")) (string_piece p (quoted false (drop 1 text))) (mark_piece p text) in
    let close : Piece = cond (begins_with text (codes ")")) (Found (Close p) 1) string in
    let vector : Piece = cond (begins_with text (codes "#(")) (Found (OpenVector p) 2) close in
    choose (begins_with text (codes "(")) (Found (Open p) 1) vector (λ e. omega arith)
    (λ e. choose (begins_with text (codes "#(")) (Found (OpenVector p) 2) close (λ f. omega arith)
    (λ f. choose (begins_with text (codes ")")) (Found (Close p) 1) string (λ g. omega arith)
    (λ g. choose (begins_with text (codes "\"")) (string_piece p (quoted false (drop 1 text))) (mark_piece p text)
    (λ h. string_some p (quoted false (drop 1 text)))
    (λ h.
    mark_some p b bytes
    (none_of (is_ascii_whitespace b) (b == 40) (b == 41) (b == 34) (b == 59) white (head_differs 40 b e)
    (head_differs 41 b g) (head_differs 34 b h) (head_differs 59 b mark))))))

head_same : (k b : ℕ) → (nat_eq k b && true) ≡ true → b ≡ k
head_same k b h = grind arith

comment_some : (b : ℕ) (bytes : List ℕ) → b ≡ 59 → 0 < line_length (b ∷ bytes)
comment_some b bytes e =
    omega (arith, length_while-step (λ c. not (is_line_end c)) b bytes (ap (λ c. not (is_line_end c)) e))

piece_some : (p : Pos) (b : ℕ) (bytes : List ℕ) → IsSome (piece p (b ∷ bytes))
piece_some p b bytes =
    let text : List ℕ = b ∷ bytes in
    let other : Piece = cond (begins_with text (codes ";")) (Blank (line_length text)) (token_piece p text) in
    choose (is_ascii_whitespace b) (Blank 1) other (λ e. omega arith)
    (λ e. choose (begins_with text (codes ";")) (Blank (line_length text)) (token_piece p text)
    (λ f. comment_some b bytes (head_same 59 b f)) (λ f. token_some p b bytes e f))

-- What a text's first piece gives

at_piece : (p : Pos) (b : ℕ) (bytes : List ℕ) (x : Piece) → piece p (b ∷ bytes) ≡ x
    → lexed_after 0 p (b ∷ bytes) ≡ before p x (lexed_after (piece_length x - 1) (after_byte p b) bytes)
at_piece p b bytes x e = ap (λ y. before p y (lexed_after (piece_length y - 1) (after_byte p b) bytes)) e

some_of : (p : Pos) (b : ℕ) (bytes : List ℕ) (x : Piece) → piece p (b ∷ bytes) ≡ x → IsSome x
some_of p b bytes x e = let P : Piece → Type 0 = λ y. IsSome y in subst P e (piece_some p b bytes)

pub piece_length_some : (p : Pos) (text : List ℕ) (x : Piece) → 0 < length text → piece p text ≡ x → 0 < piece_length x
piece_length_some p [] x some e = absurd (omega arith)
piece_length_some p (b ∷ bytes) x some e = some_of p b bytes x e

pub after_blank : (p : Pos) (text : List ℕ) (n : ℕ) → 0 < length text → piece p text ≡ Blank n
    → lexed_after 0 (position_after p (take n text)) (drop n text) ≡ lexed_after 0 p text
after_blank p [] n some e = absurd (omega arith)
after_blank p (b ∷ bytes) n some e =
    sym (at_piece p b bytes (Blank n) e ∙ rest_of_piece n b p bytes (some_of p b bytes (Blank n) e))

pub at_token : (p : Pos) (text : List ℕ) (t : Token) (n : ℕ) → 0 < length text → piece p text ≡ Found t n
    → lexed_after 0 p text ≡ token_then t (lexed_after 0 (position_after p (take n text)) (drop n text))
at_token p [] t n some e = absurd (omega arith)
at_token p (b ∷ bytes) t n some e =
    at_piece p b bytes (Found t n) e
    ∙ ap (token_then t) (rest_of_piece n b p bytes (some_of p b bytes (Found t n) e))

pub at_bad_token : (p : Pos) (text : List ℕ) → 0 < length text → piece p text ≡ BadToken
    → lexed_after 0 p text ≡ ends (BadAt p)
at_bad_token p [] some e = absurd (omega arith)
at_bad_token p (b ∷ bytes) some e = at_piece p b bytes BadToken e

pub at_bad_number : (p : Pos) (text : List ℕ) → 0 < length text → piece p text ≡ BadNumber
    → lexed_after 0 p text ≡ ends (RangeAt p)
at_bad_number p [] some e = absurd (omega arith)
at_bad_number p (b ∷ bytes) some e = at_piece p b bytes BadNumber e

pub at_open_string : (p : Pos) (text : List ℕ) → 0 < length text → piece p text ≡ OpenString
    → lexed_after 0 p text ≡ ends (OpenAt p)
at_open_string p [] some e = absurd (omega arith)
at_open_string p (b ∷ bytes) some e = at_piece p b bytes OpenString e

pub at_end : (p : Pos) (text : List ℕ) → length text ≡ 0 → lexed_after 0 p text ≡ ends Clean
at_end p [] e = refl
at_end p (b ∷ bytes) e = absurd (omega (arith, e))
