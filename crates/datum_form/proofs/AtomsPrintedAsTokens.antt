-- A datum without parts is printed as a token as R4RS writes it.
use Rattle.std.proofs.Common.{◌≡◌, ℕ, zero, suc, ◌+◌, ◌*◌, ◌/◌, ◌%◌, ◌<◌, ◌≤◌, ◌^◌, Bool, true, false, List, [], ◌∷◌, ◌++◌, Some, None, refl, sym, ap, subst, ◌∙◌, arith, cond}
use Rattle.std.specs.Prelude.{ℤ, pos, negsuc, nat_lt, codes, ◌==◌, ◌||◌}
use Rattle.std.specs.Char.{to_ascii_lowercase}
use Rattle.std.specs.Fmt.{decimal, digits as glyphs, digits_onto, digit_glyph}
use Rattle.std.specs.Str.{str_to_ascii_lowercase}
use Rattle.scheme_base.specs.declared.pos.Pos.{Pos}
use Rattle.scheme_base.specs.AtomText.{character_text, escaped_text}
use Rattle.scheme_base.specs.Integers.{in_range}
use Rattle.datum_form.proofs.StringsAsWritten.{same_byte, differs}
use Rattle.datum_form.specs.Grammar.{Delimited, Undelimited, IsNumber, IsWord, IsString, IsToken}
use Rattle.datum_form.specs.Grammar.IsRadix.{decimal as ten}
use Rattle.datum_form.specs.Grammar.IsExactness.{unmarked}
use Rattle.datum_form.specs.Grammar.IsPrefix.{radix_first}
use Rattle.datum_form.specs.Grammar.IsSign.{unsigned, minus}
use Rattle.datum_form.specs.Grammar.IsWord.{dot, true_word, false_word, number, name}
use Rattle.datum_form.specs.Grammar.IsCharacter.{itself, space, newline}
use Rattle.datum_form.specs.Grammar.IsString.{empty, plain, escaped_quote, escaped_backslash}
use Rattle.datum_form.specs.Grammar.IsToken.{string, character, word}
use Rattle.datum_form.specs.Print.{atom_text}
use Rattle.datum_form.specs.declared.token.Token.{Token}
use Rattle.datum_form.specs.declared.token.Atom.{Atom}
use Rattle.datum_form.specs.declared.token.Atom.TheVariants.{Integer, Boolean, Character, String, Symbol}
use Rattle.datum_form.specs.declared.token.Token.TheVariants.{Atomic}
use Rattle.datum_form.specs.Text.{is_delimiter}
use Rattle.datum_form.specs.Words.{digit, digits, digits_after, is_name}

-- what stands in a text as a datum without parts
abbrev pub ValidAtom : Atom → Type 0
ValidAtom (Integer z) = in_range z ≡ true
ValidAtom (Boolean b) = Unit {0}
ValidAtom (Character c) = Unit {0}
ValidAtom (String bytes) = Unit {0}
ValidAtom (Symbol bytes) =
    (is_name bytes ≡ true) × Undelimited bytes × (str_to_ascii_lowercase bytes ≡ bytes)

-- Decimal digits

abbrev power : ℕ → ℕ
power zero = 1
power (suc k) = 10 * power k

-- the digits of n before others
abbrev onto : (k n : ℕ) → List ℕ → List ℕ
onto k n acc = digits_onto k 10 false n acc

abbrev glyph : ℕ → ℕ
glyph n = digit_glyph false (n % 10)

record Glyph (n : ℕ) : Type 0 where
  is : glyph n ≡ 48 + n % 10
  value : digit (glyph n) ≡ n % 10
  less : nat_lt (digit (glyph n)) 10 ≡ true
  lower : to_ascii_lowercase (glyph n) ≡ glyph n
  undelimited : is_delimiter (glyph n) ≡ false

below_ten : (d : ℕ) → d < 10 → digit_glyph false d ≡ 48 + d
below_ten d h = grind arith

digit_of : (d : ℕ) → d < 10 → digit (48 + d) ≡ d
digit_of d h = grind arith

lower_of : (d : ℕ) → d < 10 → to_ascii_lowercase (48 + d) ≡ 48 + d
lower_of d h = grind arith

undelimited_of : (d : ℕ) → d < 10 → is_delimiter (48 + d) ≡ false
undelimited_of d h = grind arith

less_of : (d : ℕ) → d < 10 → nat_lt d 10 ≡ true
less_of d h = grind arith

glyph_of : (n : ℕ) → Glyph n
glyph_of n =
    let d : ℕ = n % 10 in
    let few : d < 10 = omega arith in
    let is = below_ten d few in
    let value : digit (glyph n) ≡ d = ap (λ b. digit b) is ∙ digit_of d few in
    record {
      is = is;
      value = value;
      less = ap (λ k. nat_lt k 10) value ∙ less_of d few;
      lower = ap (λ b. to_ascii_lowercase b) is ∙ (lower_of d few ∙ sym is);
      undelimited = ap (λ b. is_delimiter b) is ∙ undelimited_of d few;
    }

one_digit : (m n : ℕ) (acc : List ℕ) → digits_after 10 m (glyph n ∷ acc) ≡ digits_after 10 (m * 10 + n % 10) acc
one_digit m n acc =
    let g = glyph_of n in
    ap (λ b. cond b (digits_after 10 (m * 10 + digit (glyph n)) acc) None) g.less
    ∙ ap (λ d. digits_after 10 (m * 10 + d) acc) g.value

read_onto : (k n : ℕ) (acc : List ℕ) → n < power k → digits_after 10 0 (onto k n acc) ≡ digits_after 10 n acc
read_onto zero n acc h = ap (λ m. digits_after 10 m acc) (omega (arith, h))
read_onto (suc k) n acc h = at (n / 10 == 0) refl (read_onto k (n / 10) (glyph n ∷ acc) (omega (arith, h)))
  where
    at : (b : Bool) → (n / 10 == 0) ≡ b
        → digits_after 10 0 (onto k (n / 10) (glyph n ∷ acc)) ≡ digits_after 10 (n / 10) (glyph n ∷ acc)
        → digits_after 10 0 (cond b (glyph n ∷ acc) (onto k (n / 10) (glyph n ∷ acc))) ≡ digits_after 10 n acc
    at true e more =
        let zero_left : n / 10 ≡ 0 = grind (arith, e) in
        one_digit 0 n acc ∙ ap (λ m. digits_after 10 m acc) (omega (arith, zero_left))
    at false e more = more ∙ (one_digit (n / 10) n acc ∙ ap (λ m. digits_after 10 m acc) (omega arith))

undelimited_onto : (k n : ℕ) (acc : List ℕ) → Undelimited acc → Undelimited (onto k n acc)
undelimited_onto zero n acc h = h
undelimited_onto (suc k) n acc h =
    at (n / 10 == 0) (undelimited_onto k (n / 10) (glyph n ∷ acc) ((glyph_of n).undelimited, h))
  where
    at : (b : Bool) → Undelimited (onto k (n / 10) (glyph n ∷ acc))
        → Undelimited (cond b (glyph n ∷ acc) (onto k (n / 10) (glyph n ∷ acc)))
    at true more = ((glyph_of n).undelimited, h)
    at false more = more

lower_onto : (k n : ℕ) (acc : List ℕ) → str_to_ascii_lowercase acc ≡ acc
    → str_to_ascii_lowercase (onto k n acc) ≡ onto k n acc
lower_onto zero n acc h = h
lower_onto (suc k) n acc h = at (n / 10 == 0) (lower_onto k (n / 10) (glyph n ∷ acc) one)
  where
    one : str_to_ascii_lowercase (glyph n ∷ acc) ≡ glyph n ∷ acc
    one = ap (λ b. b ∷ str_to_ascii_lowercase acc) (glyph_of n).lower ∙ ap (λ l. glyph n ∷ l) h

    at : (b : Bool) → str_to_ascii_lowercase (onto k (n / 10) (glyph n ∷ acc)) ≡ onto k (n / 10) (glyph n ∷ acc)
        → str_to_ascii_lowercase (cond b (glyph n ∷ acc) (onto k (n / 10) (glyph n ∷ acc)))
        ≡ cond b (glyph n ∷ acc) (onto k (n / 10) (glyph n ∷ acc))
    at true more = one
    at false more = more

-- there is a digit
digits_some : (text : List ℕ) (n : ℕ) → digits_after 10 0 text ≡ Some n → (text ≡ [] → n ≡ 0 → ⊥) → digits 10 text ≡ Some n
digits_some [] n h some = absurd (some refl (sym (value h)))
  where
    value : Some 0 ≡ Some n → 0 ≡ n
    value e = cc
digits_some (b ∷ bytes) n h some = h

cons_onto : (k n b : ℕ) (acc : List ℕ) → onto k n (b ∷ acc) ≡ [] → ⊥
cons_onto zero n b acc e = cc
cons_onto (suc k) n b acc e = at (n / 10 == 0) e (cons_onto k (n / 10) (glyph n) (b ∷ acc))
  where
    at : (t : Bool) → cond t (glyph n ∷ b ∷ acc) (onto k (n / 10) (glyph n ∷ b ∷ acc)) ≡ []
        → (onto k (n / 10) (glyph n ∷ b ∷ acc) ≡ [] → ⊥) → ⊥
    at true f more = cc
    at false f more = more f

some_onto : (k n : ℕ) → onto (suc k) n [] ≡ [] → ⊥
some_onto k n e = at (n / 10 == 0) e
  where
    at : (t : Bool) → cond t (glyph n ∷ []) (onto k (n / 10) (glyph n ∷ [])) ≡ [] → ⊥
    at true f = cc
    at false f = cons_onto k (n / 10) (glyph n) [] f

record Decimal (n : ℕ) : Type 0 where
  value : digits 10 (decimal n) ≡ Some n
  undelimited : Undelimited (decimal n)
  lower : str_to_ascii_lowercase (decimal n) ≡ decimal n

decimal_of : (n : ℕ) → n < 2 ^ 62 → Decimal n
unfolding glyphs
decimal_of n h =
    record {
      value = digits_some (onto 64 n []) n (read_onto 64 n [] (omega (arith, h))) (λ e z. some_onto 63 n e);
      undelimited = undelimited_onto 64 n [] tt;
      lower = lower_onto 64 n [] refl;
    }

-- Tokens of atoms

in_range_of : (n : ℕ) → in_range (pos n) ≡ true → n < 2 ^ 62
in_range_of n h = grind (arith, h)

in_range_below : (n : ℕ) → in_range (negsuc n) ≡ true → suc n < 2 ^ 62
in_range_below n h = grind (arith, h)

positive : (n : ℕ) → Decimal n → IsNumber (decimal n) (pos n)
positive n d =
    record {
      radix = 10;
      negative = false;
      prefix = [];
      sign = [];
      number = decimal n;
      value = n;
      has_prefix = radix_first 10 [] [] ten unmarked;
      has_sign = unsigned;
      has_value = d.value;
      whole = refl;
      is = refl;
    }

negative_number : (n : ℕ) → Decimal (suc n) → IsNumber (45 ∷ decimal (suc n)) (negsuc n)
negative_number n d =
    record {
      radix = 10;
      negative = true;
      prefix = [];
      sign = codes "-";
      number = decimal (suc n);
      value = suc n;
      has_prefix = radix_first 10 [] [] ten unmarked;
      has_sign = minus;
      has_value = d.value;
      whole = refl;
      is = refl;
    }

same_word : (p : Pos) (w small : List ℕ) (z : ℤ) → str_to_ascii_lowercase w ≡ small → IsNumber small z
    → in_range z ≡ true → IsWord p (str_to_ascii_lowercase w) (Atomic p (Integer z))
same_word p w small z e h r =
    let P : List ℕ → Type 0 = λ l. IsWord p l (Atomic p (Integer z)) in subst P (sym e) (number p small z h r)

integer_token : (p : Pos) (z : ℤ) (after : List ℕ) → in_range z ≡ true → Delimited after
    → IsToken p (atom_text (Integer z)) after (Atomic p (Integer z))
integer_token p (pos n) after h d =
    let dec = decimal_of n (in_range_of n h) in
    word p after (decimal n) (Atomic p (Integer (pos n))) dec.undelimited d
    (same_word p (decimal n) (decimal n) (pos n) dec.lower (positive n dec) h)
integer_token p (negsuc n) after h d =
    let dec = decimal_of (suc n) (in_range_below n h) in
    word p after (45 ∷ decimal (suc n)) (Atomic p (Integer (negsuc n))) (refl, dec.undelimited) d
    (same_word p (45 ∷ decimal (suc n)) (45 ∷ decimal (suc n)) (negsuc n) (ap (λ l. 45 ∷ l) dec.lower)
    (negative_number n dec) h)

character_token : (p : Pos) (c : ℕ) (after : List ℕ) → Delimited after
    → IsToken p (character_text c) after (Atomic p (Character c))
character_token p c after d = at (c == 32) (c == 10) refl refl
  where
    at : (s n : Bool) → (c == 32) ≡ s → (c == 10) ≡ n
        → IsToken p (cond s (codes "#\\space") (cond n (codes "#\\newline") (codes "#\\" ++ c ∷ []))) after (Atomic p (Character c))
    at true n hs hn =
        let P : ℕ → Type 0 = λ k. IsToken p (codes "#\\space") after (Atomic p (Character k)) in
        subst P (sym (same_byte c 32 hs))
        (character p after 115 (codes "pace") 32 (refl, (refl, (refl, (refl, tt)))) d (space (codes "#\\space") refl))
    at false true hs hn =
        let P : ℕ → Type 0 = λ k. IsToken p (codes "#\\newline") after (Atomic p (Character k)) in
        subst P (sym (same_byte c 10 hn))
        (character p after 110 (codes "ewline") 10 (refl, (refl, (refl, (refl, (refl, (refl, tt)))))) d (newline (codes "#\\newline") refl))
    at false false hs hn = character p after c [] c tt d (itself c)

escaped_is : (bytes : List ℕ) → IsString (escaped_text bytes) bytes
escaped_is [] = empty
escaped_is (b ∷ bytes) = at (b == 34) (b == 92) refl refl (escaped_is bytes)
  where
    at : (q s : Bool) → (b == 34) ≡ q → (b == 92) ≡ s → IsString (escaped_text bytes) bytes
        → IsString (cond (q || s) (92 ∷ b ∷ escaped_text bytes) (b ∷ escaped_text bytes)) (b ∷ bytes)
    at true s hq hs more =
        let P : ℕ → Type 0 = λ k. IsString (92 ∷ k ∷ escaped_text bytes) (k ∷ bytes) in
        subst P (sym (same_byte b 34 hq)) (escaped_quote (escaped_text bytes) bytes more)
    at false true hq hs more =
        let P : ℕ → Type 0 = λ k. IsString (92 ∷ k ∷ escaped_text bytes) (k ∷ bytes) in
        subst P (sym (same_byte b 92 hs)) (escaped_backslash (escaped_text bytes) bytes more)
    at false false hq hs more =
        plain b (escaped_text bytes) bytes (differs b 34 hq) (differs b 92 hs) more

name_token : (p : Pos) (bytes after : List ℕ) → ValidAtom (Symbol bytes) → Delimited after
    → IsToken p bytes after (Atomic p (Symbol bytes))
name_token p bytes after h d =
    let P : List ℕ → Type 0 = λ l. IsWord p l (Atomic p (Symbol bytes)) in
    word p after bytes (Atomic p (Symbol bytes)) h.1 d (subst P (sym h.2) (name p bytes h.0))

pub atom_token : (p : Pos) (a : Atom) (after : List ℕ) → ValidAtom a → Delimited after
    → IsToken p (atom_text a) after (Atomic p a)
atom_token p (Integer z) after h d = integer_token p z after h d
atom_token p (Boolean true) after h d = word p after (codes "#t") (Atomic p (Boolean true)) (refl, (refl, tt)) d (true_word p)
atom_token p (Boolean false) after h d = word p after (codes "#f") (Atomic p (Boolean false)) (refl, (refl, tt)) d (false_word p)
atom_token p (Character c) after h d = character_token p c after d
atom_token p (String bytes) after h d = string p after (escaped_text bytes) bytes (escaped_is bytes)
atom_token p (Symbol bytes) after h d = name_token p bytes after h d

-- Atoms of a text

lower_twice : (bytes : List ℕ) → str_to_ascii_lowercase (str_to_ascii_lowercase bytes) ≡ str_to_ascii_lowercase bytes
lower_twice [] = refl
lower_twice (b ∷ bytes) =
    ap (λ c. c ∷ str_to_ascii_lowercase (str_to_ascii_lowercase bytes)) (one b)
    ∙ ap (λ l. to_ascii_lowercase b ∷ l) (lower_twice bytes)
  where
    one : (c : ℕ) → to_ascii_lowercase (to_ascii_lowercase c) ≡ to_ascii_lowercase c
    one c = grind arith

letter : (k : ℕ) → 97 ≤ k → k < 123 → is_delimiter k ≡ false
letter k low high = grind arith

low_of : (c : ℕ) → nat_lt c 65 ≡ false → 65 ≤ c
low_of c h = grind (arith, h)

high_of : (c : ℕ) → nat_lt c 91 ≡ true → c < 91
high_of c h = grind (arith, h)

raised : (c : ℕ) → 65 ≤ c → 97 ≤ c + 32
raised c h = omega (arith, h)

lifted : (c : ℕ) → c < 91 → c + 32 < 123
lifted c h = omega (arith, h)

lower_undelimited : (bytes : List ℕ) → Undelimited bytes → Undelimited (str_to_ascii_lowercase bytes)
lower_undelimited [] h = tt
lower_undelimited (b ∷ bytes) h = (one b h.0, lower_undelimited bytes h.1)
  where
    one : (c : ℕ) → is_delimiter c ≡ false → is_delimiter (to_ascii_lowercase c) ≡ false
    one c e = at (nat_lt c 65) (nat_lt c 91) refl refl
      where
        at : (low up : Bool) → nat_lt c 65 ≡ low → nat_lt c 91 ≡ up → is_delimiter (cond low c (cond up (c + 32) c)) ≡ false
        at true up l u = e
        at false false l u = e
        at false true l u = letter (c + 32) (raised c (low_of c l)) (lifted c (high_of c u))

-- what stands by itself is valid
abbrev pub ValidToken : Token → Type 0
ValidToken (Atomic p a) = ValidAtom a
ValidToken t = Unit {0}

word_valid : (p : Pos) (small : List ℕ) (t : Token) → Undelimited small → str_to_ascii_lowercase small ≡ small
    → IsWord p small t → ValidToken t
word_valid p small t u l (dot q) = tt
word_valid p small t u l (true_word q) = tt
word_valid p small t u l (false_word q) = tt
word_valid p small t u l (number q w z h r) = r
word_valid p small t u l (name q w h) = (h, u, l)

pub token_valid : (p : Pos) (bytes after : List ℕ) (t : Token) → IsToken p bytes after t → ValidToken t
token_valid p bytes after t (word q a w v u d h) =
    word_valid p (str_to_ascii_lowercase bytes) t (lower_undelimited bytes u) (lower_twice bytes) h
token_valid p bytes after t is = tt
