-- A number as R4RS writes it is the number that a word is, and no other word is one.
use Rattle.std.proofs.Common.{◌≡◌, ℕ, ◌+◌, ◌*◌, Bool, true, false, List, [], ◌∷◌, ◌++◌, Option, Some, None, refl, sym, ap, ◌∙◌, drop, append_assoc, arith, cond}
use Rattle.std.specs.Prelude.{ℤ, pos, neg_ℤ, nat_eq, nat_lt, codes, ◌&&◌, ◌||◌}
use Rattle.std.specs.Option.{option_map}
use Rattle.std.proofs.lemmas.Option.{none-some}
use Rattle.datum_form.specs.Grammar.{IsRadix, IsExactness, IsPrefix, IsSign, IsNumber, with_sign}
use Rattle.datum_form.specs.Grammar.IsRadix.{binary, octal, decimal, marked_decimal, hexadecimal}
use Rattle.datum_form.specs.Grammar.IsExactness.{unmarked, exact}
use Rattle.datum_form.specs.Grammar.IsPrefix.{radix_first, exactness_first}
use Rattle.datum_form.specs.Grammar.IsSign.{unsigned, plus, minus}
use Rattle.datum_form.specs.Words.{begins_with, digit, digits, digits_after, signed, number, radix_of, after_radix, after_exact}

pub apart : true ≡ false → ⊥
apart e = cc

-- The first digit

first_digit : (r b v : ℕ) (bytes : List ℕ) → digits r (b ∷ bytes) ≡ Some v → nat_lt (digit b) r ≡ true
first_digit r b v bytes h = at (nat_lt (digit b) r) h
  where
    at : (t : Bool) → cond t (digits_after r (0 * r + digit b) bytes) None ≡ Some v → t ≡ true
    at true e = refl
    at false e = absurd (none-some v e)

pub same_byte : (k b : ℕ) → nat_eq k b ≡ true → b ≡ k
same_byte k b e = grind arith

-- a byte that counts 16 is no first digit
no_digit : (r k b v : ℕ) (bytes : List ℕ) → digits r (b ∷ bytes) ≡ Some v → nat_lt (digit k) r ≡ false → nat_eq k b ≡ false
no_digit r k b v bytes h none = at (nat_eq k b) refl
  where
    at : (t : Bool) → nat_eq k b ≡ t → t ≡ false
    at false e = refl
    at true e =
        absurd
        (apart (sym (first_digit r b v bytes h) ∙ (ap (λ c. nat_lt (digit c) r) (same_byte k b e) ∙ none)))

-- neither a sign nor a digit is a `#`
pub no_hash : (r v x : ℕ) (negative : Bool) (sign ds : List ℕ) → nat_lt 16 r ≡ false → IsSign negative sign
    → digits r ds ≡ Some v → begins_with (sign ++ ds) (35 ∷ x ∷ []) ≡ false
no_hash r v x negative sign ds few plus h = refl
no_hash r v x negative sign ds few minus h = refl
no_hash r v x negative sign [] few unsigned h = absurd (none-some v h)
no_hash r v x negative sign (b ∷ bytes) few unsigned h = rw (no_digit r 35 b v bytes h few) refl

-- a number without its prefix
pub signed_read : (r v : ℕ) (negative : Bool) (sign ds : List ℕ) → nat_lt 16 r ≡ false → IsSign negative sign
    → digits r ds ≡ Some v → signed r (sign ++ ds) ≡ Some (with_sign negative v)
signed_read r v negative sign ds few plus h = ap (option_map (λ n. pos n)) h
signed_read r v negative sign ds few minus h = ap (option_map (λ n. neg_ℤ (pos n))) h
signed_read r v negative sign [] few unsigned h = absurd (none-some v h)
signed_read r v negative sign (b ∷ bytes) few unsigned h =
    let no_minus : nat_eq 45 b ≡ false = no_digit r 45 b v bytes h few in
    let no_plus : nat_eq 43 b ≡ false = no_digit r 43 b v bytes h few in
    rw (no_minus, no_plus) (ap (option_map (λ n. pos n)) h)

-- With its prefix

-- none of the marks of a prefix comes
pub record Bare (body : List ℕ) : Type 0 where
  pub b : begins_with body (codes "#b") ≡ false
  pub o : begins_with body (codes "#o") ≡ false
  pub d : begins_with body (codes "#d") ≡ false
  pub x : begins_with body (codes "#x") ≡ false
  pub e : begins_with body (codes "#e") ≡ false

bare : (r v : ℕ) (negative : Bool) (sign ds : List ℕ) → nat_lt 16 r ≡ false → IsSign negative sign
    → digits r ds ≡ Some v → Bare (sign ++ ds)
bare r v negative sign ds few s h =
    record {
      b = no_hash r v 98 negative sign ds few s h;
      o = no_hash r v 111 negative sign ds few s h;
      d = no_hash r v 100 negative sign ds few s h;
      x = no_hash r v 120 negative sign ds few s h;
      e = no_hash r v 101 negative sign ds few s h;
    }

pub plain : (body : List ℕ) → Bare body → number body ≡ signed 10 body
plain body n = rw (n.e, n.b, n.o, n.d, n.x, n.e) refl

after_exact_mark : (body : List ℕ) → Bare body → number (35 ∷ 101 ∷ body) ≡ signed 10 body
after_exact_mark body n = rw (n.b, n.o, n.d, n.x) refl

few_of : (r : ℕ) (radix : List ℕ) → IsRadix r radix → nat_lt 16 r ≡ false
few_of r radix binary = refl
few_of r radix octal = refl
few_of r radix decimal = refl
few_of r radix marked_decimal = refl
few_of r radix hexadecimal = refl

few : (r : ℕ) (prefix : List ℕ) → IsPrefix r prefix → nat_lt 16 r ≡ false
few r prefix (radix_first s radix exactness hr he) = few_of r radix hr
few r prefix (exactness_first s exactness radix he hr) = few_of r radix hr

prefixed : (r : ℕ) (prefix body : List ℕ) → IsPrefix r prefix → Bare body → number (prefix ++ body) ≡ signed r body
prefixed r prefix body (radix_first s radix exactness decimal unmarked) n = plain body n
prefixed r prefix body (radix_first s radix exactness marked unmarked) n = rw n.e refl
prefixed r prefix body (radix_first s radix exactness decimal exact) n = after_exact_mark body n
prefixed r prefix body (radix_first s radix exactness marked exact) n = refl
prefixed r prefix body (exactness_first s exactness radix unmarked decimal) n = plain body n
prefixed r prefix body (exactness_first s exactness radix unmarked marked) n = rw n.e refl
prefixed r prefix body (exactness_first s exactness radix exact decimal) n = after_exact_mark body n
prefixed r prefix body (exactness_first s exactness radix exact marked) n = refl

pub number_read : (word : List ℕ) (z : ℤ) → IsNumber word z → number word ≡ Some z
number_read word z h =
    let less = few h.radix h.prefix h.has_prefix in
    ap number h.whole
    ∙ (prefixed h.radix h.prefix (h.sign ++ h.number) h.has_prefix
    (bare h.radix h.value h.negative h.sign h.number less h.has_sign h.has_value)
    ∙ (signed_read h.radix h.value h.negative h.sign h.number less h.has_sign h.has_value
    ∙ ap (λ x. Some x) (sym h.is)))

-- The other way

pub and_left : (a b : Bool) → (a && b) ≡ true → a ≡ true
and_left true b e = refl
and_left false b e = absurd (apart (sym e))

pub and_right : (a b : Bool) → (a && b) ≡ true → b ≡ true
and_right true b e = e
and_right false b e = absurd (apart (sym e))

pub begins_one : (text : List ℕ) (k : ℕ) → begins_with text (k ∷ []) ≡ true → text ≡ k ∷ drop 1 text
begins_one [] k e = absurd (apart (sym e))
begins_one (a ∷ rest) k e = ap (λ c. c ∷ rest) (same_byte k a (and_left (nat_eq k a) true e))

pub begins_two : (text : List ℕ) (k x : ℕ) → begins_with text (k ∷ x ∷ []) ≡ true → text ≡ k ∷ x ∷ drop 2 text
begins_two [] k x e = absurd (apart (sym e))
begins_two (a ∷ []) k x e = absurd (apart (sym (and_right (nat_eq k a) false e)))
begins_two (a ∷ b ∷ rest) k x e =
    let both = and_right (nat_eq k a) (nat_eq x b && true) e in
    ap (λ c. c ∷ b ∷ rest) (same_byte k a (and_left (nat_eq k a) (nat_eq x b && true) e))
    ∙ ap (λ c. k ∷ c ∷ rest) (same_byte x b (and_left (nat_eq x b) true both))

value_of : (f : ℕ → ℤ) (o : Option ℕ) (z : ℤ) → option_map f o ≡ Some z → (v : ℕ) × (o ≡ Some v) × (z ≡ f v)
value_of f None z e = absurd (none-some z e)
value_of f (Some v) z e = (v, refl, cc)

record Signed (r : ℕ) (text : List ℕ) (z : ℤ) : Type 0 where
  negative : Bool
  sign : List ℕ
  number : List ℕ
  value : ℕ
  has_sign : IsSign negative sign
  has_value : digits r number ≡ Some value
  whole : text ≡ sign ++ number
  is : z ≡ with_sign negative value

parts : (r : ℕ) (text : List ℕ) (z : ℤ) (negative : Bool) (sign number : List ℕ) → IsSign negative sign
    → text ≡ sign ++ number → option_map (with_sign negative) (digits r number) ≡ Some z → Signed r text z
parts r text z negative sign number has whole h =
    let v = value_of (with_sign negative) (digits r number) z h in
    record {
      negative = negative;
      sign = sign;
      number = number;
      value = v.0;
      has_sign = has;
      has_value = v.1;
      whole = whole;
      is = v.2;
    }

signed_parts : (r : ℕ) (text : List ℕ) (z : ℤ) → signed r text ≡ Some z → Signed r text z
signed_parts r text z e = at (begins_with text (codes "-")) (begins_with text (codes "+")) refl refl e
  where
    at : (m p : Bool) → begins_with text (codes "-") ≡ m → begins_with text (codes "+") ≡ p
        → cond m (option_map (λ n. neg_ℤ (pos n)) (digits r (drop 1 text)))
        (cond p (option_map (λ n. pos n) (digits r (drop 1 text))) (option_map (λ n. pos n) (digits r text))) ≡ Some z
        → Signed r text z
    at true p hm hp h = parts r text z true (codes "-") (drop 1 text) minus (begins_one text 45 hm) h
    at false true hm hp h = parts r text z false (codes "+") (drop 1 text) plus (begins_one text 43 hp) h
    at false false hm hp h = parts r text z false [] text unsigned refl h

record RadixPart (text : List ℕ) (r : ℕ) (after : List ℕ) : Type 0 where
  radix : List ℕ
  has : IsRadix r radix
  whole : text ≡ radix ++ after

radix_part : (text : List ℕ) → RadixPart text (radix_of text) (after_radix text)
radix_part text =
    at (begins_with text (codes "#b")) (begins_with text (codes "#o")) (begins_with text (codes "#d"))
    (begins_with text (codes "#x")) refl refl refl refl
  where
    at : (b o d x : Bool) → begins_with text (codes "#b") ≡ b → begins_with text (codes "#o") ≡ o
        → begins_with text (codes "#d") ≡ d → begins_with text (codes "#x") ≡ x
        → RadixPart text (cond b 2 (cond o 8 (cond x 16 10))) (cond (((b || o) || d) || x) (drop 2 text) text)
    at true o d x hb ho hd hx = record { radix = codes "#b"; has = binary; whole = begins_two text 35 98 hb }
    at false true d x hb ho hd hx = record { radix = codes "#o"; has = octal; whole = begins_two text 35 111 ho }
    at false false true true hb ho hd hx =
        record { radix = codes "#x"; has = hexadecimal; whole = begins_two text 35 120 hx }
    at false false false true hb ho hd hx =
        record { radix = codes "#x"; has = hexadecimal; whole = begins_two text 35 120 hx }
    at false false true false hb ho hd hx =
        record { radix = codes "#d"; has = marked_decimal; whole = begins_two text 35 100 hd }
    at false false false false hb ho hd hx = record { radix = []; has = decimal; whole = refl }

record ExactPart (text after : List ℕ) : Type 0 where
  exactness : List ℕ
  has : IsExactness exactness
  whole : text ≡ exactness ++ after

exact_part : (text : List ℕ) → ExactPart text (after_exact text)
exact_part text = at (begins_with text (codes "#e")) refl
  where
    at : (e : Bool) → begins_with text (codes "#e") ≡ e → ExactPart text (cond e (drop 2 text) text)
    at true he = record { exactness = codes "#e"; has = exact; whole = begins_two text 35 101 he }
    at false he = record { exactness = []; has = unmarked; whole = refl }

pub number_written : (word : List ℕ) (z : ℤ) → number word ≡ Some z → IsNumber word z
number_written word z h = at (begins_with word (codes "#e")) refl h
  where
    at : (e : Bool) → begins_with word (codes "#e") ≡ e
        → cond e (signed (radix_of (drop 2 word)) (after_radix (drop 2 word)))
        (signed (radix_of word) (after_exact (after_radix word))) ≡ Some z → IsNumber word z
    at true he s =
        let r = radix_part (drop 2 word) in
        let n = signed_parts (radix_of (drop 2 word)) (after_radix (drop 2 word)) z s in
        record {
          radix = radix_of (drop 2 word);
          negative = n.negative;
          prefix = codes "#e" ++ r.radix;
          sign = n.sign;
          number = n.number;
          value = n.value;
          has_prefix = exactness_first (radix_of (drop 2 word)) (codes "#e") r.radix exact r.has;
          has_sign = n.has_sign;
          has_value = n.has_value;
          whole =
              begins_two word 35 101 he
              ∙ ap (λ l. 35 ∷ 101 ∷ l) (r.whole ∙ ap (λ l. r.radix ++ l) n.whole);
          is = n.is;
        }
    at false he s =
        let r = radix_part word in
        let x = exact_part (after_radix word) in
        let n = signed_parts (radix_of word) (after_exact (after_radix word)) z s in
        record {
          radix = radix_of word;
          negative = n.negative;
          prefix = r.radix ++ x.exactness;
          sign = n.sign;
          number = n.number;
          value = n.value;
          has_prefix = radix_first (radix_of word) r.radix x.exactness r.has x.has;
          has_sign = n.has_sign;
          has_value = n.has_value;
          whole =
              r.whole
              ∙ (ap (λ l. r.radix ++ l) (x.whole ∙ ap (λ l. x.exactness ++ l) n.whole)
              ∙ sym (append_assoc r.radix x.exactness (n.sign ++ n.number)));
          is = n.is;
        }
