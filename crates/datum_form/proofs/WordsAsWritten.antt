-- Words, characters and strings as R4RS writes them are what a run of bytes is, and no others are.
use Rattle.std.proofs.Common.{◌≡◌, ℕ, zero, suc, ◌<◌, Bool, true, false, List, [], ◌∷◌, Option, Some, None, refl, sym, ap, subst, ◌∙◌, arith, cond, ◌⊎◌, inl, inr}
use Rattle.std.specs.Prelude.{ℤ, nat_eq, nat_lt, not, codes, ◌&&◌, ◌||◌}
use Rattle.std.specs.Str.{bytes_eq}
use Rattle.std.proofs.lemmas.Slice.Eq.{bytes_eq-Decides}
use Rattle.scheme_base.specs.declared.pos.Pos.{Pos}
use Rattle.scheme_base.specs.Integers.{in_range}
use Rattle.std.proofs.lemmas.Option.{none-some}
use Rattle.datum_form.specs.Grammar.{IsWord, IsNumber}
use Rattle.datum_form.specs.Grammar.IsWord.{dot, true_word, false_word, number, name}
use Rattle.datum_form.specs.declared.token.Token.{Token}
use Rattle.datum_form.specs.declared.token.Atom.TheVariants.{Integer, Boolean, Symbol}
use Rattle.datum_form.specs.declared.token.Token.TheVariants.{Dot, Atomic}
use Rattle.datum_form.specs.Words.{digit, is_initial, is_ordinary, all_subsequent, is_name, number as number_of, name_word, number_or_name, small_word}
use Rattle.datum_form.specs.declared.piece.Word.TheVariants.{IsToken, OutOfRange, NoWord}
use Rattle.datum_form.proofs.NumbersAsWritten.{apart, and_left, and_right, same_byte, plain, number_read, number_written}

-- A test of all numbers below a bound

abbrev below : ℕ → (ℕ → Bool) → Bool
below zero t = true
below (suc n) t = t n && below n t

last_or_below : (n k : ℕ) → k < suc n → (k ≡ n) ⊎ (k < n)
last_or_below n k h = grind arith

below_at : (n : ℕ) (t : ℕ → Bool) (k : ℕ) → below n t ≡ true → k < n → t k ≡ true
below_at zero t k e h = absurd (omega (arith, h))
below_at (suc n) t k e h =
    elim (last_or_below n k h) [
      | inl same ↦ ap t same ∙ and_left (t n) (below n t) e
      | inr less ↦ below_at n t k (and_right (t n) (below n t) e) less
    ]

-- Names are no numbers

no_initial : (k b : ℕ) → is_initial b ≡ true → is_initial k ≡ false → nat_eq k b ≡ false
no_initial k b h none = at (nat_eq k b) refl
  where
    at : (t : Bool) → nat_eq k b ≡ t → t ≡ false
    at false e = refl
    at true e = absurd (apart (sym h ∙ (ap (λ c. is_initial c) (same_byte k b e) ∙ none)))

-- below 58 nothing is both a digit and an initial
digits_apart : below 58 (λ b. not (nat_lt (digit b) 10 && is_initial b)) ≡ true
digits_apart = refl

digit_below : (b : ℕ) → nat_lt (digit b) 10 ≡ true → b < 58
digit_below b h = grind arith

not_both : (b : Bool) → not (true && b) ≡ true → b ≡ false
not_both true e = absurd (apart (sym e))
not_both false e = refl

initial_digit : (b : ℕ) → is_initial b ≡ true → nat_lt (digit b) 10 ≡ false
initial_digit b h = at (nat_lt (digit b) 10) refl
  where
    at : (t : Bool) → nat_lt (digit b) 10 ≡ t → t ≡ false
    at false e = refl
    at true e =
        let test = below_at 58 (λ c. not (nat_lt (digit c) 10 && is_initial c)) b digits_apart (digit_below b e) in
        absurd
        (apart (sym h ∙ not_both (is_initial b) (ap (λ t. not (t && is_initial b)) (sym e) ∙ test)))

ordinary_number : (text : List ℕ) → is_ordinary text ≡ true → number_of text ≡ None
ordinary_number [] h = absurd (apart (sym h))
ordinary_number (b ∷ bytes) h =
    let first = and_left (is_initial b) (all_subsequent bytes) h in
    let hash : nat_eq 35 b ≡ false = no_initial 35 b first refl in
    let minus : nat_eq 45 b ≡ false = no_initial 45 b first refl in
    let plus : nat_eq 43 b ≡ false = no_initial 43 b first refl in
    plain (b ∷ bytes)
    (record { b = rw hash refl; o = rw hash refl; d = rw hash refl; x = rw hash refl; e = rw hash refl })
    ∙ rw (minus, plus, initial_digit b first) refl

same_bytes : (a b : List ℕ) → bytes_eq a b ≡ true → a ≡ b
same_bytes a b e = (bytes_eq-Decides a b).0 e

name_number : (text : List ℕ) → is_name text ≡ true → number_of text ≡ None
name_number text h =
    at (is_ordinary text) (bytes_eq text (codes "+")) (bytes_eq text (codes "-")) (bytes_eq text (codes "..."))
    refl refl refl refl h
  where
    at : (o p m d : Bool) → is_ordinary text ≡ o → bytes_eq text (codes "+") ≡ p → bytes_eq text (codes "-") ≡ m
        → bytes_eq text (codes "...") ≡ d → (((o || p) || m) || d) ≡ true → number_of text ≡ None
    at true p m d ho hp hm hd e = ordinary_number text ho
    at false true m d ho hp hm hd e = ap number_of (same_bytes text (codes "+") hp)
    at false false true d ho hp hm hd e = ap number_of (same_bytes text (codes "-") hm)
    at false false false true ho hp hm hd e = ap number_of (same_bytes text (codes "...") hd)
    at false false false false ho hp hm hd e = absurd (apart (sym e))

-- Words

-- a word that has a number or a name is none of the three others
other : (text three : List ℕ) → (text ≡ three → ⊥) → bytes_eq text three ≡ false
other text three differs = at (bytes_eq text three) refl
  where
    at : (t : Bool) → bytes_eq text three ≡ t → t ≡ false
    at false e = refl
    at true e = absurd (differs (same_bytes text three e))

small_else : (p : Pos) (text : List ℕ) → (text ≡ codes "." → ⊥) → (text ≡ codes "#t" → ⊥) → (text ≡ codes "#f" → ⊥)
    → small_word p text ≡ number_or_name p text (number_of text)
small_else p text a b c = rw (other text (codes ".") a, other text (codes "#t") b, other text (codes "#f") c) refl

pub word_read : (p : Pos) (text : List ℕ) (t : Token) → IsWord p text t → small_word p text ≡ IsToken t
word_read p text t (dot q) = refl
word_read p text t (true_word q) = refl
word_read p text t (false_word q) = refl
word_read p text t (number q word z h range) =
    let is = number_read text z h in
    small_else p text (λ e. none-some z (sym (ap number_of e) ∙ is)) (λ e. none-some z (sym (ap number_of e) ∙ is))
    (λ e. none-some z (sym (ap number_of e) ∙ is))
    ∙ (ap (number_or_name p text) is ∙ ap (λ b. cond b (IsToken (Atomic p (Integer z))) OutOfRange) range)
word_read p text t (name q word h) =
    small_else p text (λ e. apart (sym h ∙ ap is_name e)) (λ e. apart (sym h ∙ ap is_name e))
    (λ e. apart (sym h ∙ ap is_name e))
    ∙ (ap (number_or_name p text) (name_number text h)
    ∙ ap (λ b. cond b (IsToken (Atomic p (Symbol text))) NoWord) h)

respelled : (p : Pos) (text word : List ℕ) (t u : Token) → text ≡ word → IsToken u ≡ IsToken t → IsWord p word u
    → IsWord p text t
respelled p text word t u e f h =
    let same : u ≡ t = cc in
    let P : List ℕ → Type 0 = λ w. IsWord p w t in
    let Q : Token → Type 0 = λ v. IsWord p word v in
    subst P (sym e) (subst Q same h)

no_token : (t : Token) → NoWord ≡ IsToken t → ⊥
no_token t e = cc

out_token : (t : Token) → OutOfRange ≡ IsToken t → ⊥
out_token t e = cc

name_written : (p : Pos) (text : List ℕ) (t : Token) → name_word p text ≡ IsToken t → IsWord p text t
name_written p text t h = at (is_name text) refl h
  where
    at : (b : Bool) → is_name text ≡ b → cond b (IsToken (Atomic p (Symbol text))) NoWord ≡ IsToken t → IsWord p text t
    at true e f = respelled p text text t (Atomic p (Symbol text)) refl f (name p text e)
    at false e f = absurd (no_token t f)

other_written : (p : Pos) (text : List ℕ) (t : Token) (o : Option ℤ) → number_of text ≡ o
    → number_or_name p text o ≡ IsToken t → IsWord p text t
other_written p text t None e h = name_written p text t h
other_written p text t (Some z) e h = at (in_range z) refl h
  where
    at : (b : Bool) → in_range z ≡ b → cond b (IsToken (Atomic p (Integer z))) OutOfRange ≡ IsToken t → IsWord p text t
    at true r f = respelled p text text t (Atomic p (Integer z)) refl f (number p text z (number_written text z e) r)
    at false r f = absurd (out_token t f)

pub word_written : (p : Pos) (text : List ℕ) (t : Token) → small_word p text ≡ IsToken t → IsWord p text t
word_written p text t h =
    at (bytes_eq text (codes ".")) (bytes_eq text (codes "#t")) (bytes_eq text (codes "#f")) refl refl refl h
  where
    at : (d y n : Bool) → bytes_eq text (codes ".") ≡ d → bytes_eq text (codes "#t") ≡ y → bytes_eq text (codes "#f") ≡ n
        → cond d (IsToken (Dot p)) (cond y (IsToken (Atomic p (Boolean true)))
        (cond n (IsToken (Atomic p (Boolean false))) (number_or_name p text (number_of text)))) ≡ IsToken t
        → IsWord p text t
    at true y n hd hy hn e = respelled p text (codes ".") t (Dot p) (same_bytes text (codes ".") hd) e (dot p)
    at false true n hd hy hn e =
        respelled p text (codes "#t") t (Atomic p (Boolean true)) (same_bytes text (codes "#t") hy) e (true_word p)
    at false false true hd hy hn e =
        respelled p text (codes "#f") t (Atomic p (Boolean false)) (same_bytes text (codes "#f") hn) e (false_word p)
    at false false false hd hy hn e = other_written p text t (number_of text) refl e

-- Numbers out of range

pub out_read : (p : Pos) (text : List ℕ) (z : ℤ) → IsNumber text z → in_range z ≡ false → small_word p text ≡ OutOfRange
out_read p text z h range =
    let is = number_read text z h in
    small_else p text (λ e. none-some z (sym (ap number_of e) ∙ is)) (λ e. none-some z (sym (ap number_of e) ∙ is))
    (λ e. none-some z (sym (ap number_of e) ∙ is))
    ∙ (ap (number_or_name p text) is ∙ ap (λ b. cond b (IsToken (Atomic p (Integer z))) OutOfRange) range)

pub record Out (text : List ℕ) : Type 0 where
  pub value : ℤ
  pub is_number : IsNumber text value
  pub out : in_range value ≡ false

name_in_range : (p : Pos) (text : List ℕ) (b : Bool) → cond b (IsToken (Atomic p (Symbol text))) NoWord ≡ OutOfRange → ⊥
name_in_range p text true e = cc
name_in_range p text false e = cc

other_out : (p : Pos) (text : List ℕ) (o : Option ℤ) → number_of text ≡ o → number_or_name p text o ≡ OutOfRange → Out text
other_out p text None e h = absurd (name_in_range p text (is_name text) h)
other_out p text (Some z) e h = at (in_range z) refl h
  where
    at : (b : Bool) → in_range z ≡ b → cond b (IsToken (Atomic p (Integer z))) OutOfRange ≡ OutOfRange → Out text
    at true r f = absurd (cc)
    at false r f = record { value = z; is_number = number_written text z e; out = r }

pub out_written : (p : Pos) (text : List ℕ) → small_word p text ≡ OutOfRange → Out text
out_written p text h =
    at (bytes_eq text (codes ".")) (bytes_eq text (codes "#t")) (bytes_eq text (codes "#f")) h
  where
    at : (d y n : Bool)
        → cond d (IsToken (Dot p)) (cond y (IsToken (Atomic p (Boolean true)))
        (cond n (IsToken (Atomic p (Boolean false))) (number_or_name p text (number_of text)))) ≡ OutOfRange
        → Out text
    at true y n e = absurd (cc)
    at false true n e = absurd (cc)
    at false false true e = absurd (cc)
    at false false false e = other_out p text (number_of text) refl e
