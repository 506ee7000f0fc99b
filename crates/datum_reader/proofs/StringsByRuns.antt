-- A string is read run by run: bytes that stand for themselves, and then an escape or the end.
use Rattle.std.proofs.Common.{◌≡◌, ◌≢◌, ℕ, suc, ◌+◌, Bool, true, false, List, [], ◌∷◌, ◌++◌, length, take, drop, refl, sym, ap, subst, ◌∙◌, append_assoc, append-nil, arith, cond}
use Rattle.std.specs.Prelude.{not, ◌||◌, ◌==◌}
use Rattle.std.specs.List.{take_while}
use Rattle.scheme_base.proofs.Lists.{same_head}
use Rattle.datum_form.proofs.TokensAsWritten.{length_while-step, length_while-none}
use Rattle.datum_form.specs.Text.{Quoted, quoted, with_byte, with_bad_escape, after_backslash}
use Rattle.datum_form.specs.Text.Quoted.{Closed, BadEscape, NeverClosed}
use Rattle.datum_reader.specs.Strings.{is_escaped, is_plain, ended, given}

-- Runs

-- how many bytes stand before the first `"` or `\`
abbrev pub plain_length : List ℕ → ℕ
plain_length text = length (take_while (λ b. is_plain b) text)

-- What has been read, and what follows

given_nothing : (q : Quoted) → q ≡ given false [] 0 q
given_nothing (Closed bytes n) = ap (Closed bytes) (omega arith)
given_nothing BadEscape = refl
given_nothing NeverClosed = refl

given_given : (b c : Bool) (bs cs : List ℕ) (n k : ℕ) (q : Quoted)
    → given b bs n (given c cs k q) ≡ given (b || c) (bs ++ cs) (n + k) q
given_given true true bs cs n k (Closed ds m) = refl
given_given true false bs cs n k (Closed ds m) = refl
given_given false true bs cs n k (Closed ds m) = refl
given_given false false bs cs n k (Closed ds m) =
    let sum : n + (k + m) ≡ (n + k) + m = omega arith in
    ap (λ l. Closed l (n + (k + m))) (sym (append_assoc bs cs ds)) ∙ ap (Closed ((bs ++ cs) ++ ds)) sum
given_given b c bs cs n k BadEscape = refl
given_given b c bs cs n k NeverClosed = refl

with_byte_given : (b : ℕ) (q : Quoted) → with_byte b q ≡ given false (b ∷ []) 1 q
with_byte_given b (Closed bytes n) = ap (Closed (b ∷ bytes)) (omega arith)
with_byte_given b BadEscape = refl
with_byte_given b NeverClosed = refl

plain_at : (x y : Bool) (b : ℕ) (q r : Quoted) → not (x || y) ≡ true
    → cond x (Closed [] 1) (cond y r (with_byte b q)) ≡ given false (b ∷ []) 1 q
plain_at true y b q r h = absurd (cc)
plain_at false true b q r h = absurd (cc)
plain_at false false b q r h = with_byte_given b q

plain_byte : (b : ℕ) (bytes : List ℕ) → is_plain b ≡ true
    → quoted false (b ∷ bytes) ≡ given false (b ∷ []) 1 (quoted false bytes)
plain_byte b bytes h =
    plain_at (b == 34) (b == 92) b (quoted false bytes) (after_backslash (quoted true bytes)) h

-- the first bytes, so many, and then the rest
abbrev RunThen : List ℕ → ℕ → Type 0
RunThen text n = quoted false text ≡ given false (take n text) n (quoted false (drop n text))

plain_run : (text : List ℕ) → RunThen text (plain_length text)
plain_run [] = refl
plain_run (b ∷ text) = at (is_plain b) refl (plain_run text)
  where
    at : (plain : Bool) → is_plain b ≡ plain → RunThen text (plain_length text)
        → RunThen (b ∷ text) (plain_length (b ∷ text))
    at true e more =
        let P : ℕ → Type 0 = λ n. RunThen (b ∷ text) n in
        let k : ℕ = plain_length text in
        let one_more : 1 + k ≡ suc k = omega arith in
        subst P (sym (length_while-step (λ c. is_plain c) b text e))
        (plain_byte b text e
        ∙ (ap (given false (b ∷ []) 1) more
        ∙ (given_given false false (b ∷ []) (take k text) 1 k (quoted false (drop k text))
        ∙ ap (λ n. given false (b ∷ take k text) n (quoted false (drop k text))) one_more)))
    at false e more =
        let P : ℕ → Type 0 = λ n. RunThen (b ∷ text) n in
        subst P (sym (length_while-none (λ c. is_plain c) b text e)) (given_nothing (quoted false (b ∷ text)))

-- a run ends before a `"` or a `\`
run_ends : (text : List ℕ) (m : ℕ) (after : List ℕ) → drop (plain_length text) text ≡ m ∷ after → is_plain m ≡ false
run_ends [] m after e = absurd (cc)
run_ends (b ∷ text) m after e = at (is_plain b) refl (run_ends text m after)
  where
    at : (plain : Bool) → is_plain b ≡ plain → (drop (plain_length text) text ≡ m ∷ after → is_plain m ≡ false)
        → is_plain m ≡ false
    at true h more =
        let P : ℕ → Type 0 = λ n. drop n (b ∷ text) ≡ m ∷ after in
        more (subst P (length_while-step (λ c. is_plain c) b text h) e)
    at false h more =
        let P : ℕ → Type 0 = λ n. drop n (b ∷ text) ≡ m ∷ after in
        ap (λ c. is_plain c)
        (sym (same_head b m text after (subst P (length_while-none (λ c. is_plain c) b text h) e)))
        ∙ h

or_false : (b : Bool) → (b || false) ≡ b
or_false true = refl
or_false false = refl

-- after a run
pub past_run : (text bytes rest : List ℕ) (bad : Bool) (n : ℕ)
    → quoted false text ≡ given bad bytes n (quoted false rest)
    → quoted false text
    ≡ given bad (bytes ++ take (plain_length rest) rest) (n + plain_length rest) (quoted false (drop (plain_length rest) rest))
past_run text bytes rest bad n h =
    let k : ℕ = plain_length rest in
    let left : Quoted = quoted false (drop k rest) in
    h
    ∙ (ap (given bad bytes n) (plain_run rest)
    ∙ (given_given bad false bytes (take k rest) n k left
    ∙ ap (λ b. given b (bytes ++ take k rest) (n + k) left) (or_false bad)))

-- The end

pub none_left : (text : List ℕ) → length text ≡ 0 → text ≡ []
none_left [] e = refl
none_left (b ∷ text) e = absurd (omega (arith, e))

pub unended : (text bytes rest : List ℕ) (bad : Bool) (n : ℕ)
    → quoted false text ≡ given bad bytes n (quoted false rest) → drop (plain_length rest) rest ≡ []
    → quoted false text ≡ NeverClosed
unended text bytes rest bad n h e =
    let k : ℕ = plain_length rest in
    past_run text bytes rest bad n h
    ∙ ap (λ l. given bad (bytes ++ take k rest) (n + k) (quoted false l)) e

test_other : (b k : ℕ) → b ≢ k → (b == k) ≡ false
test_other b k h = grind arith

one_byte : (m : ℕ) → m ≢ 34 → quoted false (m ∷ []) ≡ NeverClosed
one_byte m h = at (m == 34) (m == 92) (test_other m 34 h)
  where
    at : (x y : Bool) → x ≡ false → cond x (Closed [] 1) (cond y NeverClosed NeverClosed) ≡ NeverClosed
    at true y e = absurd (cc)
    at false true e = refl
    at false false e = refl

pub unended_escape : (text bytes rest after : List ℕ) (bad : Bool) (n m : ℕ)
    → quoted false text ≡ given bad bytes n (quoted false rest) → drop (plain_length rest) rest ≡ m ∷ after
    → m ≢ 34 → after ≡ [] → quoted false text ≡ NeverClosed
unended_escape text bytes rest after bad n m h e other end =
    let k : ℕ = plain_length rest in
    past_run text bytes rest bad n h
    ∙ (ap (λ l. given bad (bytes ++ take k rest) (n + k) (quoted false l)) (e ∙ ap (λ l. m ∷ l) end)
    ∙ ap (given bad (bytes ++ take k rest) (n + k)) (one_byte m other))

pub closed : (text bytes rest after : List ℕ) (bad : Bool) (n m : ℕ)
    → quoted false text ≡ given bad bytes n (quoted false rest) → drop (plain_length rest) rest ≡ m ∷ after
    → m ≡ 34 → quoted false text ≡ ended bad (bytes ++ take (plain_length rest) rest) (n + plain_length rest + 1)
closed text bytes rest after bad n m h e mark =
    let k : ℕ = plain_length rest in
    past_run text bytes rest bad n h
    ∙ (ap (λ l. given bad (bytes ++ take k rest) (n + k) (quoted false l)) (e ∙ ap (λ c. c ∷ after) mark)
    ∙ ap (λ l. ended bad l (n + k + 1)) (append-nil (bytes ++ take k rest)))

-- An escape

escaped_at : (x : Bool) (c : ℕ) (q : Quoted)
    → after_backslash (cond x (with_byte c q) (with_bad_escape q)) ≡ given (not x) (c ∷ []) 2 q
escaped_at true c (Closed bytes n) = ap (Closed (c ∷ bytes)) (omega arith)
escaped_at true c BadEscape = refl
escaped_at true c NeverClosed = refl
escaped_at false c (Closed bytes n) = refl
escaped_at false c BadEscape = refl
escaped_at false c NeverClosed = refl

escape : (m c : ℕ) (next : List ℕ) → m ≡ 92
    → quoted false (m ∷ c ∷ next) ≡ given (not (is_escaped c)) (c ∷ []) 2 (quoted false next)
escape m c next e =
    ap (λ b. quoted false (b ∷ c ∷ next)) e ∙ escaped_at (is_escaped c) c (quoted false next)

backslash : (m : ℕ) → is_plain m ≡ false → m ≢ 34 → m ≡ 92
backslash m h other = grind arith

pub past_escape : (text bytes rest after next : List ℕ) (bad : Bool) (n m c : ℕ)
    → quoted false text ≡ given bad bytes n (quoted false rest) → drop (plain_length rest) rest ≡ m ∷ after
    → m ≢ 34 → after ≡ c ∷ next
    → quoted false text
    ≡ given (bad || not (is_escaped c)) ((bytes ++ take (plain_length rest) rest) ++ c ∷ []) (n + plain_length rest + 2) (quoted false next)
past_escape text bytes rest after next bad n m c h e other more =
    let k : ℕ = plain_length rest in
    let front : List ℕ = bytes ++ take k rest in
    past_run text bytes rest bad n h
    ∙ (ap (λ l. given bad front (n + k) (quoted false l)) (e ∙ ap (λ l. m ∷ l) more)
    ∙ (ap (given bad front (n + k)) (escape m c next (backslash m (run_ends rest m after e) other))
    ∙ given_given bad (not (is_escaped c)) front (c ∷ []) (n + k) 2 (quoted false next)))
