-- By word: which names a program has for its own, and which are the library's.
--
-- `marks_changed`: flags of what drafts change. `own_marked`: flags of a program's own names. `free_marked`,
-- `all_free`: what a name means where nothing binds it. `no_own`: no flag, no name. `taken_words`: names with words.
use Rattle.std.proofs.Common.{ℕ, zero, suc, ◌≡◌, Bool, true, false, not, ◌&&◌, ◌||◌, if◌then◌else◌, nat_lt, Option, Some, None, List, [], ◌∷◌, map, length, refl, sym, ap, ap₂, ◌∙◌, arith, lt-ltb, le-ltb, ltb-true, ltb-false}
use Rattle.std.specs.Prelude.{slice_get}
use Rattle.std.specs.Str.{bytes_eq}
use Rattle.std.proofs.lemmas.Slice.Eq.{bytes_eq-Decides}
use Rattle.std.proofs.lemmas.List.{length-map}
use Rattle.scheme_expand.specs.ByWord.{flag_of, flag_at, flags_where, one_flag, AreListed, Marks}
use Rattle.scheme_expand.specs.Noted.{free as free_variable}
use Rattle.scheme_expand.specs.Programs.{changed, those_of}
use Rattle.scheme_expand.specs.Rewriting.{OfLibrary, OfProgram, has_name}
use Rattle.scheme_expand.specs.Viewed.{AreFree}
use Rattle.scheme_expand.specs.Views.{marked}
use Rattle.scheme_expand.proofs.Noting.{length-marked}
use Rattle.draft_form.specs.Drafts.{Part, Top, Library}
use Rattle.draft_form.specs.Drawn.{Names, name_of, word_name}

pub less_inside : (w n : ℕ) → nat_lt (suc w) (suc n) ≡ true → nat_lt w n ≡ true
less_inside w n h = lt-ltb w n (omega (arith, ltb-true (suc w) (suc n) h))

-- Flags of what is changed

-- in range, where no flag stood before
pub marks_changed : (ps : List Part) (names : Names) (w : ℕ) → nat_lt w (length names) ≡ true
    → flag_at (marked ps names (map (λ x. false) names)) w ≡ has_name (changed ps) (word_name names w)
marks_changed ps [] w h = absurd (omega (arith, ltb-true w 0 h))
marks_changed ps (x ∷ names) zero h = refl
marks_changed ps (x ∷ names) (suc w) h = marks_changed ps names w (less_inside w (length names) h)

-- Flags that are asked of two lists

asked_flag : (wanted : Bool) (all some : List Bool) (w : ℕ) → length all ≡ length some
    → flag_at (flags_where wanted all some) w ≡ (flag_at all w && (if wanted then flag_at some w else not (flag_at some w)))
asked_flag wanted [] some w h = refl
asked_flag wanted (f ∷ all) [] w h = absurd (omega (arith, h))
asked_flag wanted (f ∷ all) (g ∷ some) zero h = refl
asked_flag wanted (f ∷ all) (g ∷ some) (suc w) h = let rest : length all ≡ length some = omega (arith, h) in asked_flag wanted all some w rest

-- Names that are listed

same_name : (x y : List ℕ) → bytes_eq x y ≡ true → x ≡ y
same_name x y e = (bytes_eq-Decides x y).0 e

pub listed_those : (listed xs : List (List ℕ)) (x : List ℕ) → has_name (those_of listed xs) x ≡ (has_name listed x && has_name xs x)
listed_those listed [] x = no_and (has_name listed x)
  where
    no_and : (a : Bool) → false ≡ (a && false)
    no_and true = refl
    no_and false = refl
listed_those listed (y ∷ xs) x =
    by_test (has_name listed y) (bytes_eq x y) refl refl (listed_those listed xs x)
  where
    by_test : (a b : Bool) → has_name listed y ≡ a → bytes_eq x y ≡ b
        → has_name (those_of listed xs) x ≡ (has_name listed x && has_name xs x)
        → has_name (if a then y ∷ those_of listed xs else those_of listed xs) x ≡ (has_name listed x && (b || has_name xs x))
    by_test true true p q r =
        ap (λ c. c || has_name (those_of listed xs) x) q
        ∙ sym (ap (λ c. c && true) (ap (has_name listed) (same_name x y q) ∙ p))
    by_test true false p q r = ap (λ c. c || has_name (those_of listed xs) x) q ∙ r
    by_test false true p q r =
        let none : has_name listed x ≡ false = ap (has_name listed) (same_name x y q) ∙ p in
        r ∙ (ap (λ c. c && has_name xs x) none ∙ sym (ap (λ c. c && true) none))
    by_test false false p q r = r

-- a number past the end has the empty name
past_end : (names : Names) (w : ℕ) → nat_lt w (length names) ≡ false → word_name names w ≡ []
past_end [] w h = refl
past_end (x ∷ names) zero h = absurd (omega (arith, ltb-false 0 (suc (length names)) h))
past_end (x ∷ names) (suc w) h = past_end names w (le-ltb w (length names) (omega (arith, ltb-false (suc w) (suc (length names)) h)))

-- Own names

-- the program's own variables of public names, where these flags are what it changes
pub own_marked : (names : Names) (public : List (List ℕ)) (flags : List Bool) (ps : List Part) → Marks names public flags
    → has_name public [] ≡ false → length flags ≡ length names
    → Marks names (those_of public (changed ps)) (flags_where true flags (marked ps names (map (λ x. false) names)))
own_marked names public flags ps marks none size w =
    asked_flag true flags (marked ps names (map (λ x. false) names)) w
    (size ∙ sym (length-marked ps names (map (λ x. false) names) (length-map names (λ x. false))))
    ∙ (ap (λ b. b && flag_at (marked ps names (map (λ x. false) names)) w) (marks w)
    ∙ (by_test (has_name public (word_name names w)) (nat_lt w (length names)) refl refl
    ∙ sym (listed_those public (changed ps) (word_name names w))))
  where
    by_test : (a b : Bool) → has_name public (word_name names w) ≡ a → nat_lt w (length names) ≡ b
        → (a && flag_at (marked ps names (map (λ x. false) names)) w) ≡ (a && has_name (changed ps) (word_name names w))
    by_test false b p q = refl
    by_test true true p q = marks_changed ps names w q
    by_test true false p q =
        let not_public : true ≡ false = sym p ∙ (ap (has_name public) (past_end names w q) ∙ none) in absurd (cc)

-- What names mean where nothing binds them

by_flag : (names : Names) (w : ℕ) (o : Option Bool) → name_of names (free_variable o w)
    ≡ (if flag_of o then Library (word_name names w) else Top (word_name names w))
by_flag names w None = refl
by_flag names w (Some true) = refl
by_flag names w (Some false) = refl

pub free_marked : (names : Names) (public own : List (List ℕ)) (flags own_flags : List Bool) → Marks names public flags
    → Marks names own own_flags → length flags ≡ length own_flags
    → AreFree names (OfProgram public own) (flags_where false flags own_flags)
free_marked names public own flags own_flags marks own_marks size w h =
    by_flag names w (slice_get (flags_where false flags own_flags) w)
    ∙ ap (λ b. if b then Library (word_name names w) else Top (word_name names w))
    (asked_flag false flags own_flags w size ∙ ap₂ (λ a b. a && not b) (marks w) (own_marks w))

pub free_first : (names : Names) (public : List (List ℕ)) (flags : List Bool) → Marks names public flags
    → AreFree names (OfProgram public []) flags
free_first names public flags marks w h =
    by_flag names w (slice_get flags w)
    ∙ ap (λ b. if b then Library (word_name names w) else Top (word_name names w)) (marks w ∙ and_true (has_name public (word_name names w)))
  where
    and_true : (a : Bool) → a ≡ (a && true)
    and_true true = refl
    and_true false = refl

pub all_free : (names : Names) (flags : List Bool) → ((w : ℕ) → nat_lt w (length names) ≡ true → slice_get flags w ≡ Some true)
    → AreFree names OfLibrary flags
all_free names flags all w h = by_flag names w (slice_get flags w) ∙ ap (λ o. if flag_of o then Library (word_name names w) else Top (word_name names w)) (all w h)

-- No flag, no name

name_itself : (x : List ℕ) (xs : List (List ℕ)) → has_name (x ∷ xs) x ≡ true
name_itself x xs = ap (λ b. b || has_name xs x) ((bytes_eq-Decides x x).1 refl)

pub no_own : (names : Names) (own : List (List ℕ)) (flags : List Bool) → Marks names own flags → one_flag flags ≡ false
    → ((x : List ℕ) → has_name own x ≡ true → (w : ℕ) × (word_name names w ≡ x)) → own ≡ []
no_own names [] flags marks none words = refl
no_own names (x ∷ own) flags marks none words =
    let i = words x (name_itself x own) in
    let stands : flag_at flags i.0 ≡ true = marks i.0 ∙ (ap (has_name (x ∷ own)) i.1 ∙ name_itself x own) in
    let falls : false ≡ true = sym (no_flag flags i.0 none) ∙ stands in
    absurd (cc)
  where
    no_flag : (fs : List Bool) (w : ℕ) → one_flag fs ≡ false → flag_at fs w ≡ false
    no_flag [] w h = refl
    no_flag (true ∷ fs) w h = absurd (cc)
    no_flag (false ∷ fs) zero h = refl
    no_flag (false ∷ fs) (suc w) h = no_flag fs w h

-- names that are taken of those that are listed have words
pub taken_words : (names : Names) (listed xs : List (List ℕ)) → AreListed names listed → (x : List ℕ)
    → has_name (those_of listed xs) x ≡ true → (w : ℕ) × (word_name names w ≡ x)
taken_words names listed xs l x h = l.words x (left_of (has_name listed x) (has_name xs x) (sym (listed_those listed xs x) ∙ h))
  where
    left_of : (a b : Bool) → (a && b) ≡ true → a ≡ true
    left_of true b e = refl
    left_of false b e = e

pub length-flags_where : (wanted : Bool) (all some : List Bool) → length all ≡ length some
    → length (flags_where wanted all some) ≡ length all
length-flags_where wanted [] some h = refl
length-flags_where wanted (f ∷ all) [] h = sym h
length-flags_where wanted (f ∷ all) (g ∷ some) h = let rest : length all ≡ length some = omega (arith, h) in ap suc (length-flags_where wanted all some rest)
