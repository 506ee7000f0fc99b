-- Flags of names by the numbers of their words.
use Rattle.std.proofs.Common.{ℕ, zero, suc, ◌≡◌, ◌+◌, ◌<◌, ◌≤◌, List, [], ◌∷◌, ◌++◌, length, take, get_or, Option, Some, None, Bool, true, false, not, ◌&&◌, ◌||◌, if◌then◌else◌, inl, inr, refl, sym, ap, ap₂, subst, ◌∙◌, append-nil, length-append, bytes_eq, eqb-true, arith}
use Rattle.std.specs.Prelude.{map, nat_eq, nat_lt, slice_get, slice_set, ◌⊎◌}
use Rattle.std.proofs.lemmas.Bool.{lt-ltb, ltb-true, ltb-false}
use Rattle.std.proofs.lemmas.Bool.Decides.{Decides-eqb}
use Rattle.std.proofs.lemmas.List.{get_or-map, length-map, map-append, take_more}
use Rattle.std.proofs.Math.ListN.{replicate}
use Rattle.std.proofs.Math.Seq.{take-nil}
use Rattle.std.proofs.lemmas.List.Folds.{list_any_at}
use Rattle.draft_form.specs.Drafts.{Library, Top}
use Rattle.draft_form.specs.Drawn.{name_of, word_name, Names}
use Rattle.draft_form.proofs.LiteralsAdded.{taken_all}
use Rattle.scheme_expand.specs.ByWord.{flag_at, flag_of, HaveOneWord, Marks}
use Rattle.scheme_expand.specs.Noted.{free as free_variable}
use Rattle.scheme_expand.specs.Programs.{is_public, public_names}
use Rattle.scheme_expand.specs.Rewriting.{OfLibrary, OfProgram, free, has_name}
use Rattle.scheme_expand.proofs.FirstNames.{has_behind}
use Rattle.scheme_expand.proofs.Scoping.{apart, same_bytes, bytes_same}
use Rattle.scheme_expand.proofs.Spelled.{IsWithin, IsPast, within_or_past}

-- Lists of flags

pub flag_past : (flags : List Bool) (w : ℕ) → length flags ≤ w → flag_at flags w ≡ false
flag_past [] w h = refl
flag_past (b ∷ flags) zero h = absurd (omega (arith, h))
flag_past (b ∷ flags) (suc w) h = flag_past flags w (omega (arith, h))

flag_raised : (flags : List Bool) (w : ℕ) → w < length flags → flag_at (slice_set flags w true) w ≡ true
flag_raised [] w h = absurd (omega (arith, h))
flag_raised (b ∷ flags) zero h = refl
flag_raised (b ∷ flags) (suc w) h = flag_raised flags w (omega (arith, h))

flag_elsewhere : (flags : List Bool) (w v : ℕ) → (v ≡ w → ⊥) → flag_at (slice_set flags w true) v ≡ flag_at flags v
flag_elsewhere [] w v h = refl
flag_elsewhere (b ∷ flags) zero zero h = absurd (h refl)
flag_elsewhere (b ∷ flags) zero (suc v) h = refl
flag_elsewhere (b ∷ flags) (suc w) zero h = refl
flag_elsewhere (b ∷ flags) (suc w) (suc v) h = flag_elsewhere flags w v (λ e. h (ap suc e))

pub as_many : (flags : List Bool) (w : ℕ) → length (slice_set flags w true) ≡ length flags
as_many [] w = refl
as_many (b ∷ flags) zero = refl
as_many (b ∷ flags) (suc w) = ap suc (as_many flags w)

none_raised : (n w : ℕ) → flag_at (replicate n false) w ≡ false
none_raised zero w = refl
none_raised (suc n) zero = refl
none_raised (suc n) (suc w) = none_raised n w

pub not_raised : (flags : List Bool) (w : ℕ) → length flags ≤ w → slice_set flags w true ≡ flags
not_raised [] w h = refl
not_raised (b ∷ flags) zero h = absurd (omega (arith, h))
not_raised (b ∷ flags) (suc w) h = ap (λ l. b ∷ l) (not_raised flags w (omega (arith, h)))

flag_before : (flags : List Bool) (b : Bool) (w : ℕ) → w < length flags → flag_at (flags ++ b ∷ []) w ≡ flag_at flags w
flag_before [] b w h = absurd (omega (arith, h))
flag_before (a ∷ flags) b zero h = refl
flag_before (a ∷ flags) b (suc w) h = flag_before flags b w (omega (arith, h))

flag_last : (flags : List Bool) (b : Bool) → flag_at (flags ++ b ∷ []) (length flags) ≡ b
flag_last [] b = refl
flag_last (a ∷ flags) b = flag_last flags b

-- Marks

-- flags of the words within mark names, none of which is empty
pub marked : (names : Names) (listed : List (List ℕ)) (flags : List Bool) → length flags ≡ length names
    → has_name listed [] ≡ false
    → ((w : ℕ) → nat_lt w (length names) ≡ true → flag_at flags w ≡ has_name listed (word_name names w))
    → Marks names listed flags
marked names listed flags size named within w = by_case (within_or_past names w)
  where
    by_case : (IsWithin names w ⊎ IsPast names w) → flag_at flags w ≡ has_name listed (word_name names w)
    by_case (inl i) = within w (lt-ltb w (length names) i.within)
    by_case (inr i) =
        flag_past flags w (omega (arith, size, i.past)) ∙ sym (ap (has_name listed) i.none ∙ named)

-- Flags of one list that are not of another

-- so far as this number
pub record Apart (all some left : List Bool) (n : ℕ) : Type 0 where
  pub size : length left ≡ n
  pub flags : (w : ℕ) → w < n → flag_at left w ≡ (flag_at all w && not (flag_at some w))

pub none_apart : (all some left : List Bool) → left ≡ [] → Apart all some left 0
none_apart all some left e = record { size = ap length e; flags = λ w h. absurd (omega (arith, h)) }

pub one_apart : (all some left after : List Bool) (n : ℕ) (b : Bool) → Apart all some left n
    → b ≡ (flag_at all n && not (flag_at some n)) → after ≡ left ++ b ∷ [] → Apart all some after (n + 1)
one_apart all some left after n b i e pushed = record {
  size = omega (arith, ap length pushed, length-append left (b ∷ []), i.size);
  flags = λ w h. ap (λ l. flag_at l w) pushed ∙ by_test w h (nat_lt w n) refl;
}
  where
    by_test : (w : ℕ) → w < n + 1 → (c : Bool) → nat_lt w n ≡ c
        → flag_at (left ++ b ∷ []) w ≡ (flag_at all w && not (flag_at some w))
    by_test w h true f =
        let before : w < n = ltb-true w n f in
        flag_before left b w (omega (arith, before, i.size)) ∙ i.flags w before
    by_test w h false f =
        let after_all : n ≤ w = ltb-false w n f in
        let same : w ≡ n = omega (arith, h, after_all) in
        ap (λ v. flag_at (left ++ b ∷ []) v) (same ∙ sym i.size)
        ∙ (flag_last left b ∙ (e ∙ ap (λ v. flag_at all v && not (flag_at some v)) (sym same)))

pub all_apart : (all some left : List Bool) (n : ℕ) → Apart all some left n → length all ≤ n
    → (w : ℕ) → flag_at left w ≡ (flag_at all w && not (flag_at some w))
all_apart all some left n i past w = by_test (nat_lt w n) refl
  where
    by_test : (b : Bool) → nat_lt w n ≡ b → flag_at left w ≡ (flag_at all w && not (flag_at some w))
    by_test true e = i.flags w (ltb-true w n e)
    by_test false e =
        let after : n ≤ w = ltb-false w n e in
        flag_past left w (omega (arith, after, i.size))
        ∙ ap (λ b. b && not (flag_at some w)) (sym (flag_past all w (omega (arith, past, after))))

-- Public names

public_behind : (xs : List (List ℕ)) (x : List ℕ) (b : Bool) → is_public x ≡ b
    → public_names (xs ++ x ∷ []) ≡ public_names xs ++ (if b then x ∷ [] else [])
public_behind [] x b e = ap (λ c. if c then x ∷ [] else []) e
public_behind (y ∷ xs) x b e = by_test (public_behind xs x b e) (is_public y)
  where
    by_test : public_names (xs ++ x ∷ []) ≡ public_names xs ++ (if b then x ∷ [] else []) → (c : Bool)
        → (if c then y ∷ public_names (xs ++ x ∷ []) else public_names (xs ++ x ∷ []))
        ≡ (if c then y ∷ public_names xs else public_names xs) ++ (if b then x ∷ [] else [])
    by_test h true = ap (λ l. y ∷ l) h
    by_test h false = h

-- a name that is not public changes nothing
pub hidden_name : (names : Names) (xs : List (List ℕ)) (x : List ℕ) (flags : List Bool) → is_public x ≡ false
    → Marks names (public_names xs) flags → Marks names (public_names (xs ++ x ∷ [])) flags
hidden_name names xs x flags e h =
    let P : List (List ℕ) → Type 0 = λ l. Marks names l flags in
    subst P (sym (public_behind xs x false e ∙ append-nil (public_names xs))) h

public_within : (names : Names) (word : ℕ) → is_public (word_name names word) ≡ true → word < length names
public_within names word e = by_case (within_or_past names word)
  where
    by_case : (IsWithin names word ⊎ IsPast names word) → word < length names
    by_case (inl i) = i.within
    by_case (inr i) = absurd (apart (sym e ∙ ap is_public i.none))

or_true : (b : Bool) → (b || true) ≡ true
or_true true = refl
or_true false = refl

or_false : (b : Bool) → (b || false) ≡ b
or_false true = refl
or_false false = refl

pub public_name : (names : Names) (all xs : List (List ℕ)) (word : ℕ) (old new : List Bool) → HaveOneWord names all
    → has_name all (word_name names word) ≡ true → length old ≡ length names → is_public (word_name names word) ≡ true
    → new ≡ slice_set old word true → Marks names (public_names xs) old
    → Marks names (public_names (xs ++ word_name names word ∷ [])) new
public_name names all xs word old new one there size public is h w =
    let x : List ℕ = word_name names word in
    ap (λ l. flag_at l w) is
    ∙ (by_test (nat_eq w word) refl
    ∙ sym (ap (λ l. has_name l (word_name names w)) (public_behind xs x true public) ∙ has_behind (public_names xs) x (word_name names w)))
  where
    other : (w ≡ word → ⊥) → (b : Bool) → bytes_eq (word_name names w) (word_name names word) ≡ b → b ≡ false
    other differ true e =
        absurd (differ (sym (one word w there (sym (same_bytes (word_name names w) (word_name names word) e)))))
    other differ false e = refl

    by_test : (b : Bool) → nat_eq w word ≡ b
        → flag_at (slice_set old word true) w
        ≡ (has_name (public_names xs) (word_name names w) || bytes_eq (word_name names w) (word_name names word))
    by_test true e =
        let same : w ≡ word = eqb-true w word e in
        let here : bytes_eq (word_name names w) (word_name names word) ≡ true =
        ap (λ v. bytes_eq (word_name names v) (word_name names word)) same ∙ bytes_same (word_name names word)
        in
        ap (λ v. flag_at (slice_set old word true) v) same
        ∙ (flag_raised old word (omega (arith, public_within names word public, size))
        ∙ sym (ap (λ b. has_name (public_names xs) (word_name names w) || b) here ∙ or_true (has_name (public_names xs) (word_name names w))))
    by_test false e =
        let differ : w ≡ word → ⊥ = λ same. apart (sym ((Decides-eqb w word).1 same) ∙ e) in
        let away : bytes_eq (word_name names w) (word_name names word) ≡ false =
        (other differ (bytes_eq (word_name names w) (word_name names word)) refl)
        in
        flag_elsewhere old word w differ
        ∙ (h w
        ∙ sym (ap (λ b. has_name (public_names xs) (word_name names w) || b) away ∙ or_false (has_name (public_names xs) (word_name names w))))

-- the flags after the first of some words
pub record MarksSome (names : Names) (words : List ℕ) (i : ℕ) (flags : List Bool) : Type 0 where
  pub size : length flags ≡ length names
  pub marks : HaveOneWord names (map (word_name names) words)
      → Marks names (public_names (map (word_name names) (take i words))) flags

-- flags that were filled up from none
pub none_marked : (names : Names) (words : List ℕ) (n m : ℕ) (old flags : List Bool) → old ≡ []
    → flags ≡ take n old ++ replicate m false → length flags ≡ length names → MarksSome names words 0 flags
none_marked names words n m old flags empty filled size =
    let are : flags ≡ replicate m false = filled ∙ ap (λ l. l ++ replicate m false) (ap (take n) empty ∙ take-nil n) in
    record { size = size; marks = λ one w. ap (λ l. flag_at l w) are ∙ none_raised m w }

next_names : (names : Names) (words : List ℕ) (i : ℕ) → i < length words
    → map (word_name names) (take (i + 1) words) ≡ map (word_name names) (take i words) ++ word_name names (get_or words i 0) ∷ []
next_names names words i within =
    ap (map (word_name names)) (take_more words i 0 within) ∙ map-append (word_name names) (take i words) (get_or words i 0 ∷ [])

next_hidden : (names : Names) (words : List ℕ) (i : ℕ) (flags : List Bool) → i < length words
    → is_public (word_name names (get_or words i 0)) ≡ false → MarksSome names words i flags → MarksSome names words (i + 1) flags
next_hidden names words i flags within e h =
    let P : List (List ℕ) → Type 0 = λ l. Marks names (public_names l) flags in
    record {
      size = h.size;
      marks = λ one.
          subst P (sym (next_names names words i within))
          (hidden_name names (map (word_name names) (take i words)) (word_name names (get_or words i 0)) flags e (h.marks one));
    }

next_public : (names : Names) (words : List ℕ) (i : ℕ) (old new : List Bool) → i < length words
    → is_public (word_name names (get_or words i 0)) ≡ true → new ≡ slice_set old (get_or words i 0) true
    → MarksSome names words i old → MarksSome names words (i + 1) new
next_public names words i old new within e is h =
    let f : ℕ → List ℕ = word_name names in
    let word : ℕ = get_or words i 0 in
    let all : List (List ℕ) = map f words in
    let is_there : bytes_eq (f word) (get_or all i []) ≡ true =
    ap (bytes_eq (f word)) (get_or-map f words i 0 [] within) ∙ bytes_same (f word)
    in
    let listed : has_name all (f word) ≡ true =
    list_any_at (bytes_eq (f word)) all i [] (omega (arith, within, length-map words f)) is_there
    in
    let P : List (List ℕ) → Type 0 = λ l. Marks names (public_names l) new in
    record {
      size = ap length is ∙ (as_many old word ∙ h.size);
      marks = λ one.
          subst P (sym (next_names names words i within))
          (public_name names all (map f (take i words)) word old new one listed h.size e is (h.marks one));
    }

pub next_marked : (names : Names) (words : List ℕ) (i : ℕ) (old new : List Bool) (b : Bool) → i < length words
    → b ≡ is_public (word_name names (get_or words i 0)) → new ≡ (if b then slice_set old (get_or words i 0) true else old)
    → MarksSome names words i old → MarksSome names words (i + 1) new
next_marked names words i old new true within e is h = next_public names words i old new within (sym e) is h
next_marked names words i old new false within e is h =
    let P : List Bool → Type 0 = λ l. MarksSome names words (i + 1) l in
    subst P (sym is) (next_hidden names words i old within (sym e) h)

pub all_marked : (names : Names) (words : List ℕ) (i : ℕ) (flags : List Bool) → length words ≤ i → MarksSome names words i flags
    → HaveOneWord names (map (word_name names) words) → Marks names (public_names (map (word_name names) words)) flags
all_marked names words i flags past h one =
    let P : List ℕ → Type 0 = λ l. Marks names (public_names (map (word_name names) l)) flags in
    subst P (taken_all words i past) (h.marks one)

-- What a name means that nothing binds

pub all_raised : (n w : ℕ) → w < n → flag_at (replicate n true) w ≡ true
all_raised zero w h = absurd (omega (arith, h))
all_raised (suc n) zero h = refl
all_raised (suc n) (suc w) h = all_raised n w (omega (arith, h))

pub free_in_library : (names : Names) (flags : List Bool) (w : ℕ) → flag_at flags w ≡ true
    → name_of names (free_variable (slice_get flags w) w) ≡ free OfLibrary (word_name names w)
free_in_library names flags w h = by_flag (slice_get flags w) h
  where
    by_flag : (o : Option Bool) → flag_of o ≡ true → name_of names (free_variable o w) ≡ Library (word_name names w)
    by_flag None h = absurd (apart (sym h))
    by_flag (Some true) h = refl
    by_flag (Some false) h = absurd (apart (sym h))

pub free_in_program : (names : Names) (public own : List (List ℕ)) (flags : List Bool) (w : ℕ)
    → flag_at flags w ≡ (has_name public (word_name names w) && not (has_name own (word_name names w)))
    → name_of names (free_variable (slice_get flags w) w) ≡ free (OfProgram public own) (word_name names w)
free_in_program names public own flags w h =
    by_flag (slice_get flags w) (has_name public (word_name names w) && not (has_name own (word_name names w))) h
  where
    by_flag : (o : Option Bool) (b : Bool) → flag_of o ≡ b
        → name_of names (free_variable o w) ≡ (if b then Library (word_name names w) else Top (word_name names w))
    by_flag None true h = absurd (apart (sym h))
    by_flag None false h = refl
    by_flag (Some true) true h = refl
    by_flag (Some true) false h = absurd (apart h)
    by_flag (Some false) true h = absurd (apart (sym h))
    by_flag (Some false) false h = refl

-- no public name is the program's own
pub none_own : (names : Names) (public : List (List ℕ)) (flags : List Bool) → Marks names public flags
    → (w : ℕ) → flag_at flags w ≡ (has_name public (word_name names w) && not (has_name [] (word_name names w)))
none_own names public flags h w = h w ∙ and_true (has_name public (word_name names w))
  where
    and_true : (b : Bool) → b ≡ (b && true)
    and_true true = refl
    and_true false = refl

-- some are
pub some_own : (names : Names) (public own : List (List ℕ)) (all some left : List Bool) → Marks names public all
    → Marks names own some → ((w : ℕ) → flag_at left w ≡ (flag_at all w && not (flag_at some w)))
    → (w : ℕ) → flag_at left w ≡ (has_name public (word_name names w) && not (has_name own (word_name names w)))
some_own names public own all some left h k parted w = parted w ∙ ap₂ (λ a b. a && not b) (h w) (k w)
