-- By word, the number of the first definition of its name, and the numbers of names in a list.
use Rattle.std.proofs.Common.{◌≡◌, ℕ, zero, suc, ◌+◌, ◌<◌, ◌≤◌, List, [], ◌∷◌, ◌++◌, length, take, get_or, Option, Some, None, Bool, true, false, if◌then◌else◌, refl, sym, ap, subst, ◌∙◌, append-nil, append_assoc, bytes_eq, eqb-true, arith}
use Rattle.std.specs.Prelude.{map, nat_eq, slice_get, slice_set}
use Rattle.std.proofs.lemmas.Bool.Decides.{Decides-eqb}
use Rattle.std.proofs.lemmas.List.{get_or-map, length-map, length-take-le, map-append, take_more}
use Rattle.std.proofs.lemmas.List.Folds.{list_any_at}
use Rattle.prelude_text.specs.Closure.{AreNumbers}
use Rattle.draft_form.specs.Drawn.{word_name, Names}
use Rattle.draft_form.proofs.LiteralsAdded.{taken_all}
use Rattle.scheme_expand.specs.ByWord.{at_most_one, joined, with_number, HaveOneWord, IsIndex}
use Rattle.scheme_expand.specs.Programs.{number_of, numbers_of}
use Rattle.scheme_expand.specs.Rewriting.{has_name}
use Rattle.scheme_expand.proofs.Scoping.{apart, some_none, same_bytes, bytes_same}

-- Items of a list

pub set_there : {A : Type 0} (xs : List A) (i : ℕ) (x : A) → i < length xs → slice_get (slice_set xs i x) i ≡ Some x
set_there [] i x h = absurd (omega (arith, h))
set_there (y ∷ xs) zero x h = refl
set_there (y ∷ xs) (suc i) x h = set_there xs i x (omega (arith, h))

pub set_elsewhere : {A : Type 0} (xs : List A) (i j : ℕ) (x : A) → (j ≡ i → ⊥) → slice_get (slice_set xs i x) j ≡ slice_get xs j
set_elsewhere [] i j x h = refl
set_elsewhere (y ∷ xs) zero zero x h = absurd (h refl)
set_elsewhere (y ∷ xs) zero (suc j) x h = refl
set_elsewhere (y ∷ xs) (suc i) zero x h = refl
set_elsewhere (y ∷ xs) (suc i) (suc j) x h = set_elsewhere xs i j x (λ e. h (ap suc e))

got_within : {A : Type 0} (xs : List A) (i : ℕ) → i < length xs → slice_get xs i ≡ None → ⊥
got_within [] i h e = omega (arith, h)
got_within (y ∷ xs) zero h e = some_none y e
got_within (y ∷ xs) (suc i) h e = got_within xs i (omega (arith, h)) e

-- One more definition

abbrev or_else : List ℕ → List ℕ → List ℕ
or_else [] ks = ks
or_else (j ∷ js) ks = j ∷ js

or_nothing : (js : List ℕ) → or_else js [] ≡ js
or_nothing [] = refl
or_nothing (j ∷ js) = refl

abbrev one_if : Bool → ℕ → List ℕ
one_if true k = k ∷ []
one_if false k = []

number_behind : (k : ℕ) (ds : List (List ℕ)) (x y : List ℕ)
    → number_of k (ds ++ x ∷ []) y ≡ or_else (number_of k ds y) (one_if (bytes_eq y x) (k + length ds))
number_behind k [] x y = by_test (bytes_eq y x)
  where
    plus_none : (k : ℕ) → k ≡ k + 0
    plus_none k = omega arith

    by_test : (b : Bool) → (if b then k ∷ [] else []) ≡ one_if b (k + 0)
    by_test true = ap (λ j. j ∷ []) (plus_none k)
    by_test false = refl
number_behind k (d ∷ ds) x y = by_test (number_behind (suc k) ds x y) (bytes_eq y d)
  where
    sum : (k n : ℕ) → suc k + n ≡ k + suc n
    sum k n = omega arith

    by_test : number_of (suc k) (ds ++ x ∷ []) y ≡ or_else (number_of (suc k) ds y) (one_if (bytes_eq y x) (suc k + length ds))
        → (b : Bool) → (if b then k ∷ [] else number_of (suc k) (ds ++ x ∷ []) y)
        ≡ or_else (if b then k ∷ [] else number_of (suc k) ds y) (one_if (bytes_eq y x) (k + suc (length ds)))
    by_test h true = refl
    by_test h false = h ∙ ap (λ n. or_else (number_of (suc k) ds y) (one_if (bytes_eq y x) n)) (sum k (length ds))

-- the word of the definition
step_here : (ds : List (List ℕ)) (x : List ℕ) (word number : ℕ) (old new : List (Option ℕ))
    → at_most_one (joined (slice_get old word)) ≡ number_of 1 ds x → number ≡ 1 + length ds → word < length old
    → (found : Option (Option ℕ)) → slice_get old word ≡ found → new ≡ with_number found word number old
    → at_most_one (joined (slice_get new word)) ≡ number_of 1 (ds ++ x ∷ []) x
step_here ds x word number old new h n within None got is = absurd (got_within old word within got)
step_here ds x word number old new h n within (Some None) got is =
    let empty : [] ≡ number_of 1 ds x = ap (λ o. at_most_one (joined o)) (sym got) ∙ h in
    ap (λ l. at_most_one (joined (slice_get l word))) is
    ∙ (ap (λ o. at_most_one (joined o)) (set_there old word (Some number) within)
    ∙ (ap (λ k. k ∷ []) n
    ∙ (ap (λ b. one_if b (1 + length ds)) (sym (bytes_same x))
    ∙ (ap (λ l. or_else l (one_if (bytes_eq x x) (1 + length ds))) empty ∙ sym (number_behind 1 ds x x)))))
step_here ds x word number old new h n within (Some (Some k)) got is =
    let one : k ∷ [] ≡ number_of 1 ds x = ap (λ o. at_most_one (joined o)) (sym got) ∙ h in
    ap (λ l. at_most_one (joined (slice_get l word))) is
    ∙ (ap (λ o. at_most_one (joined o)) got
    ∙ (ap (λ l. or_else l (one_if (bytes_eq x x) (1 + length ds))) one ∙ sym (number_behind 1 ds x x)))

elsewhere : (found : Option (Option ℕ)) (word w number : ℕ) (old : List (Option ℕ)) → (w ≡ word → ⊥)
    → slice_get (with_number found word number old) w ≡ slice_get old w
elsewhere None word w number old differ = refl
elsewhere (Some None) word w number old differ = set_elsewhere old word w (Some number) differ
elsewhere (Some (Some k)) word w number old differ = refl

-- another word, whose name is not this
step_elsewhere : (ds : List (List ℕ)) (x y : List ℕ) (word w number : ℕ) (old new : List (Option ℕ)) (found : Option (Option ℕ))
    → at_most_one (joined (slice_get old w)) ≡ number_of 1 ds y → new ≡ with_number found word number old → (w ≡ word → ⊥)
    → bytes_eq y x ≡ false → at_most_one (joined (slice_get new w)) ≡ number_of 1 (ds ++ x ∷ []) y
step_elsewhere ds x y word w number old new found h is differ other =
    ap (λ l. at_most_one (joined (slice_get l w))) is
    ∙ (ap (λ o. at_most_one (joined o)) (elsewhere found word w number old differ)
    ∙ (h
    ∙ (sym (or_nothing (number_of 1 ds y))
    ∙ (ap (λ b. or_else (number_of 1 ds y) (one_if b (1 + length ds))) (sym other) ∙ sym (number_behind 1 ds x y)))))

index_step : (names : Names) (all ds : List (List ℕ)) (word number : ℕ) (old new : List (Option ℕ)) → HaveOneWord names all
    → has_name all (word_name names word) ≡ true → IsIndex names ds old → number ≡ 1 + length ds → word < length old
    → new ≡ with_number (slice_get old word) word number old → IsIndex names (ds ++ word_name names word ∷ []) new
index_step names all ds word number old new one there h n within is w = by_test (nat_eq w word) refl
  where
    other : (w ≡ word → ⊥) → (b : Bool) → bytes_eq (word_name names w) (word_name names word) ≡ b → b ≡ false
    other differ true e =
        absurd (differ (sym (one word w there (sym (same_bytes (word_name names w) (word_name names word) e)))))
    other differ false e = refl

    by_test : (b : Bool) → nat_eq w word ≡ b
        → at_most_one (joined (slice_get new w)) ≡ number_of 1 (ds ++ word_name names word ∷ []) (word_name names w)
    by_test true e =
        let P : ℕ → Type 0 = λ v. at_most_one (joined (slice_get new v)) ≡ number_of 1 (ds ++ word_name names word ∷ []) (word_name names v) in
        subst P (sym (eqb-true w word e))
        (step_here ds (word_name names word) word number old new (h word) n within (slice_get old word) refl is)
    by_test false e =
        let differ : w ≡ word → ⊥ = λ same. apart (sym ((Decides-eqb w word).1 same) ∙ e) in
        step_elsewhere ds (word_name names word) (word_name names w) word w number old new (slice_get old word) (h w) is differ
        (other differ (bytes_eq (word_name names w) (word_name names word)) refl)

pub index_more : (names : Names) (words : List ℕ) (i number : ℕ) (old new : List (Option ℕ)) → i < length words
    → HaveOneWord names (map (word_name names) words) → IsIndex names (map (word_name names) (take i words)) old → number ≡ i + 1
    → get_or words i 0 < length old → new ≡ with_number (slice_get old (get_or words i 0)) (get_or words i 0) number old
    → IsIndex names (map (word_name names) (take (i + 1) words)) new
index_more names words i number old new within one h n there is =
    let f : ℕ → List ℕ = word_name names in
    let word : ℕ = get_or words i 0 in
    let ds : List (List ℕ) = map f (take i words) in
    let all : List (List ℕ) = map f words in
    let count : length ds ≡ i = length-map (take i words) f ∙ length-take-le i words (omega (arith, within)) in
    let is_there : bytes_eq (f word) (get_or all i []) ≡ true =
    ap (bytes_eq (f word)) (get_or-map f words i 0 [] within) ∙ bytes_same (f word) in
    let listed : has_name all (f word) ≡ true =
    list_any_at (bytes_eq (f word)) all i [] (omega (arith, within, length-map words f)) is_there in
    let P : List (List ℕ) → Type 0 = λ l. IsIndex names l new in
    subst P (sym (ap (map f) (take_more words i 0 within) ∙ map-append f (take i words) (word ∷ [])))
    (index_step names all ds word number old new one listed h (omega (arith, n, count)) there is)

pub all_indexed : (names : Names) (words : List ℕ) (i : ℕ) (numbers : List (Option ℕ)) → length words ≤ i
    → IsIndex names (map (word_name names) (take i words)) numbers → IsIndex names (map (word_name names) words) numbers
all_indexed names words i numbers past h =
    let P : List ℕ → Type 0 = λ ws. IsIndex names (map (word_name names) ws) numbers in subst P (taken_all words i past) h

-- Numbers of names

number_within : (k n : ℕ) (ds : List (List ℕ)) (x : List ℕ) → 1 ≤ k → k + length ds ≤ n + 1 → AreNumbers n (number_of k ds x)
number_within k n [] x low high = tt
number_within k n (d ∷ ds) x low high =
    by_test (number_within (suc k) n ds x (omega (arith, low)) (omega (arith, high))) (omega (arith, high)) (bytes_eq x d)
  where
    by_test : AreNumbers n (number_of (suc k) ds x) → k ≤ n → (b : Bool) → AreNumbers n (if b then k ∷ [] else number_of (suc k) ds x)
    by_test h within true = (low, within, tt)
    by_test h within false = h

pub number_known : (names : Names) (ds : List (List ℕ)) (numbers : List (Option ℕ)) (word count : ℕ) → IsIndex names ds numbers
    → length ds ≤ count → AreNumbers count (at_most_one (joined (slice_get numbers word)))
number_known names ds numbers word count h few =
    let P : List ℕ → Type 0 = λ ks. AreNumbers count ks in
    let one : 1 ≤ 1 = omega arith in
    subst P (sym (h word)) (number_within 1 count ds (word_name names word) one (omega (arith, few)))

numbers_behind : (ds xs : List (List ℕ)) (x : List ℕ) → numbers_of ds (xs ++ x ∷ []) ≡ numbers_of ds xs ++ number_of 1 ds x
numbers_behind ds [] x = append-nil (number_of 1 ds x)
numbers_behind ds (y ∷ xs) x =
    ap (λ l. number_of 1 ds y ++ l) (numbers_behind ds xs x)
    ∙ sym (append_assoc (number_of 1 ds y) (numbers_of ds xs) (number_of 1 ds x))

pub more_known : (names : Names) (ds : List (List ℕ)) (numbers : List (Option ℕ)) (words : List ℕ) (i count : ℕ) (before after : List ℕ)
    → i < length words → IsIndex names ds numbers → length ds ≤ count → before ≡ numbers_of ds (map (word_name names) (take i words))
    → (AreNumbers count (at_most_one (joined (slice_get numbers (get_or words i 0))))
    → after ≡ before ++ at_most_one (joined (slice_get numbers (get_or words i 0))))
    → after ≡ numbers_of ds (map (word_name names) (take (i + 1) words))
more_known names ds numbers words i count before after within h few same added =
    let f : ℕ → List ℕ = word_name names in
    let word : ℕ = get_or words i 0 in
    added (number_known names ds numbers word count h few)
    ∙ (ap (λ l. l ++ at_most_one (joined (slice_get numbers word))) same
    ∙ (ap (λ l. numbers_of ds (map f (take i words)) ++ l) (h word)
    ∙ (sym (numbers_behind ds (map f (take i words)) (f word))
    ∙ ap (numbers_of ds) (sym (ap (map f) (take_more words i 0 within) ∙ map-append f (take i words) (word ∷ []))))))

pub all_known : (names : Names) (ds : List (List ℕ)) (words : List ℕ) (i : ℕ) (ids : List ℕ) → length words ≤ i
    → ids ≡ numbers_of ds (map (word_name names) (take i words)) → ids ≡ numbers_of ds (map (word_name names) words)
all_known names ds words i ids past h = h ∙ ap (λ ws. numbers_of ds (map (word_name names) ws)) (taken_all words i past)
