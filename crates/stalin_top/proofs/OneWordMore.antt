-- What words say from one of them on, by that word.
use Rattle.std.proofs.Common.{◌≡◌, sym, ap, ◌∙◌, ℕ, suc, ◌+◌, ◌<◌, List, [], length, drop, get_or, Option, Some, None, Err, Result, slice_get, Bor, arith}
use Rattle.std.specs.Option.{option_map, unwrap_or}
use Rattle.std.proofs.Math.Seq.{drop-cons}
use Rattle.std.proofs.lemmas.Option.{slice_get-get_or}
use Rattle.stalin_top.specs.Command.{Said, Task, go_on, reading, shape_of, with_word}
use Rattle.stalin_top.specs.declared.shape.Verb.{Verb}

one_more : (verb : Verb) (n at : ℕ) (words : List (List ℕ)) (said : Said) → at < length words
    → reading verb n (drop at words) said
    ≡ go_on n (reading verb (n + 1) (drop (at + 1) words)) (with_word (shape_of verb) said.pending (get_or words at []) said)
one_more verb n at words said within =
    let next : suc at ≡ at + 1 = omega arith in
    ap (λ l. reading verb n l said) (drop-cons words at [] within)
    ∙ ap (λ k. go_on n (reading verb (n + 1) (drop k words)) (with_word (shape_of verb) said.pending (get_or words at []) said)) next

some_is : (a b : List ℕ) → Some a ≡ Some b → a ≡ b
some_is a b is = cc

-- the word that is read at a place within the words
word_at : (words : List (List ℕ)) (at : ℕ) (read : Option (Bor (List ℕ))) (other word : Bor (List ℕ))
    → option_map (λ text. text.now) read ≡ slice_get words at → word ≡ unwrap_or read other → at < length words
    → word.now ≡ get_or words at []
word_at words at None other word is same within =
    let there : None ≡ Some (get_or words at []) = is ∙ slice_get-get_or words at [] within in absurd (cc)
word_at words at (Some text) other word is same within =
    ap (λ t. t.now) same ∙ some_is text.now (get_or words at []) (is ∙ slice_get-get_or words at [] within)

-- a broken word ends the reading
pub breaks_at : (verb : Verb) (words : List (List ℕ)) (at : ℕ) (said : Said) (read : Option (Bor (List ℕ))) (other word : Bor (List ℕ))
    (first : Result Task ℕ) → at < length words → option_map (λ text. text.now) read ≡ slice_get words at
    → word ≡ unwrap_or read other → with_word (shape_of verb) said.pending word.now said ≡ None
    → first ≡ reading verb (at + 1) (drop at words) said → Err (at + 1) ≡ first
breaks_at verb words at said read other word first within is same broken from =
    sym
    (from
    ∙ (one_more verb (at + 1) at words said within
    ∙ ap (go_on (at + 1) (reading verb (at + 1 + 1) (drop (at + 1) words)))
    (ap (λ w. with_word (shape_of verb) said.pending w said) (sym (word_at words at read other word is same within)) ∙ broken)))

-- after a word that is not the reading goes on
pub goes_on_at : (verb : Verb) (words : List (List ℕ)) (at : ℕ) (said more : Said) (read : Option (Bor (List ℕ))) (other word : Bor (List ℕ))
    (first : Result Task ℕ) → at < length words → option_map (λ text. text.now) read ≡ slice_get words at
    → word ≡ unwrap_or read other → with_word (shape_of verb) said.pending word.now said ≡ Some more
    → first ≡ reading verb (at + 1) (drop at words) said → first ≡ reading verb (at + 1 + 1) (drop (at + 1) words) more
goes_on_at verb words at said more read other word first within is same good from =
    from
    ∙ (one_more verb (at + 1) at words said within
    ∙ ap (go_on (at + 1) (reading verb (at + 1 + 1) (drop (at + 1) words)))
    (ap (λ w. with_word (shape_of verb) said.pending w said) (sym (word_at words at read other word is same within)) ∙ good))
