-- A list that is put behind another, the last item first.
use Rattle.std.proofs.Common.{◌≡◌, ℕ, List, [], ◌∷◌, ◌++◌, length, reverse, refl, sym, ap, ◌∙◌, arith, append_assoc, append-nil}
use Rattle.std.proofs.lemmas.List.{reverse-append}

pub reversed_last : {A : Type 0} (xs : List A) (x : A) → reverse (xs ++ x ∷ []) ≡ x ∷ reverse xs
reversed_last xs x = reverse-append xs (x ∷ [])

pub reversed_one : (to after rest others : List ℕ) (last : ℕ) (whole : List ℕ) → rest ≡ others ++ last ∷ []
    → after ≡ to ++ last ∷ [] → to ++ reverse rest ≡ whole → after ++ reverse others ≡ whole
reversed_one to after rest others last whole e f was =
    ap (λ l. l ++ reverse others) f ∙ (append_assoc to (last ∷ []) (reverse others)
    ∙ (ap (λ l. to ++ l) (sym (reversed_last others last)) ∙ (ap (λ l. to ++ reverse l) (sym e) ∙ was)))

no_items : (ids : List ℕ) → length ids ≡ 0 → ids ≡ []
no_items [] e = refl
no_items (i ∷ ids) e = absurd (omega (arith, e))

pub reversed_all : (to rest whole : List ℕ) → length rest ≡ 0 → to ++ reverse rest ≡ whole → to ≡ whole
reversed_all to rest whole e was =
    sym (append-nil to) ∙ (ap (λ l. to ++ reverse l) (sym (no_items rest e)) ∙ was)
