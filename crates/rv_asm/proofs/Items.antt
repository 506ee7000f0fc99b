-- Texts of two pieces: what the second is after the first.
use Rattle.std.proofs.Common.{◌≡◌, ℕ, suc, ◌+◌, ◌≤◌, ◌<◌, ◌^◌, List, [], ◌∷◌, ◌++◌, length, drop, get_or, refl, arith, ◌∙◌, ap, sym}
use Rattle.std.proofs.Math.Seq.{drop-cons}
use Rattle.std.proofs.Math.ListN.{drop_of_length-le}
use Rattle.std.specs.Prelude.{Option, Some, None}
use Rattle.rv_form.specs.Instruction.{code_bytes}
use Rattle.const_data.specs.declared.word.Label.{Label}
use Rattle.rv_asm.specs.declared.item.AsmItem.{AsmItem}
use Rattle.rv_asm.specs.Layout.{Placing, size_of, text_size, with_number, pool_from, or_else, here, found, instructions, text_bytes, AreSound, cut, items_of}

pub size_joined : (is js : List AsmItem) → text_size (is ++ js) ≡ text_size is + text_size js
size_joined [] js = omega arith
size_joined (i ∷ is) js = let e = size_joined is js in grind arith

pub pool_joined : (known : List ℕ) (is js : List AsmItem) → pool_from known (is ++ js) ≡ pool_from (pool_from known is) js
pool_joined known [] js = refl
pool_joined known (i ∷ is) js = pool_joined (with_number known i) is js

or_else_joined : (a b c : Option ℕ) → or_else (or_else a b) c ≡ or_else a (or_else b c)
or_else_joined (Some x) b c = refl
or_else_joined None b c = refl

at_joined : (at size rest : ℕ) → at + (size + rest) ≡ at + size + rest
at_joined at size rest = omega arith

pub found_joined : (l : Label) (at : ℕ) (is js : List AsmItem)
    → found l at (is ++ js) ≡ or_else (found l (at + text_size is) js) (found l at is)
found_joined l at [] js = grind arith
found_joined l at (i ∷ is) js =
    ap (λ f. or_else f (here l at i)) (found_joined l (at + size_of i) is js)
    ∙ or_else_joined (found l (at + size_of i + text_size is) js) (found l (at + size_of i) is) (here l at i)
    ∙ ap (λ a. or_else (found l a js) (found l at (i ∷ is))) (sym (at_joined at (size_of i) (text_size is)))

joined_more : (xs ys zs : List ℕ) → xs ++ (ys ++ zs) ≡ (xs ++ ys) ++ zs
joined_more [] ys zs = refl
joined_more (x ∷ xs) ys zs = ap (λ l. x ∷ l) (joined_more xs ys zs)

pub bytes_joined : (p : Placing) (at : ℕ) (is js : List AsmItem)
    → text_bytes p at (is ++ js) ≡ text_bytes p at is ++ text_bytes p (at + text_size is) js
bytes_joined p at [] js = ap (λ a. text_bytes p a js) (omega arith)
bytes_joined p at (i ∷ is) js =
    ap (λ bs. code_bytes (instructions p at i) ++ bs) (bytes_joined p (at + size_of i) is js)
    ∙ joined_more (code_bytes (instructions p at i)) (text_bytes p (at + size_of i) is) _
    ∙ ap (λ a. text_bytes p at (i ∷ is) ++ text_bytes p a js) (sym (at_joined at (size_of i) (text_size is)))

pub first_sound : (is js : List AsmItem) → AreSound (is ++ js) → AreSound is
first_sound [] js sound = tt
first_sound (i ∷ is) js sound = (sound.0, first_sound is js sound.1)

pub second_sound : (is js : List AsmItem) → AreSound (is ++ js) → AreSound js
second_sound [] js sound = sound
second_sound (i ∷ is) js sound = second_sound is js sound.1

-- the size of a text that was gone through
pub size_measured : (items : List AsmItem) (i size : ℕ) → length items ≤ i → size < 2 ^ 64
    → cut (size + text_size (drop i items)) ≡ cut (text_size items) → size ≡ cut (text_size items)
size_measured items i size past small is =
    let none = ap text_size (drop_of_length-le items past) in
    let e = ap (λ n. cut (size + n)) none in
    grind arith

-- the items from a piece on, with that piece first
pub parts_more : (parts : List (List AsmItem)) (i : ℕ) (part : List AsmItem) → i < length parts
    → part ≡ get_or parts i part → items_of (drop i parts) ≡ part ++ items_of (drop (i + 1) parts)
parts_more parts i part below is =
    let next : suc i ≡ i + 1 = omega arith in
    ap items_of (drop-cons parts i part below)
    ∙ (ap (λ p. p ++ items_of (drop (suc i) parts)) (sym is)
    ∙ ap (λ n. part ++ items_of (drop n parts)) next)
