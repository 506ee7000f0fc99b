-- The turns of the loops that go over the pieces of a text.
use Rattle.std.proofs.Common.{◌≡◌, ℕ, suc, ◌+◌, ◌≤◌, ◌<◌, ◌^◌, List, [], ◌∷◌, ◌++◌, length, drop, get_or, refl, arith, ◌∙◌, ap, sym, subst}
use Rattle.std.specs.Prelude.{min, ◌-◌, Option, Some, None}
use Rattle.std.proofs.Math.ListN.{drop_of_length-le}
use Rattle.std.proofs.Math.Seq.{drop-cons}
use Rattle.const_data.specs.declared.word.Label.{Label}
use Rattle.rv_asm.specs.declared.item.AsmItem.{AsmItem}
use Rattle.rv_asm.specs.Layout.{Placing, size_of, text_size, items_of, cut, pool_from, here, found, or_else, text_bytes, AreSound}
use Rattle.rv_asm.proofs.Items.{size_joined, pool_joined, found_joined, bytes_joined, first_sound, second_sound, parts_more}

-- a piece is measured
pub size_turn : (parts : List (List AsmItem)) (i size more : ℕ) (part : List AsmItem) → size < 2 ^ 64
    → i < length parts → part ≡ get_or parts i part → more ≡ cut (text_size part)
    → cut (min (size + more) (2 ^ 64 - 1) + text_size (items_of (drop (i + 1) parts))) ≡ cut (size + text_size (items_of (drop i parts)))
size_turn parts i size more part small below is measured =
    let e = ap text_size (parts_more parts i part below is) in
    let f = size_joined part (items_of (drop (i + 1) parts)) in
    grind arith

-- all pieces are measured
pub size_end : (parts : List (List AsmItem)) (i size : ℕ) → length parts ≤ i → size < 2 ^ 64
    → cut (size + text_size (items_of (drop i parts))) ≡ cut (text_size (items_of parts)) → size ≡ cut (text_size (items_of parts))
size_end parts i size past small is =
    let none = ap (λ ps. text_size (items_of ps)) (drop_of_length-le parts past) in
    let e = ap (λ n. cut (size + n)) none in
    grind arith

-- the numbers of a piece are in the pool
pub pool_turn : (parts : List (List AsmItem)) (i : ℕ) (part : List AsmItem) (known : List ℕ)
    → i < length parts → part ≡ get_or parts i part
    → pool_from (pool_from known part) (items_of (drop (i + 1) parts)) ≡ pool_from known (items_of (drop i parts))
pool_turn parts i part known below is =
    sym (pool_joined known part (items_of (drop (i + 1) parts))) ∙ ap (pool_from known) (sym (parts_more parts i part below is))

or_else_joined : (a b c : Option ℕ) → or_else a (or_else b c) ≡ or_else (or_else a b) c
or_else_joined (Some x) b c = refl
or_else_joined None b c = refl

-- the labels of a piece are placed
pub found_turn : (parts : List (List AsmItem)) (i at : ℕ) (part : List AsmItem) (l : Label) (known : Option ℕ)
    → i < length parts → part ≡ get_or parts i part
    → or_else (found l (at + text_size part) (items_of (drop (i + 1) parts))) (or_else (found l at part) known)
    ≡ or_else (found l at (items_of (drop i parts))) known
found_turn parts i at part l known below is =
    or_else_joined (found l (at + text_size part) (items_of (drop (i + 1) parts))) (found l at part) known
    ∙ ap (λ f. or_else f known)
    (sym (found_joined l at part (items_of (drop (i + 1) parts))) ∙ ap (found l at) (sym (parts_more parts i part below is)))

-- where the next piece begins
pub left_turn : (parts : List (List AsmItem)) (i at : ℕ) (part : List AsmItem) → i < length parts → part ≡ get_or parts i part
    → at + text_size part + text_size (items_of (drop (i + 1) parts)) ≡ at + text_size (items_of (drop i parts))
left_turn parts i at part below is =
    let e = ap text_size (parts_more parts i part below is) in
    let f = size_joined part (items_of (drop (i + 1) parts)) in
    omega arith

pub sound_now : (parts : List (List AsmItem)) (i : ℕ) (part : List AsmItem) → i < length parts → part ≡ get_or parts i part
    → AreSound (items_of (drop i parts)) → AreSound part
sound_now parts i part below is sound =
    first_sound part (items_of (drop (i + 1) parts)) (subst AreSound (parts_more parts i part below is) sound)

pub sound_later : (parts : List (List AsmItem)) (i : ℕ) (part : List AsmItem) → i < length parts → part ≡ get_or parts i part
    → AreSound (items_of (drop i parts)) → AreSound (items_of (drop (i + 1) parts))
sound_later parts i part below is sound =
    second_sound part (items_of (drop (i + 1) parts)) (subst AreSound (parts_more parts i part below is) sound)

joined_more : (xs ys zs : List ℕ) → (xs ++ ys) ++ zs ≡ xs ++ (ys ++ zs)
joined_more [] ys zs = refl
joined_more (x ∷ xs) ys zs = ap (λ l. x ∷ l) (joined_more xs ys zs)

-- the bytes of a piece are at the end
pub bytes_turn : (p : Placing) (parts : List (List AsmItem)) (i at : ℕ) (part : List AsmItem) (bytes : List ℕ)
    → i < length parts → part ≡ get_or parts i part
    → (bytes ++ text_bytes p at part) ++ text_bytes p (at + text_size part) (items_of (drop (i + 1) parts))
    ≡ bytes ++ text_bytes p at (items_of (drop i parts))
bytes_turn p parts i at part bytes below is =
    joined_more bytes (text_bytes p at part) _
    ∙ ap (λ bs. bytes ++ bs)
    (sym (bytes_joined p at part (items_of (drop (i + 1) parts))) ∙ ap (text_bytes p at) (sym (parts_more parts i part below is)))

-- the items from one on, with that one first
items_more : (items : List AsmItem) (i : ℕ) (none : AsmItem) → i < length items
    → drop i items ≡ get_or items i none ∷ drop (i + 1) items
items_more items i none below =
    let next : suc i ≡ i + 1 = omega arith in
    drop-cons items i none below ∙ ap (λ n. get_or items i none ∷ drop n items) next

-- where the next item stands
pub item_turn : (items : List AsmItem) (i at : ℕ) (none : AsmItem) → i < length items
    → at + size_of (get_or items i none) + text_size (drop (i + 1) items) ≡ at + text_size (drop i items)
item_turn items i at none below =
    let e = ap text_size (items_more items i none below) in
    omega arith

-- the label of an item is placed
pub label_turn : (items : List AsmItem) (i at : ℕ) (none : AsmItem) (l : Label) (known : Option ℕ) → i < length items
    → or_else (found l (at + size_of (get_or items i none)) (drop (i + 1) items)) (or_else (here l at (get_or items i none)) known)
    ≡ or_else (found l at (drop i items)) known
label_turn items i at none l known below =
    or_else_joined (found l (at + size_of (get_or items i none)) (drop (i + 1) items)) (here l at (get_or items i none)) known
    ∙ ap (λ is. or_else (found l at is) known) (sym (items_more items i none below))
