-- Where literals stand, one literal more.
use Rattle.std.proofs.Common.{◌≡◌, ℕ, zero, suc, ◌+◌, ◌++◌, ◌<◌, ◌≤◌, Bool, true, false, cond, List, [], ◌∷◌, length, drop, refl, sym, ap, ◌∙◌, arith, add-one, zero-add, append_assoc, append-nil, length-append, get_or, true≢false}
use Rattle.std.specs.Prelude.{slice_get, slice_index, Option, Some, Result, Ok, Err, IfOk, nat_eq}
use Rattle.std.proofs.lemmas.Bool.Decides.{nat_tests}
use Rattle.std.proofs.lemmas.List.{length-map}
use Rattle.std.proofs.lemmas.Option.{slice_get-get_or, slice_get_within, slice_get_read, get_or_from_slice_get}
use Rattle.std.proofs.lemmas.Slice.Eq.{bytes_eq-Decides}
use Rattle.scheme_base.specs.declared.lit.Lit.{Lit}
use Rattle.scheme_base.specs.declared.lit.Lit.TheVariants as lit
use Rattle.scheme_base.specs.Literals.{is_symbol, first_symbol}
use Rattle.flat_form.specs.FlatCode.{Program}
use Rattle.const_data.specs.declared.word.Word.{Word}
use Rattle.const_data.specs.declared.word.Word.TheVariants.{Number, Address}
use Rattle.const_data.specs.declared.word.Label.{Label}
use Rattle.const_data.specs.declared.word.Label.TheVariants as label
use Rattle.const_data.specs.declared.offsets.Offsets.{Offsets}
use Rattle.const_data.specs.Words.{literals_at, symbol_at, object_at, place_of, places_from, objects_before, object_size, symbol_size, symbols_before, symbol_words, string_words, all_symbols, character, tagged, offsets_of, value_word, literal_word}
use Rattle.const_data.specs.declared.names.Names.{Names}
use Rattle.const_data.specs.Naming.{Knows, symbol_word}
use Rattle.const_data.proofs.Linked.{drop_item}
use Rattle.const_data.proofs.Named.{word_more, first_named, named_past, size_of_first, none_before as no_symbols}

some_same : {X : Type 0} (x y : X) → ◌≡◌ {A = Option X} (Some x) (Some y) → x ≡ y
some_same x y e = cc

-- the item of a loop over a list
pub item_is : {X : Type 0} (xs ys : List X) (i n : ℕ) (x : X) → xs ≡ ys → n ≡ i → i < length xs → x ≡ get_or xs i x → slice_get ys n ≡ Some x
item_is xs ys i n x same counted within is =
    ap (slice_get ys) counted ∙ ap (λ zs. slice_get zs i) (sym same) ∙ slice_get_read xs (length xs) i x refl within is

drop_at : {X : Type 0} (xs : List X) (i : ℕ) (x : X) → slice_get xs i ≡ Some x → drop i xs ≡ x ∷ drop (i + 1) xs
drop_at xs i x is = drop_item xs i x (slice_get_within xs i x is) (sym (get_or_from_slice_get xs i x x is))

none_before : (ls : List Lit) → objects_before ls 0 ≡ 0
none_before [] = refl
none_before (l ∷ ls) = refl

before_next : (ls : List Lit) (n : ℕ) (l : Lit) → slice_get ls n ≡ Some l → objects_before ls (suc n) ≡ objects_before ls n + object_size l
before_next [] n l is = absurd (cc)
before_next (x ∷ ls) zero l is =
    let same = ap object_size (some_same x l is) in
    let none = none_before ls in
    omega arith
before_next (x ∷ ls) (suc n) l is = let next = before_next ls n l is in omega arith

-- the first object that is no symbol stands behind the symbols
pub objects_from : (f : Program) → object_at f 0 ≡ symbol_at f (length f.lits)
objects_from f = let none = none_before f.lits in omega arith

pub object_more : (f : Program) (i : ℕ) (l : Lit) → slice_get f.lits i ≡ Some l → object_at f (i + 1) ≡ object_at f i + object_size l
object_more f i l is =
    let next = before_next f.lits i l is in
    let one = ap (λ m. objects_before f.lits m) (add-one i) in
    omega arith

-- the place of one literal of a list
place_in : (f : Program) (k : ℕ) (ls : List Lit) (n : ℕ) (l : Lit) → slice_get ls n ≡ Some l
    → slice_index (places_from f k ls) n ≡ place_of f (k + n) l
place_in f k [] n l is = absurd (cc)
place_in f k (x ∷ ls) zero l is =
    ap (λ y. place_of f k y) (some_same x l is) ∙ ap (λ m. place_of f m l) (omega arith)
place_in f k (x ∷ ls) (suc n) l is = place_in f (k + 1) ls n l is ∙ ap (λ m. place_of f m l) (omega arith)

pub place_at : (f : Program) (i : ℕ) (l : Lit) → slice_get f.lits i ≡ Some l → slice_index (places_from f 0 f.lits) i ≡ place_of f i l
place_at f i l is = place_in f 0 f.lits i l is ∙ ap (λ m. place_of f m l) (zero-add i)

grows : (all : List Lit) (k : ℕ) (ls : List Lit) (m n : ℕ) → m ≤ n → symbols_before all k ls m ≤ symbols_before all k ls n
grows all k [] m n order = omega arith
grows all k (l ∷ ls) zero n order = omega arith
grows all k (l ∷ ls) (suc m) zero order = absurd (omega arith)
grows all k (l ∷ ls) (suc m) (suc n) order = let later = grows all (k + 1) ls m n (omega arith) in omega arith

-- the first symbol of a name takes words
takes_words : (lits : List Lit) (j : ℕ) (name : List ℕ) (l : Lit) → is_symbol name l ≡ true → first_symbol name lits 0 ≡ j → 3 ≤ symbol_size lits j l
takes_words lits j name (lit.Symbol other) named at =
    let same : name ≡ other = (bytes_eq-Decides name other).0 named in
    let here : first_symbol other lits 0 ≡ j = sym (ap (λ n. first_symbol n lits 0) same) ∙ at in
    let size = size_of_first lits j other here in
    omega arith
takes_words lits j name (lit.Integer z) named at = absurd (true≢false (sym named))
takes_words lits j name (lit.Boolean b) named at = absurd (true≢false (sym named))
takes_words lits j name (lit.Char byte) named at = absurd (true≢false (sym named))
takes_words lits j name lit.Nil named at = absurd (true≢false (sym named))
takes_words lits j name lit.Unspecified named at = absurd (true≢false (sym named))
takes_words lits j name lit.Undefined named at = absurd (true≢false (sym named))
takes_words lits j name (lit.Text bytes) named at = absurd (true≢false (sym named))
takes_words lits j name (lit.Pair car cdr) named at = absurd (true≢false (sym named))
takes_words lits j name (lit.Vector items) named at = absurd (true≢false (sym named))

earlier : (f : Program) (i j : ℕ) (name : List ℕ) → i < length f.lits → first_symbol name f.lits 0 ≡ j → j < i → symbol_at f j < symbol_at f i
earlier f i j name within at before =
    let l = get_or f.lits j (lit.Symbol name) in
    let there : slice_get f.lits j ≡ Some l = slice_get-get_or f.lits j (lit.Symbol name) (omega arith) in
    let size = takes_words f.lits j name l (first_named name f.lits j l there at) at in
    let more = word_more 0 f.lits j l there in
    let order = grows f.lits 0 f.lits (j + 1) i (omega arith) in
    omega arith

-- so the first symbol of a name is told by its place
pub told_by_place : (f : Program) (i : ℕ) (name : List ℕ) → slice_get f.lits i ≡ Some (lit.Symbol name)
    → nat_eq (symbol_at f (first_symbol name f.lits 0)) (symbol_at f i) ≡ nat_eq (first_symbol name f.lits 0) i
told_by_place f i name is =
    by_test (nat_eq j i) refl
  where
    j : ℕ
    j = first_symbol name f.lits 0

    by_test : (b : Bool) → nat_eq j i ≡ b → nat_eq (symbol_at f j) (symbol_at f i) ≡ nat_eq j i
    by_test true first =
        let here : j ≡ i = grind (arith, nat_tests, first) in
        let same : nat_eq (symbol_at f i) (symbol_at f i) ≡ true = grind (arith, nat_tests) in
        ap (λ n. nat_eq (symbol_at f n) (symbol_at f i)) here ∙ same ∙ sym first
    by_test false later =
        let within = slice_get_within f.lits i (lit.Symbol name) is in
        let order = named_past name f.lits i (lit.Symbol name) is ((bytes_eq-Decides name name).1 refl) in
        let elsewhere : first_symbol name f.lits 0 ≡ i → ⊥ = grind (arith, nat_tests, later) in
        let less : j < i = omega arith in
        let apart = earlier f i j name within refl less in
        let other : nat_eq (symbol_at f j) (symbol_at f i) ≡ false = grind (arith, nat_tests, apart) in
        other ∙ sym later

string_long : (bytes : List ℕ) → length (string_words bytes) ≡ 1 + length bytes
string_long bytes = let e = length-map bytes (λ byte. Number (character byte)) in omega arith

symbol_long : (f : Program) (i : ℕ) (l : Lit) → length (symbol_words f i l) ≡ symbol_size f.lits i l
symbol_long f i (lit.Symbol name) = by_test (nat_eq (first_symbol name f.lits 0) i)
  where
    by_test : (b : Bool) → length (cond b (Number 3 ∷ tagged (symbol_at f i + 2) 3 ∷ string_words name) []) ≡ cond b (3 + length name) 0
    by_test true = let e = string_long name in omega arith
    by_test false = refl
symbol_long f i (lit.Integer z) = refl
symbol_long f i (lit.Boolean b) = refl
symbol_long f i (lit.Char byte) = refl
symbol_long f i lit.Nil = refl
symbol_long f i lit.Unspecified = refl
symbol_long f i lit.Undefined = refl
symbol_long f i (lit.Text bytes) = refl
symbol_long f i (lit.Pair car cdr) = refl
symbol_long f i (lit.Vector items) = refl

-- one symbol more is put
pub symbol_put : (f : Program) (i : ℕ) (l : Lit) (before after whole : List Word)
    → slice_get f.lits i ≡ Some l
    → after ≡ before ++ symbol_words f i l
    → before ++ all_symbols f i (drop i f.lits) ≡ whole
    → after ++ all_symbols f (i + 1) (drop (i + 1) f.lits) ≡ whole
symbol_put f i l before after whole is puts was =
    ap (λ ws. ws ++ all_symbols f (i + 1) (drop (i + 1) f.lits)) puts
    ∙ append_assoc before (symbol_words f i l) (all_symbols f (i + 1) (drop (i + 1) f.lits))
    ∙ sym (ap (λ ls. before ++ all_symbols f i ls) (drop_at f.lits i l is))
    ∙ was

pub symbol_ends : (f : Program) (i : ℕ) (l : Lit) (before after : List Word)
    → slice_get f.lits i ≡ Some l
    → after ≡ before ++ symbol_words f i l
    → length before ≡ symbol_at f i
    → length after ≡ symbol_at f (i + 1)
symbol_ends f i l before after is puts at =
    let long = ap length puts ∙ length-append before (symbol_words f i l) in
    let size = symbol_long f i l in
    let more = word_more (literals_at f) f.lits i l is in
    omega arith

-- one place more is known
pub place_put : (f : Program) (i : ℕ) (l : Lit) (before after : List ℕ) (word : ℕ)
    → slice_get f.lits i ≡ Some l
    → word ≡ place_of f i l
    → after ≡ before ++ word ∷ []
    → before ++ places_from f i (drop i f.lits) ≡ places_from f 0 f.lits
    → after ++ places_from f (i + 1) (drop (i + 1) f.lits) ≡ places_from f 0 f.lits
place_put f i l before after word is at puts was =
    ap (λ ws. ws ++ places_from f (i + 1) (drop (i + 1) f.lits)) (puts ∙ ap (λ w. before ++ w ∷ []) at)
    ∙ append_assoc before (place_of f i l ∷ []) (places_from f (i + 1) (drop (i + 1) f.lits))
    ∙ sym (ap (λ ls. before ++ places_from f i ls) (drop_at f.lits i l is))
    ∙ was

-- the first symbol stands behind the words that every program has
pub symbols_from : (f : Program) → symbol_at f 0 ≡ literals_at f
symbols_from f = let none = no_symbols f.lits 0 f.lits in omega arith

-- the word of a literal that is an object
pub object_is : (f : Program) (offsets : Offsets) (i tag : ℕ) (l : Lit) (at : Label)
    → offsets ≡ offsets_of f
    → slice_get f.lits i ≡ Some l
    → value_word f i (Some l) ≡ tagged (place_of f i l) tag
    → at ≡ label.Word (slice_index offsets.literals i)
    → Address at tag ≡ literal_word f i
object_is f offsets i tag l at known is value found =
    ap (λ x. Address x tag) (found ∙ ap (λ o. label.Word (slice_index o.literals i)) known ∙ ap label.Word (place_at f i l is))
    ∙ sym value
    ∙ sym (ap (value_word f i) is)

object_of_symbol : (f : Program) (offsets : Offsets) (i object : ℕ) (l : Lit) (name : List ℕ)
    → offsets ≡ offsets_of f
    → slice_get f.lits i ≡ Some l
    → l ≡ lit.Symbol name
    → object ≡ slice_index offsets.literals i
    → object ≡ symbol_at f (first_symbol name f.lits 0)
object_of_symbol f offsets i object l name known is named found =
    found ∙ ap (λ o. slice_index o.literals i) known ∙ place_at f i l is ∙ ap (place_of f i) named

-- the first symbol of its name is put
pub first_put : (f : Program) (offsets : Offsets) (i here object : ℕ) (l : Lit) (name bytes : List ℕ) (before after : List Word)
    → offsets ≡ offsets_of f
    → slice_get f.lits i ≡ Some l
    → l ≡ lit.Symbol name
    → length before ≡ symbol_at f i
    → here ≡ length before
    → object ≡ slice_index offsets.literals i
    → object ≡ here
    → bytes ≡ name
    → after ≡ before ++ Number 3 ∷ tagged (here + 2) 3 ∷ string_words bytes
    → after ≡ before ++ symbol_words f i l
first_put f offsets i here object l name bytes before after known is named end counted found same text puts =
    let place = object_of_symbol f offsets i object l name known is named found in
    let both : symbol_at f (first_symbol name f.lits 0) ≡ symbol_at f i = sym place ∙ same ∙ counted ∙ end in
    let told : nat_eq (symbol_at f (first_symbol name f.lits 0)) (symbol_at f i) ≡ true = grind (arith, nat_tests, both) in
    let first : nat_eq (first_symbol name f.lits 0) i ≡ true = sym (told_by_place f i name (is ∙ ap Some named)) ∙ told in
    puts
    ∙ ap (λ n. before ++ Number 3 ∷ tagged (n + 2) 3 ∷ string_words bytes) (counted ∙ end)
    ∙ ap (λ bs. before ++ Number 3 ∷ tagged (symbol_at f i + 2) 3 ∷ string_words bs) text
    ∙ sym (ap (λ b. before ++ cond b (Number 3 ∷ tagged (symbol_at f i + 2) 3 ∷ string_words name) []) first)
    ∙ sym (ap (λ x. before ++ symbol_words f i x) named)

-- a later symbol of a name puts nothing
pub later_put : (f : Program) (offsets : Offsets) (i here object : ℕ) (l : Lit) (name : List ℕ) (before : List Word)
    → offsets ≡ offsets_of f
    → slice_get f.lits i ≡ Some l
    → l ≡ lit.Symbol name
    → length before ≡ symbol_at f i
    → here ≡ length before
    → object ≡ slice_index offsets.literals i
    → (object ≡ here → ⊥)
    → before ≡ before ++ symbol_words f i l
later_put f offsets i here object l name before known is named end counted found other =
    let place = object_of_symbol f offsets i object l name known is named found in
    let apart : symbol_at f (first_symbol name f.lits 0) ≡ symbol_at f i → ⊥ = λ both. other (place ∙ both ∙ sym end ∙ sym counted) in
    let told : nat_eq (symbol_at f (first_symbol name f.lits 0)) (symbol_at f i) ≡ false = grind (arith, nat_tests, apart) in
    let later : nat_eq (first_symbol name f.lits 0) i ≡ false = sym (told_by_place f i name (is ∙ ap Some named)) ∙ told in
    sym (append-nil before)
    ∙ sym (ap (λ b. before ++ cond b (Number 3 ∷ tagged (symbol_at f i + 2) 3 ∷ string_words name) []) later)
    ∙ sym (ap (λ x. before ++ symbol_words f i x) named)

-- where a symbol stands, by its name
pub symbol_place : {E : Type 0} (names : Names) (name bytes : List ℕ) (l : Lit) (next : ℕ) (r : Result ℕ E)
    → bytes ≡ name
    → l ≡ lit.Symbol name
    → IfOk r (λ word. (first : ℕ) (lits : List Lit) (i : ℕ) → Knows first lits i names → word ≡ symbol_word first lits (first_symbol bytes lits 0))
    → IfOk r (λ word. (f : Program) (i : ℕ) → Knows (literals_at f) f.lits (length f.lits) names → next ≡ object_at f i → word ≡ place_of f i l)
symbol_place names name bytes l next (Ok word) text named found =
    λ f i knows at.
    found (literals_at f) f.lits (length f.lits) knows
    ∙ ap (λ n. symbol_word (literals_at f) f.lits (first_symbol n f.lits 0)) text
    ∙ sym (ap (place_of f i) named)
symbol_place names name bytes l next (Err e) text named found = tt
