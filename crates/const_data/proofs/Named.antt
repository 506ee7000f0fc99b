-- Symbols among literals: which is the first of its name, and where it stands.
use Rattle.std.proofs.Common.{◌≡◌, ℕ, zero, suc, ◌+◌, ◌≤◌, ◌<◌, Bool, true, false, cond, List, [], ◌∷◌, length, refl, sym, ap, ◌∙◌, subst, arith, add-one, zero-add, true≢false}
use Rattle.std.specs.Prelude.{slice_get, Option, Some, None, nat_eq, nat_lt}
use Rattle.std.specs.Borrow.{Bor}
use Rattle.std.proofs.lemmas.Bool.Decides.{nat_tests}
use Rattle.std.proofs.lemmas.Slice.Eq.{bytes_eq-Decides}
use Rattle.indexmap.specs.IndexMap.{get}
use Rattle.scheme_base.specs.declared.lit.Lit.{Lit}
use Rattle.scheme_base.specs.declared.lit.Lit.TheVariants as lit
use Rattle.scheme_base.specs.Literals.{is_symbol, first_symbol}
use Rattle.const_data.specs.declared.names.Names.{Names}
use Rattle.const_data.specs.Words.{symbol_size, symbols_before}
use Rattle.const_data.specs.Naming.{Knows, Notes, symbol_word, found_in, same_text}

some_same : {X : Type 0} (x y : X) → ◌≡◌ {A = Option X} (Some x) (Some y) → x ≡ y
some_same x y e = cc

pub none_before : (all : List Lit) (k : ℕ) (ls : List Lit) → symbols_before all k ls 0 ≡ 0
none_before all k [] = refl
none_before all k (l ∷ ls) = refl

-- the words before the next literal
before_next :
    (all : List Lit) (k : ℕ) (ls : List Lit) (n : ℕ) (l : Lit)
    → slice_get ls n ≡ Some l
    → symbols_before all k ls (suc n) ≡ symbols_before all k ls n + symbol_size all (k + n) l
before_next all k [] n l is = absurd (cc)
before_next all k (x ∷ ls) zero l is =
    let same : symbol_size all k x ≡ symbol_size all (k + 0) l =
    ap (λ y. symbol_size all k y) (some_same x l is) ∙ ap (λ n. symbol_size all n l) (omega arith) in
    let none = none_before all (k + 1) ls in
    omega arith
before_next all k (x ∷ ls) (suc n) l is =
    let next = before_next all (k + 1) ls n l is in
    let same : symbol_size all (k + 1 + n) l ≡ symbol_size all (k + suc n) l = ap (λ m. symbol_size all m l) (omega arith) in
    omega arith

pub word_more :
    (first : ℕ) (lits : List Lit) (i : ℕ) (l : Lit)
    → slice_get lits i ≡ Some l
    → symbol_word first lits (i + 1) ≡ symbol_word first lits i + symbol_size lits i l
word_more first lits i l is =
    let next = before_next lits 0 lits i l is in
    let same : symbol_size lits (0 + i) l ≡ symbol_size lits i l = ap (λ m. symbol_size lits m l) (zero-add i) in
    let one = ap (λ m. symbols_before lits 0 lits m) (add-one i) in
    omega arith

first_from : (name : List ℕ) (ls : List Lit) (k : ℕ) → k ≤ first_symbol name ls k
first_from name [] k = omega arith
first_from name (l ∷ ls) k = by_test (is_symbol name l) (first_from name ls (suc k))
  where
    by_test : (b : Bool) → suc k ≤ first_symbol name ls (suc k) → k ≤ cond b k (first_symbol name ls (suc k))
    by_test true later = omega arith
    by_test false later = omega arith

-- the first symbol of a name has that name
pub first_is :
    (name : List ℕ) (ls : List Lit) (k n : ℕ) (l : Lit)
    → slice_get ls n ≡ Some l
    → first_symbol name ls k ≡ k + n
    → is_symbol name l ≡ true
first_is name [] k n l is at = absurd (cc)
first_is name (x ∷ ls) k zero l is at = by_test (is_symbol name x) refl at
  where
    by_test : (b : Bool) → is_symbol name x ≡ b → cond b k (first_symbol name ls (suc k)) ≡ k + 0 → is_symbol name l ≡ true
    by_test true named here = ap (is_symbol name) (sym (some_same x l is)) ∙ named
    by_test false other here = let from = first_from name ls (suc k) in absurd (omega arith)
first_is name (x ∷ ls) k (suc n) l is at = by_test (is_symbol name x) at (first_is name ls (suc k) n l is)
  where
    by_test : (b : Bool) → cond b k (first_symbol name ls (suc k)) ≡ k + suc n
        → (first_symbol name ls (suc k) ≡ suc k + n → is_symbol name l ≡ true)
        → is_symbol name l ≡ true
    by_test true here later = absurd (omega arith)
    by_test false here later = later (omega arith)

-- and no symbol of that name stands before it
pub first_past :
    (name : List ℕ) (ls : List Lit) (k n : ℕ) (l : Lit)
    → slice_get ls n ≡ Some l
    → is_symbol name l ≡ true
    → first_symbol name ls k ≤ k + n
first_past name [] k n l is named = absurd (cc)
first_past name (x ∷ ls) k zero l is named =
    let also : is_symbol name x ≡ true = ap (is_symbol name) (some_same x l is) ∙ named in
    let here : first_symbol name (x ∷ ls) k ≡ k = ap (λ b. cond b k (first_symbol name ls (suc k))) also in
    omega arith
first_past name (x ∷ ls) k (suc n) l is named = by_test (is_symbol name x) (first_past name ls (suc k) n l is named)
  where
    by_test : (b : Bool) → first_symbol name ls (suc k) ≤ suc k + n → cond b k (first_symbol name ls (suc k)) ≤ k + suc n
    by_test true later = omega arith
    by_test false later = omega arith

-- the first of a name, among all literals
pub first_named : (name : List ℕ) (lits : List Lit) (i : ℕ) (l : Lit) → slice_get lits i ≡ Some l → first_symbol name lits 0 ≡ i → is_symbol name l ≡ true
first_named name lits i l is at = first_is name lits 0 i l is (at ∙ sym (zero-add i))

pub named_past : (name : List ℕ) (lits : List Lit) (i : ℕ) (l : Lit) → slice_get lits i ≡ Some l → is_symbol name l ≡ true → first_symbol name lits 0 ≤ i
named_past name lits i l is named = let past = first_past name lits 0 i l is named in omega arith

found_here : (first : ℕ) (lits : List Lit) (i : ℕ) (name : List ℕ) → first_symbol name lits 0 ≡ i
    → found_in first lits (i + 1) name ≡ Some (symbol_word first lits i)
found_here first lits i name at =
    let within : nat_lt (first_symbol name lits 0) (i + 1) ≡ true = grind (arith, nat_tests) in
    ap (λ b. cond b (Some (symbol_word first lits (first_symbol name lits 0))) None) within
    ∙ ap (λ n. Some (symbol_word first lits n)) at

found_before : (first : ℕ) (lits : List Lit) (i : ℕ) (name : List ℕ) → (first_symbol name lits 0 ≡ i → ⊥)
    → found_in first lits (i + 1) name ≡ found_in first lits i name
found_before first lits i name elsewhere =
    let same : nat_lt (first_symbol name lits 0) (i + 1) ≡ nat_lt (first_symbol name lits 0) i = grind (arith, nat_tests) in
    ap (λ b. cond b (Some (symbol_word first lits (first_symbol name lits 0))) None) same

-- a name that is found stands before
found_is : (first : ℕ) (lits : List Lit) (i : ℕ) (name : List ℕ) (w : ℕ) → found_in first lits i name ≡ Some w
    → (first_symbol name lits 0 < i) × (w ≡ symbol_word first lits (first_symbol name lits 0))
found_is first lits i name w found = by_test (nat_lt (first_symbol name lits 0) i) refl found
  where
    by_test : (b : Bool) → nat_lt (first_symbol name lits 0) i ≡ b
        → cond b (Some (symbol_word first lits (first_symbol name lits 0))) None ≡ Some w
        → (first_symbol name lits 0 < i) × (w ≡ symbol_word first lits (first_symbol name lits 0))
    by_test true within is = (grind (arith, nat_tests), sym (some_same (symbol_word first lits (first_symbol name lits 0)) w is))
    by_test false past is = absurd (cc)

not_found : (first : ℕ) (lits : List Lit) (i : ℕ) (name : List ℕ) → found_in first lits i name ≡ None → i ≤ first_symbol name lits 0
not_found first lits i name none = by_test (nat_lt (first_symbol name lits 0) i) refl none
  where
    by_test : (b : Bool) → nat_lt (first_symbol name lits 0) i ≡ b
        → cond b (Some (symbol_word first lits (first_symbol name lits 0))) None ≡ None
        → i ≤ first_symbol name lits 0
    by_test true within is = absurd (cc)
    by_test false past is = grind (arith, nat_tests)

-- the word of a name that is known
pub word_is : (first : ℕ) (lits : List Lit) (i : ℕ) (names : Names) (name : Bor (List ℕ)) (w : ℕ)
    → get same_text names.words name ≡ Some w
    → Knows first lits i names
    → w ≡ symbol_word first lits (first_symbol name.now lits 0)
word_is first lits i names name w found knows = (found_is first lits i name.now w (sym (knows.words name) ∙ found)).1

-- a literal that is no symbol
pub no_symbol : (l : Lit) → ((name : List ℕ) → is_symbol name l ≡ false) → (lits : List Lit) (i : ℕ) → symbol_size lits i l ≡ 0
no_symbol (lit.Symbol name) unnamed lits i = absurd (true≢false (sym ((bytes_eq-Decides name name).1 refl) ∙ unnamed name))
no_symbol (lit.Integer z) unnamed lits i = refl
no_symbol (lit.Boolean b) unnamed lits i = refl
no_symbol (lit.Char byte) unnamed lits i = refl
no_symbol lit.Nil unnamed lits i = refl
no_symbol lit.Unspecified unnamed lits i = refl
no_symbol lit.Undefined unnamed lits i = refl
no_symbol (lit.Text bytes) unnamed lits i = refl
no_symbol (lit.Pair car cdr) unnamed lits i = refl
no_symbol (lit.Vector items) unnamed lits i = refl

pub passes_by : (first : ℕ) (lits : List Lit) (i : ℕ) (l : Lit) (names : Names)
    → ((name : List ℕ) → is_symbol name l ≡ false)
    → slice_get lits i ≡ Some l
    → Knows first lits i names
    → Knows first lits (i + 1) names
passes_by first lits i l names unnamed is knows =
    record {
      next =
          let more = word_more first lits i l is in
          let none = no_symbol l unnamed lits i in
          let before = knows.next in
          omega arith;
      words = λ q.
          knows.words q
          ∙ sym (found_before first lits i q.now (λ at. true≢false (sym (first_named q.now lits i l is at) ∙ unnamed q.now)));
    }

pub size_of_first : (lits : List Lit) (i : ℕ) (name : List ℕ) → first_symbol name lits 0 ≡ i → symbol_size lits i (lit.Symbol name) ≡ 3 + length name
size_of_first lits i name at =
    let here : nat_eq (first_symbol name lits 0) i ≡ true = grind (arith, nat_tests) in
    ap (λ b. cond b (3 + length name) 0) here

size_of_later : (lits : List Lit) (i : ℕ) (name : List ℕ) → (first_symbol name lits 0 ≡ i → ⊥) → symbol_size lits i (lit.Symbol name) ≡ 0
size_of_later lits i name elsewhere =
    let later : nat_eq (first_symbol name lits 0) i ≡ false = grind (arith, nat_tests) in
    ap (λ b. cond b (3 + length name) 0) later

-- a symbol whose name is known
pub repeats : (first : ℕ) (lits : List Lit) (i : ℕ) (name : List ℕ) (key : Bor (List ℕ)) (w : ℕ) (names : Names)
    → key.now ≡ name
    → slice_get lits i ≡ Some (lit.Symbol name)
    → get same_text names.words key ≡ Some w
    → Knows first lits i names
    → Knows first lits (i + 1) names
repeats first lits i name key w names named is found knows =
    let earlier : first_symbol name lits 0 < i =
    subst (λ n. first_symbol n lits 0 < i) named (found_is first lits i key.now w (sym (knows.words key) ∙ found)).0 in
    record {
      next =
          let more = word_more first lits i (lit.Symbol name) is in
          let none = size_of_later lits i name (λ at. omega arith) in
          let before = knows.next in
          omega arith;
      words = λ q.
          knows.words q
          ∙ sym
          (found_before first lits i q.now
          (λ at.
          let same : q.now ≡ name = (bytes_eq-Decides q.now name).0 (first_named q.now lits i (lit.Symbol name) is at) in
          let both : first_symbol q.now lits 0 ≡ first_symbol name lits 0 = ap (λ n. first_symbol n lits 0) same in
          omega arith));
    }

-- the first symbol of its name
pub begins : (first : ℕ) (lits : List Lit) (i : ℕ) (name : List ℕ) (key : Bor (List ℕ)) (old new : Names)
    → key.now ≡ name
    → slice_get lits i ≡ Some (lit.Symbol name)
    → get same_text old.words key ≡ None
    → ((q : Bor (List ℕ)) → get same_text new.words q ≡ cond (same_text key q) (Some old.next) (get same_text old.words q))
    → new.next ≡ old.next + 3 + length name
    → Knows first lits i old
    → Knows first lits (i + 1) new
begins first lits i name key old new named is none updates next knows =
    let late : i ≤ first_symbol name lits 0 =
    subst (λ n. i ≤ first_symbol n lits 0) named (not_found first lits i key.now (sym (knows.words key) ∙ none)) in
    let early : first_symbol name lits 0 ≤ i = named_past name lits i (lit.Symbol name) is ((bytes_eq-Decides name name).1 refl) in
    let here : first_symbol name lits 0 ≡ i = omega arith in
    record {
      next =
          let more = word_more first lits i (lit.Symbol name) is in
          let size = size_of_first lits i name here in
          let before = knows.next in
          omega arith;
      words = λ q. updates q ∙ by_test q here (same_text key q) refl;
    }
  where
    by_test : (q : Bor (List ℕ)) → first_symbol name lits 0 ≡ i → (b : Bool) → same_text key q ≡ b
        → cond b (Some old.next) (get same_text old.words q) ≡ found_in first lits (i + 1) q.now
    by_test q here true alike =
        let same : q.now ≡ name = sym ((bytes_eq-Decides key.now q.now).0 alike) ∙ named in
        ap Some knows.next ∙ sym (found_here first lits i q.now (ap (λ n. first_symbol n lits 0) same ∙ here))
    by_test q here false other =
        knows.words q
        ∙ sym
        (found_before first lits i q.now
        (λ at.
        let same : q.now ≡ name = (bytes_eq-Decides q.now name).0 (first_named q.now lits i (lit.Symbol name) is at) in
        true≢false (sym ((bytes_eq-Decides key.now q.now).1 (named ∙ sym same)) ∙ other)))

-- nothing is known at first
pub knows_none : (first : ℕ) (lits : List Lit) (names : Names)
    → names.next ≡ first
    → ((q : Bor (List ℕ)) → get same_text names.words q ≡ None)
    → Knows first lits 0 names
knows_none first lits names next none =
    record {
      next = let zeros = none_before lits 0 lits in omega arith;
      words = λ q.
          let past : nat_lt (first_symbol q.now lits 0) 0 ≡ false = grind (arith, nat_tests) in
          none q ∙ sym (ap (λ b. cond b (Some (symbol_word first lits (first_symbol q.now lits 0))) None) past);
    }

not_symbol : (l : Lit) → ((name : List ℕ) → l ≡ lit.Symbol name → ⊥) → (name : List ℕ) → is_symbol name l ≡ false
not_symbol (lit.Symbol other) differs name = absurd (differs other refl)
not_symbol (lit.Integer z) differs name = refl
not_symbol (lit.Boolean b) differs name = refl
not_symbol (lit.Char byte) differs name = refl
not_symbol lit.Nil differs name = refl
not_symbol lit.Unspecified differs name = refl
not_symbol lit.Undefined differs name = refl
not_symbol (lit.Text bytes) differs name = refl
not_symbol (lit.Pair car cdr) differs name = refl
not_symbol (lit.Vector items) differs name = refl

pub passes : (l : Lit) (names : Names) → ((name : List ℕ) → l ≡ lit.Symbol name → ⊥) → Notes names names l
passes l names differs first lits i is knows = passes_by first lits i l names (not_symbol l differs) is knows
