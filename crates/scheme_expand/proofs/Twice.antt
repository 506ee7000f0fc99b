-- Whether a name stands twice among some, found by its number.
use Rattle.std.proofs.Common.{ℕ, ◌≡◌, List, [], ◌∷◌, ◌++◌, Some, Bool, true, false, refl, sym, ap, subst, ◌∙◌, append_assoc}
use Rattle.std.specs.Prelude.{Option, slice_get, nat_eq, not, ◌||◌, if◌then◌else◌}
use Rattle.std.specs.List.{list_any}
use Rattle.std.specs.Str.{bytes_eq}
use Rattle.std.proofs.lemmas.Slice.Eq.{bytes_eq-Decides}
use Rattle.std.proofs.lemmas.Bool.Decides.{Decides-eqb}
use Rattle.std.proofs.lemmas.List.{append-nil}
use Rattle.std.proofs.lemmas.List.Folds.{list_any-append}
use Rattle.datum_form.specs.Data.{Datum, Items}
use Rattle.datum_form.specs.Data.Items.{none, item}
use Rattle.datum_form.specs.Stands.{Stands}
use Rattle.scheme_expand.specs.declared.source.Source.{Source}
use Rattle.scheme_expand.specs.Forms.{Word}
use Rattle.scheme_expand.specs.Grammar.{twice}
use Rattle.scheme_expand.specs.Noted.{level_in}
use Rattle.scheme_expand.specs.Waiting.{IsNamed, named_datum, named_data, ReadAll}
use Rattle.scheme_expand.proofs.Parts.{joined, last_of}

-- Names of numbers

same_number : (s : Source) (n : IsNamed s) (m k : ℕ) (x y : List ℕ) → slice_get n.names m ≡ Some x
    → slice_get n.names k ≡ Some y → (a b : Bool) → nat_eq m k ≡ a → bytes_eq x y ≡ b → a ≡ b
same_number s n m k x y p q true true e f = refl
same_number s n m k x y p q true false e f =
    let same : m ≡ k = (Decides-eqb m k).0 e in
    let found : Some x ≡ Some y = sym p ∙ (ap (slice_get n.names) same ∙ q) in
    let names : x ≡ y = cc in
    let g : false ≡ true = sym f ∙ (bytes_eq-Decides x y).1 names in
    absurd (cc)
same_number s n m k x y p q false true e f =
    let names : x ≡ y = (bytes_eq-Decides x y).0 f in
    let same : m ≡ k = n.differ m k x p (q ∙ ap Some (sym names)) in
    let g : false ≡ true = sym e ∙ (Decides-eqb m k).1 same in
    absurd (cc)
same_number s n m k x y p q false false e f = refl

-- The last of some names

record LastName (front : List Word) (o : Items) (d : Datum) : Type 0 where
  others : List Word
  word : Word
  are : front ≡ others ++ word ∷ []
  items : named_data others ≡ o
  datum : d ≡ named_datum word

abbrev head_or : Datum → Items → Datum
head_or d none = d
head_or d (item e es) = e

abbrev tail_of : Items → Items
tail_of none = none
tail_of (item e es) = es

last_name : (front : List Word) (o : Items) (d : Datum) → named_data front ≡ joined o (item d none) → LastName front o d
last_name [] none d h = absurd (cc)
last_name [] (item e es) d h = absurd (cc)
last_name (v ∷ []) none d h =
    record { others = []; word = v; are = refl; items = refl; datum = sym (ap (head_or d) h) }
last_name (v ∷ w ∷ vs) none d h = let g : item (named_datum w) (named_data vs) ≡ none = ap tail_of h in absurd (cc)
last_name (v ∷ vs) (item e es) d h =
    let r = last_name vs es d (ap tail_of h) in
    record {
      others = v ∷ r.others;
      word = r.word;
      are = ap (λ l. v ∷ l) r.are;
      items = ap (item (named_datum v)) r.items ∙ ap (λ x. item x es) (ap (head_or e) h);
      datum = r.datum;
    }

-- Turns, from the last name to the first

-- the names behind those that are left differ, and their numbers are these
pub record Differing (s : Source) (n : IsNamed s) (ws : List Word) (left keys : List ℕ) : Type 0 where
  pub front : List Word
  pub back : List Word
  pub are : ws ≡ front ++ back
  pub read : ReadAll s left (named_data front)
  pub same : (m : ℕ) (x : List ℕ) → slice_get n.names m ≡ Some x → list_any (nat_eq m) keys ≡ list_any (λ v. bytes_eq x v.name) back
  pub fresh : twice back ≡ false

pub none_differing : (s : Source) (ids keys : List ℕ) (ws : List Word) (h : ReadAll s ids (named_data ws)) → keys ≡ []
    → Differing s h.named ws ids keys
none_differing s ids keys ws h e = record {
  front = ws;
  back = [];
  are = sym (append-nil ws);
  read = h;
  same = λ m x p. ap (list_any (nat_eq m)) e;
  fresh = refl;
}

record LastLeft (s : Source) (n : IsNamed s) (ws : List Word) (others keys : List ℕ) (k : ℕ) : Type 0 where
  front : List Word
  word : Word
  back : List Word
  are : ws ≡ front ++ word ∷ back
  read : ReadAll s others (named_data front)
  number : slice_get n.names k ≡ Some word.name
  same : (m : ℕ) (x : List ℕ) → slice_get n.names m ≡ Some x → list_any (nat_eq m) keys ≡ list_any (λ v. bytes_eq x v.name) back
  fresh : twice back ≡ false

last_left : (s : Source) (n : IsNamed s) (ws : List Word) (left others keys : List ℕ) (id k : ℕ) (found : Option ℕ)
    → Differing s n ws left keys → left ≡ others ++ id ∷ [] → found ≡ level_in (slice_get s.words.now id) → found ≡ Some k
    → LastLeft s n ws others keys k
last_left s n ws left others keys id k found i e f g =
    let r = last_of s left others id (named_data i.front) e i.read in
    let l = last_name i.front r.others r.datum r.are in
    let P : Items → Type 0 = λ ds. ReadAll s others ds in
    let h = n.words id (named_datum l.word) (subst (λ d. Stands s.nodes.now id d) l.datum r.last.stands) in
    let number : Some h.0 ≡ Some k = sym h.1 ∙ (sym f ∙ g) in
    let same : h.0 ≡ k = cc in
    record {
      front = l.others;
      word = l.word;
      back = i.back;
      are = i.are ∙ (ap (λ x. x ++ i.back) l.are ∙ append_assoc l.others (l.word ∷ []) i.back);
      read = subst P (sym l.items) r.rest;
      number = sym (ap (slice_get n.names) same) ∙ h.2;
      same = i.same;
      fresh = i.fresh;
    }

twice_behind : (front back : List Word) → twice back ≡ true → twice (front ++ back) ≡ true
twice_behind [] back e = e
twice_behind (w ∷ ws) back e = ap (λ b. list_any (λ v. bytes_eq w.name v.name) (ws ++ back) || b) (twice_behind ws back e) ∙ or_true _
  where
    or_true : (b : Bool) → (b || true) ≡ true
    or_true true = refl
    or_true false = refl

not_true : (b : Bool) → not b ≡ false → b ≡ true
not_true true e = refl
not_true false e = absurd (cc)

not_false : (b : Bool) → not b ≡ true → b ≡ false
not_false true e = absurd (cc)
not_false false e = refl

-- the number is among those behind
pub found_twice : (s : Source) (n : IsNamed s) (ws : List Word) (left others keys : List ℕ) (id k : ℕ) (found : Option ℕ)
    (is_new : Bool) → Differing s n ws left keys → left ≡ others ++ id ∷ [] → found ≡ level_in (slice_get s.words.now id)
    → found ≡ Some k → is_new ≡ not (list_any (nat_eq k) keys) → is_new ≡ false → true ≡ twice ws
found_twice s n ws left others keys id k found is_new i e f g added old =
    let l = last_left s n ws left others keys id k found i e f g in
    let among : list_any (λ v. bytes_eq l.word.name v.name) l.back ≡ true =
    sym (l.same k l.word.name l.number) ∙ not_true _ (sym added ∙ old)
    in
    sym (ap twice l.are ∙ twice_behind l.front (l.word ∷ l.back) (ap (λ b. b || twice l.back) among))

pub one_differing : (s : Source) (n : IsNamed s) (ws : List Word) (left others keys after : List ℕ) (id k : ℕ) (found : Option ℕ)
    (is_new : Bool) → Differing s n ws left keys → left ≡ others ++ id ∷ [] → found ≡ level_in (slice_get s.words.now id)
    → found ≡ Some k → is_new ≡ not (list_any (nat_eq k) keys) → is_new ≡ true
    → after ≡ (if list_any (nat_eq k) keys then keys else keys ++ k ∷ []) → Differing s n ws others after
one_differing s n ws left others keys after id k found is_new i e f g added new inserted =
    let l = last_left s n ws left others keys id k found i e f g in
    let fresh : list_any (nat_eq k) keys ≡ false = not_false _ (sym added ∙ new) in
    let grown : after ≡ keys ++ k ∷ [] = inserted ∙ ap (λ b. if b then keys else keys ++ k ∷ []) fresh in
    record {
      front = l.front;
      back = l.word ∷ l.back;
      are = l.are;
      read = l.read;
      same =
          λ m x p.
          ap (list_any (nat_eq m)) grown
          ∙ (list_any-append (nat_eq m) keys (k ∷ [])
          ∙ (or_swap _ _
          ∙ (ap (λ b. b || list_any (nat_eq m) keys)
          (same_number s n m k x l.word.name p l.number (nat_eq m k) (bytes_eq x l.word.name) refl refl)
          ∙ ap (λ b. bytes_eq x l.word.name || b) (l.same m x p))));
      fresh = ap (λ b. b || twice l.back) (sym (l.same k l.word.name l.number) ∙ fresh) ∙ l.fresh;
    }
  where
    or_swap : (a b : Bool) → (a || (b || false)) ≡ (b || a)
    or_swap true true = refl
    or_swap true false = refl
    or_swap false true = refl
    or_swap false false = refl

pub all_differing : (s : Source) (n : IsNamed s) (ws : List Word) (left keys : List ℕ) → Differing s n ws left keys → left ≡ []
    → false ≡ twice ws
all_differing s n ws left keys i e =
    let P : List ℕ → Type 0 = λ l. ReadAll s l (named_data i.front) in
    sym (ap twice (i.are ∙ ap (λ l. l ++ i.back) (no_names s i.front (subst P e i.read))) ∙ i.fresh)
  where
    no_names : (t : Source) (vs : List Word) → ReadAll t [] (named_data vs) → vs ≡ []
    no_names t [] h = refl
    no_names t (v ∷ vs) h = let whole = h.stand.2 in absurd (cc)
