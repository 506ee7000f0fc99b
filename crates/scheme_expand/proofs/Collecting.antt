-- Definitions are collected, also out of `begin` forms.
use Rattle.std.proofs.Common.{ℕ, ◌≡◌, List, [], ◌∷◌, ◌++◌, Bool, true, false, length, take, reverse, refl, sym, ap, subst, ◌∙◌, append_assoc}
use Rattle.std.specs.Prelude.{◌&&◌, ◌||◌, if◌then◌else◌, codes}
use Rattle.std.proofs.Math.Bool.{and-true}
use Rattle.std.proofs.Math.Seq.{take-append_seam}
use Rattle.std.proofs.lemmas.List.{append-nil, reverse-append, reverse-reverse}
use Rattle.scheme_base.specs.declared.pos.Pos.{Pos}
use Rattle.datum_form.specs.Data.{Datum, Datum as datum, Items}
use Rattle.datum_form.specs.Data.Items.{none, item}
use Rattle.scheme_expand.specs.declared.source.Source.{Source}
use Rattle.scheme_expand.specs.Forms.{Bindings}
use Rattle.quasi_expand.specs.Shapes.{is_list, is_word, all_items}
use Rattle.scheme_expand.specs.Grammar.{is_define, is_definition, are_definitions, definition, definitions_before, each_definition}
use Rattle.scheme_expand.specs.Shapes.{AreDefinitions, Collects, is_begin, IsBegun}
use Rattle.scheme_expand.specs.Waiting.{Reads, ReadAll, IsList}
use Rattle.scheme_expand.proofs.Parts.{no_items, first_of, joined, read_one, read_joined}

-- Definitions behind definitions

pub each_joined : (ds es : Items) (bs : Bindings)
    → each_definition (joined ds es) bs ≡ each_definition ds (each_definition es bs)
each_joined none es bs = refl
each_joined (item d ds) es bs = ap (definitions_before d) (each_joined ds es bs)

pub definitions_at : (s : Source) (ids js : List ℕ) (ds : Items) → ids ≡ js → AreDefinitions s js ds → AreDefinitions s ids ds
definitions_at s ids js ds e h = let P : List ℕ → Type 0 = λ l. AreDefinitions s l ds in subst P (sym e) h

all_joined : (ds es : Items) → all_items is_define ds ≡ true → all_items is_define es ≡ true
    → all_items is_define (joined ds es) ≡ true
all_joined none es h k = k
all_joined (item d ds) es h k = joined_all (is_define d) h (λ t. all_joined ds es t k)
  where
    joined_all : (b : Bool) {x y : Bool} → (b && x) ≡ true → (x ≡ true → y ≡ true) → (b && y) ≡ true
    joined_all true e f = f e
    joined_all false e f = absurd (cc)

pub definitions_joined : (s : Source) (is js : List ℕ) (ds es : Items) → AreDefinitions s is ds → AreDefinitions s js es
    → AreDefinitions s (is ++ js) (joined ds es)
definitions_joined s is js ds es p q =
    record { read = read_joined s is js ds es p.read q.read; define = all_joined ds es p.define q.define }

are_joined : (ds es : Items) → are_definitions (joined ds es) ≡ (are_definitions ds && are_definitions es)
are_joined none es = refl
are_joined (item d ds) es =
    ap (λ b. is_definition d && b) (are_joined ds es) ∙ and_assoc (is_definition d) (are_definitions ds) (are_definitions es)
  where
    and_assoc : (a b c : Bool) → (a && (b && c)) ≡ ((a && b) && c)
    and_assoc true b c = refl
    and_assoc false b c = refl

-- What an item is

or_left : (a b : Bool) → a ≡ true → (a || b) ≡ true
or_left true b e = refl
or_left false b e = absurd (cc)

pub define_is : (d : Datum) → is_define d ≡ true → is_definition d ≡ true
define_is (datum.Atomic p a) h = absurd (cc)
define_is (datum.List p none) h = absurd (cc)
define_is (datum.List p (item d ds)) h = or_left (is_word (codes "define") d) _ h
define_is (datum.Dotted p none e) h = absurd (cc)
define_is (datum.Dotted p (item d ds) e) h = h
define_is (datum.Vector p is) h = absurd (cc)

begin_is : (p : Pos) (h : Datum) (ds : Items) → is_word (codes "define") h ≡ false → is_word (codes "begin") h ≡ true
    → is_definition (datum.List p (item h ds)) ≡ are_definitions ds
begin_is p h ds e f =
    ap (λ b. b || is_word (codes "begin") h && are_definitions ds) e ∙ ap (λ b. b && are_definitions ds) f

begin_before : (p : Pos) (h : Datum) (ds : Items) (bs : Bindings) → is_word (codes "define") h ≡ false
    → definitions_before (datum.List p (item h ds)) bs ≡ each_definition ds bs
begin_before p h ds bs e = ap (λ b. if b then definition p ds bs else each_definition ds bs) e

neither_is : (d : Datum) → is_define d ≡ false → is_begin d ≡ false → is_definition d ≡ false
neither_is (datum.Atomic p a) h k = refl
neither_is (datum.List p none) h k = refl
neither_is (datum.List p (item d ds)) h k =
    ap (λ b. b || is_word (codes "begin") d && are_definitions ds) h ∙ ap (λ b. b && are_definitions ds) k
neither_is (datum.Dotted p none e) h k = refl
neither_is (datum.Dotted p (item d ds) e) h k = h
neither_is (datum.Vector p is) h k = refl

-- Turns

-- what is collected of a datum, and what is left, the next item last
pub record Collected (s : Source) (d : Datum) (before now stack : List ℕ) : Type 0 where
  pub more : List ℕ
  pub defs : Items
  pub left : Items
  pub longer : now ≡ before ++ more
  pub are : AreDefinitions s more defs
  pub read : ReadAll s (reverse stack) left
  pub same : (bs : Bindings) → definitions_before d bs ≡ each_definition defs (each_definition left bs)
  pub test : is_definition d ≡ are_definitions left

pub none_collected : (s : Source) (id : ℕ) (d : Datum) (before now stack : List ℕ) → Reads s id d → now ≡ before
    → stack ≡ id ∷ [] → Collected s d before now stack
none_collected s id d before now stack h e q =
    let P : List ℕ → Type 0 = λ l. ReadAll s (reverse l) (item d none) in
    record {
      more = [];
      defs = none;
      left = item d none;
      longer = e ∙ sym (append-nil before);
      are = record { read = record { named = h.named; stand = refl }; define = refl };
      read = subst P (sym q) (read_one s id d h);
      same = λ bs. refl;
      test = sym (and-true (is_definition d));
    }

-- the next item
record Next (s : Source) (d : Datum) (before now stack : List ℕ) (id : ℕ) : Type 0 where
  more : List ℕ
  defs : Items
  next : Datum
  others : Items
  longer : now ≡ before ++ more
  are : AreDefinitions s more defs
  reads : Reads s id next
  read : ReadAll s (reverse stack) others
  same : (bs : Bindings) → definitions_before d bs ≡ each_definition defs (definitions_before next (each_definition others bs))
  test : is_definition d ≡ (is_definition next && are_definitions others)

next_of : (s : Source) (d : Datum) (before now stack rest : List ℕ) (id : ℕ) → Collected s d before now stack
    → stack ≡ rest ++ id ∷ [] → Next s d before now rest id
next_of s d before now stack rest id i e =
    let f = first_of s (reverse stack) id (reverse rest) i.left (ap reverse e ∙ reverse-append rest (id ∷ [])) i.read in
    record {
      more = i.more;
      defs = i.defs;
      next = f.datum;
      others = f.others;
      longer = i.longer;
      are = i.are;
      reads = f.first;
      read = f.rest;
      same = λ bs. i.same bs ∙ ap (λ l. each_definition i.defs (each_definition l bs)) f.are;
      test = i.test ∙ ap are_definitions f.are;
    }

pub one_collected : (s : Source) (d : Datum) (before now after stack rest : List ℕ) (id : ℕ) → Collected s d before now stack
    → stack ≡ rest ++ id ∷ [] → after ≡ now ++ id ∷ [] → ((e : Datum) → Reads s id e → is_define e ≡ true)
    → Collected s d before after rest
one_collected s d before now after stack rest id i e q define =
    let n = next_of s d before now stack rest id i e in
    let is = define n.next n.reads in
    let one : AreDefinitions s (id ∷ []) (item n.next none) =
    record { read = read_one s id n.next n.reads; define = ap (λ b. b && true) is }
    in
    record {
      more = n.more ++ id ∷ [];
      defs = joined n.defs (item n.next none);
      left = n.others;
      longer = q ∙ (ap (λ l. l ++ id ∷ []) n.longer ∙ append_assoc before n.more (id ∷ []));
      are = definitions_joined s n.more (id ∷ []) n.defs (item n.next none) n.are one;
      read = n.read;
      same = λ bs. n.same bs ∙ sym (each_joined n.defs (item n.next none) (each_definition n.others bs));
      test = n.test ∙ ap (λ b. b && are_definitions n.others) (define_is n.next is);
    }

pub begin_collected : (s : Source) (d : Datum) (before now same_now stack rest after ids : List ℕ) (id : ℕ)
    → Collected s d before now stack → stack ≡ rest ++ id ∷ [] → after ≡ rest ++ reverse ids → same_now ≡ now
    → ((e : Datum) → Reads s id e → is_define e ≡ false) → ((e : Datum) → Reads s id e → IsBegun s ids e)
    → Collected s d before same_now after
begin_collected s d before now same_now stack rest after ids id i e q kept define begun =
    let n = next_of s d before now stack rest id i e in
    let b = begun n.next n.reads in
    let P : Datum → Type 0 = λ x. is_define x ≡ false in
    let other : is_word (codes "define") b.head ≡ false = subst P b.are (define n.next n.reads) in
    let Q : List ℕ → Type 0 = λ l. ReadAll s l (joined b.items n.others) in
    let order : ids ++ reverse rest ≡ reverse after =
    sym (ap reverse q ∙ (reverse-append rest (reverse ids) ∙ ap (λ l. l ++ reverse rest) (reverse-reverse ids)))
    in
    record {
      more = n.more;
      defs = n.defs;
      left = joined b.items n.others;
      longer = kept ∙ n.longer;
      are = n.are;
      read = subst Q order (read_joined s ids (reverse rest) b.items n.others b.read n.read);
      same =
          λ bs.
          n.same bs
          ∙ ap (each_definition n.defs)
          (ap (λ x. definitions_before x (each_definition n.others bs)) b.are
          ∙ (begin_before b.at b.head b.items (each_definition n.others bs) other ∙ sym (each_joined b.items n.others bs)));
      test =
          n.test
          ∙ (ap (λ x. is_definition x && are_definitions n.others) b.are
          ∙ (ap (λ x. x && are_definitions n.others) (begin_is b.at b.head b.items other b.begins)
          ∙ sym (are_joined b.items n.others)));
    }

pub not_collected : (s : Source) (d : Datum) (before now after stack rest : List ℕ) (id start : ℕ)
    → Collected s d before now stack → stack ≡ rest ++ id ∷ [] → ((e : Datum) → Reads s id e → is_define e ≡ false)
    → ((e : Datum) → Reads s id e → is_begin e ≡ false) → after ≡ take start now → start ≡ length before
    → Collects s d before after false
not_collected s d before now after stack rest id start i e define begin q k =
    let n = next_of s d before now stack rest id i e in (
      q ∙ (ap (λ m. take m now) k ∙ (ap (take (length before)) n.longer ∙ take-append_seam before n.more)),
      n.test ∙ ap (λ b. b && are_definitions n.others) (neither_is n.next (define n.next n.reads) (begin n.next n.reads)),
    )

pub all_collected : (s : Source) (d : Datum) (before now stack : List ℕ) → Collected s d before now stack → stack ≡ []
    → Collects s d before now true
all_collected s d before now stack i e =
    let P : List ℕ → Type 0 = λ l. ReadAll s (reverse l) i.left in
    let over = no_items s [] i.left refl (subst P e i.read) in (
      i.more,
      i.defs,
      i.longer,
      i.are,
      i.test ∙ ap are_definitions over,
      λ bs. i.same bs ∙ ap (λ l. each_definition i.defs (each_definition l bs)) over,
    )

-- What begins with `begin`

pub no_begin : (d : Datum) → is_list d ≡ false → is_begin d ≡ false
no_begin (datum.Atomic p a) h = refl
no_begin (datum.List p is) h = absurd (cc)
no_begin (datum.Dotted p is d) h = refl
no_begin (datum.Vector p is) h = refl

pub empty_begin : (s : Source) (ids : List ℕ) (d : Datum) → IsList s ids d → ids ≡ [] → is_begin d ≡ false
empty_begin s ids d i e = ap is_begin (i.are ∙ ap (datum.List i.at) (no_items s ids i.items e i.read))

pub begun_read : (s : Source) (ids others : List ℕ) (id : ℕ) (d : Datum) → IsList s ids d → ids ≡ id ∷ others
    → ((e : Datum) → Reads s id e → is_word (codes "begin") e ≡ true) → IsBegun s others d
begun_read s ids others id d i e word =
    let f = first_of s ids id others i.items e i.read in
    record {
      at = i.at;
      head = f.datum;
      items = f.others;
      are = i.are ∙ ap (datum.List i.at) f.are;
      begins = word f.datum f.first;
      read = f.rest;
    }

pub not_begun : (s : Source) (ids others : List ℕ) (id : ℕ) (d : Datum) → IsList s ids d → ids ≡ id ∷ others
    → ((e : Datum) → Reads s id e → is_word (codes "begin") e ≡ false) → is_begin d ≡ false
not_begun s ids others id d i e word =
    let f = first_of s ids id others i.items e i.read in
    ap is_begin (i.are ∙ ap (datum.List i.at) f.are) ∙ word f.datum f.first
