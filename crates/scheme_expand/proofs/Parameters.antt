-- Formals: names in a list, and perhaps one as its tail.
use Rattle.std.proofs.Common.{ℕ, ◌≡◌, List, [], ◌∷◌, ◌++◌, Option, Some, None, Bool, true, false, refl, sym, ap, subst, ◌∙◌}
use Rattle.std.specs.Prelude.{slice_get, ◌&&◌, MatchOption}
use Rattle.datum_form.specs.declared.token.Atom.TheVariants.{Integer, Boolean, Character, String, Symbol}
use Rattle.datum_form.specs.declared.datums.Kind.{Kind}
use Rattle.datum_form.specs.declared.datums.Kind.TheVariants as kind
use Rattle.datum_form.specs.Pending.{IsKind}
use Rattle.datum_form.specs.Stands.{StandAll}
use Rattle.datum_form.specs.Data.{Datum, Datum as datum, Items}
use Rattle.datum_form.specs.Data.Items.{none, item}
use Rattle.scheme_expand.specs.declared.source.Source.{Source}
use Rattle.scheme_expand.specs.declared.formals.Formals.{Formals}
use Rattle.scheme_expand.specs.Forms.{Word}
use Rattle.quasi_expand.specs.Shapes.{is_name}
use Rattle.scheme_expand.specs.Grammar.{and_rest, are_names, words, word, are_formals, params_of, rest_of}
use Rattle.scheme_expand.specs.Noted.{level_in}
use Rattle.scheme_expand.specs.Waiting.{Reads, ReadAll, named_datum, named_data}
use Rattle.scheme_expand.specs.Shapes.{ReadTail, all_names, end_word, IsRest, AreFormals}
use Rattle.scheme_expand.proofs.Operators.{name_read}
use Rattle.scheme_expand.proofs.Parts.{joined, first_of, no_items, read_one, read_joined}

without_rest : (ws : List Word) → and_rest ws None ≡ ws
without_rest [] = refl
without_rest (w ∷ ws) = ap (λ l. w ∷ l) (without_rest ws)

with_rest : (ws : List Word) (v : Word) → named_data (and_rest ws (Some v)) ≡ joined (named_data ws) (item (named_datum v) none)
with_rest [] v = refl
with_rest (w ∷ ws) v = ap (item (named_datum w)) (with_rest ws v)

pub no_rest : (s : Source) (f : Formals) (ws : List Word) (r : Option Word) (names : List ℕ) → AreFormals s f ws r
    → f.rest ≡ None → names ≡ f.params.now → ReadAll s names (named_data (and_rest ws r))
no_rest s f ws r names h e same =
    let P : Option ℕ → Type 0 = λ end. IsRest s end r in
    let none_there : r ≡ None = subst P e h.rest in
    let Q : List Word → Type 0 = λ vs. ReadAll s names (named_data vs) in
    let R : List ℕ → Type 0 = λ is. ReadAll s is (named_data ws) in
    subst Q (sym (ap (and_rest ws) none_there ∙ without_rest ws)) (subst R (sym same) h.params)

pub one_rest : (s : Source) (f : Formals) (ws : List Word) (r : Option Word) (names : List ℕ) (id : ℕ) → AreFormals s f ws r
    → f.rest ≡ Some id → names ≡ f.params.now ++ id ∷ [] → ReadAll s names (named_data (and_rest ws r))
one_rest s f ws r names id h e same =
    let P : Option ℕ → Type 0 = λ end. IsRest s end r in
    let there = subst P e h.rest in
    let v = there.0 in
    let Q : Items → Type 0 = λ ds. ReadAll s names ds in
    let R : List ℕ → Type 0 = λ is. ReadAll s is (joined (named_data ws) (item (named_datum v) none)) in
    subst Q (sym (ap (λ x. named_data (and_rest ws x)) there.2 ∙ with_rest ws v))
    (subst R (sym same)
    (read_joined s f.params.now (id ∷ []) (named_data ws) (item (named_datum v) none) h.params
    (read_one s id (named_datum v) there.1)))

-- Names in a list, as far as they are read

pub record NamesRead (s : Source) (left : List ℕ) (ds : Items) : Type 0 where
  pub names : List Word
  pub others : Items
  pub are : ds ≡ joined (named_data names) others
  pub read : ReadAll s left others

pub none_read : (s : Source) (ids : List ℕ) (ds : Items) → ReadAll s ids ds → NamesRead s ids ds
none_read s ids ds h = record { names = []; others = ds; are = refl; read = h }

one_more : (ws : List Word) (v : Word) (os : Items)
    → joined (named_data ws) (item (named_datum v) os) ≡ joined (named_data (ws ++ v ∷ [])) os
one_more [] v os = refl
one_more (w ∷ ws) v os = ap (item (named_datum w)) (one_more ws v os)

pub name_more : (s : Source) (left others : List ℕ) (id w : ℕ) (r : Option ℕ) (ds : Items) → NamesRead s left ds
    → left ≡ id ∷ others → r ≡ level_in (slice_get s.words.now id) → r ≡ Some w → NamesRead s others ds
name_more s left others id w r ds i e word some =
    let f = first_of s left id others i.others e i.read in
    let n = name_read s id f.datum w r f.first word some in
    record {
      names = i.names ++ n.0 ∷ [];
      others = f.others;
      are =
          i.are
          ∙ (ap (joined (named_data i.names)) (f.are ∙ ap (λ d. item d f.others) n.1) ∙ one_more i.names n.0 f.others);
      read = f.rest;
    }

pub not_named : (s : Source) (id : ℕ) (d : Datum) (r : Option ℕ) → Reads s id d → r ≡ level_in (slice_get s.words.now id)
    → r ≡ None → is_name d ≡ false
not_named s id (datum.Atomic p (Symbol x)) r h e f =
    absurd (let n = h.named.words id (datum.Atomic p (Symbol x)) h.stands in let g : None ≡ Some n.0 = sym f ∙ (e ∙ n.1) in cc)
not_named s id (datum.Atomic p (Integer z)) r h e f = refl
not_named s id (datum.Atomic p (Boolean b)) r h e f = refl
not_named s id (datum.Atomic p (Character c)) r h e f = refl
not_named s id (datum.Atomic p (String t)) r h e f = refl
not_named s id (datum.List p is) r h e f = refl
not_named s id (datum.Dotted p is d) r h e f = refl
not_named s id (datum.Vector p is) r h e f = refl

and_left : (a b : Bool) → a ≡ false → (a && b) ≡ false
and_left true b e = absurd (cc)
and_left false b e = refl

and_both : (a b : Bool) → a ≡ true → b ≡ true → (a && b) ≡ true
and_both true b p q = q
and_both false b p q = absurd (cc)

and_right : (a b : Bool) → a ≡ true → b ≡ false → (a && b) ≡ false
and_right true b p q = q
and_right false b p q = refl

no_name_among : (ws : List Word) (d : Datum) (os : Items) → is_name d ≡ false
    → are_names (joined (named_data ws) (item d os)) ≡ false
no_name_among [] d os e = and_left (is_name d) (are_names os) e
no_name_among (w ∷ ws) d os e = no_name_among ws d os e

all_false : (ds : Items) (end : Option Datum) → are_names ds ≡ false → all_names ds end ≡ false
all_false ds None e = e
all_false ds (Some d) e = and_left (are_names ds) (is_name d) e

-- an item that is no name
pub broken_name : (s : Source) (left others : List ℕ) (id : ℕ) (r : Option ℕ) (ds : Items) (end : Option Datum)
    → NamesRead s left ds → left ≡ id ∷ others → r ≡ level_in (slice_get s.words.now id) → r ≡ None
    → all_names ds end ≡ false
broken_name s left others id r ds end i e word empty =
    let f = first_of s left id others i.others e i.read in
    all_false ds end
    (ap are_names (i.are ∙ ap (joined (named_data i.names)) f.are)
    ∙ no_name_among i.names f.datum f.others (not_named s id f.datum r f.first word empty))

names_are : (ws : List Word) → are_names (joined (named_data ws) none) ≡ true
names_are [] = refl
names_are (w ∷ ws) = names_are ws

words_are : (ws : List Word) → words (joined (named_data ws) none) ≡ ws
words_are [] = refl
words_are (w ∷ ws) = ap (λ l. w ∷ l) (words_are ws)

joined_none : (ds : Items) → joined ds none ≡ ds
joined_none none = refl
joined_none (item d ds) = ap (item d) (joined_none ds)

record AllRead (s : Source) (ids : List ℕ) (ds : Items) : Type 0 where
  are : are_names ds ≡ true
  read : ReadAll s ids (named_data (words ds))

all_read : (s : Source) (ids left : List ℕ) (ds : Items) → ReadAll s ids ds → NamesRead s left ds → left ≡ [] → AllRead s ids ds
all_read s ids left ds h i e =
    let same : ds ≡ joined (named_data i.names) none =
    i.are ∙ ap (joined (named_data i.names)) (no_items s left i.others e i.read)
    in
    let P : Items → Type 0 = λ l. ReadAll s ids l in
    record {
      are = ap are_names same ∙ names_are i.names;
      read = subst P (same ∙ (joined_none (named_data i.names) ∙ ap named_data (sym (ap words same ∙ words_are i.names)))) h;
    }

pub no_tail : (s : Source) (params : List ℕ) (f : Formals) (left : List ℕ) (ds : Items) (end : Option Datum)
    → ReadAll s params ds → NamesRead s left ds → left ≡ [] → end ≡ None → f.params.now ≡ params → f.rest ≡ None
    → (all_names ds end ≡ true) × AreFormals s f (words ds) (end_word end)
no_tail s params f left ds end h i e none_there p q =
    let a = all_read s params left ds h i e in
    let P : List ℕ → Type 0 = λ is. ReadAll s is (named_data (words ds)) in
    let Q : Option ℕ → Type 0 = λ r. IsRest s r (end_word end) in (
      ap (all_names ds) none_there ∙ a.are,
      record { params = subst P (sym p) a.read; rest = subst Q (sym q) (ap end_word none_there) },
    )

pub broken_tail : (s : Source) (params left : List ℕ) (id : ℕ) (r : Option ℕ) (ds : Items) (end : Option Datum)
    → ReadAll s params ds → NamesRead s left ds → left ≡ [] → (d : Datum) → Reads s id d → end ≡ Some d
    → r ≡ level_in (slice_get s.words.now id) → r ≡ None → all_names ds end ≡ false
broken_tail s params left id r ds end h i e d k same word empty =
    let a = all_read s params left ds h i e in
    ap (all_names ds) same ∙ and_right (are_names ds) (is_name d) a.are (not_named s id d r k word empty)

pub one_tail : (s : Source) (params : List ℕ) (f : Formals) (left : List ℕ) (id w : ℕ) (r : Option ℕ) (ds : Items)
    (end : Option Datum) → ReadAll s params ds → NamesRead s left ds → left ≡ [] → (d : Datum) → Reads s id d
    → end ≡ Some d → r ≡ level_in (slice_get s.words.now id) → r ≡ Some w → f.params.now ≡ params → f.rest ≡ Some id
    → (all_names ds end ≡ true) × AreFormals s f (words ds) (end_word end)
one_tail s params f left id w r ds end h i e d k same word some p q =
    let a = all_read s params left ds h i e in
    let n = name_read s id d w r k word some in
    let P : List ℕ → Type 0 = λ is. ReadAll s is (named_data (words ds)) in
    let Q : Option ℕ → Type 0 = λ x. IsRest s x (end_word end) in
    let R : Datum → Type 0 = λ x. Reads s id x in (
      ap (all_names ds) same ∙ and_both (are_names ds) (is_name d) a.are (ap is_name n.1),
      record {
        params = subst P (sym p) a.read;
        rest = subst Q (sym q) (n.0, subst R n.1 k, ap end_word (same ∙ ap Some n.1));
      },
    )

-- Formals are a name, or a list of names

abbrev pub IsRead : Source → Option Formals → Items → Option Datum → Type 0
IsRead s found ds end =
    MatchOption found (all_names ds end ≡ false)
    (λ f. (all_names ds end ≡ true) × AreFormals s f (words ds) (end_word end))

pub name_formals : (s : Source) (id : ℕ) (d : Datum) (k : Kind) (x : List ℕ) (f : Formals) → Reads s id d
    → IsKind s.nodes.now k d → k ≡ kind.Name x → f.params.now ≡ [] → f.rest ≡ Some id
    → (are_formals d ≡ true) × AreFormals s f (params_of d) (rest_of d)
name_formals s id (datum.Atomic p (Symbol y)) k x f h i e q r =
    let P : List ℕ → Type 0 = λ is. ReadAll s is none in
    let Q : Option ℕ → Type 0 = λ end. IsRest s end (Some (word p y)) in
    (refl, record { params = subst P (sym q) (record { named = h.named; stand = refl }); rest = subst Q (sym r) (word p y, h, refl) })
name_formals s id (datum.Atomic p (Integer z)) k x f h i e q r = let g : kind.Integer z ≡ kind.Name x = sym i ∙ e in absurd (cc)
name_formals s id (datum.Atomic p (Boolean b)) k x f h i e q r = let g : kind.Boolean b ≡ kind.Name x = sym i ∙ e in absurd (cc)
name_formals s id (datum.Atomic p (Character c)) k x f h i e q r = let g : kind.Char c ≡ kind.Name x = sym i ∙ e in absurd (cc)
name_formals s id (datum.Atomic p (String t)) k x f h i e q r = let g : kind.Text t ≡ kind.Name x = sym i ∙ e in absurd (cc)
name_formals s id (datum.List p is) k x f h i e q r = let g : kind.List i.0 None ≡ kind.Name x = sym i.1 ∙ e in absurd (cc)
name_formals s id (datum.Dotted p is d) k x f h i e q r =
    let g : kind.List i.0 (Some i.1) ≡ kind.Name x = sym i.2 ∙ e in absurd (cc)
name_formals s id (datum.Vector p is) k x f h i e q r = let g : kind.Vector i.0 ≡ kind.Name x = sym i.1 ∙ e in absurd (cc)

pub list_formals : (s : Source) (id : ℕ) (d : Datum) (k : Kind) (ids js : List ℕ) (tail : Option ℕ) (found : Option Formals)
    → Reads s id d → IsKind s.nodes.now k d → k ≡ kind.List js tail → ids ≡ js
    → ((ds : Items) (end : Option Datum) → ReadAll s ids ds → ReadTail s tail end → IsRead s found ds end)
    → MatchOption found (are_formals d ≡ false) (λ f. (are_formals d ≡ true) × AreFormals s f (params_of d) (rest_of d))
list_formals s id (datum.Atomic p (Integer z)) k ids js tail found h i e q g =
    let f : kind.Integer z ≡ kind.List js tail = sym i ∙ e in absurd (cc)
list_formals s id (datum.Atomic p (Boolean b)) k ids js tail found h i e q g =
    let f : kind.Boolean b ≡ kind.List js tail = sym i ∙ e in absurd (cc)
list_formals s id (datum.Atomic p (Character c)) k ids js tail found h i e q g =
    let f : kind.Char c ≡ kind.List js tail = sym i ∙ e in absurd (cc)
list_formals s id (datum.Atomic p (String t)) k ids js tail found h i e q g =
    let f : kind.Text t ≡ kind.List js tail = sym i ∙ e in absurd (cc)
list_formals s id (datum.Atomic p (Symbol x)) k ids js tail found h i e q g =
    let f : kind.Name x ≡ kind.List js tail = sym i ∙ e in absurd (cc)
list_formals s id (datum.Vector p is) k ids js tail found h i e q g =
    let f : kind.Vector i.0 ≡ kind.List js tail = sym i.1 ∙ e in absurd (cc)
list_formals s id (datum.List p is) k ids js tail found h i e q g =
    let f : kind.List i.0 None ≡ kind.List js tail = sym i.1 ∙ e in
    let same : i.0 ≡ js = cc in
    let no_end : None ≡ tail = cc in
    let P : List ℕ → Type 0 = λ l. StandAll s.nodes.now l is in
    let Q : Option ℕ → Type 0 = λ t. ReadTail s t None in
    g is None (record { named = h.named; stand = subst P (same ∙ sym q) i.2 }) (subst Q no_end refl)
list_formals s id (datum.Dotted p is d) k ids js tail found h i e q g =
    let f : kind.List i.0 (Some i.1) ≡ kind.List js tail = sym i.2 ∙ e in
    let same : i.0 ≡ js = cc in
    let an_end : Some i.1 ≡ tail = cc in
    let P : List ℕ → Type 0 = λ l. StandAll s.nodes.now l is in
    let Q : Option ℕ → Type 0 = λ t. ReadTail s t (Some d) in
    g is (Some d) (record { named = h.named; stand = subst P (same ∙ sym q) i.3 })
    (subst Q an_end (d, record { named = h.named; stands = i.4 }, refl))
