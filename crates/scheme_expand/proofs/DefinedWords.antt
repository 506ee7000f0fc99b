-- The words of the names that data define, one after another.
use Rattle.std.proofs.Common.{ℕ, ◌≡◌, List, [], ◌∷◌, ◌++◌, Option, Some, true, false, ◌||◌, if◌then◌else◌, refl, sym, ap, subst, ◌∙◌, append_assoc, append-nil, bytes_eq}
use Rattle.std.specs.Prelude.{map, slice_get}
use Rattle.std.proofs.lemmas.List.{map-append}
use Rattle.datum_form.specs.declared.datums.Kind.TheVariants as kind
use Rattle.datum_form.specs.Data.{Datum, Items}
use Rattle.datum_form.specs.Data.Items.{item}
use Rattle.draft_form.specs.Drawn.{name_or_none, word_name, Names}
use Rattle.scheme_expand.specs.declared.body.Definition.{Definition}
use Rattle.scheme_expand.specs.declared.source.Source.{Source}
use Rattle.scheme_expand.specs.ByWord.{all_names, AreDefined, DefinesWord, HaveOneWord}
use Rattle.scheme_expand.specs.Forms.{no_binding, evaluated, defining}
use Rattle.scheme_expand.specs.Grammar.{definitions_before, expr, forms, is_define}
use Rattle.scheme_expand.specs.Naming.{AreDistinct, AreNamed}
use Rattle.scheme_expand.specs.Noted.{level_in}
use Rattle.scheme_expand.specs.Programs.{binding_names, defined}
use Rattle.scheme_expand.specs.Rewriting.{has_name}
use Rattle.scheme_expand.specs.Shapes.{IsDefined}
use Rattle.scheme_expand.specs.Symbols.{AreSpelled}
use Rattle.scheme_expand.specs.Waiting.{place, Reads, ReadAll}
use Rattle.scheme_expand.proofs.Collecting.{define_is}
use Rattle.scheme_expand.proofs.FirstNames.{has_behind}
use Rattle.scheme_expand.proofs.Parts.{first_of, no_items}
use Rattle.scheme_expand.proofs.Scoping.{apart}
use Rattle.scheme_expand.proofs.Spelled.{one_word}
use Rattle.scheme_expand.proofs.SymbolsListed.{word_listed}

pub word_defined : (s : Source) (names : Names) (def : Definition) (found : Option ℕ) (word : ℕ) (d : Datum)
    → AreSpelled names s.nodes.now s.words.now → is_define d ≡ true → IsDefined s def (place d) (definitions_before d)
    → found ≡ level_in (slice_get s.words.now def.name) → found ≡ Some word → DefinesWord names word d
word_defined s names def found word d spelled define i e f =
    let t = spelled def.name (record { kind = kind.Name i.word.name; pos = i.word.place }) i.name.stands in
    let at : level_in (slice_get s.words.now def.name) ≡ Some t.0 = t.2 in
    let same : t.0 ≡ word = cc in
    let name : word_name names word ≡ i.word.name = ap (word_name names) (sym same) ∙ (ap name_or_none t.3 ∙ t.4) in
    let P : List ℕ → Type 0 = λ x. has_name (all_names names) x ≡ true in
    record {
      define = define;
      name = ap binding_names (i.binds no_binding) ∙ ap (λ x. x ∷ []) (sym name);
      listed = subst P (t.4 ∙ sym name) (word_listed names t.0 t.1 t.3);
    }

-- of data the first ones define these names, and the others are left
pub record SomeDefined (names : Names) (s : Source) (words rest : List ℕ) (ds : Items) : Type 0 where
  pub front : List (List ℕ)
  pub left : Items
  pub are : defined (forms ds) ≡ front ++ defined (forms left)
  pub words_are : map (word_name names) words ≡ front
  pub named : has_name (all_names names) [] ≡ false → has_name front [] ≡ false
  pub read : ReadAll s rest left

pub none_defined : (names : Names) (s : Source) (words rest : List ℕ) (ds : Items) → words ≡ [] → ReadAll s rest ds
    → SomeDefined names s words rest ds
none_defined names s words rest ds e h =
    record { front = []; left = ds; are = refl; words_are = ap (map (word_name names)) e; named = λ n. refl; read = h }

first_defined : (d : Datum) (ds : Items) (x : List ℕ) → is_define d ≡ true → binding_names (definitions_before d no_binding) ≡ x ∷ []
    → defined (forms (item d ds)) ≡ x ∷ defined (forms ds)
first_defined d ds x define name =
    ap (λ b. defined (if b then defining (definitions_before d no_binding) (forms ds) else evaluated (expr d) (forms ds)))
    (define_is d define)
    ∙ ap (λ l. l ++ defined (forms ds)) name

-- a name that is listed is not empty where the empty one is not
not_empty : (listed : List (List ℕ)) (x : List ℕ) → has_name listed x ≡ true → has_name listed [] ≡ false → bytes_eq [] x ≡ false
not_empty listed [] there named = absurd (apart (sym there ∙ named))
not_empty listed (b ∷ x) there named = refl

pub one_defined : (names : Names) (s : Source) (words after rest others : List ℕ) (id word : ℕ) (ds : Items)
    → SomeDefined names s words rest ds → rest ≡ id ∷ others → ((d : Datum) → Reads s id d → DefinesWord names word d)
    → after ≡ words ++ word ∷ [] → SomeDefined names s after others ds
one_defined names s words after rest others id word ds i e one pushed =
    let r = first_of s rest id others i.left e i.read in
    let k = one r.datum r.first in
    let x : List ℕ = word_name names word in
    record {
      front = i.front ++ x ∷ [];
      left = r.others;
      are =
          i.are
          ∙ (ap (λ l. i.front ++ defined (forms l)) r.are
          ∙ (ap (λ l. i.front ++ l) (first_defined r.datum r.others x k.define k.name)
          ∙ sym (append_assoc i.front (x ∷ []) (defined (forms r.others)))));
      words_are =
          ap (map (word_name names)) pushed
          ∙ (map-append (word_name names) words (word ∷ []) ∙ ap (λ l. l ++ x ∷ []) i.words_are);
      named = λ n.
          has_behind i.front x []
          ∙ (ap (λ b. b || bytes_eq [] x) (i.named n) ∙ not_empty (all_names names) x k.listed n);
      read = r.rest;
    }

pub all_defined : (names : Names) (s : Source) (words rest : List ℕ) (ds : Items) → SomeDefined names s words rest ds
    → rest ≡ [] → AreDefined names words ds
all_defined names s words rest ds i e =
    let whole : defined (forms ds) ≡ i.front =
    i.are ∙ (ap (λ l. i.front ++ defined (forms l)) (no_items s rest i.left e i.read) ∙ append-nil i.front)
    in
    let P : List (List ℕ) → Type 0 = λ l. has_name l [] ≡ false in
    record { are = i.words_are ∙ sym whole; named = λ n. subst P (sym whole) (i.named n) }

-- each name that is defined has one word
pub defined_words : (names : Names) (words : List ℕ) (ds : Items) → AreDistinct (all_names names) → AreNamed (all_names names)
    → AreDefined names words ds → HaveOneWord names (map (word_name names) words)
defined_words names words ds distinct named d =
    let P : List (List ℕ) → Type 0 = λ l. has_name l [] ≡ false in
    one_word names (map (word_name names) words) distinct (subst P (sym d.are) (d.named named))
