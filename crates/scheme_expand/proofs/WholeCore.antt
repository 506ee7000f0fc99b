-- The core of a program with a library is that of the definition.
--
-- `text_read`: the data of a text whose names have words. `core_joined`: the core of what the two texts are expanded to.
use Rattle.std.proofs.Common.{ℕ, ◌≡◌, List, [], ◌∷◌, Bool, true, false, ◌&&◌, ◌||◌, if◌then◌else◌, map, length, refl, sym, ap, subst, ◌∙◌}
use Rattle.std.proofs.lemmas.List.{length-map}
use Rattle.std.proofs.lemmas.Slice.Eq.{bytes_eq-Decides}
use Rattle.std.specs.Str.{bytes_eq}
use Rattle.datum_form.specs.declared.datums.Node.{Node}
use Rattle.datum_form.specs.Data.{Items}
use Rattle.datum_form.specs.Stands.{StandAll}
use Rattle.core_form.specs.declared.program.Program.{Program}
use Rattle.core_form.specs.declared.program.Var.{Var}
use Rattle.scheme_expand.specs.declared.answer.Forms.{Forms as Expansion}
use Rattle.scheme_expand.specs.declared.answer.Program.{Program as Own}
use Rattle.scheme_expand.specs.declared.answer.Texts.{Texts}
use Rattle.scheme_expand.specs.declared.source.Source.{Source}
use Rattle.scheme_expand.specs.declared.words.Words.{Words}
use Rattle.scheme_expand.specs.Assembled.{whole_with, AreJoined, AreNumbered}
use Rattle.scheme_expand.specs.ByWord.{AreDefined, AreListed, HaveOneWord, Marks}
use Rattle.scheme_expand.specs.Faults.{in_forms}
use Rattle.scheme_expand.specs.Grammar.{forms}
use Rattle.scheme_expand.specs.Laws.{IsLibrary}
use Rattle.scheme_expand.specs.Naming.{AreWordsOf, IsTable}
use Rattle.scheme_expand.specs.Programs.{Library, as_list, changed, drafts_with, is_public, library_forms, library_of, library_scope, own_names, placed, program_scope, public_names, IsNumbered}
use Rattle.scheme_expand.specs.Rewriting.{form_cores, has_name, OfLibrary, OfProgram, Side}
use Rattle.scheme_expand.specs.Viewed.{Suits}
use Rattle.scheme_expand.specs.Views.{Context}
use Rattle.scheme_expand.specs.Waiting.{ReadAll}
use Rattle.scheme_expand.proofs.DefinedWords.{defined_words}
use Rattle.scheme_expand.proofs.Joined.{are_joined, drawn_count, text_suits}
use Rattle.scheme_expand.proofs.Numbering.{source_named}
use Rattle.scheme_expand.proofs.OwnNames.{listed_those}
use Rattle.draft_form.specs.Drafts.{Drafts, all_parts}
use Rattle.draft_form.specs.Drawn.{word_name, AllDrawn, Names}

-- Texts

pub text_read : (s : Source) (names : List (List ℕ)) (text : List Node) (tops : List ℕ) (ds : Items) → IsTable names
    → AreWordsOf names s.words.now s.nodes.now → s.nodes.now ≡ text → StandAll text tops ds → ReadAll s tops ds
text_read s names text tops ds table words same h =
    let P : List Node → Type 0 = λ l. StandAll l tops ds in
    record { named = source_named s names table words; stand = subst P (sym same) h }

-- Public names

listed_public : (names : List (List ℕ)) (x : List ℕ) → has_name (public_names names) x ≡ true → has_name names x ≡ true
listed_public [] x h = h
listed_public (y ∷ names) x h = by_test (is_public y) (bytes_eq x y) refl (listed_public names x) h
  where
    by_test : (a b : Bool) → bytes_eq x y ≡ b → (has_name (public_names names) x ≡ true → has_name names x ≡ true)
        → has_name (if a then y ∷ public_names names else public_names names) x ≡ true → (b || has_name names x) ≡ true
    by_test a true e rest i = refl
    by_test true false e rest i = rest (sym (ap (λ b. b || has_name (public_names names) x) e) ∙ i)
    by_test false false e rest i = rest i

none_public : (names : List (List ℕ)) → has_name (public_names names) [] ≡ false
none_public [] = refl
none_public ([] ∷ names) = none_public names
none_public ((b ∷ x) ∷ names) = by_test (is_public (b ∷ x)) (none_public names)
  where
    by_test : (a : Bool) → has_name (public_names names) [] ≡ false
        → has_name (if a then (b ∷ x) ∷ public_names names else public_names names) [] ≡ false
    by_test true rest = rest
    by_test false rest = rest

listed_word : (names : Names) (words : List ℕ) (x : List ℕ) → has_name (map (word_name names) words) x ≡ true
    → (w : ℕ) × (word_name names w ≡ x)
listed_word names [] x h = absurd (let falls : false ≡ true = h in cc)
listed_word names (w ∷ words) x h =
    by_test (bytes_eq x (word_name names w)) refl (λ i. listed_word names words x i) h
  where
    by_test : (b : Bool) → bytes_eq x (word_name names w) ≡ b
        → (has_name (map (word_name names) words) x ≡ true → (v : ℕ) × (word_name names v ≡ x))
        → (b || has_name (map (word_name names) words) x) ≡ true → (v : ℕ) × (word_name names v ≡ x)
    by_test true e rest i = (w, sym ((bytes_eq-Decides x (word_name names w)).0 e))
    by_test false e rest i = rest i

public_listed : (names : Names) (words : List ℕ) (defined : List (List ℕ)) → map (word_name names) words ≡ defined
    → AreListed names (public_names defined)
public_listed names words defined are = record {
  words = λ x h.
      listed_word names words x (ap (λ l. has_name l x) are ∙ listed_public defined x h);
  named = none_public defined;
}

-- The whole

pub core_joined : (lib ds : Items) (t : Texts) (ns : List ℕ) (flags : List Bool) (l : Expansion) (p : Own) (core : Program Var)
    → IsLibrary lib → AreNumbered t.words.now t.library t.program → AreDefined t.words.now.names.keys ns (placed 1 lib)
    → (HaveOneWord t.words.now.names.keys (map (word_name t.words.now.names.keys) ns)
    → Marks t.words.now.names.keys (public_names (map (word_name t.words.now.names.keys) ns)) flags)
    → length flags ≡ length t.words.now.names.keys
    → ((c : Context) → Suits c t.words.now t.library → c.side ≡ OfLibrary → in_forms (library_forms lib) ≡ []
    → AllDrawn c.names c.source.nodes.now l.drafts l.forms.items (form_cores (library_forms lib) library_scope))
    → ((c : Context) (library : Library) → Suits c t.words.now t.program → c.side ≡ OfProgram (public_names library.names) []
    → Marks c.names (public_names library.names) flags → length flags ≡ length c.names
    → AreListed c.names (public_names library.names)
    → Marks c.names (own_names library (forms ds)) p.own.items
    × AllDrawn c.names c.source.nodes.now p.forms.drafts p.forms.forms.items
    (form_cores (forms ds) (program_scope library (own_names library (forms ds)))))
    → ((own : List (List ℕ)) (fs es : Drafts) → AreJoined own fs es t l ns p
    → IsNumbered (whole_with own fs es (map (word_name t.words.now.names.keys) ns)) core)
    → IsNumbered (drafts_with lib ds) core
core_joined lib ds t ns flags l p core is n defined marks size of_library of_program joined =
    let keys : Names = t.words.now.names.keys in
    let library : Library = library_of lib in
    let fs : Drafts = form_cores (library_forms lib) library_scope in
    let own : List (List ℕ) = own_names library (forms ds) in
    let es : Drafts = form_cores (forms ds) (program_scope library own) in
    let side : Side = OfProgram (public_names library.names) [] in
    let P : List (List ℕ) → Type 0 = λ xs. Marks keys (public_names xs) flags in
    let Q : List (List ℕ) → Type 0 = λ xs. IsNumbered (whole_with own fs es xs) core in
    let public : Marks keys (public_names library.names) flags =
    subst P defined.are (marks (defined_words keys ns (placed 1 lib) n.table.distinct n.table.named defined)) in
    let listed : AreListed keys (public_names library.names) = public_listed keys ns library.names defined.are in
    let drawn : AllDrawn keys t.library.nodes.now l.drafts l.forms.items fs =
    of_library (record { source = t.library; names = keys; side = OfLibrary })
    (text_suits OfLibrary t.words.now t.library n.table n.helpers n.definitions) refl is.unbroken in
    let made = of_program (record { source = t.program; names = keys; side = side }) library
    (text_suits side t.words.now t.program n.table n.helpers n.forms) refl public size listed in
    let count : length ns ≡ length l.forms.items =
    sym (length-map ns (word_name keys))
    ∙ (ap length defined.are
    ∙ (is.names ∙ (sym is.definitions ∙ sym (drawn_count keys t.library.nodes.now l.drafts l.forms.items fs drawn)))) in
    let none : has_name own [] ≡ false =
    listed_those (public_names library.names) (changed (all_parts (form_cores (forms ds) (program_scope library [])))) []
    ∙ ap (λ b. b && has_name (changed (all_parts (form_cores (forms ds) (program_scope library [])))) []) listed.named in
    subst Q defined.are
    (joined own fs es (are_joined own (placed 1 lib) fs es t l ns p n defined drawn made.1 count none made.0))
