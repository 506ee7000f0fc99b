-- What the library and the program were expanded to, put together, is what a core is made of.
--
-- `text_suits`: the context of a text whose names have words. `whole_joined`: the whole of what was made.
-- `are_joined`: its parts, where the names of both texts have words.
use Rattle.std.proofs.Common.{ℕ, suc, ◌≡◌, List, [], Option, Bool, false, length, refl, sym, ap, subst, ◌∙◌}
use Rattle.std.specs.Prelude.{codes, map}
use Rattle.std.specs.Borrow.{Bor}
use Rattle.datum_form.specs.declared.datums.Node.{Node}
use Rattle.datum_form.specs.Data.{Items}
use Rattle.scheme_expand.specs.declared.answer.Forms.{Forms as Expansion}
use Rattle.scheme_expand.specs.declared.answer.Program.{Program as Own}
use Rattle.scheme_expand.specs.declared.answer.Texts.{Texts}
use Rattle.scheme_expand.specs.declared.assemble.Expanded.{Expanded}
use Rattle.scheme_expand.specs.declared.source.Source.{Source}
use Rattle.scheme_expand.specs.declared.words.Helpers.{Helpers}
use Rattle.scheme_expand.specs.declared.words.Words.{Words}
use Rattle.scheme_expand.specs.Assembled.{AreJoined, AreNumbered, IsWhole}
use Rattle.scheme_expand.specs.ByWord.{all_names, AreDefined, HaveOneWord, Marks}
use Rattle.scheme_expand.specs.Naming.{name_list, AreWordsOf, Grows, HasHelpers, IsTable, Names as Numbered}
use Rattle.scheme_expand.specs.Rewriting.{has_name, Side}
use Rattle.scheme_expand.specs.Programs.{as_list}
use Rattle.scheme_expand.specs.Symbols.{AreSpelled}
use Rattle.scheme_expand.specs.Viewed.{Suits}
use Rattle.scheme_expand.proofs.Numbering.{get_front, has_word, table_grows, words_stay}
use Rattle.scheme_expand.proofs.Spelled.{all_spelled, name_is, one_word, words_listed}
use Rattle.scheme_expand.proofs.DefinedWords.{defined_words}
use Rattle.draft_form.specs.declared.draft.Drafts.{Drafts as Table}
use Rattle.draft_form.specs.Drafts.{Drafts, none, item}
use Rattle.draft_form.specs.Drawn.{word_name, Data, Names, AllDrawn}

-- Contexts

pub text_suits : (side : Side) (w : Words) (s : Source) → IsTable (name_list w) → HasHelpers (name_list w) w.helpers
    → AreWordsOf (name_list w) s.words.now s.nodes.now → Suits (record { source = s; names = w.names.keys; side = side }) w s
text_suits side w s table helpers words = record {
  fits = record { words = λ id d h. has_word (name_list w) s.words.now s.nodes.now id d words h; table = table; named = table.named };
  source = refl;
  names = refl;
  helpers = record {
    join = name_is w.names.keys w.helpers.join _ helpers.join;
    list_to_vector = name_is w.names.keys w.helpers.list_to_vector _ helpers.list_to_vector;
  };
}

-- Words

helpers_grow : (a b : List (List ℕ)) (h : Helpers) → Grows a b → HasHelpers a h → HasHelpers b h
helpers_grow a b h g i =
    let P : List (List ℕ) → Type 0 = λ names. HasHelpers names h in
    subst P (sym g.adds.longer) (record {
      join = get_front a g.more h.join (codes "%join") i.join;
      list_to_vector = get_front a g.more h.list_to_vector (codes "list->vector") i.list_to_vector;
    })

-- the names of two texts, numbered one text after the other
pub texts_numbered : (a b c : Words) (f g : List (Option ℕ)) (nodes others : List Node) (l p : Source) → IsTable (name_list a)
    → HasHelpers (name_list a) a.helpers → Numbered (name_list a) (name_list b) f nodes → Numbered (name_list b) (name_list c) g others
    → c.helpers ≡ a.helpers → l.nodes.now ≡ nodes → l.words.now ≡ f → p.nodes.now ≡ others → p.words.now ≡ g
    → AreNumbered c l p
texts_numbered a b c f g nodes others l p t h m n same ln lw pn pw =
    let P : Helpers → Type 0 = λ x. HasHelpers (name_list c) x in
    let Q : List Node → Type 0 = λ x. AreWordsOf (name_list c) f x in
    let R : List (Option ℕ) → Type 0 = λ x. AreWordsOf (name_list c) x l.nodes.now in
    let S : List Node → Type 0 = λ x. AreWordsOf (name_list c) g x in
    let T : List (Option ℕ) → Type 0 = λ x. AreWordsOf (name_list c) x p.nodes.now in
    record {
      table = table_grows (name_list b) (name_list c) (table_grows (name_list a) (name_list b) t m.grows) n.grows;
      helpers = subst P (sym same) (helpers_grow (name_list b) (name_list c) a.helpers n.grows (helpers_grow (name_list a) (name_list b) a.helpers m.grows h));
      definitions = subst R (sym lw) (subst Q (sym ln) (words_stay (name_list b) (name_list c) f nodes n.grows m.words));
      forms = subst T (sym pw) (subst S (sym pn) n.words);
    }

-- Wholes

drawn_as : (names : Names) (s t : Source) (d f : Table) (ids js : List ℕ) (es : Drafts) → s ≡ t → d ≡ f → ids ≡ js
    → AllDrawn names t.nodes.now f js es → AllDrawn names s.nodes.now d ids es
drawn_as names s t d f ids js es same drafts forms h =
    let P : Source → Type 0 = λ x. AllDrawn names x.nodes.now d ids es in
    let Q : Table → Type 0 = λ x. AllDrawn names t.nodes.now x ids es in
    let R : List ℕ → Type 0 = λ x. AllDrawn names t.nodes.now f x es in
    subst P (sym same) (subst Q (sym drafts) (subst R (sym forms) h))

spelled_as : (names : Names) (s t : Source) → s ≡ t → AreSpelled names t.nodes.now t.words.now → AreSpelled names s.nodes.now s.words.now
spelled_as names s t same h = let P : Source → Type 0 = λ x. AreSpelled names x.nodes.now x.words.now in subst P (sym same) h

-- a whole of these texts, names and words, where its parts are these
pub whole_joined : (own : List (List ℕ)) (ds es : Drafts) (t : Texts) (l : Expansion) (ns : List ℕ) (p : Own)
    (library program : Expanded) (names : Bor (List ℕ)) (flags : Bor (List Bool)) → names.now ≡ ns
    → library.source ≡ t.library → library.drafts.now ≡ l.drafts → library.forms.now ≡ l.forms.items
    → program.source ≡ t.program → program.drafts.now ≡ p.forms.drafts → program.forms.now ≡ p.forms.forms.items
    → flags.now ≡ p.own.items → AreJoined own ds es t l ns p
    → IsWhole own ds es (record { words = t.words; library = library; defined = names; program = program; own = flags })
whole_joined own ds es t l ns p library program names flags n ls ld lf ps pd pf f j =
    let keys : Names = t.words.now.names.keys in
    let P : List ℕ → Type 0 = λ x. HaveOneWord keys (map (word_name keys) x) in
    let Q : List Bool → Type 0 = λ x. Marks keys own x in
    record {
      library = drawn_as keys library.source t.library library.drafts.now l.drafts library.forms.now l.forms.items ds ls ld lf j.library;
      program = drawn_as keys program.source t.program program.drafts.now p.forms.drafts program.forms.now p.forms.forms.items es ps pd pf j.program;
      library_words = spelled_as keys library.source t.library ls j.library_words;
      program_words = spelled_as keys program.source t.program ps j.program_words;
      defined = subst P (sym n) j.defined;
      count = ap length n ∙ (j.count ∙ ap length (sym lf));
      own_words = j.own_words;
      own_marks = subst Q (sym f) j.own_marks;
      words = j.words;
      listed = j.listed;
    }

-- Parts

pub drawn_count : (names : Names) (nodes : Data) (t : Table) (ids : List ℕ) (es : Drafts) → AllDrawn names nodes t ids es
    → length ids ≡ length (as_list es)
drawn_count names nodes t ids none h = ap length h
drawn_count names nodes t ids (item e es) h = ap length h.2 ∙ ap suc (drawn_count names nodes t h.1 es h.4)

-- what was made of a library and of a program whose names have words
pub are_joined : (own : List (List ℕ)) (lib : Items) (ds es : Drafts) (t : Texts) (l : Expansion) (ns : List ℕ) (p : Own)
    → AreNumbered t.words.now t.library t.program → AreDefined t.words.now.names.keys ns lib
    → AllDrawn t.words.now.names.keys t.library.nodes.now l.drafts l.forms.items ds
    → AllDrawn t.words.now.names.keys t.program.nodes.now p.forms.drafts p.forms.forms.items es
    → length ns ≡ length l.forms.items → has_name own [] ≡ false → Marks t.words.now.names.keys own p.own.items
    → AreJoined own ds es t l ns p
are_joined own lib ds es t l ns p n d library program count named marks =
    let keys : Names = t.words.now.names.keys in
    record {
      library = library;
      program = program;
      library_words = all_spelled keys t.library.words.now t.library.nodes.now n.definitions;
      program_words = all_spelled keys t.program.words.now t.program.nodes.now n.forms;
      defined = defined_words keys ns lib n.table.distinct n.table.named d;
      count = count;
      own_words = one_word keys own n.table.distinct named;
      own_marks = marks;
      words = one_word keys (all_names keys) n.table.distinct n.table.named;
      listed = words_listed keys n.table.named;
    }
