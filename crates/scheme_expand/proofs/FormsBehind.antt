-- Forms that are added one after another are behind those that were there.
use Rattle.std.proofs.Common.{◌≡◌, ℕ, ◌+◌, ◌<◌, ◌≤◌, List, [], ◌∷◌, ◌++◌, length, take, get_or, refl, sym, ap, subst, ◌∙◌}
use Rattle.std.specs.Prelude.{map}
use Rattle.std.proofs.lemmas.List.{map-append, take_more}
use Rattle.scheme_base.proofs.Lists.{nil-cons, same_head, same_tail}
use Rattle.draft_form.specs.declared.draft.Drafts.{Drafts as Table}
use Rattle.draft_form.specs.declared.growing.Growing.{Growing}
use Rattle.draft_form.specs.declared.level.Levels.{Levels}
use Rattle.draft_form.specs.declared.number.Text.{Text}
use Rattle.draft_form.specs.Drafts.{Draft, Drafts, Top, Library, Ref, Define, none, item, ◌then◌}
use Rattle.draft_form.specs.Drawn.{word_name, Names, Data, Drawn, AllDrawn}
use Rattle.draft_form.specs.Numbered.{HasNumbered}
use Rattle.draft_form.specs.Numbering.{symbols_of}
use Rattle.draft_form.proofs.LiteralsAdded.{taken_all}
use Rattle.scheme_expand.specs.Programs.{outside, starts}

-- Lists of drafts

then_none : (es : Drafts) → (es then none) ≡ es
then_none none = refl
then_none (item e es) = ap (item e) (then_none es)

pub then_assoc : (ds es fs : Drafts) → ((ds then es) then fs) ≡ (ds then (es then fs))
then_assoc none es fs = refl
then_assoc (item d ds) es fs = ap (item d) (then_assoc ds es fs)

-- drafts of which this is the last number
pub record Last (names : Names) (data_nodes : Data) (t : Table) (ids : List ℕ) (id : ℕ) (es : Drafts) : Type 0 where
  pub before : Drafts
  pub last : Draft
  pub is : es ≡ before then item last none
  pub all : AllDrawn names data_nodes t ids before
  pub drawn : Drawn names data_nodes t id last

pub no_drafts : (names : Names) (data_nodes : Data) (t : Table) (ids : List ℕ) (es : Drafts) → ids ≡ [] → AllDrawn names data_nodes t ids es
    → es ≡ none
no_drafts names data_nodes t ids none e h = refl
no_drafts names data_nodes t ids (item d es) e h = absurd (nil-cons h.0 h.1 (sym e ∙ h.2))

pub last_drawn : (names : Names) (data_nodes : Data) (t : Table) (ids : List ℕ) (id : ℕ) (es : Drafts)
    → AllDrawn names data_nodes t (ids ++ id ∷ []) es → Last names data_nodes t ids id es
last_drawn names data_nodes t [] id none h = absurd (nil-cons id [] (sym h))
last_drawn names data_nodes t (i ∷ ids) id none h = absurd (nil-cons i (ids ++ id ∷ []) (sym h))
last_drawn names data_nodes t [] id (item e es) h =
    let D : ℕ → Type 0 = λ k. Drawn names data_nodes t k e in
    record {
      before = none;
      last = e;
      is = ap (item e) (no_drafts names data_nodes t h.1 es (sym (same_tail id h.0 [] h.1 h.2)) h.4);
      all = refl;
      drawn = subst D (sym (same_head id h.0 [] h.1 h.2)) h.3;
    }
last_drawn names data_nodes t (i ∷ ids) id (item e es) h =
    let P : List ℕ → Type 0 = λ is. AllDrawn names data_nodes t is es in
    let D : ℕ → Type 0 = λ k. Drawn names data_nodes t k e in
    let r = last_drawn names data_nodes t ids id es (subst P (sym (same_tail i h.0 (ids ++ id ∷ []) h.1 h.2)) h.4) in
    record {
      before = item e r.before;
      last = r.last;
      is = ap (item e) r.is;
      all = (i, ids, refl, subst D (sym (same_head i h.0 (ids ++ id ∷ []) h.1 h.2)) h.3, r.all);
      drawn = r.drawn;
    }

-- Forms that are numbered

-- with these forms behind those that were there, the core has them numbered
abbrev pub AddsForms : Text → List ℕ → (levels later : Levels) → (before after : Growing) → Type 0
AddsForms text forms levels later before after =
    (ds es : Drafts) → HasNumbered (symbols_of text) ds levels before
    → AllDrawn text.words.now text.nodes.now text.drafts.now forms es → HasNumbered (symbols_of text) (ds then es) later after

pub no_form_added : (text : Text) (levels : Levels) (before : Growing) → AddsForms text [] levels levels before before
no_form_added text levels before ds es h all =
    let P : Drafts → Type 0 = λ fs. HasNumbered (symbols_of text) (ds then fs) levels before in
    let Q : Drafts → Type 0 = λ fs. HasNumbered (symbols_of text) fs levels before in
    subst P (sym (no_drafts text.words.now text.nodes.now text.drafts.now [] es refl all)) (subst Q (sym (then_none ds)) h)

pub form_added : (text : Text) (forms : List ℕ) (i : ℕ) (levels middle later : Levels) (before mid after : Growing) → i < length forms
    → AddsForms text (take i forms) levels middle before mid
    → ((es : Drafts) (e : Draft) → HasNumbered (symbols_of text) es middle mid
    → Drawn text.words.now text.nodes.now text.drafts.now (get_or forms i 0) e
    → HasNumbered (symbols_of text) (es then item e none) later after)
    → AddsForms text (take (i + 1) forms) levels later before after
form_added text forms i levels middle later before mid after within first next ds es h all =
    let A : List ℕ → Type 0 = λ is. AllDrawn text.words.now text.nodes.now text.drafts.now is es in
    let r =
    last_drawn text.words.now text.nodes.now text.drafts.now (take i forms) (get_or forms i 0) es (subst A (take_more forms i 0 within) all) in
    let done = next (ds then r.before) r.last (first ds r.before h r.all) r.drawn in
    let P : Drafts → Type 0 = λ fs. HasNumbered (symbols_of text) fs later after in
    subst P (then_assoc ds r.before (item r.last none) ∙ ap (λ fs. ds then fs) (sym r.is)) done

pub forms_added : (text : Text) (forms : List ℕ) (i : ℕ) (levels later : Levels) (before after : Growing) → length forms ≤ i
    → AddsForms text (take i forms) levels later before after → AddsForms text forms levels later before after
forms_added text forms i levels later before after past h =
    let P : List ℕ → Type 0 = λ is. AddsForms text is levels later before after in subst P (taken_all forms i past) h

-- The program's own variables

starts_behind : (xs : List (List ℕ)) (x : List ℕ) → starts (xs ++ x ∷ []) ≡ (starts xs then starts (x ∷ []))
starts_behind [] x = refl
starts_behind (y ∷ xs) x = ap (item (Define (outside 0) (Top y) (Ref (outside 0) (Library y)))) (starts_behind xs x)

abbrev pub AddsOwn : Text → List ℕ → Levels → (before after : Growing) → Type 0
AddsOwn text words levels before after =
    (ds : Drafts) → HasNumbered (symbols_of text) ds levels before
    → HasNumbered (symbols_of text) (ds then starts (map (word_name text.words.now) words)) levels after

pub no_own_added : (text : Text) (levels : Levels) (before : Growing) → AddsOwn text [] levels before before
no_own_added text levels before ds h =
    let Q : Drafts → Type 0 = λ fs. HasNumbered (symbols_of text) fs levels before in subst Q (sym (then_none ds)) h

pub own_added : (text : Text) (words : List ℕ) (i : ℕ) (levels : Levels) (before mid after : Growing) → i < length words
    → AddsOwn text (take i words) levels before mid
    → ((ds : Drafts) → HasNumbered (symbols_of text) ds levels mid
    → HasNumbered (symbols_of text) (ds then starts (word_name text.words.now (get_or words i 0) ∷ [])) levels after)
    → AddsOwn text (take (i + 1) words) levels before after
own_added text words i levels before mid after within first next ds h =
    let f : ℕ → List ℕ = word_name text.words.now in
    let x : List ℕ = f (get_or words i 0) in
    let xs : List (List ℕ) = map f (take i words) in
    let names : map f (take (i + 1) words) ≡ xs ++ x ∷ [] =
    ap (map f) (take_more words i 0 within) ∙ map-append f (take i words) (get_or words i 0 ∷ []) in
    let P : Drafts → Type 0 = λ fs. HasNumbered (symbols_of text) fs levels after in
    subst P
    (then_assoc ds (starts xs) (starts (x ∷ []))
    ∙ ap (λ fs. ds then fs) (sym (starts_behind xs x) ∙ ap starts (sym names)))
    (next (ds then starts xs) (first ds h))

pub all_own_added : (text : Text) (words : List ℕ) (i : ℕ) (levels : Levels) (before after : Growing) → length words ≤ i
    → AddsOwn text (take i words) levels before after → AddsOwn text words levels before after
all_own_added text words i levels before after past h =
    let P : List ℕ → Type 0 = λ is. AddsOwn text is levels before after in subst P (taken_all words i past) h
