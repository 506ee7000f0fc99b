-- What the definitions of the library use, and what is reached.
use Rattle.std.proofs.Common.{◌≡◌, ℕ, ◌+◌, ◌<◌, ◌≤◌, List, [], ◌∷◌, ◌++◌, length, take, get_or, refl, sym, ap, subst, ◌∙◌}
use Rattle.std.specs.Prelude.{map}
use Rattle.std.proofs.lemmas.List.{map-append, take_more}
use Rattle.prelude_text.specs.Closure.{closure, AreNumbers, AreUses, IsClosure}
use Rattle.prelude_text.proofs.Spreading.{one as one_closed, found as closure_closed}
use Rattle.draft_form.specs.declared.draft.Drafts.{Drafts as Table}
use Rattle.draft_form.specs.Drafts.{Draft, Drafts, none, item, ◌then◌, parts}
use Rattle.draft_form.specs.Drawn.{Names, Data, Drawn, AllDrawn}
use Rattle.draft_form.proofs.LiteralsAdded.{taken_all}
use Rattle.scheme_expand.specs.ByWord.{reached_from, uses_in}
use Rattle.scheme_expand.specs.Programs.{as_list, libraries, numbers_of}
use Rattle.scheme_expand.proofs.FormsBehind.{last_drawn, no_drafts}

list-then : (es fs : Drafts) → as_list (es then fs) ≡ as_list es ++ as_list fs
list-then none fs = refl
list-then (item e es) fs = ap (λ l. e ∷ l) (list-then es fs)

abbrev uses_of : List (List ℕ) → Draft → List ℕ
uses_of defined e = numbers_of defined (libraries (parts e))

uses_behind : (defined : List (List ℕ)) (es : Drafts) (e : Draft) → uses_in defined (es then item e none) ≡ uses_in defined es ++ uses_of defined e ∷ []
uses_behind defined es e =
    ap (map (uses_of defined)) (list-then es (item e none)) ∙ map-append (uses_of defined) (as_list es) (e ∷ [])

-- for these forms, which are definitions, these are their uses
abbrev pub AreUsesOf : Names → Data → Table → List (List ℕ) → (forms : List ℕ) → List (List ℕ) → Type 0
AreUsesOf names data_nodes t defined forms uses = (ds : Drafts) → AllDrawn names data_nodes t forms ds → uses ≡ uses_in defined ds

pub no_uses : (names : Names) (data_nodes : Data) (t : Table) (defined : List (List ℕ)) (uses : List (List ℕ)) → uses ≡ []
    → AreUsesOf names data_nodes t defined [] uses
no_uses names data_nodes t defined uses empty ds all =
    empty ∙ ap (uses_in defined) (sym (no_drafts names data_nodes t [] ds refl all))

pub more_uses : (names : Names) (data_nodes : Data) (t : Table) (defined : List (List ℕ)) (forms : List ℕ) (i : ℕ) (uses later : List (List ℕ)) (used : List ℕ)
    → i < length forms → AreUsesOf names data_nodes t defined (take i forms) uses
    → ((e : Draft) → Drawn names data_nodes t (get_or forms i 0) e → used ≡ numbers_of defined (libraries (parts e)))
    → later ≡ uses ++ used ∷ [] → AreUsesOf names data_nodes t defined (take (i + 1) forms) later
more_uses names data_nodes t defined forms i uses later used within first next pushed ds all =
    let A : List ℕ → Type 0 = λ is. AllDrawn names data_nodes t is ds in
    let r = last_drawn names data_nodes t (take i forms) (get_or forms i 0) ds (subst A (take_more forms i 0 within) all) in
    pushed
    ∙ (ap (λ l. l ++ used ∷ []) (first r.before r.all)
    ∙ (ap (λ u. uses_in defined r.before ++ u ∷ []) (next r.last r.drawn)
    ∙ (sym (uses_behind defined r.before r.last) ∙ ap (uses_in defined) (sym r.is))))

pub all_uses : (names : Names) (data_nodes : Data) (t : Table) (defined : List (List ℕ)) (forms : List ℕ) (i : ℕ) (uses : List (List ℕ)) → length forms ≤ i
    → AreUsesOf names data_nodes t defined (take i forms) uses → AreUsesOf names data_nodes t defined forms uses
all_uses names data_nodes t defined forms i uses past h =
    let P : List ℕ → Type 0 = λ is. AreUsesOf names data_nodes t defined is uses in subst P (taken_all forms i past) h

pub reached_are : (uses : List (List ℕ)) (from ids : List ℕ) (defined xs : List (List ℕ)) (ds : Drafts) → AreUses (length uses) uses
    → AreNumbers (length uses) from → IsClosure uses from ids → uses ≡ uses_in defined ds → from ≡ numbers_of defined xs
    → ids ≡ reached_from defined ds xs
reached_are uses from ids defined xs ds uses_within from_within h e f =
    one_closed uses from ids (closure uses from) h (closure_closed uses from uses_within from_within)
    ∙ (ap (λ us. closure us from) e ∙ ap (closure (uses_in defined ds)) f)
