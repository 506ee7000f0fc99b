-- The variables that are collected from expressions in order, and the words of some of them.
use Rattle.std.proofs.Common.{◌≡◌, ℕ, ◌+◌, ◌<◌, ◌≤◌, List, [], ◌∷◌, ◌++◌, length, take, get_or, refl, sym, ap, subst, ◌∙◌, append-nil, append_assoc}
use Rattle.std.specs.Prelude.{map}
use Rattle.std.proofs.lemmas.List.{map-append, take_more}
use Rattle.core_form.specs.declared.program.Node.{Node}
use Rattle.core_form.specs.declared.program.What.{What}
use Rattle.core_form.specs.declared.program.What.TheVariants as form
use Rattle.draft_form.specs.declared.draft.Variable.{Variable}
use Rattle.draft_form.specs.declared.draft.Variable.TheVariants as variable
use Rattle.draft_form.specs.declared.draft.Constant.{Constant as Quoted}
use Rattle.draft_form.specs.declared.draft.Constant.TheVariants as quoted
use Rattle.draft_form.specs.declared.draft.Drafts.{Drafts as Table}
use Rattle.draft_form.specs.Drafts.{Name, Part, Local, Fresh, Top, Library, Held, ListsSymbols, Referred, Changed}
use Rattle.draft_form.specs.Drawn.{name_of, word_name, Data, Names}
use Rattle.draft_form.proofs.LiteralsAdded.{taken_all}
use Rattle.scheme_expand.specs.ByWord.{at_most_one, names_in, variables_at, top_words, library_words, AreTaken, HaveOneWord}
use Rattle.scheme_expand.specs.declared.first.Firsts.{Firsts}
use Rattle.scheme_expand.specs.Order.{variable_at, variable_in, variable_of, IsPart, IsQuoted, AreParts}
use Rattle.scheme_expand.specs.Programs.{libraries, tops}

-- Variables in order

variables_behind : (nodes : List (Node Variable)) (ids : List ℕ) (id : ℕ)
    → variables_at nodes (ids ++ id ∷ []) ≡ variables_at nodes ids ++ at_most_one (variable_at nodes id)
variables_behind nodes [] id = append-nil (at_most_one (variable_at nodes id))
variables_behind nodes (i ∷ ids) id =
    ap (λ l. at_most_one (variable_at nodes i) ++ l) (variables_behind nodes ids id)
    ∙ sym (append_assoc (at_most_one (variable_at nodes i)) (variables_at nodes ids) (at_most_one (variable_at nodes id)))

pub variable_collected : (nodes : List (Node Variable)) (order : List ℕ) (i : ℕ) (before after : List Variable) → i < length order
    → before ≡ variables_at nodes (take i order) → after ≡ before ++ at_most_one (variable_at nodes (get_or order i 0))
    → after ≡ variables_at nodes (take (i + 1) order)
variable_collected nodes order i before after within h pushed =
    pushed
    ∙ (ap (λ l. l ++ at_most_one (variable_at nodes (get_or order i 0))) h
    ∙ (sym (variables_behind nodes (take i order) (get_or order i 0)) ∙ ap (variables_at nodes) (sym (take_more order i 0 within))))

pub all_collected : (nodes : List (Node Variable)) (order : List ℕ) (i : ℕ) (vs : List Variable) → length order ≤ i
    → vs ≡ variables_at nodes (take i order) → vs ≡ variables_at nodes order
all_collected nodes order i vs past h = h ∙ ap (variables_at nodes) (taken_all order i past)

-- Top-level variables

pub no_top : (v : Variable) → ((w : ℕ) → v ≡ variable.Top w → ⊥) → top_words (v ∷ []) ≡ []
no_top (variable.Local k w) h = refl
no_top (variable.Fresh k) h = refl
no_top (variable.Top w) h = absurd (h w refl)
no_top (variable.Library w) h = refl

tops-append : (us vs : List Variable) → top_words (us ++ vs) ≡ top_words us ++ top_words vs
tops-append [] vs = refl
tops-append (variable.Local k w ∷ us) vs = tops-append us vs
tops-append (variable.Fresh k ∷ us) vs = tops-append us vs
tops-append (variable.Top w ∷ us) vs = ap (λ l. w ∷ l) (tops-append us vs)
tops-append (variable.Library w ∷ us) vs = tops-append us vs

-- what is taken when one more variable is looked at
abbrev pub Takes : List Variable → (f g : Firsts) → Type 0
Takes vs f g =
    (names : Names) (listed text : List (List ℕ)) → HaveOneWord names listed → AreTaken names listed text f
    → AreTaken names listed (text ++ map (word_name names) (top_words vs)) g

pub more_taken : (names : Names) (listed : List (List ℕ)) (vs : List Variable) (i : ℕ) (v : Variable) (f g : Firsts)
    → take (i + 1) vs ≡ take i vs ++ v ∷ [] → HaveOneWord names listed → Takes (v ∷ []) f g
    → AreTaken names listed (map (word_name names) (top_words (take i vs))) f
    → AreTaken names listed (map (word_name names) (top_words (take (i + 1) vs))) g
more_taken names listed vs i v f g split one next taken =
    let N : List ℕ → List (List ℕ) = map (word_name names) in
    let us : List Variable = take i vs in
    let whole : N (top_words (take (i + 1) vs)) ≡ N (top_words us) ++ N (top_words (v ∷ [])) =
    ap (λ l. N (top_words l)) split
    ∙ (ap N (tops-append us (v ∷ [])) ∙ map-append (word_name names) (top_words us) (top_words (v ∷ []))) in
    let P : List (List ℕ) → Type 0 = λ l. AreTaken names listed l g in
    subst P (sym whole) (next names listed (N (top_words us)) one taken)

pub other_taken : (v : Variable) (f : Firsts) → ((w : ℕ) → v ≡ variable.Top w → ⊥) → Takes (v ∷ []) f f
other_taken v f h names listed text one taken =
    let P : List (List ℕ) → Type 0 = λ l. AreTaken names listed l f in
    subst P (sym (ap (λ l. text ++ map (word_name names) l) (no_top v h) ∙ append-nil text)) taken

pub all_taken : (names : Names) (listed : List (List ℕ)) (vs : List Variable) (i : ℕ) (f : Firsts) → length vs ≤ i
    → AreTaken names listed (map (word_name names) (top_words (take i vs))) f
    → AreTaken names listed (map (word_name names) (top_words vs)) f
all_taken names listed vs i f past h =
    let P : List Variable → Type 0 = λ l. AreTaken names listed (map (word_name names) (top_words l)) f in subst P (taken_all vs i past) h

-- The library's variables

pub no_library : (v : Variable) → ((w : ℕ) → v ≡ variable.Library w → ⊥) → library_words (v ∷ []) ≡ []
no_library (variable.Local k w) h = refl
no_library (variable.Fresh k) h = refl
no_library (variable.Top w) h = refl
no_library (variable.Library w) h = absurd (h w refl)

libraries-append : (us vs : List Variable) → library_words (us ++ vs) ≡ library_words us ++ library_words vs
libraries-append [] vs = refl
libraries-append (variable.Local k w ∷ us) vs = libraries-append us vs
libraries-append (variable.Fresh k ∷ us) vs = libraries-append us vs
libraries-append (variable.Top w ∷ us) vs = libraries-append us vs
libraries-append (variable.Library w ∷ us) vs = ap (λ l. w ∷ l) (libraries-append us vs)

pub word_pushed : (vs : List Variable) (i : ℕ) (v : Variable) (start before after : List ℕ) → take (i + 1) vs ≡ take i vs ++ v ∷ []
    → before ≡ start ++ library_words (take i vs) → after ≡ before ++ library_words (v ∷ [])
    → after ≡ start ++ library_words (take (i + 1) vs)
word_pushed vs i v start before after split h pushed =
    pushed
    ∙ (ap (λ l. l ++ library_words (v ∷ [])) h
    ∙ (append_assoc start (library_words (take i vs)) (library_words (v ∷ []))
    ∙ ap (λ l. start ++ l) (sym (ap library_words split ∙ libraries-append (take i vs) (v ∷ [])))))

pub all_pushed : (vs : List Variable) (i : ℕ) (start after : List ℕ) → length vs ≤ i → after ≡ start ++ library_words (take i vs)
    → after ≡ start ++ library_words vs
all_pushed vs i start after past h = h ∙ ap (λ l. start ++ library_words l) (taken_all vs i past)

-- The names of a text

quoted_names : (data_nodes : Data) (h : Quoted) (first : List Part) → IsQuoted data_nodes h first → [] ≡ names_in first
quoted_names data_nodes (quoted.Datum id) first h = ap names_in (sym h.2)
quoted_names data_nodes (quoted.Rest id from) first h = ap names_in (sym h.2)
quoted_names data_nodes (quoted.Integer z) first h = ap names_in (sym h.2)
quoted_names data_nodes (quoted.Boolean b) first h = ap names_in (sym h.2)
quoted_names data_nodes quoted.Nil first h = ap names_in (sym h.2)
quoted_names data_nodes quoted.Unspecified first h = ap names_in (sym h.2)
quoted_names data_nodes quoted.Undefined first h = ap names_in (sym h.2)
quoted_names data_nodes quoted.Symbols first h = ap names_in (sym h)

part_names : (names : Names) (data_nodes : Data) (t : Table) (what : What Variable) (first : List Part) → IsPart names data_nodes t what first
    → map (name_of names) (at_most_one (variable_in what)) ≡ names_in first
part_names names data_nodes t (form.Const k) first h = quoted_names data_nodes h.0 first h.2
part_names names data_nodes t (form.Ref v) first h = ap names_in (sym h)
part_names names data_nodes t (form.Lambda vs r b) first h = ap names_in (sym h)
part_names names data_nodes t (form.If a b c) first h = ap names_in (sym h)
part_names names data_nodes t (form.Set v b) first h = ap names_in (sym h)
part_names names data_nodes t (form.Call b bs) first h = ap names_in (sym h)
part_names names data_nodes t (form.Prim o bs) first h = ap names_in (sym h)
part_names names data_nodes t (form.Seq bs) first h = ap names_in (sym h)
part_names names data_nodes t (form.Fix vs bs b) first h = ap names_in (sym h)
part_names names data_nodes t (form.Define v b) first h = ap names_in (sym h)

names_in-append : (ps qs : List Part) → names_in (ps ++ qs) ≡ names_in ps ++ names_in qs
names_in-append [] qs = refl
names_in-append (Held c ∷ ps) qs = names_in-append ps qs
names_in-append (ListsSymbols ∷ ps) qs = names_in-append ps qs
names_in-append (Referred x ∷ ps) qs = ap (λ l. x ∷ l) (names_in-append ps qs)
names_in-append (Changed x ∷ ps) qs = ap (λ l. x ∷ l) (names_in-append ps qs)

names_are : (names : Names) (data_nodes : Data) (t : Table) (order : List ℕ) (found : List Part) → AreParts names data_nodes t order found
    → map (name_of names) (variables_at t.exprs.items order) ≡ names_in found
names_are names data_nodes t [] found h = ap names_in (sym h)
names_are names data_nodes t (id ∷ ids) found h =
    let f : Variable → Name = name_of names in
    ap (λ o. map f (at_most_one (variable_of o) ++ variables_at t.exprs.items ids)) h.4
    ∙ (map-append f (at_most_one (variable_in h.0)) (variables_at t.exprs.items ids)
    ∙ (ap (λ l. l ++ map f (variables_at t.exprs.items ids)) (part_names names data_nodes t h.0 h.2 h.5)
    ∙ (ap (λ l. names_in h.2 ++ l) (names_are names data_nodes t ids h.3 h.7)
    ∙ (sym (names_in-append h.2 h.3) ∙ ap names_in (sym h.6)))))

abbrev library_names : List Name → List (List ℕ)
library_names [] = []
library_names (Library x ∷ xs) = x ∷ library_names xs
library_names (x ∷ xs) = library_names xs

libraries_named : (found : List Part) → library_names (names_in found) ≡ libraries found
libraries_named [] = refl
libraries_named (Held c ∷ found) = libraries_named found
libraries_named (ListsSymbols ∷ found) = libraries_named found
libraries_named (Referred (Local k x) ∷ found) = libraries_named found
libraries_named (Referred (Fresh k) ∷ found) = libraries_named found
libraries_named (Referred (Top x) ∷ found) = libraries_named found
libraries_named (Referred (Library x) ∷ found) = ap (λ l. x ∷ l) (libraries_named found)
libraries_named (Changed (Local k x) ∷ found) = libraries_named found
libraries_named (Changed (Fresh k) ∷ found) = libraries_named found
libraries_named (Changed (Top x) ∷ found) = libraries_named found
libraries_named (Changed (Library x) ∷ found) = ap (λ l. x ∷ l) (libraries_named found)

words_named : (names : Names) (vs : List Variable) → map (word_name names) (library_words vs) ≡ library_names (map (name_of names) vs)
words_named names [] = refl
words_named names (variable.Local k w ∷ vs) = words_named names vs
words_named names (variable.Fresh k ∷ vs) = words_named names vs
words_named names (variable.Top w ∷ vs) = words_named names vs
words_named names (variable.Library w ∷ vs) = ap (λ l. word_name names w ∷ l) (words_named names vs)

-- the library's variables among those of some expressions are those of their text
pub libraries_are : (names : Names) (data_nodes : Data) (t : Table) (order : List ℕ) (found : List Part) → AreParts names data_nodes t order found
    → map (word_name names) (library_words (variables_at t.exprs.items order)) ≡ libraries found
libraries_are names data_nodes t order found h =
    words_named names (variables_at t.exprs.items order)
    ∙ (ap library_names (names_are names data_nodes t order found h) ∙ libraries_named found)

abbrev top_names : List Name → List (List ℕ)
top_names [] = []
top_names (Top x ∷ xs) = x ∷ top_names xs
top_names (x ∷ xs) = top_names xs

tops_named : (found : List Part) → top_names (names_in found) ≡ tops found
tops_named [] = refl
tops_named (Held c ∷ found) = tops_named found
tops_named (ListsSymbols ∷ found) = tops_named found
tops_named (Referred (Local k x) ∷ found) = tops_named found
tops_named (Referred (Fresh k) ∷ found) = tops_named found
tops_named (Referred (Top x) ∷ found) = ap (λ l. x ∷ l) (tops_named found)
tops_named (Referred (Library x) ∷ found) = tops_named found
tops_named (Changed (Local k x) ∷ found) = tops_named found
tops_named (Changed (Fresh k) ∷ found) = tops_named found
tops_named (Changed (Top x) ∷ found) = ap (λ l. x ∷ l) (tops_named found)
tops_named (Changed (Library x) ∷ found) = tops_named found

top_words_named : (names : Names) (vs : List Variable) → map (word_name names) (top_words vs) ≡ top_names (map (name_of names) vs)
top_words_named names [] = refl
top_words_named names (variable.Local k w ∷ vs) = top_words_named names vs
top_words_named names (variable.Fresh k ∷ vs) = top_words_named names vs
top_words_named names (variable.Top w ∷ vs) = ap (λ l. word_name names w ∷ l) (top_words_named names vs)
top_words_named names (variable.Library w ∷ vs) = top_words_named names vs

-- and so are the program's top-level variables
pub tops_are : (names : Names) (data_nodes : Data) (t : Table) (order : List ℕ) (found : List Part) → AreParts names data_nodes t order found
    → map (word_name names) (top_words (variables_at t.exprs.items order)) ≡ tops found
tops_are names data_nodes t order found h =
    top_words_named names (variables_at t.exprs.items order)
    ∙ (ap top_names (names_are names data_nodes t order found h) ∙ tops_named found)
