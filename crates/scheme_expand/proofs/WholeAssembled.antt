-- What is assembled is the core of the definition.
use Rattle.std.proofs.Common.{◌≡◌, ℕ, List, Option, [], ◌∷◌, ◌++◌, refl, sym, ap, subst, ◌∙◌}
use Rattle.std.specs.Prelude.{map}
use Rattle.std.proofs.lemmas.List.{map-append}
use Rattle.core_form.specs.declared.program.Program.{Program}
use Rattle.core_form.specs.declared.program.Var.{Var}
use Rattle.prelude_text.specs.Closure.{closure, Increases}
use Rattle.draft_form.specs.declared.draft.Drafts.{Drafts as Table}
use Rattle.draft_form.specs.declared.draft.Variable.{Variable}
use Rattle.draft_form.specs.Drafts.{Drafts, Part, ◌then◌, all_parts}
use Rattle.draft_form.specs.Drawn.{word_name, Names, Data, AllDrawn}
use Rattle.draft_form.specs.Quoted.{symbol_list}
use Rattle.draft_form.proofs.FormsNumbered.{parts-then}
use Rattle.scheme_expand.specs.Assembled.{ArePicked, IsMadeOf}
use Rattle.scheme_expand.specs.ByWord.{all_names, library_words, reached_from, top_words, uses_in, variables_at}
use Rattle.scheme_expand.specs.Order.{AreParts}
use Rattle.scheme_expand.specs.Programs.{after_library, as_list, chosen, libraries, library_with, numbers_of, started, starts, symbols, those_of, tops, unlisted, IsNumbered}
use Rattle.scheme_expand.specs.Symbols.{AreSpelled}
use Rattle.scheme_expand.proofs.ChosenPicked.{picked_chosen}
use Rattle.scheme_expand.proofs.SymbolsInOrder.{symbols-append}
use Rattle.scheme_expand.proofs.SymbolsListed.{both_listed, parts_listed, all_taken_once}
use Rattle.scheme_expand.proofs.VariablesInOrder.{libraries_are, tops_are}

started_libraries : (xs : List (List ℕ)) (es : Drafts) → libraries (all_parts (starts xs then es)) ≡ xs ++ libraries (all_parts es)
started_libraries [] es = refl
started_libraries (x ∷ xs) es = ap (λ l. x ∷ l) (started_libraries xs es)

started_symbols : (xs : List (List ℕ)) (es : Drafts) → symbols (all_parts (starts xs then es)) ≡ symbols (all_parts es)
started_symbols [] es = refl
started_symbols (x ∷ xs) es = started_symbols xs es

-- definitions and own variables before forms have the symbols of the definitions and the forms
whole_symbols : (cs : Drafts) (xs : List (List ℕ)) (es : Drafts)
    → symbols (all_parts (cs then (starts xs then es))) ≡ symbols (all_parts cs) ++ symbols (all_parts es)
whole_symbols cs xs es =
    ap symbols (parts-then cs (starts xs then es))
    ∙ (symbols-append (all_parts cs) (all_parts (starts xs then es)) ∙ ap (λ l. symbols (all_parts cs) ++ l) (started_symbols xs es))

pub whole_assembled : (names : Names) (own defined : List (List ℕ)) (ds es : Drafts) (library_data program_data : Data)
    (library_spelling program_spelling : List (Option ℕ)) (library_table program_table : Table)
    (forms order taken reached definitions library_order symbol_words : List ℕ) (variables : List Variable) (core : Program Var)
    → AreSpelled names library_data library_spelling → AreSpelled names program_data program_spelling
    → AllDrawn names library_data library_table forms ds → AreParts names program_data program_table order (all_parts es)
    → variables ≡ variables_at program_table.exprs.items order
    → map (word_name names) taken ≡ those_of own (unlisted [] (map (word_name names) (top_words variables)))
    → reached ≡ reached_from defined ds (map (word_name names) (taken ++ library_words variables)) → Increases 0 reached
    → ArePicked 1 forms reached definitions
    → ((fs : Drafts) → AllDrawn names library_data library_table definitions fs
    → AreParts names library_data library_table library_order (all_parts fs))
    → ((ps qs : List Part) → AreParts names library_data library_table library_order ps → AreParts names program_data program_table order qs
    → map (word_name names) symbol_words ≡ those_of (all_names names) (unlisted [] (symbols ps ++ symbols qs)))
    → ((fs : Drafts) → AllDrawn names library_data library_table definitions fs
    → IsMadeOf (symbol_list (map (word_name names) symbol_words)) (fs then (starts (map (word_name names) taken) then es)) core)
    → IsNumbered (after_library (library_with defined (as_list ds)) (started own es)) core
whole_assembled names own defined ds es library_data program_data library_spelling program_spelling library_table program_table
    forms order taken reached definitions library_order symbol_words variables core
    library_spelled program_spelled drawn parts_are variables_are taken_are reached_are up picked listed symbols_are made =
    let f : ℕ → List ℕ = word_name names in
    let xs : List (List ℕ) = those_of own (unlisted [] (tops (all_parts es))) in
    let own_is : map f taken ≡ xs =
    taken_are
    ∙ ap (λ l. those_of own (unlisted [] l))
    (ap (λ vs. map f (top_words vs)) variables_are ∙ tops_are names program_data program_table order (all_parts es) parts_are) in
    let from : map f (taken ++ library_words variables) ≡ libraries (all_parts (starts xs then es)) =
    map-append f taken (library_words variables)
    ∙ (ap (λ l. l ++ map f (library_words variables)) own_is
    ∙ (ap (λ l. xs ++ l)
    (ap (λ vs. map f (library_words vs)) variables_are ∙ libraries_are names program_data program_table order (all_parts es) parts_are)
    ∙ sym (started_libraries xs es))) in
    let ks : List ℕ = closure (uses_in defined ds) (numbers_of defined (libraries (all_parts (starts xs then es)))) in
    let numbers : reached ≡ ks = reached_are ∙ ap (reached_from defined ds) from in
    let cs : Drafts = chosen 1 ks (as_list ds) in
    let C : List ℕ → Type 0 = λ js. AllDrawn names library_data library_table definitions (chosen 1 js (as_list ds)) in
    let chosen_drawn : AllDrawn names library_data library_table definitions cs =
    subst C numbers (picked_chosen names library_data library_table ds 0 forms reached definitions up picked drawn) in
    let before = listed cs chosen_drawn in
    let whole : Drafts = cs then (starts xs then es) in
    let all =
    both_listed names (symbols (all_parts cs)) (symbols (all_parts es))
    (parts_listed names library_data library_spelling library_table library_order (all_parts cs) library_spelled before)
    (parts_listed names program_data program_spelling program_table order (all_parts es) program_spelled parts_are) in
    let symbol_names : map f symbol_words ≡ unlisted [] (symbols (all_parts whole)) =
    symbols_are (all_parts cs) (all_parts es) before parts_are
    ∙ (all_taken_once names (symbols (all_parts cs) ++ symbols (all_parts es)) all ∙ ap (unlisted []) (sym (whole_symbols cs xs es))) in
    let P : List (List ℕ) → Type 0 = λ l. IsMadeOf (symbol_list (map f symbol_words)) (cs then (starts l then es)) core in
    let Q : List (List ℕ) → Type 0 = λ l. IsMadeOf (symbol_list l) whole core in
    let r = subst Q symbol_names (subst P own_is (made cs chosen_drawn)) in
    record { forms = r.forms; literals = r.literals }
