use Rattle.std.proofs.Common.{◌≡◌, ℕ, List, [], ◌++◌, sym, ap, subst, ◌∙◌}
use Rattle.std.specs.Prelude.{map, nat_lt}
use Rattle.draft_form.specs.Drafts.{Drafts, Part, ◌then◌}
use Rattle.draft_form.specs.Drawn.{word_name, AllDrawn}
use Rattle.draft_form.specs.Quoted.{symbol_list}
use Rattle.scheme_expand.specs.Assembled.{names_of, defined_in, ArePicked, IsMadeOf}
use Rattle.scheme_expand.specs.ByWord.{all_names, reached_from, top_words, library_words, variables_at}
use Rattle.scheme_expand.specs.Order.{AreParts}
use Rattle.scheme_expand.specs.Programs.{starts, those_of, unlisted, symbols}
use Rattle.scheme_expand.proofs.WholeAssembled.{whole_assembled}
use Rattle.scheme_expand.proofs.assemble.Whole.core.Goals as goal

pub returns-clause-made : goal.returns-clause-made
returns-clause-made c = λ own ds es w.
    let self = c.args.self in
    let names = names_of self in
    let f : ℕ → List ℕ = word_name names in
    let library = self.library in
    let program = self.program in
    let order : List ℕ = c.in_ok-order.order.items in
    let variables = c.in_ok-variables.variables.items in
    let taken : List ℕ = c.in_ok-own_names.own_names.taken.items in
    let definitions : List ℕ = c.in_ok-definitions.definitions.items in
    let library_order : List ℕ = c.in_ok-library_order.library_order.items in
    let words : List ℕ = c.take_symbols-2.new.firsts.taken.items in
    let own_names = c.in_ok-own_names.ensures names own w.own_words w.own_marks in
    let reached = c.in_ok-reached.ensures.exact names library.source.nodes.now ds w.defined w.count w.library in
    let K : List ℕ → Type 0 = λ ks. ArePicked 1 library.forms.now ks definitions in
    let symbols_are : (ps qs : List Part) → AreParts names library.source.nodes.now library.drafts.now library_order ps
    → AreParts names program.source.nodes.now program.drafts.now order qs
    → map f words ≡ those_of (all_names names) (unlisted [] (symbols ps ++ symbols qs)) =
    λ ps qs p q.
    let L : List ℕ → Type 0 = λ ids. AreParts names library.source.nodes.now library.drafts.now ids ps in
    let P : List ℕ → Type 0 = λ ids. AreParts names program.source.nodes.now program.drafts.now ids qs in
    let nothing =
    c.new-symbols.ensures names (all_names names) (λ n. c.in_ok-all_listed.ensures n ∙ (ap (nat_lt n) c.len.ensures ∙ w.listed n)) in
    let first =
    c.in_ok-take_symbols.ensures names ps w.library_words (subst L (sym c.deref-6.ensures.value) p) (all_names names) [] w.words nothing in
    (c.in_ok-take_symbols-2.ensures names qs w.program_words (subst P (sym c.deref-7.ensures.value) q) (all_names names) (symbols ps) w.words first).taken in
    let made : (fs : Drafts) → AllDrawn names library.source.nodes.now library.drafts.now definitions fs
    → IsMadeOf (symbol_list (map f words)) (fs then (starts (map f taken) then es)) c.in_ok-core.core =
    λ fs d.
    let D : List ℕ → Type 0 = λ ids. AllDrawn names library.source.nodes.now library.drafts.now ids fs in
    let S : List ℕ → Type 0 = λ ws. IsMadeOf (symbol_list (map f ws)) (fs then (starts (map f c.deref-9.result.now) then es)) c.in_ok-core.core in
    let T : List ℕ → Type 0 = λ ws. IsMadeOf (symbol_list (map f words)) (fs then (starts (map f ws) then es)) c.in_ok-core.core in
    subst T c.deref-9.ensures.value
    (subst S c.deref-10.ensures.value
    (c.in_ok-core.ensures.made fs es (subst D (sym c.deref-8.ensures.value) d) w.program)) in
    whole_assembled names own (defined_in self) ds es library.source.nodes.now program.source.nodes.now library.source.words.now
    program.source.words.now library.drafts.now program.drafts.now library.forms.now order taken c.in_ok-reached.reached definitions
    library_order words variables c.in_ok-core.core w.library_words w.program_words w.library
    (c.in_ok-order.ensures names program.source.nodes.now es w.program)
    (c.in_ok-variables.ensures ∙ ap (variables_at program.drafts.now.exprs.items) c.deref.ensures.value)
    (own_names.taken ∙ ap (λ vs. those_of own (unlisted [] (map f (top_words vs)))) c.deref-2.ensures.value)
    (reached
    ∙ (ap (λ ws. reached_from (defined_in self) ds (map f (ws ++ library_words c.deref-3.result.now))) c.deref-4.ensures.value
    ∙ ap (λ vs. reached_from (defined_in self) ds (map f (taken ++ library_words vs))) c.deref-3.ensures.value))
    c.in_ok-reached.ensures.increasing (subst K c.as_slice.ensures c.in_ok-definitions.ensures)
    (λ fs d.
    let D : List ℕ → Type 0 = λ ids. AllDrawn names library.source.nodes.now library.drafts.now ids fs in
    c.in_ok-library_order.ensures names library.source.nodes.now fs (subst D (sym c.deref-5.ensures.value) d))
    symbols_are made
