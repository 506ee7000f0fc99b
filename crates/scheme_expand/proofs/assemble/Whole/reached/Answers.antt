use Rattle.std.proofs.Common.{◌≡◌, ◌≤◌, ℕ, List, Option, length, ◌++◌, sym, ap, subst, ◌∙◌, arith}
use Rattle.std.specs.Prelude.{map}
use Rattle.std.proofs.lemmas.List.{length-map}
use Rattle.prelude_text.specs.Closure.{AreNumbers}
use Rattle.draft_form.specs.Drawn.{word_name}
use Rattle.scheme_expand.specs.ByWord.{library_words, IsIndex}
use Rattle.scheme_expand.specs.Programs.{numbers_of}
use Rattle.scheme_expand.proofs.UsesInOrder.{reached_are}
use Rattle.scheme_expand.proofs.assemble.Whole.reached.Goals as goal

pub returns-clause-exact : goal.returns-clause-exact
returns-clause-exact c = λ names nodes ds one same all.
    let words = c.args.self.defined.now in
    let defined : List (List ℕ) = map (word_name names) words in
    let index : IsIndex names defined c.in_ok-numbers.numbers.items = c.in_ok-numbers.ensures names one in
    let I : List (Option ℕ) → Type 0 = λ ns. IsIndex names defined ns in
    let count : length defined ≡ length c.args.self.library.forms.now = length-map words (word_name names) ∙ same in
    let few : length defined ≤ c.len-count.result = omega (arith, count, c.in_ok-uses.ensures.count, c.len-count.ensures) in
    let uses = c.in_ok-uses.ensures.exact names nodes defined ds (subst I (sym c.deref.ensures.value) index) count all in
    let from = c.in_ok-from.ensures.exact names defined (subst I (sym c.deref-3.ensures.value) index) few in
    let found =
    c.deref-2.ensures.value
    ∙ (c.in_ok-push_library_words.ensures
    ∙ ap (λ before. before ++ library_words c.args.variables.now) (c.in_ok-words.ensures.items_if_clones_equal (λ x y e. e))) in
    let N : ℕ → Type 0 = λ n. AreNumbers n c.in_ok-from.from in
    reached_are c.in_ok-uses.uses c.in_ok-from.from c.in_ok-ids.ids defined
    (map (word_name names) (c.args.own_names.now ++ library_words c.args.variables.now)) ds c.in_ok-uses.ensures.within
    (subst N c.len-count.ensures c.in_ok-from.ensures.within) c.in_ok-ids.ensures uses
    (from ∙ ap (λ ws. numbers_of defined (map (word_name names) ws)) found)
