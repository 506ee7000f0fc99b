-- A form that is walked through is behind the others, numbered.
use Rattle.std.proofs.Common.{◌≡◌, ℕ, ◌+◌, List, [], ◌∷◌, ◌++◌, refl, sym, ap, subst, ◌∙◌, arith, append_assoc, append-nil}
use Rattle.scheme_base.specs.declared.lit.Lit.{Lit}
use Rattle.scheme_base.specs.Constants.{Constant}
use Rattle.core_form.specs.declared.program.Node.{Node}
use Rattle.core_form.specs.declared.program.Var.{Var}
use Rattle.core_form.specs.Trees.{Tree, Stands, StandAll}
use Rattle.draft_form.specs.declared.growing.Growing.{Growing}
use Rattle.draft_form.specs.declared.level.Levels.{Levels}
use Rattle.draft_form.specs.declared.level.Visit.TheVariants.{Begin}
use Rattle.draft_form.specs.declared.number.Text.{Text}
use Rattle.draft_form.specs.Drafts.{Draft, Drafts, none, item, ◌then◌, parts, all_parts}
use Rattle.draft_form.specs.Drawn.{Drawn}
use Rattle.draft_form.specs.Growing.{AddsForm}
use Rattle.draft_form.specs.Numbered.{HasNumbered, trees_with}
use Rattle.draft_form.specs.Numbers.{Given, At, constants, laid_list, bound_fresh, all_bound_fresh, numbered, all_numbered}
use Rattle.draft_form.specs.Numbering.{symbols_of, walk, with_literals, at_of, AreDone, Course, Gives, Goes}
use Rattle.draft_form.proofs.Building.{all_stay}
use Rattle.draft_form.proofs.Closing.{one_done}
use Rattle.draft_form.proofs.Walking.{at_after, literals-append, no_more, sum}

-- Drafts behind others

pub parts-then : (es fs : Drafts) → all_parts (es then fs) ≡ all_parts es ++ all_parts fs
parts-then none fs = refl
parts-then (item e es) fs = ap (λ ps. parts e ++ ps) (parts-then es fs) ∙ sym (append_assoc (parts e) (all_parts es) (all_parts fs))

none_before : (n : ℕ) → n ≡ 0 + n
none_before n = omega arith

fresh-then : (es fs : Drafts) → all_bound_fresh (es then fs) ≡ all_bound_fresh es + all_bound_fresh fs
fresh-then none fs = none_before (all_bound_fresh fs)
fresh-then (item e es) fs =
    ap (λ n. bound_fresh e + n) (fresh-then es fs) ∙ sym (sum (bound_fresh e) (all_bound_fresh es) (all_bound_fresh fs))

pub parts_behind : (es : Drafts) (e : Draft) → all_parts (es then item e none) ≡ all_parts es ++ parts e
parts_behind es e = parts-then es (item e none) ∙ ap (λ ps. all_parts es ++ ps) (append-nil (parts e))

fresh_behind : (es : Drafts) (e : Draft) → all_bound_fresh (es then item e none) ≡ all_bound_fresh es + bound_fresh e
fresh_behind es e = fresh-then es (item e none) ∙ ap (λ n. all_bound_fresh es + n) (sym (no_more (bound_fresh e)))

literals_behind : (s : Constant) (es : Drafts) (e : Draft)
    → with_literals s (laid_list 0 (constants s (all_parts es))) (parts e) ≡ laid_list 0 (constants s (all_parts (es then item e none)))
literals_behind s es e =
    sym (literals-append s [] (all_parts es) (parts e)) ∙ ap (λ ps. laid_list 0 (constants s ps)) (sym (parts_behind es e))

-- Trees behind others

tree_behind : (s : Constant) (g : Given) (exprs : List (Node Var)) (es : Drafts) (e : Draft) (lits : List Lit) (n : ℕ) (ids : List ℕ) (id : ℕ)
    → StandAll exprs ids (all_numbered s g (at_of lits n) es)
    → Stands exprs id (numbered s g (at_of (with_literals s lits (all_parts es)) (n + all_bound_fresh es)) e)
    → StandAll exprs (ids ++ id ∷ []) (all_numbered s g (at_of lits n) (es then item e none))
tree_behind s g exprs none e lits n ids id all last =
    let L : List Lit → Type 0 = λ ls. Stands exprs id (numbered s g (at_of ls (n + 0)) e) in
    let N : ℕ → Type 0 = λ m. Stands exprs id (numbered s g (at_of lits m) e) in
    let I : List ℕ → Type 0 = λ is. StandAll exprs (is ++ id ∷ []) (all_numbered s g (at_of lits n) (item e none)) in
    subst I (sym all) (id, [], refl, subst N (sym (no_more n)) (subst L (append-nil lits) last), refl)
tree_behind s g exprs (item d ds) e lits n ids id all last =
    let next : List Lit = with_literals s lits (parts d) in
    let m : ℕ = n + bound_fresh d in
    let A : At → Type 0 = λ at. StandAll exprs all.1 (all_numbered s g at ds) in
    let B : At → Type 0 = λ at. StandAll exprs (all.1 ++ id ∷ []) (all_numbered s g at (ds then item e none)) in
    let L : List Lit → Type 0 = λ ls. Stands exprs id (numbered s g (at_of ls (n + all_bound_fresh (item d ds))) e) in
    let N : ℕ → Type 0 = λ k. Stands exprs id (numbered s g (at_of (with_literals s next (all_parts ds)) k) e) in
    let moved : Stands exprs id (numbered s g (at_of (with_literals s next (all_parts ds)) (m + all_bound_fresh ds)) e) =
    subst N (sym (sum n (bound_fresh d) (all_bound_fresh ds))) (subst L (literals-append s lits (parts d) (all_parts ds)) last) in
    let rest : StandAll exprs (all.1 ++ id ∷ []) (all_numbered s g (at_of next m) (ds then item e none)) =
    tree_behind s g exprs ds e next m all.1 id (subst A (at_after s lits n d) all.4) moved in
    (all.0, all.1 ++ id ∷ [], ap (λ is. is ++ id ∷ []) all.2, all.3, subst B (sym (at_after s lits n d)) rest)

-- A form

-- what a walk through a form comes to, where nothing is done before
abbrev form_course : Text → Draft → Levels → Growing → Course
form_course text e levels growing =
    record {
      exprs = growing.exprs;
      forms = growing.forms;
      given = λ level. 0;
      lits = with_literals (symbols_of text) growing.lits.items (parts e);
      fresh = levels.fresh + bound_fresh e;
      done = numbered (symbols_of text) (λ level. 0) (at_of growing.lits.items levels.fresh) e ∷ [];
    }

form_begun : (text : Text) (form : ℕ) (es : Drafts) (e : Draft) (levels : Levels) (growing : Growing)
    → HasNumbered (symbols_of text) es levels growing → Drawn text.words.now text.nodes.now text.drafts.now form e
    → Goes (walk text (form_course text e levels growing)) (Begin form ∷ []) levels growing
form_begun text form es e levels growing h drawn = (
  (λ level. 0),
  growing.lits.items,
  levels.fresh,
  [],
  record {
    gives = h.numbers;
    fresh = refl;
    literals = refl;
    done = h.done;
    more = [];
    exprs = sym (append-nil growing.exprs);
    forms = refl;
  },
  (e, drawn, ((λ level. refl), refl, refl, refl)),
)

-- a form that stands for the numbered draft, behind the others
pub record Behind (s : Constant) (e : Draft) (levels later : Levels) (before after : Growing) : Type 0 where
  pub more : List (Node Var)
  pub exprs : after.exprs ≡ before.exprs ++ more
  pub form : ℕ
  pub forms : after.forms ≡ before.forms ++ form ∷ []
  pub stands : Stands after.exprs form (numbered s (λ level. 0) (at_of before.lits.items levels.fresh) e)
  pub literals : after.lits.items ≡ with_literals s before.lits.items (parts e)
  pub fresh : later.fresh ≡ levels.fresh + bound_fresh e
  pub numbers : Gives later.numbers.items (λ level. 0)
  pub done : after.done.items ≡ []

pub form_behind : (s : Constant) (es : Drafts) (e : Draft) (levels later : Levels) (before after : Growing)
    → HasNumbered s es levels before → Behind s e levels later before after → HasNumbered s (es then item e none) later after
form_behind s es e levels later before after h b =
    let g : Given = λ level. 0 in
    let E : List (Node Var) → Type 0 = λ exprs. StandAll exprs before.forms (trees_with s es) in
    let kept : StandAll after.exprs before.forms (trees_with s es) =
    subst E (sym b.exprs) (all_stay before.exprs b.more before.forms (trees_with s es) h.forms) in
    let L : List Lit → Type 0 = λ ls. Stands after.exprs b.form (numbered s g (at_of ls levels.fresh) e) in
    let N : ℕ → Type 0 = λ n. Stands after.exprs b.form (numbered s g (at_of (laid_list 0 (constants s (all_parts es))) n) e) in
    let last = subst N (h.fresh ∙ none_before (all_bound_fresh es)) (subst L h.literals b.stands) in
    let F : List ℕ → Type 0 = λ ids. StandAll after.exprs ids (trees_with s (es then item e none)) in
    record {
      forms = subst F (sym b.forms) (tree_behind s g after.exprs es e [] 0 before.forms b.form kept last);
      literals = b.literals ∙ (ap (λ ls. with_literals s ls (parts e)) h.literals ∙ literals_behind s es e);
      fresh = b.fresh ∙ (ap (λ n. n + bound_fresh e) h.fresh ∙ sym (fresh_behind es e));
      numbers = b.numbers;
      done = b.done;
    }

form_ended : (text : Text) (es : Drafts) (e : Draft) (levels later : Levels) (growing mid after : Growing)
    → HasNumbered (symbols_of text) es levels growing → AddsForm mid after
    → Goes (walk text (form_course text e levels growing)) [] later mid
    → HasNumbered (symbols_of text) (es then item e none) later after
form_ended text es e levels later growing mid after h adds goes =
    let s : Constant = symbols_of text in
    let t : Tree Var = numbered s (λ level. 0) (at_of growing.lits.items levels.fresh) e in
    let shows = goes.4 in
    let end = goes.5 in
    let D : List (Tree Var) → Type 0 = λ ds. AreDone mid.exprs mid.done.items ds in
    let last = one_done mid.exprs mid.done.items after.done.items adds.form t [] (subst D end.3 shows.done) adds.done in
    let T : List (Node Var) → Type 0 = λ exprs. Stands exprs adds.form t in
    form_behind s es e levels later growing after h
    (record {
      more = shows.more;
      exprs = adds.exprs ∙ shows.exprs;
      form = adds.form;
      forms = adds.forms ∙ ap (λ is. is ++ adds.form ∷ []) shows.forms;
      stands = subst T (sym adds.exprs) last.0;
      literals = adds.lits ∙ (shows.literals ∙ end.1);
      fresh = shows.fresh ∙ end.2;
      numbers = λ level. shows.gives level ∙ end.0 level;
      done = last.1;
    })

pub form_numbered : (text : Text) (form : ℕ) (es : Drafts) (e : Draft) (levels later : Levels) (growing mid after : Growing)
    → HasNumbered (symbols_of text) es levels growing → Drawn text.words.now text.nodes.now text.drafts.now form e
    → AddsForm mid after
    → ((c : Course) → Goes (walk text c) (Begin form ∷ []) levels growing → Goes (walk text c) [] later mid)
    → HasNumbered (symbols_of text) (es then item e none) later after
form_numbered text form es e levels later growing mid after h drawn adds walked =
    form_ended text es e levels later growing mid after h adds
    (walked (form_course text e levels growing) (form_begun text form es e levels growing h drawn))
