-- Definitions, own variables and forms that are added to an empty core are the core.
use Rattle.std.proofs.Common.{◌≡◌, ℕ, List, sym, ap, subst, ◌∙◌}
use Rattle.std.specs.Prelude.{map}
use Rattle.scheme_base.specs.Constants.{Constant}
use Rattle.core_form.specs.declared.program.Node.{Node}
use Rattle.core_form.specs.declared.program.Program.{Program}
use Rattle.core_form.specs.declared.program.Var.{Var}
use Rattle.core_form.specs.Trees.{StandAll}
use Rattle.draft_form.specs.declared.draft.Drafts.{Drafts as Table}
use Rattle.draft_form.specs.declared.growing.Growing.{Growing}
use Rattle.draft_form.specs.declared.level.Levels.{Levels}
use Rattle.draft_form.specs.declared.number.Text.{Text}
use Rattle.draft_form.specs.Drafts.{Drafts, none, ◌then◌}
use Rattle.draft_form.specs.Drawn.{word_name, Names, Data, AllDrawn}
use Rattle.draft_form.specs.Growing.{IsEmpty}
use Rattle.draft_form.specs.Numbered.{HasNumbered, trees_with}
use Rattle.draft_form.specs.Numbering.{symbols_of, Gives}
use Rattle.draft_form.specs.Quoted.{symbol_list}
use Rattle.scheme_expand.specs.Assembled.{IsMadeOf}
use Rattle.scheme_expand.specs.Programs.{starts}
use Rattle.scheme_expand.proofs.FormsBehind.{AddsForms, AddsOwn, then_assoc}

-- what forms are made into a core with
pub record IsTextOf (names : Names) (data_nodes : Data) (table : Table) (symbols : List ℕ) (t : Text) : Type 0 where
  pub words : t.words.now ≡ names
  pub data_are : t.nodes.now ≡ data_nodes
  pub drafts : t.drafts.now ≡ table
  pub symbols_are : t.symbols.now ≡ symbols

drawn_in : (names : Names) (data_nodes : Data) (table : Table) (symbols : List ℕ) (t : Text) (ids : List ℕ) (es : Drafts)
    → IsTextOf names data_nodes table symbols t → AllDrawn names data_nodes table ids es
    → AllDrawn t.words.now t.nodes.now t.drafts.now ids es
drawn_in names data_nodes table symbols t ids es x h =
    let P : Names → Type 0 = λ n. AllDrawn n data_nodes table ids es in
    let Q : Data → Type 0 = λ n. AllDrawn t.words.now n table ids es in
    let R : Table → Type 0 = λ n. AllDrawn t.words.now t.nodes.now n ids es in
    subst R (sym x.drafts) (subst Q (sym x.data_are) (subst P (sym x.words) h))

abbrev pub symbols_named : Names → List ℕ → Constant
symbols_named names symbols = symbol_list (map (word_name names) symbols)

symbols_same : (names : Names) (data_nodes : Data) (table : Table) (symbols : List ℕ) (t : Text) → IsTextOf names data_nodes table symbols t
    → symbols_of t ≡ symbols_named names symbols
symbols_same names data_nodes table symbols t x =
    ap (λ n. symbols_named n t.symbols.now) x.words ∙ ap (symbols_named names) x.symbols_are

nothing_numbered : (s : Constant) (levels : Levels) (growing : Growing) → levels.fresh ≡ 0 → Gives levels.numbers.items (λ level. 0)
    → IsEmpty growing → HasNumbered s none levels growing
nothing_numbered s levels growing fresh gives empty =
    record { forms = empty.forms; literals = empty.lits; fresh = fresh; numbers = gives; done = empty.done }

core_of : (s : Constant) (es : Drafts) (levels : Levels) (growing : Growing) (core : Program Var) → HasNumbered s es levels growing
    → core.exprs ≡ growing.exprs → core.forms ≡ growing.forms → core.lits ≡ growing.lits.items → IsMadeOf s es core
core_of s es levels growing core h exprs forms lits =
    let P : List (Node Var) → Type 0 = λ ns. StandAll ns growing.forms (trees_with s es) in
    let Q : List ℕ → Type 0 = λ ids. StandAll core.exprs ids (trees_with s es) in
    record { forms = subst Q (sym forms) (subst P (sym exprs) h.forms); literals = lits ∙ h.literals }

pub whole_made : (names : Names) (library_data program_data : Data) (library_table program_table : Table) (symbols : List ℕ) (library program : Text)
    (definitions own forms : List ℕ) (l0 l1 l2 : Levels) (g0 g1 g2 g3 : Growing) (core : Program Var)
    → IsTextOf names library_data library_table symbols library → IsTextOf names program_data program_table symbols program
    → l0.fresh ≡ 0 → Gives l0.numbers.items (λ level. 0) → IsEmpty g0
    → AddsForms library definitions l0 l1 g0 g1 → AddsOwn program own l1 g1 g2 → AddsForms program forms l1 l2 g2 g3
    → core.exprs ≡ g3.exprs → core.forms ≡ g3.forms → core.lits ≡ g3.lits.items
    → (ds es : Drafts) → AllDrawn names library_data library_table definitions ds → AllDrawn names program_data program_table forms es
    → IsMadeOf (symbols_named names symbols) (ds then (starts (map (word_name names) own) then es)) core
whole_made names library_data program_data library_table program_table symbols library program definitions own forms l0 l1 l2 g0 g1 g2 g3 core
    x y fresh gives empty first second third exprs core_forms lits ds es dd de =
    let s : Constant = symbols_of program in
    let xs : Drafts = starts (map (word_name program.words.now) own) in
    let one = first none ds (nothing_numbered (symbols_of library) l0 g0 fresh gives empty)
    (drawn_in names library_data library_table symbols library definitions ds x dd) in
    let P : Constant → Type 0 = λ c. HasNumbered c ds l1 g1 in
    let same : symbols_of library ≡ s =
    symbols_same names library_data library_table symbols library x
    ∙ sym (symbols_same names program_data program_table symbols program y) in
    let two = second ds (subst P same one) in
    let three = third (ds then xs) es two (drawn_in names program_data program_table symbols program forms es y de) in
    let Q : Drafts → Type 0 = λ fs. IsMadeOf s fs core in
    let R : Names → Type 0 = λ n. IsMadeOf s (ds then (starts (map (word_name n) own) then es)) core in
    let S : Constant → Type 0 = λ c. IsMadeOf c (ds then (starts (map (word_name names) own) then es)) core in
    subst S (symbols_same names program_data program_table symbols program y)
    (subst R y.words (subst Q (then_assoc ds xs es) (core_of s ((ds then xs) then es) l2 g3 core three exprs core_forms lits)))
