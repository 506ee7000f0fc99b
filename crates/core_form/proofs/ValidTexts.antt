-- A valid core has a text: each of its constants is laid out in its literals.
use Rattle.std.proofs.Common.{ℕ, List, refl, sym, subst}
use Rattle.scheme_base.specs.declared.lit.Lit.{Lit}
use Rattle.scheme_base.specs.Literals.{Laid}
use Rattle.core_form.specs.declared.program.Var.{Var}
use Rattle.core_form.specs.declared.program.Program.{Program}
use Rattle.core_form.specs.Text.{constant_text, IsText, IsListText, IsRestText, IsLines, HasText}
use Rattle.core_form.specs.Trees.{Tree, Const, Ref, Lambda, If, Set, Call, Prim, Seq, Fix, Define, Trees, none, item}
use Rattle.core_form.specs.Valid.{Constants, AllConstants, IsCore}

abbrev Texts : List Lit → Tree Var → Type 0
Texts lits e = (t : List ℕ) × IsText lits e t

abbrev RestTexts : List Lit → Trees Var → Type 0
RestTexts lits es = (t : List ℕ) × IsRestText lits es t

abbrev list_text : (lits : List Lit) (e : Tree Var) (es : Trees Var) → Texts lits e → RestTexts lits es
    → (t : List ℕ) × IsListText lits (item e es) t
list_text lits e es first rest = (_, (first.0, rest.0, first.1, rest.1, refl))

abbrev mutual
  tree_text : (lits : List Lit) (i : ℕ) (e : Tree Var) (j : ℕ) → Constants lits i e j → Texts lits e
  tree_text lits i (Const p l) j h =
      let laid = subst (λ k. Laid lits k h.1 j) (sym h.0) h.3 in (_, (constant_text h.1, (h.1, j, laid, refl), refl))
  tree_text lits i (Ref p x) j h = (_, refl)
  tree_text lits i (Lambda p xs rest body) j h = let b = tree_text lits i body j h in (_, (b.0, b.1, refl))
  tree_text lits i (If p test this that) j h =
      let a = tree_text lits i test h.0 h.2 in
      let b = tree_text lits h.0 this h.1 h.3 in
      let c = tree_text lits h.1 that j h.4 in (_, (a.0, b.0, c.0, a.1, b.1, c.1, refl))
  tree_text lits i (Set p x e) j h = let b = tree_text lits i e j h in (_, (b.0, b.1, refl))
  tree_text lits i (Call p f es) j h =
      let a = tree_text lits i f h.0 h.1 in
      let b = trees_text lits h.0 es j h.2 in (_, (a.0, b.0, a.1, b.1, refl))
  tree_text lits i (Prim p o es) j h = let b = trees_text lits i es j h in (_, (b.0, b.1, refl))
  tree_text lits i (Seq p es) j h = let b = trees_text lits i es j h in (_, (b.0, b.1, refl))
  tree_text lits i (Fix p xs ls body) j h =
      let a = trees_text lits i ls h.0 h.1 in
      let b = tree_text lits h.0 body j h.2 in (_, (a.0, b.0, a.1, b.1, refl))
  tree_text lits i (Define p x e) j h = let b = tree_text lits i e j h in (_, (b.0, b.1, refl))

  trees_text : (lits : List Lit) (i : ℕ) (es : Trees Var) (j : ℕ) → AllConstants lits i es j
      → (t : List ℕ) × IsListText lits es t
  trees_text lits i none j h = (_, refl)
  trees_text lits i (item e es) j h =
      list_text lits e es (tree_text lits i e h.0 h.1) (rest_text lits h.0 es j h.2)

  rest_text : (lits : List Lit) (i : ℕ) (es : Trees Var) (j : ℕ) → AllConstants lits i es j → RestTexts lits es
  rest_text lits i none j h = (_, refl)
  rest_text lits i (item e es) j h =
      let a = tree_text lits i e h.0 h.1 in
      let b = rest_text lits h.0 es j h.2 in (_, (a.0, b.0, a.1, b.1, refl))

abbrev pub lines_text : (lits : List Lit) (i : ℕ) (es : Trees Var) (j : ℕ) → AllConstants lits i es j
    → (t : List ℕ) × IsLines lits es t
lines_text lits i none j h = (_, refl)
lines_text lits i (item e es) j h =
    let a = tree_text lits i e h.0 h.1 in
    let b = lines_text lits h.0 es j h.2 in (_, (a.0, b.0, a.1, b.1, refl))

pub valid_has_text : (core : Program Var) (forms : Trees Var) → IsCore core forms → HasText core
valid_has_text core forms valid =
    let lines = lines_text core.lits 0 forms _ valid.constants in (lines.0, (forms, valid.holds, lines.1))
