-- A variable of the program's own is the draft of a definition by the library's variable.
use Rattle.std.proofs.Common.{◌≡◌, ℕ, List, [], ◌∷◌, ◌++◌, length, true, false, sym, ap, subst, ◌∙◌, arith, append_assoc, append-nil}
use Rattle.scheme_base.specs.declared.pos.Pos.{Pos}
use Rattle.scheme_base.specs.Constants.{Constant}
use Rattle.core_form.specs.declared.program.Node.{Node}
use Rattle.core_form.specs.declared.program.Var.{Var}
use Rattle.core_form.specs.declared.program.What.TheVariants as form
use Rattle.core_form.specs.Trees.{Tree, IsNode, Stands}
use Rattle.core_form.specs.Trees as tree
use Rattle.draft_form.specs.declared.growing.Growing.{Growing}
use Rattle.draft_form.specs.declared.level.Levels.{Levels}
use Rattle.draft_form.specs.Drafts.{Draft, Drafts, Top, Library, Ref, Define, ◌then◌}
use Rattle.draft_form.specs.Growing.{AddsForm, AddsNode, Takes}
use Rattle.draft_form.specs.Numbered.{HasNumbered}
use Rattle.draft_form.proofs.Building.{stays}
use Rattle.draft_form.proofs.Closing.{is_added, last_same, with_one}
use Rattle.draft_form.proofs.FormsNumbered.{form_behind}
use Rattle.scheme_expand.specs.Programs.{outside, starts}

abbrev own : List ℕ → Var
own x = record { name = x; lib = false }

abbrev public : List ℕ → Var
public x = record { name = x; lib = true }

pub own_variable : (s : Constant) (x : List ℕ) (value : ℕ) (y z : Var) (es : Drafts) (levels : Levels) (a b c d e : Growing)
    → y ≡ public x → z ≡ own x → AddsNode a b (form.Ref y) (outside 0) → Takes b c (value ∷ [])
    → AddsNode c d (form.Define z value) (outside 0) → AddsForm d e → HasNumbered s es levels a
    → HasNumbered s (es then starts (x ∷ [])) levels e
own_variable s x value y z es levels a b c d e ye ze first takes second adds h =
    let p : Pos = outside 0 in
    let value_is = last_same c.done.items a.done.items value (length a.exprs) (sym takes.done ∙ first.done) in
    let form_is = last_same e.done.items c.done.items adds.form (length c.exprs) (sym adds.done ∙ second.done) in
    let draft : Draft = Define p (Top x) (Ref p (Library x)) in
    let R : List (Node Var) → Type 0 = λ es. Stands es (length a.exprs) (tree.Ref p (public x)) in
    let V : ℕ → Type 0 = λ i. Stands b.exprs i (tree.Ref p (public x)) in
    let ref : Stands b.exprs value (tree.Ref p (public x)) =
    subst V (sym value_is.1) (subst R (sym first.exprs) (is_added a.exprs (form.Ref y) (form.Ref (public x)) p (ap (λ v. form.Ref v) ye))) in
    let C : List (Node Var) → Type 0 = λ es. Stands es value (tree.Ref p (public x)) in
    let inner : Stands (with_one c.exprs (form.Define z value) p) value (tree.Ref p (public x)) =
    stays c.exprs _ value (tree.Ref p (public x)) (subst C (sym takes.exprs) ref) in
    let define : Stands (with_one c.exprs (form.Define z value) p) (length c.exprs) (tree.Define p (own x) (tree.Ref p (public x))) =
    (value, is_added c.exprs (form.Define z value) (form.Define (own x) value) p (ap (λ v. form.Define v value) ze), inner) in
    let E : List (Node Var) → Type 0 = λ es. Stands es (length c.exprs) (tree.Define p (own x) (tree.Ref p (public x))) in
    let F : ℕ → Type 0 = λ i. Stands e.exprs i (tree.Define p (own x) (tree.Ref p (public x))) in
    let grown : e.exprs ≡ with_one c.exprs (form.Define z value) p = adds.exprs ∙ second.exprs in
    let one : Node Var = record { what = form.Ref y; pos = p } in
    let two : Node Var = record { what = form.Define z value; pos = p } in
    form_behind s es draft levels levels a e h
    (record {
      more = one ∷ two ∷ [];
      exprs = grown ∙ (ap (λ ns. ns ++ two ∷ []) (takes.exprs ∙ first.exprs) ∙ append_assoc a.exprs (one ∷ []) (two ∷ []));
      form = adds.form;
      forms = adds.forms ∙ ap (λ is. is ++ adds.form ∷ []) (second.forms ∙ (takes.forms ∙ first.forms));
      stands = subst F (sym form_is.1) (subst E (sym grown) define);
      literals = adds.lits ∙ (second.lits ∙ (takes.lits ∙ (first.lits ∙ sym (append-nil a.lits.items))));
      fresh = omega arith;
      numbers = h.numbers;
      done = form_is.0 ∙ (value_is.0 ∙ h.done);
    })
