-- Definitions, and the faults in their parts.
use Rattle.std.proofs.Common.{ℕ, ◌≡◌, List, ◌++◌, Option, Some, None, Bool, true, false, refl, sym, ap, subst, ◌∙◌}
use Rattle.std.specs.Prelude.{◌&&◌, if◌then◌else◌, codes}
use Rattle.std.proofs.lemmas.List.{append-nil}
use Rattle.scheme_base.specs.declared.pos.Pos.{Pos}
use Rattle.datum_form.specs.declared.token.Atom.TheVariants.{Symbol}
use Rattle.datum_form.specs.Data.{Datum, Datum as datum, Items}
use Rattle.datum_form.specs.Data.Items.{none, item}
use Rattle.scheme_expand.specs.Forms.{Word, Exp, Bindings, Body, no_binding, binding, broken}
use Rattle.quasi_expand.specs.Shapes.{is_name, is_word, all_items}
use Rattle.scheme_expand.specs.Grammar.{word, words, are_names, word_of, is_define, bound_words, procedure_binding, expr, procedure, body, definition, definitions_before, each_definition}
use Rattle.scheme_expand.specs.Faults.{Fault, fault, least, in_exp, in_word, in_words, in_bindings}
use Rattle.scheme_expand.specs.Waiting.{earlier, place, in_values}
use Rattle.scheme_expand.proofs.Least.{earlier_assoc, earlier_swap, least_append}

-- Names and values

names_apart : (bs : Bindings) → least (in_bindings bs) ≡ earlier (least (in_words (bound_words bs))) (least (in_values bs))
names_apart no_binding = refl
names_apart (binding p w e bs) =
    let x = least (in_word w) in
    let y = least (in_exp e) in
    let z = least (in_words (bound_words bs)) in
    let v = least (in_values bs) in
    least_append (in_word w) (in_exp e ++ in_bindings bs)
    ∙ (ap (earlier x) (least_append (in_exp e) (in_bindings bs) ∙ (ap (earlier y) (names_apart bs) ∙ earlier_swap y z v))
    ∙ (sym (earlier_assoc x z (earlier y v))
    ∙ (ap (λ a. earlier a (earlier y v)) (sym (least_append (in_word w) (in_words (bound_words bs))))
    ∙ ap (earlier (least (in_word w ++ in_words (bound_words bs)))) (sym (least_append (in_exp e) (in_values bs))))))
names_apart (broken p n bs) =
    ap (earlier (Some (fault p n))) (names_apart bs)
    ∙ earlier_swap (Some (fault p n)) (least (in_words (bound_words bs))) (least (in_values bs))

pub bindings_apart : (bs : Bindings) → least (in_bindings bs) ≡ earlier (least (in_words (bound_words bs))) (least (in_values bs))
bindings_apart bs = names_apart bs

-- first the names, then the expressions, then the values
pub body_apart : (bs : Bindings) (es : List Fault) → least (in_bindings bs ++ es)
    ≡ earlier (least (in_words (bound_words bs))) (earlier (least (in_values bs)) (least es))
body_apart bs es =
    least_append (in_bindings bs) es
    ∙ (ap (λ a. earlier a (least es)) (names_apart bs)
    ∙ earlier_assoc (least (in_words (bound_words bs))) (least (in_values bs)) (least es))

-- What a definition is

pub data Shape (before : Bindings → Bindings) (p : Pos) : Type 0 where
  good : (w : Word) (e : Exp) → ((bs : Bindings) → before bs ≡ binding p w e bs) → Shape before p
  bad : (n : ℕ) → ((bs : Bindings) → before bs ≡ broken p n bs) → Shape before p

procedure_shape : (p : Pos) (w : Word) (b : Bool) (ws : List Word) (r : Option Word) (ds : Items) (c : Body)
    → Shape (procedure_binding p w b ws r ds c) p
procedure_shape p w true ws r ds c = good w (procedure p ws r ds c) (λ bs. refl)
procedure_shape p w false ws r ds c = bad 3 (λ bs. refl)

definition_shape : (p : Pos) (ds : Items) → Shape (definition p ds) p
definition_shape p (item (datum.Atomic q (Symbol x)) (item e none)) = good (word q x) (expr e) (λ bs. refl)
definition_shape p (item (datum.List q (item (datum.Atomic r (Symbol x)) fs)) ds) =
    procedure_shape p (word r x) (are_names fs) (words fs) None ds (body ds)
definition_shape p (item (datum.Dotted q (item (datum.Atomic r (Symbol x)) fs) d) ds) =
    procedure_shape p (word r x) (are_names fs && is_name d) (words fs) (word_of d) ds (body ds)
definition_shape p ds = bad 11 (λ bs. refl)

shape_if : (p : Pos) (d : Datum) (ds : Items) → is_word (codes "define") d ≡ true
    → Shape (definitions_before (datum.List p (item d ds))) p
shape_if p d ds e =
    let P : (Bindings → Bindings) → Type 0 = λ f. Shape f p in
    let f : (b : Bool) → Bindings → Bindings = λ b bs. if b then definition p ds bs else each_definition ds bs in
    subst P (ap f (sym e)) (definition_shape p ds)

pub shape : (d : Datum) → is_define d ≡ true → Shape (definitions_before d) (place d)
shape (datum.Atomic p a) e = absurd (cc)
shape (datum.Vector p is) e = absurd (cc)
shape (datum.List p none) e = absurd (cc)
shape (datum.List p (item d ds)) e = shape_if p d ds e
shape (datum.Dotted p is d) e = bad 10 (λ bs. refl)

-- Definitions before others

values_of : (before : Bindings → Bindings) (p : Pos) → Shape before p → (bs : Bindings)
    → least (in_values (before bs)) ≡ earlier (least (in_values (before no_binding))) (least (in_values bs))
values_of before p (good w e same) bs =
    ap (λ x. least (in_values x)) (same bs)
    ∙ (least_append (in_exp e) (in_values bs)
    ∙ ap (λ x. earlier x (least (in_values bs)))
    (ap least (sym (append-nil (in_exp e))) ∙ ap (λ x. least (in_values x)) (sym (same no_binding))))
values_of before p (bad n same) bs =
    ap (λ x. least (in_values x)) (same bs) ∙ ap (λ x. earlier (least (in_values x)) (least (in_values bs))) (sym (same no_binding))

and_split : (a b : Bool) → (a && b) ≡ true → (a ≡ true) × (b ≡ true)
and_split true b h = (refl, h)
and_split false b h = absurd (cc)

pub values_before : (ds : Items) (bs : Bindings) → all_items is_define ds ≡ true
    → least (in_values (each_definition ds bs)) ≡ earlier (least (in_values (each_definition ds no_binding))) (least (in_values bs))
values_before none bs h = refl
values_before (item d ds) bs h =
    let t = and_split (is_define d) (all_items is_define ds) h in
    let s = shape d t.0 in
    let one = least (in_values (definitions_before d no_binding)) in
    values_of (definitions_before d) (place d) s (each_definition ds bs)
    ∙ (ap (earlier one) (values_before ds bs t.1)
    ∙ (sym (earlier_assoc one (least (in_values (each_definition ds no_binding))) (least (in_values bs)))
    ∙ ap (λ x. earlier x (least (in_values bs))) (sym (values_of (definitions_before d) (place d) s (each_definition ds no_binding)))))
