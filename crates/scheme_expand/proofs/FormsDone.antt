-- The forms of a program are done, one after another.
use Rattle.std.proofs.Common.{ℕ, ◌≡◌, List, [], ◌∷◌, ◌++◌, Option, None, Bool, true, false, refl, sym, ap, subst, ◌∙◌}
use Rattle.std.specs.Prelude.{if◌then◌else◌}
use Rattle.std.proofs.lemmas.List.{append-nil}
use Rattle.scheme_base.specs.declared.pos.Pos.{Pos}
use Rattle.datum_form.specs.Data.{Datum, Items}
use Rattle.datum_form.specs.Data.Items.{none, item}
use Rattle.quasi_expand.specs.Shapes.{all_items}
use Rattle.scheme_expand.specs.declared.source.Source.{Source}
use Rattle.scheme_expand.specs.declared.step.Step.{Step}
use Rattle.scheme_expand.specs.declared.expander.Expander.{Expander}
use Rattle.scheme_expand.specs.declared.body.Definition.{Definition}
use Rattle.scheme_expand.specs.Forms.{Bindings, no_binding, no_form, evaluated, defining}
use Rattle.scheme_expand.specs.Grammar.{is_define, is_definition, expr, definitions_before, each_definition, forms}
use Rattle.scheme_expand.specs.Faults.{Fault, least, in_exp, in_word, in_bindings, in_forms}
use Rattle.scheme_expand.specs.Noted.{noted}
use Rattle.scheme_expand.specs.Shapes.{AreDefinitions, Collects, IsDefined}
use Rattle.scheme_expand.specs.Waiting.{earlier, place, in_values, Reads, ReadAll, AllWait, Adds, Done}
use Rattle.scheme_expand.proofs.Defining.{Shape, good, bad, shape}
use Rattle.scheme_expand.proofs.Definitions.{value_of}
use Rattle.scheme_expand.proofs.Due.{of}
use Rattle.scheme_expand.proofs.LastClause.{and_split}
use Rattle.scheme_expand.proofs.Least.{earlier_none, earlier_assoc, least_append}
use Rattle.scheme_expand.proofs.Parts.{no_items, first_of}

-- Done, one after another

pub nothing_done : (a : Expander) → a.steps.items ≡ [] → Done a a None
nothing_done a e = record { source = refl; steps = e; total = sym (earlier_none (noted a.fault)) }

pub done_as : (a b : Expander) (x y : Option Fault) → x ≡ y → Done a b x → Done a b y
done_as a b x y e h = let P : Option Fault → Type 0 = λ z. Done a b z in subst P e h

pub both_done : (a b c : Expander) (x y : Option Fault) → Done a b x → Done b c y → Done a c (earlier x y)
both_done a b c x y p q = record {
  source = q.source ∙ p.source;
  steps = q.steps;
  total =
      q.total ∙ (ap (λ z. earlier z y) p.total ∙ earlier_assoc (noted a.fault) x y);
}

-- what waits after a call is done, where nothing waited before
pub then_done : (a b c : Expander) (x : Option Fault) → a.steps.items ≡ [] → Adds a b x
    → ((due : Option Fault) → AllWait b.source b.steps.items due → Done b c due) → Done a c x
then_done a b c x e p run =
    let P : Source → Type 0 = λ s. AllWait s p.put p.later in
    let Q : List Step → Type 0 = λ l. AllWait b.source l p.later in
    let same : b.steps.items ≡ p.put = p.steps ∙ ap (λ l. l ++ p.put) e in
    let d = run p.later (subst Q (sym same) (subst P (sym p.source) p.waiting)) in
    record { source = d.source ∙ p.source; steps = d.steps; total = d.total ∙ p.total }

-- Definitions

one_before : (before : Bindings → Bindings) (p : Pos) → Shape before p → (bs : Bindings)
    → least (in_bindings (before bs)) ≡ earlier (least (in_bindings (before no_binding))) (least (in_bindings bs))
one_before before p (good w e same) bs =
    let x = least (in_word w) in
    let y = least (in_exp e) in
    let z = least (in_bindings bs) in
    ap (λ l. least (in_bindings l)) (same bs)
    ∙ (least_append (in_word w) (in_exp e ++ in_bindings bs)
    ∙ (ap (earlier x) (least_append (in_exp e) (in_bindings bs))
    ∙ (sym (earlier_assoc x y z)
    ∙ ap (λ l. earlier l z)
    (ap (λ l. earlier x (least l)) (sym (append-nil (in_exp e)))
    ∙ (sym (least_append (in_word w) (in_exp e ++ [])) ∙ ap (λ l. least (in_bindings l)) (sym (same no_binding)))))))
one_before before p (bad n same) bs =
    ap (λ l. least (in_bindings l)) (same bs)
    ∙ ap (λ l. earlier (least (in_bindings l)) (least (in_bindings bs))) (sym (same no_binding))

abbrev pub defining_of : Items → Option Fault
defining_of ds = least (in_bindings (each_definition ds no_binding))

pub record DefinitionsDone (a b : Expander) (rest : List ℕ) (ds : Items) : Type 0 where
  pub left : Items
  pub are : AreDefinitions a.source rest left
  pub paid : Option Fault
  pub done : Done a b paid
  pub total : earlier paid (defining_of left) ≡ defining_of ds

pub no_definitions_done : (a : Expander) (ids : List ℕ) (ds : Items) → a.steps.items ≡ [] → AreDefinitions a.source ids ds
    → DefinitionsDone a a ids ds
no_definitions_done a ids ds e h = record { left = ds; are = h; paid = None; done = nothing_done a e; total = refl }

pub one_definition_done : (a b c : Expander) (rest others : List ℕ) (id : ℕ) (ds : Items) → DefinitionsDone a b rest ds
    → rest ≡ id ∷ others
    → ((d : Datum) → Reads b.source id d → is_define d ≡ true → b.steps.items ≡ []
    → Done b c (least (in_bindings (definitions_before d no_binding))))
    → DefinitionsDone a c others ds
one_definition_done a b c rest others id ds i e one =
    let f = first_of a.source rest id others i.left e i.are.read in
    let P : Items → Type 0 = λ l. all_items is_define l ≡ true in
    let t = and_split (is_define f.datum) (all_items is_define f.others) (subst P f.are i.are.define) in
    let Q : Source → Type 0 = λ s. Reads s id f.datum in
    let x = least (in_bindings (definitions_before f.datum no_binding)) in
    record {
      left = f.others;
      are = record { read = f.rest; define = t.1 };
      paid = earlier i.paid x;
      done = both_done a b c i.paid x i.done (one f.datum (subst Q (sym i.done.source) f.first) t.0 i.done.steps);
      total =
          earlier_assoc i.paid x (defining_of f.others)
          ∙ (ap (earlier i.paid)
          (sym (one_before (definitions_before f.datum) (place f.datum) (shape f.datum t.0) (each_definition f.others no_binding))
          ∙ ap defining_of (sym f.are))
          ∙ i.total);
    }

pub definitions_done : (a b : Expander) (rest : List ℕ) (ds : Items) → DefinitionsDone a b rest ds → rest ≡ []
    → Done a b (defining_of ds)
definitions_done a b rest ds i e =
    done_as a b i.paid (defining_of ds)
    (sym (earlier_none i.paid)
    ∙ (ap (λ l. earlier i.paid (defining_of l)) (sym (no_items a.source rest i.left e i.are.read)) ∙ i.total))
    i.done

-- the name and the value of a good definition
pub name_and_value : (s : Source) (def : Definition) (d : Datum) (i : IsDefined s def (place d) (definitions_before d))
    → earlier (least (in_word i.word)) (value_of d) ≡ least (in_bindings (definitions_before d no_binding))
name_and_value s def d i =
    ap (λ bs. earlier (least (in_word i.word)) (least (in_values bs))) (i.binds no_binding)
    ∙ (sym (least_append (in_word i.word) (in_exp i.exp ++ []))
    ∙ ap (λ bs. least (in_bindings bs)) (sym (i.binds no_binding)))

-- Forms

abbrev pub of_forms : Items → Option Fault
of_forms ds = least (in_forms (forms ds))

more_forms : (d : Datum) (ds : Items) (b : Bool) → is_definition d ≡ b → of_forms (item d ds) ≡ earlier (of_forms (item d none)) (of_forms ds)
more_forms d ds true e =
    ap (λ b. least (in_forms (if b then defining (definitions_before d no_binding) (forms ds) else evaluated (expr d) (forms ds)))) e
    ∙ (least_append (in_bindings (definitions_before d no_binding)) (in_forms (forms ds))
    ∙ ap (λ x. earlier x (of_forms ds))
    (ap least (sym (append-nil (in_bindings (definitions_before d no_binding))))
    ∙ ap (λ b. least (in_forms (if b then defining (definitions_before d no_binding) no_form else evaluated (expr d) no_form))) (sym e)))
more_forms d ds false e =
    ap (λ b. least (in_forms (if b then defining (definitions_before d no_binding) (forms ds) else evaluated (expr d) (forms ds)))) e
    ∙ (least_append (in_exp (expr d)) (in_forms (forms ds))
    ∙ ap (λ x. earlier x (of_forms ds))
    (ap least (sym (append-nil (in_exp (expr d))))
    ∙ ap (λ b. least (in_forms (if b then defining (definitions_before d no_binding) no_form else evaluated (expr d) no_form))) (sym e)))

-- a datum that is definitions, and one that is none
pub definitions_are : (s : Source) (d : Datum) (before after : List ℕ) (c : Collects s d before after true)
    → defining_of c.1 ≡ of_forms (item d none)
definitions_are s d before after c =
    ap (λ bs. least (in_bindings bs)) (sym (c.5 no_binding))
    ∙ (ap least (sym (append-nil (in_bindings (definitions_before d no_binding))))
    ∙ ap (λ b. least (in_forms (if b then defining (definitions_before d no_binding) no_form else evaluated (expr d) no_form))) (sym c.4))

pub expression_is : (d : Datum) → is_definition d ≡ false → of d ≡ of_forms (item d none)
expression_is d e =
    ap least (sym (append-nil (in_exp (expr d))))
    ∙ ap (λ b. least (in_forms (if b then defining (definitions_before d no_binding) no_form else evaluated (expr d) no_form))) (sym e)

pub record FormsDone (a b : Expander) (rest : List ℕ) (ds : Items) : Type 0 where
  pub left : Items
  pub read : ReadAll a.source rest left
  pub paid : Option Fault
  pub done : Done a b paid
  pub total : earlier paid (of_forms left) ≡ of_forms ds

pub no_forms_done : (a : Expander) (ids : List ℕ) (ds : Items) → ReadAll a.source ids ds → a.steps.items ≡ [] → FormsDone a a ids ds
no_forms_done a ids ds h e = record { left = ds; read = h; paid = None; done = nothing_done a e; total = refl }

pub one_form_done : (a b c : Expander) (rest others : List ℕ) (id : ℕ) (ds : Items) → FormsDone a b rest ds → rest ≡ id ∷ others
    → ((d : Datum) → Reads b.source id d → b.steps.items ≡ [] → Done b c (of_forms (item d none))) → FormsDone a c others ds
one_form_done a b c rest others id ds i e one =
    let f = first_of a.source rest id others i.left e i.read in
    let Q : Source → Type 0 = λ s. Reads s id f.datum in
    let x = of_forms (item f.datum none) in
    record {
      left = f.others;
      read = f.rest;
      paid = earlier i.paid x;
      done = both_done a b c i.paid x i.done (one f.datum (subst Q (sym i.done.source) f.first) i.done.steps);
      total =
          earlier_assoc i.paid x (of_forms f.others)
          ∙ (ap (earlier i.paid) (sym (more_forms f.datum f.others (is_definition f.datum) refl) ∙ ap of_forms (sym f.are)) ∙ i.total);
    }

pub forms_done : (a b : Expander) (rest : List ℕ) (ds : Items) → FormsDone a b rest ds → rest ≡ [] → Done a b (of_forms ds)
forms_done a b rest ds i e =
    done_as a b i.paid (of_forms ds)
    (sym (earlier_none i.paid) ∙ (ap (λ l. earlier i.paid (of_forms l)) (sym (no_items a.source rest i.left e i.read)) ∙ i.total))
    i.done

pub collected_all : (s : Source) (before after ids more : List ℕ) (defs : Items) → before ≡ [] → after ≡ before ++ more → ids ≡ after
    → AreDefinitions s more defs → AreDefinitions s ids defs
collected_all s before after ids more defs e q r h =
    let P : List ℕ → Type 0 = λ l. AreDefinitions s l defs in
    subst P (sym (r ∙ (q ∙ ap (λ l. l ++ more) e))) h
