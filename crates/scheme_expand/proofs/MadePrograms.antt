-- What the forms of a program come to, one after another, where nothing is bound round them.
--
-- `define_turns`: a definition of a top-level variable. `ran`: what was put is done. `Defined`, `Made`: the definitions
-- and forms before those that are left.
use Rattle.std.proofs.Common.{ℕ, ◌≡◌, List, [], ◌∷◌, ◌++◌, Bool, true, false, if◌then◌else◌, refl, sym, ap, ap₂, subst, ◌∙◌, append-nil}
use Rattle.std.specs.Prelude.{not, ◌&&◌}
use Rattle.scheme_base.specs.declared.pos.Pos.{Pos}
use Rattle.datum_form.specs.Data.{Datum, Items}
use Rattle.datum_form.specs.Data.Items.{none as no_items_left, item as datum_item}
use Rattle.quasi_expand.specs.Shapes.{all_items}
use Rattle.scheme_expand.specs.declared.expander.Expander.{Expander}
use Rattle.scheme_expand.specs.declared.source.Source.{Source}
use Rattle.scheme_expand.specs.declared.step.Step.{Step}
use Rattle.scheme_expand.specs.declared.step.Step.TheVariants as step
use Rattle.scheme_expand.specs.Faults.{in_exp, in_word, in_bindings, in_forms}
use Rattle.scheme_expand.specs.Forms.{Word, Exp, Bindings, no_binding, binding, broken, no_form, evaluated, defining}
use Rattle.scheme_expand.specs.Grammar.{is_define, is_definition, expr, definitions_before, each_definition, forms}
use Rattle.scheme_expand.specs.Making.{makes, given, instead, AllCome, Defines, IsRight}
use Rattle.scheme_expand.specs.Rewriting.{Scope, Side, OfLibrary, OfProgram, core, defines, form_cores, found, free, has_name, local_or, meaning}
use Rattle.scheme_expand.specs.Shapes.{AreDefinitions, Collects}
use Rattle.scheme_expand.specs.Viewed.{IsView, Leaves, Puts, Turns, Ends}
use Rattle.scheme_expand.specs.Views.{Context, View, Bound, bound_names, scope_of, raised, noting, visit, visit_all, seen}
use Rattle.scheme_expand.specs.Waiting.{Reads, ReadAll, place}
use Rattle.scheme_expand.proofs.Coming.{next_comes, one_comes, leave_then_put, puts_turn}
use Rattle.scheme_expand.proofs.Expanding.{right_parts}
use Rattle.scheme_expand.proofs.LastClause.{and_split}
use Rattle.scheme_expand.proofs.MadeBodies.{AreRightDefinitions, IsGood, good_before, good_of, good_alone}
use Rattle.scheme_expand.proofs.Noting.{noting_both, noting_scope, visit_all_then, visit_all_scope, visit_scope, scope_with, then-none}
use Rattle.scheme_expand.proofs.Parts.{first_of, no_items, read_in}
use Rattle.draft_form.specs.declared.draft.Variable.{Variable}
use Rattle.draft_form.specs.declared.draft.Variable.TheVariants as kind
use Rattle.draft_form.specs.Drafts.{Name, Draft, Drafts, Top, Library, Define, none, item, ◌then◌, Changed, parts}
use Rattle.draft_form.specs.Drawn.{name_of}

-- One definition

-- the value, then the definition, whose variable was noted before
defined_made : (c : Context) (p : Pos) (x : Variable) (y : Name) (e : Exp) (v : View) → name_of c.names x ≡ y
    → makes c (step.Define p x) (seen c e (noting c (Changed y ∷ []) v))
    ≡ visit c (Define p y (core e (scope_of c v))) v
defined_made c p x y e v h =
    let u : View = noting c (Changed y ∷ []) v in
    let d : Draft = core e (scope_of c v) in
    ap (λ s. makes c (step.Define p x) (visit c (core e s) u)) (noting_scope c (Changed y ∷ []) v)
    ∙ (ap (λ z. given (visit c d u) (d ∷ v.made) (λ f. Define p z f)) h
    ∙ ap (λ w. instead w v.made (Define p y d)) (sym (noting_both c (Changed y ∷ []) (parts d) v)))

pub define_turns : (c : Context) (a b e : Expander) (p : Pos) (id : ℕ) (x : Variable) (d : Datum) (v : View)
    → Reads c.source id d → is_define d ≡ true → p ≡ place d → (g : IsGood d)
    → name_of c.names x ≡ meaning (scope_of c v) g.word.name
    → Leaves c a b (noting c (Changed (name_of c.names x) ∷ []) v)
    → Puts b e (step.Define p x ∷ step.Defined id ∷ [])
    → Turns c a e (visit_all c (defines (definitions_before d no_binding) (scope_of c v)) v)
define_turns c a b e p id x d v h define at g is leaves puts =
    let s : Scope = scope_of c v in
    let y : Name = meaning s g.word.name in
    let P : Name → Type 0 = λ z. Leaves c a b (noting c (Changed z ∷ []) v) in
    let u : View = noting c (Changed y ∷ []) v in
    let w : View = seen c g.exp u in
    let end : View = visit_all c (defines (definitions_before d no_binding) s) v in
    let same : makes c (step.Define p x) w ≡ end =
    defined_made c p x y g.exp v is
    ∙ (ap (λ q. visit c (Define q y (core g.exp s)) v) at
    ∙ ap (λ bs. visit_all c (defines bs s) v) (sym (g.binds no_binding)))
    in
    leave_then_put c a b e u end (step.Define p x ∷ step.Defined id ∷ []) (subst P is leaves) puts
    (next_comes c (step.Define p x) (step.Defined id ∷ []) u w end
    (one_comes c (step.Defined id) u w
    (d, g.exp, h, record { define = define; place = place d; word = g.word; binds = g.binds no_binding }, g.right, refl))
    (sym same))

-- What was put is done

pub ran : (c : Context) (a b e : Expander) (w : View) → a.steps.items ≡ [] → Turns c a b w
    → ((v u : View) → IsView c b v → AllCome c b.steps.items v u → Ends c e u) → Ends c e w
ran c a b e w empty t run =
    let P : List Step → Type 0 = λ xs. AllCome c xs t.now w in
    run t.now w t.view (subst P (sym (t.steps ∙ ap (λ xs. xs ++ t.put) empty)) t.comes)

-- The variables stay: there are none

raised_empty : (c : Context) (ds : Drafts) (v : View) → v.bound ≡ [] → (visit_all c ds v).bound ≡ []
raised_empty c none v h = h
raised_empty c (item d ds) v h = raised_empty c ds (visit c d v) (ap (raised (parts d)) h)

-- Definitions, one after another

pub record DefinitionsMade (c : Context) (b : Expander) (v : View) (rest : List ℕ) (ds : Items) : Type 0 where
  pub left : Items
  pub are : AreDefinitions c.source rest left
  pub right : AreRightDefinitions left
  pub now : View
  pub ends : Ends c b now
  pub scope : scope_of c now ≡ scope_of c v
  pub empty : now.bound ≡ []
  pub total : visit_all c (defines (each_definition left no_binding) (scope_of c v)) now
      ≡ visit_all c (defines (each_definition ds no_binding) (scope_of c v)) v

pub no_definitions_made : (c : Context) (a : Expander) (v : View) (ids : List ℕ) (ds : Items) → IsView c a v
    → AreDefinitions c.source ids ds → a.steps.items ≡ [] → AreRightDefinitions ds → v.bound ≡ []
    → DefinitionsMade c a v ids ds
no_definitions_made c a v ids ds i h e r n = record {
  left = ds;
  are = h;
  right = r;
  now = v;
  ends = record { steps = e; view = i };
  scope = refl;
  empty = n;
  total = refl;
}

-- a good definition before others
first_defined : (c : Context) (d : Datum) (bs : Bindings) (s : Scope) (v : View) → IsGood d
    → visit_all c (defines (definitions_before d bs) s) v
    ≡ visit_all c (defines bs s) (visit_all c (defines (definitions_before d no_binding) s) v)
first_defined c d bs s v g =
    ap (λ l. visit_all c (defines l s) v) (g.binds bs)
    ∙ sym (ap (λ l. visit_all c (defines bs s) (visit_all c (defines l s) v)) (g.binds no_binding))

pub one_definition_made : (c : Context) (b e : Expander) (v : View) (rest others : List ℕ) (id : ℕ) (ds : Items)
    → DefinitionsMade c b v rest ds → rest ≡ id ∷ others
    → ((c : Context) (u : View) (d : Datum) → IsView c b u → Reads c.source id d → is_define d ≡ true → b.steps.items ≡ []
    → AreRightDefinitions (datum_item d no_items_left) → u.bound ≡ []
    → Ends c e (visit_all c (defines (definitions_before d no_binding) (scope_of c u)) u))
    → DefinitionsMade c e v others ds
one_definition_made c b e v rest others id ds i split one =
    let f = first_of c.source rest id others i.left split i.are.read in
    let P : Items → Type 0 = λ l. all_items is_define l ≡ true in
    let Q : Items → Type 0 = λ l. AreRightDefinitions l in
    let t = and_split (is_define f.datum) (all_items is_define f.others) (subst P f.are i.are.define) in
    let bs : Bindings = each_definition f.others no_binding in
    let g = good_before f.datum bs t.0 (subst Q f.are i.right) in
    let s : Scope = scope_of c v in
    let ds1 : Drafts = defines (definitions_before f.datum no_binding) s in
    let made = one c i.now f.datum i.ends.view f.first t.0 i.ends.steps (good_alone f.datum g.first) i.empty in
    let R : Scope → Type 0 = λ z. Ends c e (visit_all c (defines (definitions_before f.datum no_binding) z) i.now) in
    record {
      left = f.others;
      are = record { read = f.rest; define = t.1 };
      right = g.others;
      now = visit_all c ds1 i.now;
      ends = subst R i.scope made;
      scope = visit_all_scope c ds1 i.now ∙ i.scope;
      empty = raised_empty c ds1 i.now i.empty;
      total =
          sym (first_defined c f.datum bs s i.now g.first)
          ∙ (ap (λ l. visit_all c (defines (each_definition l no_binding) s) i.now) (sym f.are) ∙ i.total);
    }

pub definitions_made : (c : Context) (b : Expander) (v : View) (rest : List ℕ) (ds : Items) → DefinitionsMade c b v rest ds
    → rest ≡ [] → Ends c b (visit_all c (defines (each_definition ds no_binding) (scope_of c v)) v)
definitions_made c b v rest ds i e =
    let none_left = no_items c.source rest i.left e i.are.read in
    let P : View → Type 0 = λ u. Ends c b u in
    subst P
    (ap (λ l. visit_all c (defines (each_definition l no_binding) (scope_of c v)) i.now) (sym none_left) ∙ i.total)
    i.ends

-- Forms, one after another

-- the drafts of a datum that is one form, by whether it is a definition
abbrev drafts_if : Bool → Datum → Scope → Drafts
drafts_if b d s = form_cores (if b then defining (definitions_before d no_binding) no_form else evaluated (expr d) no_form) s

more_drafts : (d : Datum) (ds : Items) (s : Scope) (b : Bool) → is_definition d ≡ b
    → form_cores (forms (datum_item d ds)) s
    ≡ (form_cores (forms (datum_item d no_items_left)) s then form_cores (forms ds) s)
more_drafts d ds s true e =
    ap (λ b. form_cores (if b then defining (definitions_before d no_binding) (forms ds) else evaluated (expr d) (forms ds)) s) e
    ∙ sym
    (ap (λ b. drafts_if b d s then form_cores (forms ds) s) e
    ∙ ap (λ l. l then form_cores (forms ds) s) (then-none (defines (definitions_before d no_binding) s)))
more_drafts d ds s false e =
    ap (λ b. form_cores (if b then defining (definitions_before d no_binding) (forms ds) else evaluated (expr d) (forms ds)) s) e
    ∙ sym (ap (λ b. drafts_if b d s then form_cores (forms ds) s) e)

more_right : (d : Datum) (ds : Items) (b : Bool) → is_definition d ≡ b → in_forms (forms (datum_item d ds)) ≡ []
    → (in_forms (forms (datum_item d no_items_left)) ≡ []) × (in_forms (forms ds) ≡ [])
more_right d ds true e r =
    let p = right_parts (in_bindings (definitions_before d no_binding)) (in_forms (forms ds))
    (sym (ap (λ b. in_forms (if b then defining (definitions_before d no_binding) (forms ds) else evaluated (expr d) (forms ds))) e) ∙ r) in (
      ap (λ b. in_forms (if b then defining (definitions_before d no_binding) no_form else evaluated (expr d) no_form)) e
          ∙ (append-nil (in_bindings (definitions_before d no_binding)) ∙ p.0),
      p.1,
    )
more_right d ds false e r =
    let p = right_parts (in_exp (expr d)) (in_forms (forms ds))
    (sym (ap (λ b. in_forms (if b then defining (definitions_before d no_binding) (forms ds) else evaluated (expr d) (forms ds))) e) ∙ r) in (
      ap (λ b. in_forms (if b then defining (definitions_before d no_binding) no_form else evaluated (expr d) no_form)) e
          ∙ (append-nil (in_exp (expr d)) ∙ p.0),
      p.1,
    )

-- a datum that is definitions, and one that is none
pub definitions_drafts : (src : Source) (d : Datum) (before after : List ℕ) (k : Collects src d before after true) (s : Scope)
    → defines (each_definition k.1 no_binding) s ≡ form_cores (forms (datum_item d no_items_left)) s
definitions_drafts src d before after k s =
    sym
    (ap (λ b. drafts_if b d s) k.4
    ∙ (then-none (defines (definitions_before d no_binding) s) ∙ ap (λ bs. defines bs s) (k.5 no_binding)))

pub definitions_right : (src : Source) (d : Datum) (before after : List ℕ) (k : Collects src d before after true)
    → in_forms (forms (datum_item d no_items_left)) ≡ [] → AreRightDefinitions k.1
definitions_right src d before after k r =
    let p = right_parts (in_bindings (definitions_before d no_binding)) []
    (sym (ap (λ b. in_forms (if b then defining (definitions_before d no_binding) no_form else evaluated (expr d) no_form)) k.4) ∙ r) in
    sym (ap in_bindings (k.5 no_binding)) ∙ p.0

pub expression_draft : (d : Datum) (s : Scope) → is_definition d ≡ false
    → item (core (expr d) s) none ≡ form_cores (forms (datum_item d no_items_left)) s
expression_draft d s e = sym (ap (λ b. drafts_if b d s) e)

pub expression_right : (d : Datum) → is_definition d ≡ false → in_forms (forms (datum_item d no_items_left)) ≡ [] → IsRight (expr d)
expression_right d e r =
    let p = right_parts (in_exp (expr d)) []
    (sym (ap (λ b. in_forms (if b then defining (definitions_before d no_binding) no_form else evaluated (expr d) no_form)) e) ∙ r) in
    p.0

pub record FormsMade (c : Context) (b : Expander) (v : View) (rest : List ℕ) (ds : Items) : Type 0 where
  pub left : Items
  pub read : ReadAll c.source rest left
  pub right : in_forms (forms left) ≡ []
  pub now : View
  pub ends : Ends c b now
  pub scope : scope_of c now ≡ scope_of c v
  pub empty : now.bound ≡ []
  pub total : visit_all c (form_cores (forms left) (scope_of c v)) now ≡ visit_all c (form_cores (forms ds) (scope_of c v)) v

pub no_forms_made : (c : Context) (a : Expander) (v : View) (ids : List ℕ) (ds : Items) → IsView c a v
    → ReadAll c.source ids ds → a.steps.items ≡ [] → in_forms (forms ds) ≡ [] → v.bound ≡ [] → FormsMade c a v ids ds
no_forms_made c a v ids ds i h e r n = record {
  left = ds;
  read = h;
  right = r;
  now = v;
  ends = record { steps = e; view = i };
  scope = refl;
  empty = n;
  total = refl;
}

pub one_form_made : (c : Context) (b e : Expander) (v : View) (rest others : List ℕ) (id : ℕ) (ds : Items)
    → FormsMade c b v rest ds → rest ≡ id ∷ others
    → ((c : Context) (u : View) (d : Datum) → IsView c b u → Reads c.source id d → b.steps.items ≡ []
    → in_forms (forms (datum_item d no_items_left)) ≡ [] → u.bound ≡ []
    → Ends c e (visit_all c (form_cores (forms (datum_item d no_items_left)) (scope_of c u)) u))
    → FormsMade c e v others ds
one_form_made c b e v rest others id ds i split one =
    let f = first_of c.source rest id others i.left split i.read in
    let P : Items → Type 0 = λ l. in_forms (forms l) ≡ [] in
    let r = more_right f.datum f.others (is_definition f.datum) refl (subst P f.are i.right) in
    let s : Scope = scope_of c v in
    let ds1 : Drafts = form_cores (forms (datum_item f.datum no_items_left)) s in
    let made = one c i.now f.datum i.ends.view f.first i.ends.steps r.0 i.empty in
    let R : Scope → Type 0 = λ z. Ends c e (visit_all c (form_cores (forms (datum_item f.datum no_items_left)) z) i.now) in
    record {
      left = f.others;
      read = f.rest;
      right = r.1;
      now = visit_all c ds1 i.now;
      ends = subst R i.scope made;
      scope = visit_all_scope c ds1 i.now ∙ i.scope;
      empty = raised_empty c ds1 i.now i.empty;
      total =
          sym (visit_all_then c ds1 (form_cores (forms f.others) s) i.now)
          ∙ (ap (λ l. visit_all c l i.now) (sym (more_drafts f.datum f.others s (is_definition f.datum) refl))
          ∙ (ap (λ l. visit_all c (form_cores (forms l) s) i.now) (sym f.are) ∙ i.total));
    }

pub forms_made : (c : Context) (b : Expander) (v : View) (rest : List ℕ) (ds : Items) → FormsMade c b v rest ds → rest ≡ []
    → Ends c b (visit_all c (form_cores (forms ds) (scope_of c v)) v)
forms_made c b v rest ds i e =
    let none_left = no_items c.source rest i.left e i.read in
    let P : View → Type 0 = λ u. Ends c b u in
    subst P (ap (λ l. visit_all c (form_cores (forms l) (scope_of c v)) i.now) (sym none_left) ∙ i.total) i.ends

-- The same, written otherwise

pub ends_as : (c : Context) (b : Expander) (ds es : Drafts) (v : View) → ds ≡ es → Ends c b (visit_all c ds v)
    → Ends c b (visit_all c es v)
ends_as c b ds es v e h = let P : Drafts → Type 0 = λ l. Ends c b (visit_all c l v) in subst P e h

pub collects_in : (s t : Source) (d : Datum) (before after : List ℕ) (found : Bool) → s ≡ t → Collects s d before after found
    → Collects t d before after found
collects_in s t d before after found e h = let P : Source → Type 0 = λ u. Collects u d before after found in subst P e h

pub same_word : (d : Datum) (w x : Word) (p q : Pos) (e f : Exp) → definitions_before d no_binding ≡ binding p w e no_binding
    → definitions_before d no_binding ≡ binding q x f no_binding → w ≡ x
same_word d w x p q e f h k = let same : binding p w e no_binding ≡ binding q x f no_binding = sym h ∙ k in cc

-- a call that puts nothing, then one that comes to a view at once
pub left_named : (c : Context) (a b e : Expander) (w : View) → Puts a b [] → Leaves c b e w → Leaves c a e w
left_named c a b e w p l = record {
  steps = l.steps ∙ (p.steps ∙ append-nil a.steps.items);
  view = l.view;
}

-- where nothing is bound no name means a local variable
free_name : (c : Context) (level word : ℕ) (x : List ℕ) (side : Side) → name_of c.names (kind.Local level word) ≡ free side x → ⊥
free_name c level word x OfLibrary e = absurd (cc)
free_name c level word x (OfProgram public own) e = either_one (has_name public x && not (has_name own x)) e
  where
    either_one : (b : Bool) → name_of c.names (kind.Local level word) ≡ (if b then Library x else Top x) → ⊥
    either_one true h = absurd (cc)
    either_one false h = absurd (cc)

pub not_local : (c : Context) (v : View) (y : Variable) (x : List ℕ) → v.bound ≡ [] → name_of c.names y ≡ meaning (scope_of c v) x
    → (level word : ℕ) → y ≡ kind.Local level word → ⊥
not_local c v y x n h level word e =
    free_name c level word x c.side
    (sym (ap (name_of c.names) e) ∙ (h ∙ ap (λ bs. local_or (found (bound_names bs) x) x (free c.side x)) n))
