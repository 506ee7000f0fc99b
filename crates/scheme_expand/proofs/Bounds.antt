-- The faults of forms that have bindings and a body.
use Rattle.std.proofs.Common.{ℕ, ◌≡◌, List, [], ◌∷◌, ◌++◌, Option, Some, None, Bool, true, false, refl, sym, ap, subst, ◌∙◌}
use Rattle.std.specs.Prelude.{slice_get, not, ◌||◌}
use Rattle.datum_form.specs.declared.token.Atom.TheVariants.{Integer, Boolean, Character, String, Symbol}
use Rattle.scheme_base.specs.declared.pos.Pos.{Pos}
use Rattle.datum_form.specs.Data.{Datum, Datum as datum, Items}
use Rattle.datum_form.specs.Data.Items.{none, item}
use Rattle.scheme_expand.specs.declared.source.Source.{Source}
use Rattle.scheme_expand.specs.declared.expander.Expander.{Expander}
use Rattle.scheme_expand.specs.declared.binding.Bindings.{Bindings as Pairs}
use Rattle.scheme_expand.specs.declared.body.Body.{Body as Parts}
use Rattle.scheme_expand.specs.Forms.{Word, Exp, Body, Wrong, Let, LetStar, Letrec, Named}
use Rattle.quasi_expand.specs.Shapes.{is_list_of, is_name}
use Rattle.scheme_expand.specs.Grammar.{word, rule, checked, is_no_body, is_binding, twice, defines_twice, bound_words, bindings, body, let_form, let_star_form, letrec_form}
use Rattle.scheme_expand.specs.Faults.{fault, least, in_exp, in_body, in_word, in_words, in_bindings}
use Rattle.scheme_expand.specs.Shapes.{AreBindings, AreBound, IsBody, together_words, bound_checks, bound_form, named_form}
use Rattle.scheme_expand.specs.Waiting.{earlier, named_datum, named_data, Reads, ReadAll, Adds}
use Rattle.scheme_expand.proofs.Adding.{both, due}
use Rattle.scheme_expand.proofs.Bodies.{then_none, all_in, body_in}
use Rattle.scheme_expand.proofs.Defining.{bindings_apart}
use Rattle.scheme_expand.proofs.Due.{of_all}
use Rattle.scheme_expand.proofs.Least.{least_append}
use Rattle.scheme_expand.proofs.Operators.{name_read}
use Rattle.scheme_expand.proofs.Parameters.{not_named}
use Rattle.scheme_expand.proofs.Parts.{no_items, first_of}
use Rattle.scheme_expand.specs.Noted.{level_in}

-- Checks, the least rule first

-- the form's fault is noted
noted_due : (a b : Expander) (p : Pos) (n : ℕ) (t : Bool) (ds : Items) (e : Exp) → checked p (bound_checks t ds) e ≡ Wrong p n
    → Adds a b (least (fault p n ∷ [])) → Adds a b (least (in_exp (checked p (bound_checks t ds) e)))
noted_due a b p n t ds e h k =
    due a b (least (fault p n ∷ [])) (least (in_exp (checked p (bound_checks t ds) e))) (ap (λ x. least (in_exp x)) (sym h)) k

by_checks : (p : Pos) (t : Bool) (ds : Items) (e : Exp) (d : Datum) (others : Items) (x y z : Bool) → ds ≡ item d others
    → is_no_body others ≡ x → not (is_list_of is_binding d) ≡ y
    → (twice (together_words t (bindings d)) || defines_twice (body others)) ≡ z
    → checked p (bound_checks t ds) e ≡ checked p (rule x 4 ∷ rule y 8 ∷ rule z 12 ∷ []) e
by_checks p t ds e d others x y z are f g h =
    let u = twice (together_words t (bindings d)) || defines_twice (body others) in
    ap (λ l. checked p (bound_checks t l) e) are
    ∙ (ap (λ b. checked p (rule b 4 ∷ rule (not (is_list_of is_binding d)) 8 ∷ rule u 12 ∷ []) e) f
    ∙ (ap (λ b. checked p (rule x 4 ∷ rule b 8 ∷ rule u 12 ∷ []) e) g
    ∙ ap (λ b. checked p (rule x 4 ∷ rule y 8 ∷ rule b 12 ∷ []) e) h))

pub no_operands_wrong : (s : Source) (p : Pos) (t : Bool) (ids : List ℕ) (ds : Items) (e : Exp) → ReadAll s ids ds → ids ≡ []
    → checked p (bound_checks t ds) e ≡ Wrong p 4
no_operands_wrong s p t ids ds e h q = ap (λ l. checked p (bound_checks t l) e) (no_items s ids ds q h)

pub no_operands : (a b : Expander) (p : Pos) (t : Bool) (ids : List ℕ) (ds : Items) (e : Exp) → ReadAll a.source ids ds → ids ≡ []
    → Adds a b (least (fault p 4 ∷ [])) → Adds a b (least (in_exp (checked p (bound_checks t ds) e)))
no_operands a b p t ids ds e h q k = noted_due a b p 4 t ds e (no_operands_wrong a.source p t ids ds e h q) k

pub no_body_wrong : (s : Source) (p : Pos) (t : Bool) (ids others : List ℕ) (id : ℕ) (ds : Items) (e : Exp) → ReadAll s ids ds
    → ids ≡ id ∷ others → ((es : Items) → ReadAll s others es → is_no_body es ≡ true)
    → checked p (bound_checks t ds) e ≡ Wrong p 4
no_body_wrong s p t ids others id ds e h q absent =
    let f = first_of s ids id others ds q h in
    by_checks p t ds e f.datum f.others true (not (is_list_of is_binding f.datum)) _ f.are (absent f.others f.rest) refl refl

pub no_body_bound : (a b : Expander) (p : Pos) (t : Bool) (ids others : List ℕ) (id : ℕ) (ds : Items) (e : Exp)
    → ReadAll a.source ids ds → ids ≡ id ∷ others → ((es : Items) → ReadAll a.source others es → is_no_body es ≡ true)
    → Adds a b (least (fault p 4 ∷ [])) → Adds a b (least (in_exp (checked p (bound_checks t ds) e)))
no_body_bound a b p t ids others id ds e h q absent k =
    noted_due a b p 4 t ds e (no_body_wrong a.source p t ids others id ds e h q absent) k

pub no_pairs_wrong : (s : Source) (p : Pos) (t : Bool) (ids others : List ℕ) (id : ℕ) (ds : Items) (e : Exp) → ReadAll s ids ds
    → ids ≡ id ∷ others → ((es : Items) → ReadAll s others es → is_no_body es ≡ false)
    → ((d : Datum) → Reads s id d → is_list_of is_binding d ≡ false) → checked p (bound_checks t ds) e ≡ Wrong p 8
no_pairs_wrong s p t ids others id ds e h q present pairs =
    let f = first_of s ids id others ds q h in
    by_checks p t ds e f.datum f.others false true _ f.are (present f.others f.rest) (ap not (pairs f.datum f.first)) refl

pub no_pairs_bound : (a b : Expander) (p : Pos) (t : Bool) (ids others : List ℕ) (id : ℕ) (ds : Items) (e : Exp)
    → ReadAll a.source ids ds → ids ≡ id ∷ others → ((es : Items) → ReadAll a.source others es → is_no_body es ≡ false)
    → ((d : Datum) → Reads a.source id d → is_list_of is_binding d ≡ false)
    → Adds a b (least (fault p 8 ∷ [])) → Adds a b (least (in_exp (checked p (bound_checks t ds) e)))
no_pairs_bound a b p t ids others id ds e h q present pairs k =
    noted_due a b p 8 t ds e (no_pairs_wrong a.source p t ids others id ds e h q present pairs) k

-- what is read of a form whose bindings and body are good ones
pub record ReadBound (s : Source) (ds : Items) (pairs : Pairs) (parts : Parts) : Type 0 where
  pub first : Datum
  pub others : Items
  pub are : ds ≡ item first others
  pub has_body : is_no_body others ≡ false
  pub has_pairs : is_list_of is_binding first ≡ true
  pub bound : AreBindings s pairs (bindings first)
  pub inner : IsBody s parts (body others)

pub bound_read : (s : Source) (ids others : List ℕ) (id : ℕ) (ds : Items) (pairs : Pairs) (parts : Parts) → ReadAll s ids ds
    → ids ≡ id ∷ others → ((es : Items) → ReadAll s others es → (is_no_body es ≡ false) × IsBody s parts (body es))
    → ((d : Datum) → Reads s id d → (is_list_of is_binding d ≡ true) × AreBindings s pairs (bindings d))
    → ReadBound s ds pairs parts
bound_read s ids others id ds pairs parts h q inner bound =
    let f = first_of s ids id others ds q h in
    let b = inner f.others f.rest in
    let c = bound f.datum f.first in
    record { first = f.datum; others = f.others; are = f.are; has_body = b.0; has_pairs = c.0; bound = c.1; inner = b.1 }

pub names_twice_wrong : (s : Source) (p : Pos) (t : Bool) (ds : Items) (e : Exp) (pairs : Pairs) (parts : Parts)
    → (i : ReadBound s ds pairs parts) → twice (together_words t (bindings i.first)) ≡ true
    → checked p (bound_checks t ds) e ≡ Wrong p 12
names_twice_wrong s p t ds e pairs parts i q =
    by_checks p t ds e i.first i.others false false true i.are i.has_body (ap not i.has_pairs)
    (ap (λ x. x || defines_twice (body i.others)) q)

pub names_twice : (a b : Expander) (p : Pos) (t : Bool) (ds : Items) (e : Exp) (pairs : Pairs) (parts : Parts)
    → (i : ReadBound a.source ds pairs parts) → twice (together_words t (bindings i.first)) ≡ true
    → Adds a b (least (fault p 12 ∷ [])) → Adds a b (least (in_exp (checked p (bound_checks t ds) e)))
names_twice a b p t ds e pairs parts i q k =
    noted_due a b p 12 t ds e (names_twice_wrong a.source p t ds e pairs parts i q) k

pub definitions_twice_wrong : (s : Source) (p : Pos) (t : Bool) (ds : Items) (e : Exp) (pairs : Pairs) (parts : Parts)
    → (i : ReadBound s ds pairs parts) → twice (together_words t (bindings i.first)) ≡ false
    → defines_twice (body i.others) ≡ true → checked p (bound_checks t ds) e ≡ Wrong p 12
definitions_twice_wrong s p t ds e pairs parts i q r =
    by_checks p t ds e i.first i.others false false true i.are i.has_body (ap not i.has_pairs)
    (ap (λ x. x || defines_twice (body i.others)) q ∙ r)

pub definitions_twice : (a b : Expander) (p : Pos) (t : Bool) (ds : Items) (e : Exp) (pairs : Pairs) (parts : Parts)
    → (i : ReadBound a.source ds pairs parts) → twice (together_words t (bindings i.first)) ≡ false
    → defines_twice (body i.others) ≡ true
    → Adds a b (least (fault p 12 ∷ [])) → Adds a b (least (in_exp (checked p (bound_checks t ds) e)))
definitions_twice a b p t ds e pairs parts i q r k =
    noted_due a b p 12 t ds e (definitions_twice_wrong a.source p t ds e pairs parts i q r) k

pub good_bound : (s : Source) (t : Bool) (ds : Items) (pairs : Pairs) (parts : Parts) → (i : ReadBound s ds pairs parts)
    → twice (together_words t (bindings i.first)) ≡ false → defines_twice (body i.others) ≡ false
    → AreBound s t ds pairs parts
good_bound s t ds pairs parts i q r = record {
  first = i.first;
  others = i.others;
  are = i.are;
  bound = i.bound;
  inner = i.inner;
  good =
      λ p e.
      by_checks p t ds e i.first i.others false false false i.are i.has_body (ap not i.has_pairs)
      (ap (λ x. x || defines_twice (body i.others)) q ∙ r);
}

-- Forms

pub bound_as : (t : Bool) (p : Pos) (ds : Items) → (e : Exp) × (checked p (bound_checks t ds) e ≡ bound_form t p ds)
bound_as t p none = (Wrong p 4, refl)
bound_as t p (item d ds) = (Let p (bindings d) (body ds), refl)

pub named_as : (p : Pos) (w : Word) (ds : Items) → (e : Exp) × (checked p (bound_checks true ds) e ≡ named_form p w ds)
named_as p w none = (Wrong p 4, refl)
named_as p w (item d ds) = (Named p w (bindings d) (body ds), refl)

pub broken_bound : (a b : Expander) (t : Bool) (p : Pos) (ds : Items)
    → ((e : Exp) → Adds a b (least (in_exp (checked p (bound_checks t ds) e)))) → Adds a b (least (in_exp (bound_form t p ds)))
broken_bound a b t p ds k =
    let s = bound_as t p ds in
    due a b (least (in_exp (checked p (bound_checks t ds) s.0))) (least (in_exp (bound_form t p ds)))
    (ap (λ x. least (in_exp x)) s.1) (k s.0)

pub broken_named : (a b : Expander) (p : Pos) (w : Word) (ds : Items)
    → ((e : Exp) → Adds a b (least (in_exp (checked p (bound_checks true ds) e)))) → Adds a b (least (in_exp (named_form p w ds)))
broken_named a b p w ds k =
    let s = named_as p w ds in
    due a b (least (in_exp (checked p (bound_checks true ds) s.0))) (least (in_exp (named_form p w ds)))
    (ap (λ x. least (in_exp x)) s.1) (k s.0)

-- names, then values, then the body
parts_due : (a b c d e f : Expander) (t : Bool) (ds : Items) (pairs : Pairs) (parts : Parts)
    → (i : AreBound a.source t ds pairs parts)
    → ((ws : List Word) → ReadAll a.source pairs.names.items (named_data ws) → Adds a b (least (in_words ws)))
    → Adds b c None → ((es : Items) → ReadAll c.source pairs.values.items es → Adds c d (of_all es)) → Adds d e None
    → ((x : Body) → IsBody e.source parts x → Adds e f (least (in_body x)))
    → Adds a f (least (in_bindings (bindings i.first) ++ in_body (body i.others)))
parts_due a b c d e f t ds pairs parts i enter wait values wait2 inner =
    let bs = bindings i.first in
    let w = least (in_words (bound_words bs)) in
    let v = of_all i.bound.items in
    let u = least (in_body (body i.others)) in
    let named = then_none a b c w (enter (bound_words bs) i.bound.names) wait in
    let valued =
    both a c d w v named (values i.bound.items (all_in a.source c.source pairs.values.items i.bound.items (sym named.source) i.bound.values))
    in
    let left = then_none a d e (earlier w v) valued wait2 in
    due a f (earlier (earlier w v) u) (least (in_bindings bs ++ in_body (body i.others)))
    (ap (λ x. earlier x u) (ap (λ l. earlier w (least l)) (sym i.bound.same) ∙ sym (bindings_apart bs))
    ∙ sym (least_append (in_bindings bs) (in_body (body i.others))))
    (both a e f (earlier w v) u left (inner (body i.others) (body_in a.source e.source parts (body i.others) (sym left.source) i.inner)))

form_of : (t : Bool) (p : Pos) (ds : Items) (d : Datum) (others : Items) → ds ≡ item d others
    → ((q : Pos) (e : Exp) → checked q (bound_checks t ds) e ≡ e) → bound_form t p ds ≡ Let p (bindings d) (body others)
form_of t p ds d others are good =
    let e = Let p (bindings d) (body others) in
    ap (bound_form t p) are ∙ (ap (λ l. checked p (bound_checks t l) e) (sym are) ∙ good p e)

pub let_due : (a b c d e f : Expander) (t : Bool) (p : Pos) (ds : Items) (pairs : Pairs) (parts : Parts)
    → AreBound a.source t ds pairs parts
    → ((ws : List Word) → ReadAll a.source pairs.names.items (named_data ws) → Adds a b (least (in_words ws)))
    → Adds b c None → ((es : Items) → ReadAll c.source pairs.values.items es → Adds c d (of_all es)) → Adds d e None
    → ((x : Body) → IsBody e.source parts x → Adds e f (least (in_body x))) → Adds a f (least (in_exp (bound_form t p ds)))
let_due a b c d e f t p ds pairs parts i enter wait values wait2 inner =
    due a f (least (in_bindings (bindings i.first) ++ in_body (body i.others))) (least (in_exp (bound_form t p ds)))
    (ap (λ x. least (in_exp x)) (sym (form_of t p ds i.first i.others i.are i.good)))
    (parts_due a b c d e f t ds pairs parts i enter wait values wait2 inner)

named_of : (p : Pos) (w : Word) (ds : Items) (d : Datum) (others : Items) → ds ≡ item d others
    → ((q : Pos) (e : Exp) → checked q (bound_checks true ds) e ≡ e) → named_form p w ds ≡ Named p w (bindings d) (body others)
named_of p w ds d others are good =
    let e = Named p w (bindings d) (body others) in
    ap (named_form p w) are ∙ (ap (λ l. checked p (bound_checks true l) e) (sym are) ∙ good p e)

pub bound_in : (s u : Source) (t : Bool) (is : Items) (x : Pairs) (y : Parts) → s ≡ u → AreBound s t is x y → AreBound u t is x y
bound_in s u t is x y q k = record {
  first = k.first;
  others = k.others;
  are = k.are;
  bound = let P : Source → Type 0 = λ r. AreBindings r x (bindings k.first) in subst P q k.bound;
  inner = let P : Source → Type 0 = λ r. IsBody r y (body k.others) in subst P q k.inner;
  good = k.good;
}

pub named_due : (a z b c d e f : Expander) (p : Pos) (w : Word) (ds : Items) (pairs : Pairs) (parts : Parts)
    → AreBound a.source true ds pairs parts → Adds a z (least (in_word w))
    → ((ws : List Word) → ReadAll z.source pairs.names.items (named_data ws) → Adds z b (least (in_words ws)))
    → Adds b c None → ((es : Items) → ReadAll c.source pairs.values.items es → Adds c d (of_all es)) → Adds d e None
    → ((x : Body) → IsBody e.source parts x → Adds e f (least (in_body x))) → Adds a f (least (in_exp (named_form p w ds)))
unfolding bound_in
named_due a z b c d e f p w ds pairs parts i name enter wait values wait2 inner =
    let faults = in_bindings (bindings i.first) ++ in_body (body i.others) in
    let j : AreBound z.source true ds pairs parts = bound_in a.source z.source true ds pairs parts (sym name.source) i in
    due a f (earlier (least (in_word w)) (least faults)) (least (in_exp (named_form p w ds)))
    (sym (least_append (in_word w) faults) ∙ ap (λ x. least (in_exp x)) (sym (named_of p w ds i.first i.others i.are i.good)))
    (both a z f (least (in_word w)) (least faults) name
    (parts_due z b c d e f true ds pairs parts j enter wait values wait2 inner))

-- `let*` and `letrec` have the faults of a form of bindings and a body

same_faults : (p : Pos) (x y z : Bool) (e f : Exp) → in_exp e ≡ in_exp f
    → least (in_exp (checked p (rule x 4 ∷ rule y 8 ∷ rule z 12 ∷ []) e)) ≡ least (in_exp (checked p (rule x 4 ∷ rule y 8 ∷ rule z 12 ∷ []) f))
same_faults p true y z e f h = refl
same_faults p false true z e f h = refl
same_faults p false false true e f h = refl
same_faults p false false false e f h = ap least h

star_is : (p : Pos) (ds : Items) → least (in_exp (bound_form false p ds)) ≡ least (in_exp (let_star_form p ds))
star_is p none = refl
star_is p (item d ds) =
    same_faults p (is_no_body ds) (not (is_list_of is_binding d)) (defines_twice (body ds)) (Let p (bindings d) (body ds))
    (LetStar p (bindings d) (body ds)) refl

rec_is : (p : Pos) (ds : Items) → least (in_exp (bound_form true p ds)) ≡ least (in_exp (letrec_form p ds))
rec_is p none = refl
rec_is p (item d ds) =
    same_faults p (is_no_body ds) (not (is_list_of is_binding d)) (twice (bound_words (bindings d)) || defines_twice (body ds))
    (Let p (bindings d) (body ds)) (Letrec p (bindings d) (body ds)) refl

pub star_form : (a b : Expander) (p : Pos) (ds : Items) → Adds a b (least (in_exp (bound_form false p ds)))
    → Adds a b (least (in_exp (let_star_form p ds)))
star_form a b p ds k = due a b (least (in_exp (bound_form false p ds))) (least (in_exp (let_star_form p ds))) (star_is p ds) k

pub rec_form : (a b : Expander) (p : Pos) (ds : Items) → Adds a b (least (in_exp (bound_form true p ds)))
    → Adds a b (least (in_exp (letrec_form p ds)))
rec_form a b p ds k = due a b (least (in_exp (bound_form true p ds))) (least (in_exp (letrec_form p ds))) (rec_is p ds) k

-- `let` with a name, or without

pub without_name : (p : Pos) (d : Datum) (ds : Items) → is_name d ≡ false → let_form p (item d ds) ≡ bound_form true p (item d ds)
without_name p (datum.Atomic q (Symbol x)) ds e = absurd (cc)
without_name p (datum.Atomic q (Integer z)) ds e = refl
without_name p (datum.Atomic q (Boolean b)) ds e = refl
without_name p (datum.Atomic q (Character c)) ds e = refl
without_name p (datum.Atomic q (String t)) ds e = refl
without_name p (datum.List q is) ds e = refl
without_name p (datum.Dotted q is d) ds e = refl
without_name p (datum.Vector q is) ds e = refl

pub with_name : (p : Pos) (w : Word) (ds : Items)
    → named_form p (word w.place w.name) ds ≡ let_form p (item (named_datum w) ds)
with_name p w none = refl
with_name p w (item d ds) = refl

pub no_let : (s : Source) (p : Pos) (ids : List ℕ) (ds : Items) → ReadAll s ids ds → ids ≡ [] → let_form p ds ≡ Wrong p 4
no_let s p ids ds h e = ap (let_form p) (no_items s ids ds e h)

pub plain_due : (a b : Expander) (p : Pos) (ids others : List ℕ) (id : ℕ) (ds : Items) (found : Option ℕ) → ReadAll a.source ids ds
    → ids ≡ id ∷ others → found ≡ level_in (slice_get a.source.words.now id) → found ≡ None
    → Adds a b (least (in_exp (bound_form true p ds))) → Adds a b (least (in_exp (let_form p ds)))
plain_due a b p ids others id ds found h e f g k =
    let r = first_of a.source ids id others ds e h in
    due a b (least (in_exp (bound_form true p ds))) (least (in_exp (let_form p ds)))
    (ap (λ x. least (in_exp x))
    (ap (bound_form true p) r.are
    ∙ (sym (without_name p r.datum r.others (not_named a.source id r.datum found r.first f g)) ∙ ap (let_form p) (sym r.are))))
    k

pub with_name_due : (a b : Expander) (p : Pos) (ids others : List ℕ) (id w : ℕ) (ds : Items) (found : Option ℕ)
    → ReadAll a.source ids ds → ids ≡ id ∷ others → found ≡ level_in (slice_get a.source.words.now id) → found ≡ Some w
    → ((v : Word) (es : Items) → Reads a.source id (named_datum v) → ReadAll a.source others es
    → Adds a b (least (in_exp (named_form p v es)))) → Adds a b (least (in_exp (let_form p ds)))
with_name_due a b p ids others id w ds found h e f g k =
    let r = first_of a.source ids id others ds e h in
    let n = name_read a.source id r.datum w found r.first f g in
    let v = word n.0.place n.0.name in
    let P : Datum → Type 0 = λ d. Reads a.source id d in
    due a b (least (in_exp (named_form p v r.others))) (least (in_exp (let_form p ds)))
    (ap (λ x. least (in_exp x))
    (with_name p n.0 r.others ∙ (ap (λ d. let_form p (item d r.others)) (sym n.1) ∙ ap (let_form p) (sym r.are))))
    (k v r.others (subst P n.1 r.first) r.rest)
