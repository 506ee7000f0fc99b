-- The bindings of a `do` are those whose parts are found.
use Rattle.std.proofs.Common.{◌≡◌, ℕ, Bool, true, false, List as Seq, [], ◌∷◌, Option, refl, sym, ap, ◌∙◌}
use Rattle.std.specs.Prelude.{◌&&◌}
use Rattle.std.specs.Option.{is_some}
use Rattle.datum_form.specs.declared.datums.Node.{Node}
use Rattle.datum_form.specs.declared.token.Atom.TheVariants.{Integer, Boolean, Character, String, Symbol}
use Rattle.datum_form.specs.Data.{Datum, Datum as datum, Items}
use Rattle.datum_form.specs.Data.Items.{none, item}
use Rattle.datum_form.specs.Stands.{Stands, StandAll}
use Rattle.quasi_expand.specs.declared.do_loop.DoBinding.{DoBinding}
use Rattle.quasi_expand.specs.Agreement.{Agree}
use Rattle.quasi_expand.specs.Loops.{IsStep, step_of}
use Rattle.quasi_expand.specs.Shapes.{all_items, is_step}
use Rattle.quasi_expand.proofs.FirstItem.{first_of, after_first, agree_some}

-- a binding is what has its parts
has_parts : (d : Datum) → is_some (step_of d) ≡ is_step d
has_parts (datum.Atomic p a) = refl
has_parts (datum.Dotted p is d) = refl
has_parts (datum.Vector p is) = refl
has_parts (datum.List p none) = refl
has_parts (datum.List p (item (datum.Atomic q (Integer n)) none)) = refl
has_parts (datum.List p (item (datum.Atomic q (Boolean b)) none)) = refl
has_parts (datum.List p (item (datum.Atomic q (Character c)) none)) = refl
has_parts (datum.List p (item (datum.Atomic q (String bytes)) none)) = refl
has_parts (datum.List p (item (datum.Atomic q (Symbol x)) none)) = refl
has_parts (datum.List p (item (datum.List q is) none)) = refl
has_parts (datum.List p (item (datum.Dotted q is d) none)) = refl
has_parts (datum.List p (item (datum.Vector q is) none)) = refl
has_parts (datum.List p (item (datum.Atomic q (Integer n)) (item e none))) = refl
has_parts (datum.List p (item (datum.Atomic q (Boolean b)) (item e none))) = refl
has_parts (datum.List p (item (datum.Atomic q (Character c)) (item e none))) = refl
has_parts (datum.List p (item (datum.Atomic q (String bytes)) (item e none))) = refl
has_parts (datum.List p (item (datum.Atomic q (Symbol x)) (item e none))) = refl
has_parts (datum.List p (item (datum.List q is) (item e none))) = refl
has_parts (datum.List p (item (datum.Dotted q is d) (item e none))) = refl
has_parts (datum.List p (item (datum.Vector q is) (item e none))) = refl
has_parts (datum.List p (item (datum.Atomic q (Integer n)) (item e (item f none)))) = refl
has_parts (datum.List p (item (datum.Atomic q (Boolean b)) (item e (item f none)))) = refl
has_parts (datum.List p (item (datum.Atomic q (Character c)) (item e (item f none)))) = refl
has_parts (datum.List p (item (datum.Atomic q (String bytes)) (item e (item f none)))) = refl
has_parts (datum.List p (item (datum.Atomic q (Symbol x)) (item e (item f none)))) = refl
has_parts (datum.List p (item (datum.List q is) (item e (item f none)))) = refl
has_parts (datum.List p (item (datum.Dotted q is d) (item e (item f none)))) = refl
has_parts (datum.List p (item (datum.Vector q is) (item e (item f none)))) = refl
has_parts (datum.List p (item (datum.Atomic q (Integer n)) (item e (item f (item g gs))))) = refl
has_parts (datum.List p (item (datum.Atomic q (Boolean b)) (item e (item f (item g gs))))) = refl
has_parts (datum.List p (item (datum.Atomic q (Character c)) (item e (item f (item g gs))))) = refl
has_parts (datum.List p (item (datum.Atomic q (String bytes)) (item e (item f (item g gs))))) = refl
has_parts (datum.List p (item (datum.Atomic q (Symbol x)) (item e (item f (item g gs))))) = refl
has_parts (datum.List p (item (datum.List q is) (item e (item f (item g gs))))) = refl
has_parts (datum.List p (item (datum.Dotted q is d) (item e (item f (item g gs))))) = refl
has_parts (datum.List p (item (datum.Vector q is) (item e (item f (item g gs))))) = refl

-- what is found says whether the first of the data is a binding
found : (nodes : Seq Node) (first : ℕ) (d : Datum) (o : Option DoBinding) → Stands nodes first d
    → ((e : Datum) → Stands nodes first e → Agree (IsStep nodes) o (step_of e)) → is_step d ≡ is_some o
found nodes first d o h parts = sym (has_parts d) ∙ sym (agree_some (IsStep nodes) o (step_of d) (parts d h))

-- those that are left are bindings just as all are
abbrev pub Left : Seq Node → Seq ℕ → Bool → Type 0
Left nodes rest all = (es : Items) × StandAll nodes rest es × (all ≡ all_items is_step es)

pub no_binding : (nodes : Seq Node) (rest others : Seq ℕ) (first : ℕ) (all : Bool) (o : Option DoBinding)
    → rest ≡ first ∷ others
    → ((e : Datum) → Stands nodes first e → Agree (IsStep nodes) o (step_of e)) → is_some o ≡ false
    → Left nodes rest all → false ≡ all
no_binding nodes rest others first all o split parts lacks (none, h, same) = absurd (cc)
no_binding nodes rest others first all o split parts lacks (item d ds, h, same) =
    sym
    (same
    ∙ ap (λ b. b && all_items is_step ds)
    (found nodes first d o (first_of nodes rest others first d ds split h) parts ∙ lacks))

pub one_binding : (nodes : Seq Node) (rest others : Seq ℕ) (first : ℕ) (all : Bool) (o : Option DoBinding)
    → rest ≡ first ∷ others
    → ((e : Datum) → Stands nodes first e → Agree (IsStep nodes) o (step_of e)) → is_some o ≡ true
    → Left nodes rest all → Left nodes others all
one_binding nodes rest others first all o split parts has (none, h, same) = absurd (cc)
one_binding nodes rest others first all o split parts has (item d ds, h, same) = (
  ds,
  after_first nodes rest others first d ds split h,
  same
      ∙ ap (λ b. b && all_items is_step ds)
      (found nodes first d o (first_of nodes rest others first d ds split h) parts ∙ has),
)

pub all_bindings : (nodes : Seq Node) (rest : Seq ℕ) (all : Bool) → rest ≡ [] → Left nodes rest all → true ≡ all
all_bindings nodes rest all empty (none, h, same) = sym same
all_bindings nodes rest all empty (item d ds, h, same) = absurd (cc)
