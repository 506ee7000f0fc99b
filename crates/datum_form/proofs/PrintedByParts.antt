-- What is printed, part by part.
use Rattle.std.proofs.Common.{◌≡◌, ℕ, List as Seq, [], ◌∷◌, ◌++◌, Option, Some, None, refl, sym, ap, subst, ◌∙◌, append_assoc, length, arith}
use Rattle.std.proofs.lemmas.List.{append-nil, reverse-append}
use Rattle.std.specs.Prelude.{reverse, slice_get, codes}
use Rattle.datum_form.specs.declared.datums.Kind.{Kind}
use Rattle.datum_form.specs.declared.datums.Kind.TheVariants as kind
use Rattle.datum_form.specs.declared.datums.Node.{Node}
use Rattle.datum_form.specs.declared.text.Part.{Part}
use Rattle.datum_form.specs.declared.text.Part.TheVariants as part
use Rattle.datum_form.specs.declared.token.Atom.{Atom}
use Rattle.datum_form.specs.declared.token.Atom.TheVariants.{Integer, Boolean, Character, String, Symbol}
use Rattle.datum_form.specs.Data.{Datum, Datum as datum, Items}
use Rattle.datum_form.specs.Data.Items.{none, item}
use Rattle.datum_form.specs.Pending.{Prints, PrintAll, Pending, Left, IsKind}
use Rattle.datum_form.specs.Print.{text_of, items_text, more_text, lines_of}
use Rattle.datum_form.specs.Stands.{kind_of, Stands, StandAll}

last_first : (all parts : Seq Part) (p : Part) → all ≡ parts ++ p ∷ [] → reverse all ≡ p ∷ reverse parts
last_first all parts p e = ap reverse e ∙ reverse-append parts (p ∷ [])

pub pushed : (nodes : Seq Node) (parts all : Seq Part) (p : Part) (one rest : Seq ℕ) → all ≡ parts ++ p ∷ []
    → Prints nodes p one → Pending nodes parts rest → Pending nodes all (one ++ rest)
pushed nodes parts all p one rest e h k =
    let P : Seq Part → Type 0 = λ ps. PrintAll nodes ps (one ++ rest) in
    subst P (sym (last_first all parts p e)) (one, rest, refl, h, k)

pub popped : (nodes : Seq Node) (parts all : Seq Part) (p : Part) (bytes : Seq ℕ) → all ≡ parts ++ p ∷ []
    → Pending nodes all bytes
    → (one : Seq ℕ) × (others : Seq ℕ) × (bytes ≡ one ++ others) × Prints nodes p one × Pending nodes parts others
popped nodes parts all p bytes e h =
    let P : Seq Part → Type 0 = λ ps. PrintAll nodes ps bytes in
    subst P (last_first all parts p e) h

pub same_bytes : (nodes : Seq Node) (parts : Seq Part) (bytes more : Seq ℕ) → bytes ≡ more → Pending nodes parts bytes
    → Pending nodes parts more
same_bytes nodes parts bytes more e h = let P : Seq ℕ → Type 0 = λ b. Pending nodes parts b in subst P e h

-- one item more before the others
item_pushed : (nodes : Seq Node) (parts all : Seq Part) (p : Part) (id : ℕ) (done : Seq ℕ) (d : Datum) (js : Items)
    (one rest : Seq ℕ) → all ≡ parts ++ p ∷ [] → (Stands nodes id d → Prints nodes p one)
    → StandAll nodes (id ∷ done) (item d js) → (StandAll nodes done js → Pending nodes parts (more_text js ++ rest))
    → Pending nodes all ((one ++ more_text js) ++ rest)
item_pushed nodes parts all p id done d js one rest e prints h more =
    let same : h.0 ≡ id = cc in
    let others : h.1 ≡ done = cc in
    let P : ℕ → Type 0 = λ i. Stands nodes i d in
    let Q : Seq ℕ → Type 0 = λ ids. StandAll nodes ids js in
    same_bytes nodes all (one ++ (more_text js ++ rest)) ((one ++ more_text js) ++ rest)
    (sym (append_assoc one (more_text js) rest))
    (pushed nodes parts all p one (more_text js ++ rest) e (prints (subst P same h.3)) (more (subst Q others h.4)))

pub other_pushed : (nodes : Seq Node) (parts all : Seq Part) (id : ℕ) (done : Seq ℕ) (is : Items) (rest : Seq ℕ)
    → all ≡ parts ++ part.Next id ∷ [] → StandAll nodes (id ∷ done) is
    → ((js : Items) → StandAll nodes done js → Pending nodes parts (more_text js ++ rest))
    → Pending nodes all (more_text is ++ rest)
other_pushed nodes parts all id done (item d js) rest e h more =
    item_pushed nodes parts all (part.Next id) id done d js (codes " " ++ text_of d) rest e (λ s. (d, s, refl)) h (more js)
other_pushed nodes parts all id done none rest e h more = absurd (cc)

pub items_pushed : (nodes : Seq Node) (parts all : Seq Part) (id : ℕ) (done : Seq ℕ) (is : Items) (rest : Seq ℕ)
    → all ≡ parts ++ part.Datum id ∷ [] → StandAll nodes (id ∷ done) is
    → ((js : Items) → StandAll nodes done js → Pending nodes parts (more_text js ++ rest))
    → Pending nodes all (items_text is ++ rest)
items_pushed nodes parts all id done (item d js) rest e h more =
    item_pushed nodes parts all (part.Datum id) id done d js (text_of d) rest e (λ s. (d, s, refl)) h (more js)
items_pushed nodes parts all id done none rest e h more = absurd (cc)

pub no_items : (nodes : Seq Node) (parts : Seq Part) (ids : Seq ℕ) (is : Items) (rest : Seq ℕ) → ids ≡ []
    → StandAll nodes ids is → Pending nodes parts rest → Pending nodes parts (items_text is ++ rest)
no_items nodes parts ids none rest e h k = k
no_items nodes parts ids (item d js) rest e h k = absurd (cc)

pub none_pushed : (nodes : Seq Node) (parts : Seq Part) (is : Items) (rest : Seq ℕ) → StandAll nodes [] is
    → Pending nodes parts rest → Pending nodes parts (more_text is ++ rest)
none_pushed nodes parts none rest h k = k
none_pushed nodes parts (item d js) rest h k = absurd (cc)

pub none_left : (ids : Seq ℕ) → length ids ≡ 0 → ids ≡ []
none_left [] e = refl
none_left (i ∷ ids) e = absurd (omega (arith, e))

-- A datum begins with its node

pub closing : (nodes : Seq Node) (parts all : Seq Part) (rest : Seq ℕ) → all ≡ parts ++ part.Close ∷ []
    → Pending nodes parts rest → Pending nodes all (codes ")" ++ rest)
closing nodes parts all rest e h = pushed nodes parts all part.Close (codes ")") rest e refl h

pub no_list : (a : Atom) (ids : Seq ℕ) (end : Option ℕ) → kind_of a ≡ kind.List ids end → ⊥
no_list (Integer n) ids end e = cc
no_list (Boolean b) ids end e = cc
no_list (Character c) ids end e = cc
no_list (String bytes) ids end e = cc
no_list (Symbol bytes) ids end e = cc

no_vector : (a : Atom) (ids : Seq ℕ) → kind_of a ≡ kind.Vector ids → ⊥
no_vector (Integer n) ids e = cc
no_vector (Boolean b) ids e = cc
no_vector (Character c) ids e = cc
no_vector (String bytes) ids e = cc
no_vector (Symbol bytes) ids e = cc

-- a tail before what ends the list
tail_pending : (nodes : Seq Node) (parts mid : Seq Part) (id : ℕ) (d : Datum) (rest : Seq ℕ)
    → mid ≡ parts ++ part.Close ∷ part.Tail id ∷ [] → Stands nodes id d → Pending nodes parts rest
    → Pending nodes mid ((codes " . " ++ text_of d) ++ (codes ")" ++ rest))
tail_pending nodes parts mid id d rest e h k =
    pushed nodes (parts ++ part.Close ∷ []) mid (part.Tail id) (codes " . " ++ text_of d) (codes ")" ++ rest)
    (e ∙ sym (append_assoc parts (part.Close ∷ []) (part.Tail id ∷ []))) (d, h, refl)
    (closing nodes parts (parts ++ part.Close ∷ []) rest refl k)

-- what is printed first, and then what is pending
opened : (text printed begin inside whole : Seq ℕ) → printed ≡ text ++ begin → begin ++ inside ≡ whole
    → printed ++ inside ≡ text ++ whole
opened text printed begin inside whole e f =
    ap (λ l. l ++ inside) e ∙ (append_assoc text begin inside ∙ ap (λ l. text ++ l) f)

pub list_printed : (nodes : Seq Node) (k : Kind) (d : Datum) (rest ids : Seq ℕ) (tail : Option ℕ)
    (parts mid all : Seq Part) (text printed : Seq ℕ) → k ≡ kind.List ids tail → IsKind nodes k d
    → Pending nodes parts rest → printed ≡ text ++ codes "("
    → (tail ≡ None → mid ≡ parts ++ part.Close ∷ [])
    → ((id : ℕ) → tail ≡ Some id → mid ≡ parts ++ part.Close ∷ part.Tail id ∷ [])
    → ((is : Items) (r : Seq ℕ) → StandAll nodes ids is → Pending nodes mid r → Pending nodes all (items_text is ++ r))
    → Left nodes printed all (text ++ (text_of d ++ rest))
list_printed nodes k (datum.Atomic p a) rest ids tail parts mid all text printed e h pending first bare tailed items =
    absurd (no_list a ids tail (sym h ∙ e))
list_printed nodes k (datum.Vector p is) rest ids tail parts mid all text printed e h pending first bare tailed items =
    let differ : kind.Vector h.0 ≡ kind.List ids tail = sym h.1 ∙ e in absurd (cc)
list_printed nodes k (datum.List p is) rest ids tail parts mid all text printed e h pending first bare tailed items =
    let same : kind.List h.0 None ≡ kind.List ids tail = sym h.1 ∙ e in
    let ids_same : h.0 ≡ ids = cc in
    let no_tail : tail ≡ None = cc in
    let P : Seq ℕ → Type 0 = λ l. StandAll nodes l is in (
      items_text is ++ (codes ")" ++ rest),
      items is (codes ")" ++ rest) (subst P ids_same h.2) (closing nodes parts mid rest (bare no_tail) pending),
      opened text printed (codes "(") (items_text is ++ (codes ")" ++ rest)) (text_of (datum.List p is) ++ rest) first
          (ap (λ l. 40 ∷ l) (sym (append_assoc (items_text is) (codes ")") rest))),
    )
list_printed nodes k (datum.Dotted p is d) rest ids tail parts mid all text printed e h pending first bare tailed items =
    let same : kind.List h.0 (Some h.1) ≡ kind.List ids tail = sym h.2 ∙ e in
    let ids_same : h.0 ≡ ids = cc in
    let a_tail : tail ≡ Some h.1 = cc in
    let P : Seq ℕ → Type 0 = λ l. StandAll nodes l is in
    let end : Seq ℕ = (codes " . " ++ text_of d) ++ (codes ")" ++ rest) in
    let last : Seq ℕ = codes " . " ++ (text_of d ++ codes ")") in (
      items_text is ++ end,
      items is end (subst P ids_same h.3) (tail_pending nodes parts mid h.1 d rest (tailed h.1 a_tail) h.4 pending),
      opened text printed (codes "(") (items_text is ++ end) (text_of (datum.Dotted p is d) ++ rest) first
          (ap (λ l. 40 ∷ l)
          (ap (λ l. items_text is ++ (32 ∷ 46 ∷ 32 ∷ l)) (sym (append_assoc (text_of d) (codes ")") rest))
          ∙ sym (append_assoc (items_text is) last rest))),
    )

pub vector_printed : (nodes : Seq Node) (k : Kind) (d : Datum) (rest ids : Seq ℕ) (parts mid all : Seq Part)
    (text printed : Seq ℕ) → k ≡ kind.Vector ids → IsKind nodes k d → Pending nodes parts rest
    → printed ≡ text ++ codes "#(" → mid ≡ parts ++ part.Close ∷ []
    → ((is : Items) (r : Seq ℕ) → StandAll nodes ids is → Pending nodes mid r → Pending nodes all (items_text is ++ r))
    → Left nodes printed all (text ++ (text_of d ++ rest))
vector_printed nodes k (datum.Atomic p a) rest ids parts mid all text printed e h pending first close items =
    absurd (no_vector a ids (sym h ∙ e))
vector_printed nodes k (datum.List p is) rest ids parts mid all text printed e h pending first close items =
    let differ : kind.List h.0 None ≡ kind.Vector ids = sym h.1 ∙ e in absurd (cc)
vector_printed nodes k (datum.Dotted p is d) rest ids parts mid all text printed e h pending first close items =
    let differ : kind.List h.0 (Some h.1) ≡ kind.Vector ids = sym h.2 ∙ e in absurd (cc)
vector_printed nodes k (datum.Vector p is) rest ids parts mid all text printed e h pending first close items =
    let same : kind.Vector h.0 ≡ kind.Vector ids = sym h.1 ∙ e in
    let ids_same : h.0 ≡ ids = cc in
    let P : Seq ℕ → Type 0 = λ l. StandAll nodes l is in (
      items_text is ++ (codes ")" ++ rest),
      items is (codes ")" ++ rest) (subst P ids_same h.2) (closing nodes parts mid rest close pending),
      opened text printed (codes "#(") (items_text is ++ (codes ")" ++ rest)) (text_of (datum.Vector p is) ++ rest) first
          (ap (λ l. 35 ∷ 40 ∷ l) (sym (append_assoc (items_text is) (codes ")") rest))),
    )

pub is_there : (nodes : Seq Node) (id : ℕ) (d : Datum) → Stands nodes id d → slice_get nodes id ≡ None → ⊥
is_there nodes id (datum.Atomic p a) h e = let differ = sym e ∙ h in cc
is_there nodes id (datum.List p is) h e = let differ = sym e ∙ h.1 in cc
is_there nodes id (datum.Dotted p is d) h e = let differ = sym e ∙ h.2 in cc
is_there nodes id (datum.Vector p is) h e = let differ = sym e ∙ h.1 in cc

-- Parts in turn

pub first_pending : (nodes : Seq Node) (none_yet all : Seq Part) (top : ℕ) (d : Datum) (text : Seq ℕ) → none_yet ≡ []
    → all ≡ none_yet ++ part.Datum top ∷ [] → Stands nodes top d → Left nodes text all (text ++ text_of d)
first_pending nodes none_yet all top d text e pushing h = (
  text_of d ++ [],
  pushed nodes [] all (part.Datum top) (text_of d) [] (pushing ∙ ap (λ l. l ++ part.Datum top ∷ []) e) (d, h, refl) refl,
  ap (λ l. text ++ l) (append-nil (text_of d)),
)

pub one_printed : (nodes : Seq Node) (parts all next : Seq Part) (p : Part) (text printed whole : Seq ℕ)
    → Left nodes text all whole → all ≡ parts ++ p ∷ []
    → ((bytes rest : Seq ℕ) → Prints nodes p bytes → Pending nodes parts rest → Left nodes printed next (text ++ (bytes ++ rest)))
    → Left nodes printed next whole
one_printed nodes parts all next p text printed whole h e prints =
    let q = popped nodes parts all p h.0 e h.1 in
    let P : Seq ℕ → Type 0 = λ l. Left nodes printed next l in
    subst P (ap (λ l. text ++ l) (sym q.2) ∙ h.2) (prints q.0 q.1 q.3 q.4)

pub all_left : (nodes : Seq Node) (parts : Seq Part) (text whole : Seq ℕ) → Left nodes text parts whole → parts ≡ []
    → text ≡ whole
all_left nodes parts text whole h e =
    let P : Seq Part → Type 0 = λ ps. Pending nodes ps h.0 in
    let nothing : h.0 ≡ [] = subst P e h.1 in
    sym (append-nil text) ∙ (ap (λ l. text ++ l) (sym nothing) ∙ h.2)

-- Lines

pub line_printed : (nodes : Seq Node) (first : ℕ) (others : Seq ℕ) (left : Items) (text mid next whole : Seq ℕ)
    → StandAll nodes (first ∷ others) left → ((d : Datum) → Stands nodes first d → mid ≡ text ++ text_of d)
    → next ≡ mid ++ 10 ∷ [] → text ++ lines_of left ≡ whole
    → (x : Items) × StandAll nodes others x × (next ++ lines_of x ≡ whole)
line_printed nodes first others none text mid next whole h prints e f = absurd (cc)
line_printed nodes first others (item d js) text mid next whole h prints e f =
    let same : h.0 ≡ first = cc in
    let rest : h.1 ≡ others = cc in
    let P : ℕ → Type 0 = λ i. Stands nodes i d in
    let Q : Seq ℕ → Type 0 = λ ids. StandAll nodes ids js in (
      js,
      subst Q rest h.4,
      ap (λ l. l ++ lines_of js) e
          ∙ (append_assoc mid (10 ∷ []) (lines_of js)
          ∙ (ap (λ l. l ++ 10 ∷ lines_of js) (prints d (subst P same h.3))
          ∙ (append_assoc text (text_of d) (10 ∷ lines_of js) ∙ f))),
    )

pub lines_printed : (nodes : Seq Node) (ids : Seq ℕ) (left : Items) (text whole : Seq ℕ) → length ids ≡ 0
    → StandAll nodes ids left → text ++ lines_of left ≡ whole → text ≡ whole
lines_printed nodes [] none text whole e h f = sym (append-nil text) ∙ f
lines_printed nodes [] (item d js) text whole e h f = absurd (cc)
lines_printed nodes (i ∷ ids) left text whole e h f = absurd (omega (arith, e))
