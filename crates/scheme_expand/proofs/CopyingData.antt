-- The copies of nodes stand for the same data, at the places of their forms.
use Rattle.std.proofs.Common.{◌≡◌, ℕ, zero, suc, ◌<◌, List as Seq, [], ◌∷◌, length, Option, Some, refl, sym, subst, ◌∙◌, arith}
use Rattle.std.specs.Prelude.{slice_get}
use Rattle.std.proofs.lemmas.Option.{slice_get_within}
use Rattle.scheme_base.specs.declared.pos.Pos.{Pos}
use Rattle.datum_form.specs.declared.datums.Kind.{Kind}
use Rattle.datum_form.specs.declared.datums.Kind.TheVariants as kind
use Rattle.datum_form.specs.declared.datums.Node.{Node}
use Rattle.datum_form.specs.declared.datums.Datums.{Datums}
use Rattle.datum_form.specs.declared.token.Atom.{Atom}
use Rattle.datum_form.specs.declared.token.Atom.TheVariants.{Integer, Boolean, Character, String, Symbol}
use Rattle.datum_form.specs.Data.{Datum, Datum as datum, Items}
use Rattle.datum_form.specs.Data.Items.{none, item}
use Rattle.datum_form.specs.Stands.{kind_of, IsNode, Stands, StandAll, Holds}
use Rattle.scheme_expand.specs.declared.placed.Original.{Original}
use Rattle.scheme_expand.specs.Copied.{original, all_in, forms_from, Grows, AreAt, KindCopies, IsCopy, AreCopies}
use Rattle.scheme_expand.specs.Programs.{moved, all_moved, outside, placed}
use Rattle.scheme_expand.proofs.CopyingNodes.{all_still_at}

there : {A : Type 0} (xs : Seq A) (i : ℕ) → i < length xs → (x : A) × (slice_get xs i ≡ Some x)
there [] i h = absurd (omega (arith, h))
there (x ∷ xs) zero h = (x, refl)
there (x ∷ xs) (suc i) h = there xs i (omega (arith, h))

-- all that the list has is copied
record Whole (nodes : Seq Node) (from : Seq Original) (copies : Seq Node) : Type 0 where
  are : AreCopies nodes from copies
  all : length copies ≡ length from

same_original : (nodes : Seq Node) (from : Seq Original) (o p : Original) (copy : Node) → Some o ≡ Some p → IsCopy nodes from o copy
    → IsCopy nodes from p copy
same_original nodes from o p copy e is = let same : o ≡ p = cc in let P : Original → Type 0 = λ r. IsCopy nodes from r copy in subst P same is

kind_copied : (nodes : Seq Node) (from : Seq Original) (o : Original) (copy : Node) (k : Kind) (p : Pos) → IsCopy nodes from o copy
    → IsNode nodes o.id k p → KindCopies from o.form k copy.kind
kind_copied nodes from o copy k p is node =
    let both : Some is.node ≡ Some (record { kind = k; pos = p }) = sym is.there ∙ node in
    let same : is.node ≡ record { kind = k; pos = p } = cc in
    let P : Node → Type 0 = λ n. KindCopies from o.form n.kind copy.kind in
    subst P same is.kind

-- a node has a copy
copied : (nodes : Seq Node) (from : Seq Original) (copies : Seq Node) → Whole nodes from copies → (copy : ℕ) (o : Original)
    → slice_get from copy ≡ Some o → (new : Node) × (slice_get copies copy ≡ Some new) × IsCopy nodes from o new
copied nodes from copies w copy o at =
    let found = there copies copy (let inside = slice_get_within from copy o at in omega (arith, inside, w.all)) in
    let one = w.are copy found.0 found.1 in
    (found.0, found.1, same_original nodes from one.0 o found.0 (sym one.1 ∙ at) one.2)

-- a node of this kind has a copy of this kind
node_copied : (nodes : Seq Node) (from : Seq Original) (copies : Seq Node) → Whole nodes from copies → (id copy form : ℕ) (k : Kind)
    (p : Pos) → IsNode nodes id k p → slice_get from copy ≡ Some (original form id)
    → (new : Kind) × KindCopies from form k new × IsNode copies copy new (outside form)
node_copied nodes from copies w id copy form k p node at =
    let c = copied nodes from copies w copy (original form id) at in
    let P : Pos → Type 0 = λ q. IsNode copies copy c.0.kind q in
    (c.0.kind, kind_copied nodes from (original form id) c.0 k p c.2 node, subst P c.2.place c.1)

atom_copied : (from : Seq Original) (form : ℕ) (a : Atom) (new : Kind) → KindCopies from form (kind_of a) new → new ≡ kind_of a
atom_copied from form (Integer n) new h = h
atom_copied from form (Boolean b) new h = h
atom_copied from form (Character b) new h = h
atom_copied from form (String t) new h = h
atom_copied from form (Symbol x) new h = h

mutual
  copy_stands : (nodes : Seq Node) (from : Seq Original) (copies : Seq Node) → Whole nodes from copies → (d : Datum) (id copy form : ℕ)
      → Stands nodes id d → slice_get from copy ≡ Some (original form id) → Stands copies copy (moved (outside form) d)
  copy_stands nodes from copies w (datum.Atomic p a) id copy form h at =
      let c = node_copied nodes from copies w id copy form (kind_of a) p h at in
      let P : Kind → Type 0 = λ k. IsNode copies copy k (outside form) in
      subst P (atom_copied from form a c.0 c.1) c.2
  copy_stands nodes from copies w (datum.List p is) id copy form h at =
      let c = node_copied nodes from copies w id copy form _ p h.1 at in
      let P : Kind → Type 0 = λ k. IsNode copies copy k (outside form) in
      let Q : Option ℕ → Type 0 = λ end. IsNode copies copy (kind.List c.1.0 end) (outside form) in
      (c.1.0, subst Q c.1.4 (subst P c.1.2 c.2), items_stand nodes from copies w is h.0 c.1.0 form h.2 c.1.3)
  copy_stands nodes from copies w (datum.Dotted p is d) id copy form h at =
      let c = node_copied nodes from copies w id copy form _ p h.2 at in
      let P : Kind → Type 0 = λ k. IsNode copies copy k (outside form) in
      let Q : Option ℕ → Type 0 = λ end. IsNode copies copy (kind.List c.1.0 end) (outside form) in
      let tail = c.1.4 in (
        c.1.0,
        tail.0,
        subst Q tail.1 (subst P c.1.2 c.2),
        items_stand nodes from copies w is h.0 c.1.0 form h.3 c.1.3,
        copy_stands nodes from copies w d h.1 tail.0 form h.4 tail.2,
      )
  copy_stands nodes from copies w (datum.Vector p is) id copy form h at =
      let c = node_copied nodes from copies w id copy form _ p h.1 at in
      let P : Kind → Type 0 = λ k. IsNode copies copy k (outside form) in
      (c.1.0, subst P c.1.1 c.2, items_stand nodes from copies w is h.0 c.1.0 form h.2 c.1.2)

  items_stand : (nodes : Seq Node) (from : Seq Original) (copies : Seq Node) → Whole nodes from copies → (ds : Items) (ids cs : Seq ℕ)
      (form : ℕ) → StandAll nodes ids ds → AreAt from (all_in form ids) cs → StandAll copies cs (all_moved (outside form) ds)
  items_stand nodes from copies w none ids cs form h at =
      let P : Seq ℕ → Type 0 = λ l. AreAt from (all_in form l) cs in subst P h at
  items_stand nodes from copies w (item d ds) ids cs form h at =
      let P : Seq ℕ → Type 0 = λ l. AreAt from (all_in form l) cs in
      let a = subst P h.2 at in
      (a.0, a.1, a.2, copy_stands nodes from copies w d h.0 a.0 form h.3 a.3, items_stand nodes from copies w ds h.1 a.1 form h.4 a.4)

forms_stand : (nodes : Seq Node) (from : Seq Original) (copies : Seq Node) → Whole nodes from copies → (k : ℕ) (ds : Items)
    (ids cs : Seq ℕ) → StandAll nodes ids ds → AreAt from (forms_from k ids) cs → StandAll copies cs (placed k ds)
forms_stand nodes from copies w k none ids cs h at = let P : Seq ℕ → Type 0 = λ l. AreAt from (forms_from k l) cs in subst P h at
forms_stand nodes from copies w k (item d ds) ids cs h at =
    let P : Seq ℕ → Type 0 = λ l. AreAt from (forms_from k l) cs in
    let a = subst P h.2 at in
    (a.0, a.1, a.2, copy_stands nodes from copies w d h.0 a.0 k h.3 a.3, forms_stand nodes from copies w (suc k) ds h.1 a.1 h.4 a.4)

-- forms get their numbers first, and then all that they name is copied
pub copy_holds : (datums : Datums) (nodes : Seq Node) (ids : Seq ℕ) (old new : Seq Original) (copies : Datums) (ds : Items)
    → ids ≡ datums.tops → nodes ≡ datums.nodes → Grows old new → AreCopies nodes new copies.nodes
    → length copies.nodes ≡ length new → AreAt old (forms_from 1 ids) copies.tops → Holds datums ds → Holds copies (placed 1 ds)
copy_holds datums nodes ids old new copies ds tops same g are all at h =
    let P : Seq Node → Type 0 = λ l. StandAll l ids ds in
    let Q : Seq ℕ → Type 0 = λ l. StandAll datums.nodes l ds in
    forms_stand nodes new copies.nodes (record { are = are; all = all }) 1 ds ids copies.tops (subst P (sym same) (subst Q (sym tops) h))
    (all_still_at old new (forms_from 1 ids) copies.tops g at)
