-- A node stands for one datum at most.
use Rattle.std.proofs.Common.{◌≡◌, ℕ, false, List as Seq, [], ◌∷◌, Some, None, refl, sym, ap, subst, ◌∙◌, arith}
use Rattle.std.specs.Prelude.{slice_get, nat_eq}
use Rattle.scheme_base.specs.declared.pos.Pos.{Pos}
use Rattle.scheme_base.proofs.Lists.{same_item, nil-cons}
use Rattle.datum_form.specs.declared.datums.Node.{Node}
use Rattle.datum_form.specs.declared.datums.Kind.{Kind}
use Rattle.datum_form.specs.declared.datums.Kind.TheVariants as kind
use Rattle.datum_form.specs.declared.token.Atom.{Atom}
use Rattle.datum_form.specs.declared.token.Atom.TheVariants.{Integer, Boolean, Character, String, Symbol}
use Rattle.datum_form.specs.Data.{Datum, Datum as datum, Items}
use Rattle.datum_form.specs.Data.Items.{none, item}
use Rattle.datum_form.specs.Stands.{kind_of, IsNode, Stands, StandAll}

-- Kinds

-- the atom of a kind, or else another
abbrev atom_of : Atom → Kind → Atom
atom_of other (kind.Integer n) = Integer n
atom_of other (kind.Boolean b) = Boolean b
atom_of other (kind.Char c) = Character c
atom_of other (kind.Text bytes) = String bytes
atom_of other (kind.Name bytes) = Symbol bytes
atom_of other k = other

atom_of-kind_of : (other a : Atom) → atom_of other (kind_of a) ≡ a
atom_of-kind_of other (Integer n) = refl
atom_of-kind_of other (Boolean b) = refl
atom_of-kind_of other (Character c) = refl
atom_of-kind_of other (String bytes) = refl
atom_of-kind_of other (Symbol bytes) = refl

same_atom : (a b : Atom) → kind_of a ≡ kind_of b → a ≡ b
same_atom a b e = sym (atom_of-kind_of a a) ∙ (ap (atom_of a) e ∙ atom_of-kind_of a b)

abbrev shape : Kind → ℕ
shape (kind.List ids None) = 1
shape (kind.List ids (Some tail)) = 2
shape (kind.Vector ids) = 3
shape k = 0

shape_atom : (a : Atom) → shape (kind_of a) ≡ 0
shape_atom (Integer n) = refl
shape_atom (Boolean b) = refl
shape_atom (Character c) = refl
shape_atom (String bytes) = refl
shape_atom (Symbol bytes) = refl

abbrev shape_of : Datum → ℕ
shape_of (datum.Atomic p a) = 0
shape_of (datum.List p is) = 1
shape_of (datum.Dotted p is d) = 2
shape_of (datum.Vector p is) = 3

-- Nodes

record Seen (nodes : Seq Node) (id : ℕ) (n : ℕ) : Type 0 where
  node : Node
  got : slice_get nodes id ≡ Some node
  shaped : shape node.kind ≡ n

seen : (nodes : Seq Node) (id : ℕ) (d : Datum) → Stands nodes id d → Seen nodes id (shape_of d)
seen nodes id (datum.Atomic p a) h = record { node = _; got = h; shaped = shape_atom a }
seen nodes id (datum.List p is) h = record { node = _; got = h.1; shaped = refl }
seen nodes id (datum.Dotted p is d) h = record { node = _; got = h.2; shaped = refl }
seen nodes id (datum.Vector p is) h = record { node = _; got = h.1; shaped = refl }

same_shape : (nodes : Seq Node) (id : ℕ) (d e : Datum) → Stands nodes id d → Stands nodes id e → shape_of d ≡ shape_of e
same_shape nodes id d e h k =
    let one = seen nodes id d h in
    let other = seen nodes id e k in
    sym one.shaped
    ∙ (ap (λ n. shape n.kind) (same_item (slice_get nodes id) one.node other.node one.got other.got) ∙ other.shaped)

differ : (m n : ℕ) → nat_eq m n ≡ false → m ≡ n → ⊥
differ m n apart same = grind arith

same_node : (nodes : Seq Node) (id : ℕ) (k l : Kind) (p q : Pos) → IsNode nodes id k p → IsNode nodes id l q
    → (k ≡ l) × (p ≡ q)
same_node nodes id k l p q h g =
    let same = same_item (slice_get nodes id) (record { kind = k; pos = p }) (record { kind = l; pos = q }) h g in
    (ap (λ n. n.kind) same, ap (λ n. n.pos) same)

abbrev ids_of : Kind → Seq ℕ
ids_of (kind.List ids tail) = ids
ids_of (kind.Vector ids) = ids
ids_of k = []

abbrev tail_of : ℕ → Kind → ℕ
tail_of other (kind.List ids (Some tail)) = tail
tail_of other k = other

-- Data

abbrev head_of : ℕ → Seq ℕ → ℕ
head_of other [] = other
head_of other (i ∷ is) = i

abbrev after_head : Seq ℕ → Seq ℕ
after_head [] = []
after_head (i ∷ is) = is

mutual
  pub one_node : (nodes : Seq Node) (id : ℕ) (d e : Datum) → Stands nodes id d → Stands nodes id e → d ≡ e
  one_node nodes id (datum.Atomic p a) (datum.Atomic q b) h k =
      let same = same_node nodes id (kind_of a) (kind_of b) p q h k in
      ap (λ r. datum.Atomic r a) same.1 ∙ ap (λ c. datum.Atomic q c) (same_atom a b same.0)
  one_node nodes id (datum.List p is) (datum.List q js) h k =
      let same = same_node nodes id (kind.List h.0 None) (kind.List k.0 None) p q h.1 k.1 in
      ap (λ r. datum.List r is) same.1
      ∙ ap (λ ks. datum.List q ks) (one_list nodes h.0 k.0 (ap ids_of same.0) is js h.2 k.2)
  one_node nodes id (datum.Dotted p is d) (datum.Dotted q js e) h k =
      let same = same_node nodes id (kind.List h.0 (Some h.1)) (kind.List k.0 (Some k.1)) p q h.2 k.2 in
      let P : ℕ → Type 0 = λ i. Stands nodes i e in
      ap (λ r. datum.Dotted r is d) same.1
      ∙ (ap (λ ks. datum.Dotted q ks d) (one_list nodes h.0 k.0 (ap ids_of same.0) is js h.3 k.3)
      ∙ ap (λ t. datum.Dotted q js t) (one_node nodes h.1 d e h.4 (subst P (sym (ap (tail_of 0) same.0)) k.4)))
  one_node nodes id (datum.Vector p is) (datum.Vector q js) h k =
      let same = same_node nodes id (kind.Vector h.0) (kind.Vector k.0) p q h.1 k.1 in
      ap (λ r. datum.Vector r is) same.1
      ∙ ap (λ ks. datum.Vector q ks) (one_list nodes h.0 k.0 (ap ids_of same.0) is js h.2 k.2)
  one_node nodes id d e h k = absurd (differ (shape_of d) (shape_of e) refl (same_shape nodes id d e h k))

  pub one_list : (nodes : Seq Node) (ids more : Seq ℕ) → ids ≡ more → (is js : Items) → StandAll nodes ids is
      → StandAll nodes more js → is ≡ js
  one_list nodes ids more same none none h k = refl
  one_list nodes ids more same none (item e js) h k = absurd (nil-cons k.0 k.1 (sym h ∙ (same ∙ k.2)))
  one_list nodes ids more same (item d is) none h k = absurd (nil-cons h.0 h.1 (sym k ∙ (sym same ∙ h.2)))
  one_list nodes ids more same (item d is) (item e js) h k =
      let lists = sym h.2 ∙ (same ∙ k.2) in
      let P : ℕ → Type 0 = λ i. Stands nodes i e in
      ap (λ t. item t is) (one_node nodes h.0 d e h.3 (subst P (sym (ap (head_of 0) lists)) k.3))
      ∙ ap (λ ks. item e ks) (one_list nodes h.1 k.1 (ap after_head lists) is js h.4 k.4)
