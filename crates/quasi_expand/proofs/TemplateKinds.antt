-- Which datum stands at a node, by its kind.
use Rattle.std.proofs.Common.{ℕ, ◌≡◌, List as Seq, Option, Some, None, refl, sym, ap, subst, ◌∙◌}
use Rattle.std.specs.Option.{option_map}
use Rattle.scheme_base.specs.declared.pos.Pos.{Pos}
use Rattle.datum_form.specs.declared.token.Atom.TheVariants.{Integer, Boolean, Character, String, Symbol}
use Rattle.datum_form.specs.declared.datums.Node.{Node}
use Rattle.datum_form.specs.declared.datums.Kind.{Kind}
use Rattle.datum_form.specs.declared.datums.Kind.TheVariants as kind
use Rattle.datum_form.specs.declared.token.Atom.{Atom}
use Rattle.datum_form.specs.Data.{Datum, Datum as datum, Items}
use Rattle.datum_form.specs.Stands.{kind_of, IsNode, Stands, StandAll}
use Rattle.draft_form.specs.Quoted.{constant_of, constant_list}
use Rattle.quasi_expand.specs.Kinds.{node_kind}
use Rattle.quasi_expand.specs.Steps.{TailStands, HasRests}
use Rattle.quasi_expand.specs.Templates.{Plain, template, template_chain}

same_kind : (nodes : Seq Node) (id : ℕ) (k l : Kind) (p : Pos) → Some k ≡ node_kind nodes id → IsNode nodes id l p → k ≡ l
same_kind nodes id k l p e h = let there : node_kind nodes id ≡ Some l = ap (option_map (λ n. n.kind)) h in cc

list_rests : (nodes : Seq Node) (id : ℕ) (ids : Seq ℕ) (tail : Option ℕ) (p : Pos) → IsNode nodes id (kind.List ids tail) p
    → HasRests nodes id ids tail
list_rests nodes id ids tail p h = λ from ds t stand ends.
    (record { kind = kind.List ids tail; pos = p }, h, (ds, t, stand, ends, refl))

vector_rests : (nodes : Seq Node) (id : ℕ) (ids : Seq ℕ) (p : Pos) → IsNode nodes id (kind.Vector ids) p → HasRests nodes id ids None
vector_rests nodes id ids p h = λ from ds t stand ends.
    (record { kind = kind.Vector ids; pos = p }, h, (ds, stand, ap (constant_list ds) ends))

-- the items of a list and its tail
pub record IsChain (nodes : Seq Node) (id : ℕ) (ids : Seq ℕ) (tail : Option ℕ) (d : Datum) : Type 0 where
  pub items : Items
  pub end : Option Datum
  pub stand : StandAll nodes ids items
  pub ends : TailStands nodes tail end
  pub rests : HasRests nodes id ids tail
  pub same : (n : ℕ) → template_chain items end n ≡ template d n

no_list : (a : Atom) (js : Seq ℕ) (tail : Option ℕ) → kind_of a ≡ kind.List js tail → ⊥
no_list (Integer z) js tail e = cc
no_list (Boolean b) js tail e = cc
no_list (Character c) js tail e = cc
no_list (String t) js tail e = cc
no_list (Symbol x) js tail e = cc

no_vector : (a : Atom) (js : Seq ℕ) → kind_of a ≡ kind.Vector js → ⊥
no_vector (Integer z) js e = cc
no_vector (Boolean b) js e = cc
no_vector (Character c) js e = cc
no_vector (String t) js e = cc
no_vector (Symbol x) js e = cc

pub chain_is : (nodes : Seq Node) (id : ℕ) (d : Datum) (k : Kind) (ids js : Seq ℕ) (tail : Option ℕ) → Some k ≡ node_kind nodes id
    → Stands nodes id d → k ≡ kind.List js tail → ids ≡ js → IsChain nodes id ids tail d
chain_is nodes id (datum.Atomic p a) k ids js tail at h e q =
    absurd (no_list a js tail (sym (same_kind nodes id k (kind_of a) p at h) ∙ e))
chain_is nodes id (datum.Vector p is) k ids js tail at h e q =
    let f : kind.Vector h.0 ≡ kind.List js tail = sym (same_kind nodes id k (kind.Vector h.0) p at h.1) ∙ e in absurd (cc)
chain_is nodes id (datum.List p is) k ids js tail at h e q =
    let f : kind.List h.0 None ≡ kind.List js tail = sym (same_kind nodes id k (kind.List h.0 None) p at h.1) ∙ e in
    let same : h.0 ≡ js = cc in
    let no_end : None ≡ tail = cc in
    let P : Seq ℕ → Type 0 = λ l. StandAll nodes l is in
    let Q : Option ℕ → Type 0 = λ t. TailStands nodes t None in
    let R : Kind → Type 0 = λ l. IsNode nodes id l p in
    record {
      items = is;
      end = None;
      stand = subst P (same ∙ sym q) h.2;
      ends = subst Q no_end refl;
      rests = list_rests nodes id ids tail p (subst R (f ∙ ap (λ l. kind.List l tail) (sym q)) h.1);
      same = λ n. refl;
    }
chain_is nodes id (datum.Dotted p is d) k ids js tail at h e q =
    let f : kind.List h.0 (Some h.1) ≡ kind.List js tail = sym (same_kind nodes id k (kind.List h.0 (Some h.1)) p at h.2) ∙ e in
    let same : h.0 ≡ js = cc in
    let an_end : Some h.1 ≡ tail = cc in
    let P : Seq ℕ → Type 0 = λ l. StandAll nodes l is in
    let Q : Option ℕ → Type 0 = λ t. TailStands nodes t (Some d) in
    let R : Kind → Type 0 = λ l. IsNode nodes id l p in
    record {
      items = is;
      end = Some d;
      stand = subst P (same ∙ sym q) h.3;
      ends = subst Q an_end (d, h.4, refl);
      rests = list_rests nodes id ids tail p (subst R (f ∙ ap (λ l. kind.List l tail) (sym q)) h.2);
      same = λ n. refl;
    }

-- the items of a vector
pub record IsRow (nodes : Seq Node) (id : ℕ) (ids : Seq ℕ) (d : Datum) : Type 0 where
  pub place : Pos
  pub items : Items
  pub are : datum.Vector place items ≡ d
  pub stand : StandAll nodes ids items
  pub rests : HasRests nodes id ids None

pub row_is : (nodes : Seq Node) (id : ℕ) (d : Datum) (k : Kind) (ids js : Seq ℕ) → Some k ≡ node_kind nodes id
    → Stands nodes id d → k ≡ kind.Vector js → ids ≡ js → IsRow nodes id ids d
row_is nodes id (datum.Atomic p a) k ids js at h e q =
    absurd (no_vector a js (sym (same_kind nodes id k (kind_of a) p at h) ∙ e))
row_is nodes id (datum.List p is) k ids js at h e q =
    let f : kind.List h.0 None ≡ kind.Vector js = sym (same_kind nodes id k (kind.List h.0 None) p at h.1) ∙ e in absurd (cc)
row_is nodes id (datum.Dotted p is d) k ids js at h e q =
    let f : kind.List h.0 (Some h.1) ≡ kind.Vector js = sym (same_kind nodes id k (kind.List h.0 (Some h.1)) p at h.2) ∙ e in
    absurd (cc)
row_is nodes id (datum.Vector p is) k ids js at h e q =
    let f : kind.Vector h.0 ≡ kind.Vector js = sym (same_kind nodes id k (kind.Vector h.0) p at h.1) ∙ e in
    let same : h.0 ≡ js = cc in
    let P : Seq ℕ → Type 0 = λ l. StandAll nodes l is in
    let R : Kind → Type 0 = λ l. IsNode nodes id l p in
    record {
      place = p;
      items = is;
      are = refl;
      stand = subst P (same ∙ sym q) h.2;
      rests = vector_rests nodes id ids p (subst R (f ∙ ap kind.Vector (sym q)) h.1);
    }

-- neither a list nor a vector
pub atom_is : (nodes : Seq Node) (id : ℕ) (d : Datum) (k : Kind) (n : ℕ) → Some k ≡ node_kind nodes id → Stands nodes id d
    → ((ids : Seq ℕ) (tail : Option ℕ) → k ≡ kind.List ids tail → ⊥) → ((ids : Seq ℕ) → k ≡ kind.Vector ids → ⊥)
    → template d n ≡ Plain (constant_of d)
atom_is nodes id (datum.Atomic p a) k n at h list vector = refl
atom_is nodes id (datum.List p is) k n at h list vector =
    absurd (list h.0 None (same_kind nodes id k (kind.List h.0 None) p at h.1))
atom_is nodes id (datum.Dotted p is d) k n at h list vector =
    absurd (list h.0 (Some h.1) (same_kind nodes id k (kind.List h.0 (Some h.1)) p at h.2))
atom_is nodes id (datum.Vector p is) k n at h list vector =
    absurd (vector h.0 (same_kind nodes id k (kind.Vector h.0) p at h.1))
