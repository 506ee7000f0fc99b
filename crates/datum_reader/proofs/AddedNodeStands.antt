-- A node that is added stands for its datum.
use Rattle.std.proofs.Common.{◌≡◌, ℕ, ◌<◌, get_or, List as Seq, [], ◌∷◌, ◌++◌, Option, Some, None, length, refl, sym, ap, subst, ◌∙◌, append_assoc}
use Rattle.std.specs.Prelude.{slice_get}
use Rattle.std.proofs.lemmas.Option.{slice_get_read}
use Rattle.scheme_base.specs.declared.pos.Pos.{Pos}
use Rattle.datum_form.specs.declared.datums.Node.{Node}
use Rattle.datum_form.specs.declared.datums.Kind.{Kind}
use Rattle.datum_form.specs.declared.datums.Kind.TheVariants as kind
use Rattle.datum_form.specs.declared.token.Atom.{Atom}
use Rattle.datum_form.specs.Syntax.{Syntax}
use Rattle.datum_form.specs.Syntax.Syntax.{Listed}
use Rattle.datum_form.specs.Syntax.Rest.{End, Tail}
use Rattle.datum_form.specs.Syntax.Elements.{Last}
use Rattle.datum_form.specs.Data.{Datum, Datum as datum, Items, pair, datum_of, datum_of_rest, items_of, data_of}
use Rattle.datum_form.specs.Data.Items.{none, item}
use Rattle.datum_form.specs.Stands.{kind_of, IsNode, Stands, StandAll}
use Rattle.datum_form.proofs.DataStay.{grown, grown_all}
use Rattle.datum_form.proofs.PrintedByParts.{no_list}
use Rattle.datum_reader.specs.Machine.{rest_of, elements_of}
use Rattle.datum_reader.specs.Nodes.{Builds, append, tailed}

-- The last node

pub at_length : (nodes : Seq Node) (x : Node) → slice_get (nodes ++ x ∷ []) (length nodes) ≡ Some x
at_length [] x = refl
at_length (n ∷ nodes) x = at_length nodes x

-- a node that was read from a table of these nodes
pub node_at : (nodes table : Seq Node) (i : ℕ) (read : Node) → i < length nodes → read ≡ get_or table i read
    → table ≡ nodes → slice_get nodes i ≡ Some (get_or table i read)
node_at nodes table i read there is same =
    slice_get_read nodes (length nodes) i read refl there (is ∙ ap (λ ns. get_or ns i read) same) ∙ ap Some is

pub is_node : (before after : Seq Node) (id : ℕ) (k : Kind) (p : Pos) → id ≡ length before
    → after ≡ before ++ record { kind = k; pos = p } ∷ [] → IsNode after id k p
is_node before after id k p number added =
    ap (λ ns. slice_get ns id) added
    ∙ (ap (λ i. slice_get (before ++ record { kind = k; pos = p } ∷ []) i) number
    ∙ at_length before (record { kind = k; pos = p }))

pub all_grown : (before after more : Seq Node) (ids : Seq ℕ) (is : Items) → after ≡ before ++ more
    → StandAll before ids is → StandAll after ids is
all_grown before after more ids is e h =
    let P : Seq Node → Type 0 = λ ns. StandAll ns ids is in
    subst P (sym e) (grown_all before more ids is h)

one_grown : (before after more : Seq Node) (id : ℕ) (d : Datum) → after ≡ before ++ more
    → Stands before id d → Stands after id d
one_grown before after more id d e h =
    let P : Seq Node → Type 0 = λ ns. Stands ns id d in
    subst P (sym e) (grown before more id d h)

pub single_builds : (before after : Seq Node) (id : ℕ) (a : Atom) (p : Pos) → id ≡ length before
    → after ≡ before ++ record { kind = kind_of a; pos = p } ∷ [] → Builds before after id (datum.Atomic p a)
single_builds before after id a p number added =
    record {
      more = record { kind = kind_of a; pos = p } ∷ [];
      whole = added;
      stands = is_node before after id (kind_of a) p number added;
    }

pub list_builds : (before after : Seq Node) (id : ℕ) (ids : Seq ℕ) (is : Items) (p : Pos) → id ≡ length before
    → after ≡ before ++ record { kind = kind.List ids None; pos = p } ∷ [] → StandAll before ids is
    → Builds before after id (datum.List p is)
list_builds before after id ids is p number added h =
    record {
      more = record { kind = kind.List ids None; pos = p } ∷ [];
      whole = added;
      stands =
          (ids, is_node before after id (kind.List ids None) p number added, all_grown before after _ ids is added h);
    }

pub vector_builds : (before after : Seq Node) (id : ℕ) (ids : Seq ℕ) (is : Items) (p : Pos) → id ≡ length before
    → after ≡ before ++ record { kind = kind.Vector ids; pos = p } ∷ [] → StandAll before ids is
    → Builds before after id (datum.Vector p is)
vector_builds before after id ids is p number added h =
    record {
      more = record { kind = kind.Vector ids; pos = p } ∷ [];
      whole = added;
      stands =
          (ids, is_node before after id (kind.Vector ids) p number added, all_grown before after _ ids is added h);
    }

-- one node, and then another
pub builds_then : (before between after : Seq Node) (first id : ℕ) (c d : Datum) → Builds before between first c
    → Builds between after id d → Builds before after id d
builds_then before between after first id c d b e =
    record {
      more = b.more ++ e.more;
      whole = e.whole ∙ (ap (λ ns. ns ++ e.more) b.whole ∙ append_assoc before b.more e.more);
      stands = e.stands;
    }

-- a mark's name and its datum, side by side
pub two_stand : (before between : Seq Node) (first given : ℕ) (ids : Seq ℕ) (c d : Datum)
    → ids ≡ first ∷ given ∷ [] → Builds before between first c → Stands before given d
    → StandAll between ids (item c (item d none))
two_stand before between first given ids c d e b h =
    (first, given ∷ [], e, b.stands, (given, [], refl, one_grown before between b.more given d b.whole h, refl))

-- Joined tails

all_append : (nodes : Seq Node) (xs ys : Seq ℕ) (is js : Items) → StandAll nodes xs is → StandAll nodes ys js
    → StandAll nodes (xs ++ ys) (append is js)
all_append nodes xs ys none js h k =
    let P : Seq ℕ → Type 0 = λ zs. StandAll nodes (zs ++ ys) js in
    subst P (sym h) k
all_append nodes xs ys (item d is) js h k =
    (h.0, h.1 ++ ys, ap (λ zs. zs ++ ys) h.2, h.3, all_append nodes h.1 ys is js h.4 k)

abbrev pub node : Kind → Pos → Option Node
node k p = Some (record { kind = k; pos = p })

pub same_kind : (k l : Kind) (p q : Pos) → node k p ≡ node l q → k ≡ l
same_kind k l p q e = ap kind_in e
  where
    kind_in : Option Node → Kind
    kind_in (Some n) = n.kind
    kind_in None = k

-- a list with a constant behind it
dotted_builds : (before after : Seq Node) (id tail : ℕ) (ids : Seq ℕ) (is : Items) (d : Datum) (p : Pos)
    → id ≡ length before → after ≡ before ++ record { kind = kind.List ids (Some tail); pos = p } ∷ []
    → StandAll before ids is → Stands before tail d → Builds before after id (datum.Dotted p is d)
dotted_builds before after id tail ids is d p number added h k =
    record {
      more = record { kind = kind.List ids (Some tail); pos = p } ∷ [];
      whole = added;
      stands = (
        ids,
        tail,
        is_node before after id (kind.List ids (Some tail)) p number added,
        all_grown before after _ ids is added h,
        one_grown before after _ tail d added k,
      );
    }

-- the same list with its end written otherwise
ended_as : (before after : Seq Node) (ids : Seq ℕ) (end other : Option ℕ) (p : Pos) → other ≡ end
    → after ≡ before ++ record { kind = kind.List ids end; pos = p } ∷ []
    → after ≡ before ++ record { kind = kind.List ids other; pos = p } ∷ []
ended_as before after ids end other p same added =
    let P : Option ℕ → Type 0 = λ e. after ≡ before ++ record { kind = kind.List ids e; pos = p } ∷ [] in
    subst P (sym same) added

-- a tail that is a list
pub joins : (before after : Seq Node) (id tail : ℕ) (ids more : Seq ℕ) (end : Option ℕ) (is : Items) (d : Datum) (p q : Pos)
    → id ≡ length before
    → after ≡ before ++ record { kind = kind.List (ids ++ more) end; pos = p } ∷ []
    → slice_get before tail ≡ Some (record { kind = kind.List more end; pos = q })
    → StandAll before ids is → Stands before tail d → Builds before after id (tailed p is d)
joins before after id tail ids more end is (datum.Atomic r a) p q number added at h k =
    absurd (no_list a more end (same_kind _ _ _ _ (sym k ∙ at)))
joins before after id tail ids more end is (datum.Vector r js) p q number added at h k =
    absurd (differ (same_kind _ _ _ _ (sym k.1 ∙ at)))
  where
    differ : kind.Vector k.0 ≡ kind.List more end → ⊥
    differ e = cc
joins before after id tail ids more end is (datum.List r js) p q number added at h k =
    let same : kind.List k.0 None ≡ kind.List more end = same_kind _ _ _ _ (sym k.1 ∙ at) in
    let ids_same : k.0 ≡ more = cc in
    let end_same : None ≡ end = cc in
    let P : Seq ℕ → Type 0 = λ xs. StandAll before xs js in
    list_builds before after id (ids ++ more) (append is js) p number
    (ended_as before after (ids ++ more) end None p end_same added) (all_append before ids more is js h (subst P ids_same k.2))
joins before after id tail ids more end is (datum.Dotted r js t) p q number added at h k =
    let same : kind.List k.0 (Some k.1) ≡ kind.List more end = same_kind _ _ _ _ (sym k.2 ∙ at) in
    let ids_same : k.0 ≡ more = cc in
    let P : Seq ℕ → Type 0 = λ xs. StandAll before xs js in
    dotted_builds before after id k.1 (ids ++ more) (append is js) t p number
    (ended_as before after (ids ++ more) end (Some k.1) p (cc) added)
    (all_append before ids more is js h (subst P ids_same k.3)) k.4

-- a tail that is no list
pub stays_dotted : (before after : Seq Node) (id tail : ℕ) (ids : Seq ℕ) (is : Items) (d : Datum) (p : Pos)
    → id ≡ length before
    → after ≡ before ++ record { kind = kind.List ids (Some tail); pos = p } ∷ []
    → ((more : Seq ℕ) (end : Option ℕ) (q : Pos) → slice_get before tail ≡ Some (record { kind = kind.List more end; pos = q }) → ⊥)
    → StandAll before ids is → Stands before tail d → Builds before after id (tailed p is d)
stays_dotted before after id tail ids is (datum.List r js) p number added other h k = absurd (other k.0 None r k.1)
stays_dotted before after id tail ids is (datum.Dotted r js t) p number added other h k =
    absurd (other k.0 (Some k.1) r k.2)
stays_dotted before after id tail ids is (datum.Atomic r a) p number added other h k =
    dotted_builds before after id tail ids is (datum.Atomic r a) p number added h k
stays_dotted before after id tail ids is (datum.Vector r js) p number added other h k =
    dotted_builds before after id tail ids is (datum.Vector r js) p number added h k

-- What a list, a dotted list and a vector are

pair_tailed : (p : Pos) (i j : Datum) (is : Items) (d : Datum)
    → pair p i (tailed p (item j is) d) ≡ tailed p (item i (item j is)) d
pair_tailed p i j is (datum.Atomic q a) = refl
pair_tailed p i j is (datum.List q js) = refl
pair_tailed p i j is (datum.Dotted q js t) = refl
pair_tailed p i j is (datum.Vector q js) = refl

pair_one : (p : Pos) (i d : Datum) → pair p i d ≡ tailed p (item i none) d
pair_one p i (datum.Atomic q a) = refl
pair_one p i (datum.List q js) = refl
pair_one p i (datum.Dotted q js t) = refl
pair_one p i (datum.Vector q js) = refl

pub dotted_data : (p d q : Pos) (a t : Syntax) (is : Seq Syntax)
    → datum_of (Listed p a (rest_of is (Tail d t)) q) ≡ tailed p (item (datum_of a) (data_of is)) (datum_of t)
dotted_data p d q a t [] = pair_one p (datum_of a) (datum_of t)
dotted_data p d q a t (i ∷ is) =
    ap (pair p (datum_of a)) (dotted_data p d q i t is)
    ∙ pair_tailed p (datum_of a) (datum_of i) (data_of is) (datum_of t)

rest_data : (p : Pos) (is : Seq Syntax) → datum_of_rest p (rest_of is End) ≡ datum.List p (data_of is)
rest_data p [] = refl
rest_data p (i ∷ is) = ap (pair p (datum_of i)) (rest_data p is)

pub list_data : (p q : Pos) (a : Syntax) (is : Seq Syntax)
    → datum_of (Listed p a (rest_of is End) q) ≡ datum.List p (data_of (a ∷ is))
list_data p q a is = ap (pair p (datum_of a)) (rest_data p is)

pub vector_data : (is : Seq Syntax) → items_of (elements_of is Last) ≡ data_of is
vector_data [] = refl
vector_data (i ∷ is) = ap (item (datum_of i)) (vector_data is)
