-- Levels that take a datum or are closed.
use Rattle.std.proofs.Common.{◌≡◌, ℕ, ◌<◌, length, List as Seq, [], ◌∷◌, ◌++◌, Some, refl, sym, ap, subst, ◌∙◌}
use Rattle.std.proofs.lemmas.Option.{slice_get_within}
use Rattle.scheme_base.specs.declared.pos.Pos.{Pos}
use Rattle.datum_form.specs.declared.datums.Node.{Node}
use Rattle.datum_form.specs.Data.{Datum, Datum as datum, Items, datum_of, data_of}
use Rattle.datum_form.specs.Stands.{Stands, StandAll}
use Rattle.datum_form.specs.Syntax.{Syntax}
use Rattle.datum_form.specs.Syntax.Syntax.{Listed, Vector}
use Rattle.datum_form.specs.Syntax.Rest.{End, Tail}
use Rattle.datum_form.specs.Syntax.Elements.{Last}
use Rattle.datum_reader.specs.declared.level.Level.TheVariants as level
use Rattle.datum_reader.specs.Levels.{HoldsLevel, with_tree, Closes}
use Rattle.datum_reader.specs.Machine.{Frame, rest_of, elements_of}
use Rattle.datum_reader.specs.Machine.Frame.{Listing, Tailed, InVector}
use Rattle.datum_reader.specs.Nodes.{Builds, tailed}
use Rattle.datum_reader.proofs.AddedNodeStands.{list_data, dotted_data, vector_data}

-- One datum more

pub one_more : (nodes : Seq Node) (ids : Seq ℕ) (id : ℕ) (ss : Seq Syntax) (s : Syntax) → StandAll nodes ids (data_of ss)
    → Stands nodes id (datum_of s) → StandAll nodes (ids ++ id ∷ []) (data_of (ss ++ s ∷ []))
one_more nodes ids id [] s h k = (id, [], ap (λ xs. xs ++ id ∷ []) h, k, refl)
one_more nodes ids id (r ∷ ss) s h k =
    (h.0, h.1 ++ id ∷ [], ap (λ xs. xs ++ id ∷ []) h.2, h.3, one_more nodes h.1 id ss s h.4 k)

pub listing_takes : (nodes : Seq Node) (p : Pos) (ids more : Seq ℕ) (id : ℕ) (f : Frame) (s : Syntax)
    → HoldsLevel nodes (level.Listing p ids) f → more ≡ ids ++ id ∷ [] → Stands nodes id (datum_of s)
    → HoldsLevel nodes (level.Listing p more) (with_tree f s)
listing_takes nodes p ids more id (Listing q a is) s h e k =
    let P : Seq ℕ → Type 0 = λ xs. StandAll nodes xs (data_of (a ∷ (is ++ s ∷ []))) in
    (h.0, subst P (sym e) (one_more nodes ids id (a ∷ is) s h.1 k))
listing_takes nodes p ids more id f s h e k = absurd h

pub vector_takes : (nodes : Seq Node) (p : Pos) (ids more : Seq ℕ) (id : ℕ) (f : Frame) (s : Syntax)
    → HoldsLevel nodes (level.InVector p ids) f → more ≡ ids ++ id ∷ [] → Stands nodes id (datum_of s)
    → HoldsLevel nodes (level.InVector p more) (with_tree f s)
vector_takes nodes p ids more id (InVector q is) s h e k =
    let P : Seq ℕ → Type 0 = λ xs. StandAll nodes xs (data_of (is ++ s ∷ [])) in
    (h.0, subst P (sym e) (one_more nodes ids id is s h.1 k))
vector_takes nodes p ids more id f s h e k = absurd h

-- A tail is a node

stands_within : (nodes : Seq Node) (id : ℕ) (d : Datum) → Stands nodes id d → id < length nodes
stands_within nodes id (datum.Atomic p a) h = slice_get_within nodes id _ h
stands_within nodes id (datum.List p is) h = slice_get_within nodes id _ h.1
stands_within nodes id (datum.Dotted p is d) h = slice_get_within nodes id _ h.2
stands_within nodes id (datum.Vector p is) h = slice_get_within nodes id _ h.1

pub tail_within : (nodes : Seq Node) (p : Pos) (ids : Seq ℕ) (tail : ℕ) (f : Frame)
    → HoldsLevel nodes (level.Tailed p ids tail) f → tail < length nodes
tail_within nodes p ids tail (Tailed q a is d t) h = stands_within nodes tail (datum_of t) h.2
tail_within nodes p ids tail f h = absurd h

-- Closed levels

moved : (before after : Seq Node) (id : ℕ) (c d : Datum) → c ≡ d → Builds before after id c → Builds before after id d
moved before after id c d e b = let P : Datum → Type 0 = λ x. Builds before after id x in subst P e b

pub listing_closes : (before after : Seq Node) (p : Pos) (ids : Seq ℕ) (id : ℕ) (f : Frame)
    → HoldsLevel before (level.Listing p ids) f
    → ((is : Items) → StandAll before ids is → Builds before after id (datum.List p is)) → Closes before after (Some id) f
listing_closes before after p ids id (Listing q a is) h b =
    λ r. moved before after id (datum.List p (data_of (a ∷ is))) (datum_of (Listed q a (rest_of is End) r))
    (ap (λ x. datum.List x (data_of (a ∷ is))) h.0 ∙ sym (list_data q r a is))
    (b (data_of (a ∷ is)) h.1)
listing_closes before after p ids id f h b = absurd h

pub tailed_closes : (before after : Seq Node) (p : Pos) (ids : Seq ℕ) (tail id : ℕ) (f : Frame)
    → HoldsLevel before (level.Tailed p ids tail) f
    → ((is : Items) (d : Datum) → StandAll before ids is → Stands before tail d → Builds before after id (tailed p is d))
    → Closes before after (Some id) f
tailed_closes before after p ids tail id (Tailed q a is d t) h b =
    λ r. moved before after id (tailed p (data_of (a ∷ is)) (datum_of t)) (datum_of (Listed q a (rest_of is (Tail d t)) r))
    (ap (λ x. tailed x (data_of (a ∷ is)) (datum_of t)) h.0 ∙ sym (dotted_data q d r a t is))
    (b (data_of (a ∷ is)) (datum_of t) h.1 h.2)
tailed_closes before after p ids tail id f h b = absurd h

pub vector_closes : (before after : Seq Node) (p : Pos) (ids : Seq ℕ) (id : ℕ) (f : Frame)
    → HoldsLevel before (level.InVector p ids) f
    → ((is : Items) → StandAll before ids is → Builds before after id (datum.Vector p is)) → Closes before after (Some id) f
vector_closes before after p ids id (InVector q is) h b =
    λ r. moved before after id (datum.Vector p (data_of is)) (datum_of (Vector q (elements_of is Last) r))
    (ap (λ x. datum.Vector x (data_of is)) h.0 ∙ ap (datum.Vector q) (sym (vector_data is))) (b (data_of is) h.1)
vector_closes before after p ids id f h b = absurd h
