-- Nodes stand for the same data when others are added.
use Rattle.std.proofs.Common.{◌≡◌, ℕ, ◌<◌, List as Seq, ◌++◌, length, Some, refl, sym, ◌∙◌, arith, length-append}
use Rattle.std.specs.Prelude.{slice_get}
use Rattle.std.proofs.lemmas.Option.{slice_get_within, slice_get_read, get_or_from_slice_get}
use Rattle.std.proofs.lemmas.List.{get_or_append_left}
use Rattle.datum_form.specs.declared.datums.Node.{Node}
use Rattle.datum_form.specs.Data.{Datum, Datum as datum, Items}
use Rattle.datum_form.specs.Data.Items.{none, item}
use Rattle.datum_form.specs.Stands.{Stands, StandAll}

pub got_grown : {A : Type 0} → (xs more : Seq A) (i : ℕ) (x : A) → slice_get xs i ≡ Some x → slice_get (xs ++ more) i ≡ Some x
got_grown xs more i x h =
    let within : i < length xs = slice_get_within xs i x h in
    slice_get_read (xs ++ more) (length (xs ++ more)) i x refl (omega (arith, within, length-append xs more))
    (sym (get_or_append_left xs more x i within ∙ get_or_from_slice_get xs i x x h))

mutual
  pub grown : (nodes more : Seq Node) (id : ℕ) (d : Datum) → Stands nodes id d → Stands (nodes ++ more) id d
  grown nodes more id (datum.Atomic p a) h = got_grown nodes more id _ h
  grown nodes more id (datum.List p is) h =
      (h.0, got_grown nodes more id _ h.1, grown_all nodes more h.0 is h.2)
  grown nodes more id (datum.Dotted p is d) h =
      (h.0, h.1, got_grown nodes more id _ h.2, grown_all nodes more h.0 is h.3, grown nodes more h.1 d h.4)
  grown nodes more id (datum.Vector p is) h = (h.0, got_grown nodes more id _ h.1, grown_all nodes more h.0 is h.2)

  pub grown_all : (nodes more : Seq Node) (ids : Seq ℕ) (is : Items) → StandAll nodes ids is → StandAll (nodes ++ more) ids is
  grown_all nodes more ids none h = h
  grown_all nodes more ids (item d is) h =
      (h.0, h.1, h.2, grown nodes more h.0 d h.3, grown_all nodes more h.1 is h.4)
