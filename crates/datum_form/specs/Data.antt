-- Data, and which datum a tree of the grammar is.
--
-- A mark before a datum is the list of its name and the datum (R4RS 4.1.2 and 4.2.6). A tail that is
-- itself a list is joined to the items before it, as (a . (b c)) and (a b c) are one datum (R4RS 6.3).
use Rattle.std.specs.Prelude.{ℕ, List as Seq, [], ◌∷◌, codes}
use Rattle.scheme_base.specs.declared.pos.Pos.{Pos}
use Rattle.datum_form.specs.declared.token.Atom.{Atom}
use Rattle.datum_form.specs.declared.token.Mark.{Mark}
use Rattle.datum_form.specs.Syntax.{Syntax, Syntax as tree, Rest, Elements}
use Rattle.datum_form.specs.declared.token.Atom.TheVariants.{Symbol}
use Rattle.datum_form.specs.declared.token.Mark.TheVariants.{Quote, Quasiquote, Unquote, Splice}
use Rattle.datum_form.specs.Syntax.Rest.{End, More, Tail}
use Rattle.datum_form.specs.Syntax.Elements.{Last, Further}

mutual
  -- a datum, with the place of its first byte
  pub data Datum : Type 0 where
    Atomic : Pos → Atom → Datum
    List : Pos → Items → Datum
    -- a list with a tail
    Dotted : Pos → Items → Datum → Datum
    Vector : Pos → Items → Datum

  pub data Items : Type 0 where
    none : Items
    item : Datum → Items → Items

abbrev pub mark_name : Mark → Seq ℕ
mark_name Quote = codes "quote"
mark_name Quasiquote = codes "quasiquote"
mark_name Unquote = codes "unquote"
mark_name Splice = codes "unquote-splicing"

-- the list at a place that has a first item before another datum
abbrev pub pair : Pos → Datum → Datum → Datum
pair p d (Atomic q a) = Dotted p (item d none) (Atomic q a)
pair p d (List q is) = List p (item d is)
pair p d (Dotted q is t) = Dotted p (item d is) t
pair p d (Vector q is) = Dotted p (item d none) (Vector q is)

abbrev mutual
  pub datum_of : Syntax → Datum
  datum_of (tree.Leaf p a) = Atomic p a
  datum_of (tree.Marked p m s) = List p (item (Atomic p (Symbol (mark_name m))) (item (datum_of s) none))
  datum_of (tree.Nil p q) = List p none
  datum_of (tree.Listed p s r q) = pair p (datum_of s) (datum_of_rest p r)
  datum_of (tree.Vector p e q) = Vector p (items_of e)

  -- the rest of the list at this place, as a datum
  pub datum_of_rest : Pos → Rest → Datum
  datum_of_rest p End = List p none
  datum_of_rest p (More s r) = pair p (datum_of s) (datum_of_rest p r)
  datum_of_rest p (Tail d s) = datum_of s

  pub items_of : Elements → Items
  items_of Last = none
  items_of (Further s e) = item (datum_of s) (items_of e)

abbrev pub data_of : Seq Syntax → Items
data_of [] = none
data_of (s ∷ ss) = item (datum_of s) (data_of ss)

-- Data without their places

abbrev pub nowhere : Pos
nowhere = record { line = 0; col = 0 }

abbrev mutual
  pub unplaced : Datum → Datum
  unplaced (Atomic p a) = Atomic nowhere a
  unplaced (List p is) = List nowhere (unplaced_all is)
  unplaced (Dotted p is d) = Dotted nowhere (unplaced_all is) (unplaced d)
  unplaced (Vector p is) = Vector nowhere (unplaced_all is)

  pub unplaced_all : Items → Items
  unplaced_all none = none
  unplaced_all (item d is) = item (unplaced d) (unplaced_all is)
