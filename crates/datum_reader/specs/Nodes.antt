-- Nodes that are added, and the data that they stand for.
use Rattle.std.specs.Prelude.{◌≡◌, ℕ, List as Seq, ◌++◌}
use Rattle.scheme_base.specs.declared.pos.Pos.{Pos}
use Rattle.datum_form.specs.declared.datums.Node.{Node}
use Rattle.datum_form.specs.Data.{Datum, Datum as datum, Items}
use Rattle.datum_form.specs.Data.Items.{none, item}
use Rattle.datum_form.specs.Stands.{Stands}

-- after the call the node of this number stands for this datum, and the nodes before are as they were
pub record Builds (before after : Seq Node) (id : ℕ) (d : Datum) : Type 0 where
  pub more : Seq Node
  pub whole : after ≡ before ++ more
  pub stands : Stands after id d

abbrev pub append : Items → Items → Items
append none js = js
append (item d is) js = item d (append is js)

-- the list at a place that has these items before a tail, which is joined where it is a list itself
abbrev pub tailed : Pos → Items → Datum → Datum
tailed p is (datum.Atomic q a) = datum.Dotted p is (datum.Atomic q a)
tailed p is (datum.List q js) = datum.List p (append is js)
tailed p is (datum.Dotted q js t) = datum.Dotted p (append is js) t
tailed p is (datum.Vector q js) = datum.Dotted p is (datum.Vector q js)
