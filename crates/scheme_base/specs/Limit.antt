-- The names of the limits, as the command prints them.
use Rattle.std.specs.Prelude.{ℕ, List, codes}
use Rattle.scheme_base.specs.declared.limit.LimitKind.{LimitKind}
use Rattle.scheme_base.specs.declared.limit.LimitKind.TheVariants.{Source, Nesting, Depth, Rows, Atoms, Table, Rules, Image, File}

abbrev pub name_of : LimitKind → List ℕ
name_of Source = codes "source"
name_of Nesting = codes "nesting"
name_of Depth = codes "depth"
name_of Rows = codes "rows"
name_of Atoms = codes "atoms"
name_of Table = codes "table"
name_of Rules = codes "rules"
name_of Image = codes "image"
name_of File = codes "file"
