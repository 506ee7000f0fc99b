use Rattle.std.proofs.Common.{ap}
use Rattle.scheme_expand.specs.Naming.{name_list}
use Rattle.scheme_expand.proofs.NumberedNames.{texts, table_made}
use Rattle.scheme_expand.proofs.Numbering.{grows_twice, still_there}
use Rattle.scheme_expand.proofs.words.Words.new.Goals as goal

pub returns-clause-table : goal.returns-clause-table
returns-clause-table c =
    let table = name_list c.add_operations.new.self in
    let one = name_list c.number.new.self in
    let two = name_list c.number-2.new.self in
    table_made _ _ _ table two (ap texts c.new.ensures.empty) c.in_ok-add_keywords.ensures c.in_ok-add_known.ensures
    c.in_ok-add_operations.ensures
    (grows_twice table one two c.in_ok-join.ensures.number.grows c.in_ok-list_to_vector.ensures.number.grows)

pub returns-clause-helpers : goal.returns-clause-helpers
returns-clause-helpers c =
    let one = name_list c.number.new.self in
    let two = name_list c.number-2.new.self in
    record {
      join = still_there one two _ _ c.in_ok-list_to_vector.ensures.number.grows c.in_ok-join.ensures.number.is;
      list_to_vector = c.in_ok-list_to_vector.ensures.number.is;
    }
