use Rattle.std.proofs.Common.{◌-◌, length, arith, rules}
use Rattle.stalin_outside.proofs.Pieces.{written_more}
use Rattle.stalin_outside.proofs.whole_files.write_rest.Goals as goal

pub writes-preserved : goal.writes-preserved
writes-preserved g c =
    let took = rw c.writes.invariant.asks at c.in-Bytes.ensures.files in
    record {
      written =
          written_more _ _ c.writes.rest.now c.min.result c.in-Bytes.count (length c.writes.rest.now - c.in-Bytes.count)
          _ _ _ c.writes.invariant.written took.0.within (omega arith) took.1;
      begun = search rules;
      asks = search rules;
      later = search rules;
    }
