use Rattle.std.proofs.Common.{◌≡◌, ◌+◌, ◌*◌, rules, arith, ap, ◌∙◌}
use Rattle.elf_write.specs.Fields.{headers_count, header_at}
use Rattle.elf_write.specs.Reading.{loaded}
use Rattle.elf_write.proofs.Validity.{loaded_more, taken_more}
use Rattle.elf_write.proofs.reading.read_segments.Goals as goal

pub loop-index-preserved : goal.loop-index-preserved
loop-index-preserved c =
    let bytes = c.args.bytes.now in
    let header =
    c.program_header-header.ensures ∙ ap (λ k. header_at (c.args.table.place + 56 * k) bytes) c.from.ensures
    in
    record {
      segments =
          loaded_more bytes c.loop-index.index _ _ _ _ c.requires.place header c.loop-index.invariant.segments
          c.in_ok-add.ensures;
      taken =
          taken_more bytes c.loop-index.index _ _ _ c.requires.place header c.loop-index.invariant.segments
          (search rules) c.loop-index.invariant.taken;
    }

pub returns-clause-segments : goal.returns-clause-segments
returns-clause-segments c =
    let all : c.loop-index.index ≡ headers_count c.args.bytes.now = omega (arith, c.requires.count) in
    c.loop-index.invariant.segments ∙ ap (loaded c.args.bytes.now) all
