use Rattle.std.proofs.Common.{rules}
use Rattle.elf_write.proofs.Joined.{drop_more, headers_more, each_more, room_more}
use Rattle.elf_write.proofs.writing.push_headers.Goals as goal

pub loop-segment-preserved : goal.loop-segment-preserved
loop-segment-preserved c =
    let segments = c.args.image.now.segments in
    let i = c.loop-segment.segment-index in
    let segment = c.segment-item.result in
    let cut = drop_more segments i segment (search rules) (search rules) in
    let each = each_more segments i segment cut c.loop-segment.invariant.each in
    record {
      bytes =
          headers_more segments i c.loop-segment.place _ _ segment c.loop-segment.file.items _ _ _
          cut c.next_page-offset.ensures c.len-in-loop-segment.ensures c.segment_header.ensures
          c.in_ok-extend_from_slice.ensures.items c.loop-segment.invariant.bytes;
      each = each.1;
      room =
          room_more segments i c.loop-segment.place _ _ segment cut c.next_page-offset.ensures c.len-in-loop-segment.ensures
          each.0 c.loop-segment.invariant.room;
    }
