use Rattle.std.proofs.Common.{◌++◌, length, ap, ◌∙◌}
use Rattle.elf_write.specs.File.{header_bytes, segment_bytes}
use Rattle.elf_write.proofs.Joined.{file_joined, read_joined}
use Rattle.elf_write.proofs.writing.write.Goals as goal

pub returns-clause-file : goal.returns-clause-file
returns-clause-file c =
    let image = c.args.image.now in
    file_joined image c.new-file.result.items c.extend_from_slice.new.self.items c.push_headers.new.file.items _
    c.new-file.ensures.items
    (c.in_ok-extend_from_slice.ensures.items
    ∙ ap (λ h. c.new-file.result.items ++ h) (c.file_header.ensures ∙ ap (header_bytes image.entry) c.len-count.ensures))
    c.in_ok-push_headers.ensures
    (c.in_ok-push_segments.ensures
    ∙ ap (λ s. c.push_headers.new.file.items ++ segment_bytes (length c.push_headers.new.file.items) s) c.as_slice.ensures)

pub returns-clause-read : goal.returns-clause-read
returns-clause-read c = read_joined c.args.image.now _ c.requires (returns-clause-file c)
