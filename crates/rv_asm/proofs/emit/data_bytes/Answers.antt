use Rattle.std.proofs.Common.{◌++◌, ap, ◌∙◌, sym}
use Rattle.std.specs.Prelude.{map, replicate, ◌%◌, ◌+◌}
use Rattle.rv_asm.specs.Layout.{number_bytes, value_of}
use Rattle.rv_asm.specs.Symbols.{placing_in}
use Rattle.rv_asm.proofs.Placed.{data_whole}
use Rattle.rv_asm.proofs.emit.data_bytes.Goals as goal

pub returns : goal.returns
returns c =
    let p = placing_in c.args.symbols.now in
    let zeros = number_bytes (replicate ((c.len.result + c.len-2.result) % 2) 0) in
    let words =
    c.in_ok-push_words.ensures
    ∙ (ap (λ bs. bs ++ number_bytes (map (value_of p) c.as_slice.result.now)) c.new-bytes.ensures
    ∙ ap (λ ws. number_bytes (map (value_of p) ws)) c.as_slice.ensures)
    in
    let pool = c.in_ok-push_pool.ensures ∙ ap (λ bs. bs ++ number_bytes p.pool) words in
    c.in_ok-push_padding.ensures
    ∙ (ap (λ bs. bs ++ zeros) pool
    ∙ data_whole p c.args.words.now c.len.result c.len-2.result (c.len.ensures ∙ sym c.requires.count) c.len-2.ensures.len)
