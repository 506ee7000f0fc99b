use Rattle.scheme_expand.proofs.CopyingData.{copy_holds}
use Rattle.scheme_expand.proofs.placed.placed.Goals as goal

pub returns : goal.returns
returns c = λ ds h.
    copy_holds c.args.datums.now _ _ _ _ (record { nodes = c.in_ok-nodes.nodes; tops = c.in_ok-tops.tops }) ds c.as_slice.ensures c.as_slice-2.ensures c.in_ok-nodes.ensures.grows c.in_ok-nodes.ensures.copies
    c.in_ok-nodes.ensures.all c.in_ok-tops.ensures h
