use Rattle.scheme_expand.proofs.CopyingNodes.{list_copied}
use Rattle.scheme_expand.proofs.placed.kind_copy.Goals as goal

pub returns-in_ok-tail-in-List-clause-copies : goal.returns-in_ok-tail-in-List-clause-copies
returns-in_ok-tail-in-List-clause-copies c =
    list_copied _ _ c.args.form _ _ _ _ _ _ c.in_ok-tail-in-List.ensures.grows c.in-List.is c.as_slice-in-List.ensures
    c.in_ok-items-in-List.ensures.copies c.in_ok-tail-in-List.ensures.copies
