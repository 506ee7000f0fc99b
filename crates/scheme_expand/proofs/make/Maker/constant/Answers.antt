use Rattle.std.proofs.Common.{refl}
use Rattle.draft_form.specs.Drafts.{Const}
use Rattle.scheme_expand.proofs.Stacks.{draft_put}
use Rattle.scheme_expand.proofs.make.Maker.constant.Goals as goal

pub returns : goal.returns
returns c = λ k v a i held.
    draft_put k c.args.self.now _ c.in_ok-id.id (Const c.args.pos a) v i c.in_ok-id.ensures.kept
    (c.in_ok-id.ensures.drawn k.names k.source.nodes.now a held) c.in_ok-push.ensures.items refl refl
