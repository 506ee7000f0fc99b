use Rattle.std.proofs.Common.{refl}
use Rattle.scheme_expand.proofs.Stacks.{is_put}
use Rattle.scheme_expand.proofs.make.Maker.add.Goals as goal

pub returns : goal.returns
returns c = λ k v w i h.
    is_put k c.make.new.self _ c.in_ok-id.id w (c.in_ok-id.ensures k v w i h) c.in_ok-push.ensures.items refl refl refl
