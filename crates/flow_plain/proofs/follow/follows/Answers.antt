use Rattle.flow_form.specs.Least.{Given}
use Rattle.flow_form.specs.Shape.{In}
use Rattle.flow_plain.proofs.BitsFollowing.{mask_within, within_mask}
use Rattle.flow_plain.proofs.follow.follows.Goals as goal

pub returns : goal.returns
returns c = (
  (λ yes_all.
      mask_within c.args.c.now c.args.word c.args.mask (Given c.args.c.now.rules (In c.args.c.now c.args.loaded.now)) c.requires.there
      (λ bit below set. (c.following.ensures bit below).0 (c.is_part.ensures.0 yes_all bit below set))),
  (λ follows.
      c.is_part.ensures.1
      (λ bit below set.
      (c.following.ensures bit below).1
      (within_mask c.args.c.now c.args.word c.args.mask (Given c.args.c.now.rules (In c.args.c.now c.args.loaded.now)) c.requires.there
      follows bit below set))),
)
