use Rattle.std.proofs.Common.{rules}
use Rattle.alpha_core.specs.Depth.{deepest}
use Rattle.alpha_core.proofs.Depths.{looked, forms_reach}
use Rattle.alpha_core.proofs.deep.depth_of.Goals as goal

pub loop-level-init : goal.loop-level-init
loop-level-init c =
    λ forms h. forms_reach c.args.core.now.exprs c.args.core.now.forms c.push_all.new.levels.items forms (search rules) h

pub loop-level-preserved : goal.loop-level-preserved
loop-level-preserved c =
    λ forms h.
    let inv = c.loop-level.invariant forms h in
    looked c.args.core.now.exprs c.loop-level.levels.items c.pop.new.self.items c.push_parts.new.levels.items c.in-Some.level
    c.in-Some-checked_add-2.depth c.loop-level.deepest c.max-deepest.result inv.0 (deepest forms) (search rules) (search rules) (search rules) inv.1 inv.2 c.in_ok-push_parts.ensures
