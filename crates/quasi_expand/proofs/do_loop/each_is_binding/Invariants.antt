use Rattle.std.proofs.Common.{◌≡◌, length}
use Rattle.datum_form.specs.Data.{Items}
use Rattle.datum_form.specs.Stands.{StandAll}
use Rattle.quasi_expand.specs.Shapes.{all_items, is_step}
use Rattle.quasi_expand.proofs.do_loop.each_is_binding.Given as goal

-- all are bindings where those that are left are
abbrev pub invariant-loop-binding : goal.invariant-loop-binding
invariant-loop-binding l =
    (ds : Items) → StandAll l.fn.nodes l.fn.bindings ds
    → (es : Items) × StandAll l.fn.nodes l.rest es × (all_items is_step ds ≡ all_items is_step es)

abbrev pub decreases-loop-binding : goal.decreases-loop-binding
decreases-loop-binding l = length l.rest
