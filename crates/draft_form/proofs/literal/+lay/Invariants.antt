-- A datum is taken apart into its items, which are nested one less deep. With a constant behind the literals so far,
-- there is the list of the items so far before it; in a vector the literals are those of the items so far.
use Rattle.std.proofs.Common.{◌≡◌, ◌+◌, ◌*◌, ◌++◌, ◌∷◌, suc, length, take}
use Rattle.scheme_base.specs.declared.lit.Lit.TheVariants.{Nil}
use Rattle.datum_form.specs.Data.{Items}
use Rattle.datum_form.specs.Stands.{StandAll}
use Rattle.draft_form.specs.Numbers.{numbers_from, all_laid}
use Rattle.draft_form.specs.Quoted.{constants, Leads}
use Rattle.draft_form.proofs.literal.+lay.Given as goal

abbrev pub decreases-lay : goal.decreases-lay
decreases-lay l = 2 * l.depth

abbrev pub decreases-lay_list : goal.decreases-lay_list
decreases-lay_list l = 2 * l.depth + 1

abbrev pub decreases-lay_vector : goal.decreases-lay_vector
decreases-lay_vector l = 2 * l.depth + 1

abbrev pub invariant-lay_list-loop-item : goal.invariant-lay_list-loop-item
invariant-lay_list-loop-item l =
    (is : Items) × StandAll l.nodes (take l.item-index l.items) is × Leads is l.initial.lits.items l.lits.items

abbrev pub invariant-lay_vector-loop-item : goal.invariant-lay_vector-loop-item
invariant-lay_vector-loop-item l =
    (is : Items) × StandAll l.nodes (take l.item-index l.items) is
    × (l.ids ≡ numbers_from (suc (length l.fn.lits.items)) (constants is))
    × (l.lits.items ≡ l.fn.lits.items ++ Nil ∷ all_laid (suc (length l.fn.lits.items)) (constants is))
