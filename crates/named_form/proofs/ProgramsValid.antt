-- Programs that are valid.
use Rattle.std.proofs.Common.{[], ◌∷◌, refl, rules, lit<}
use Rattle.std.specs.Prelude.{pos}
use Rattle.std.specs.List.{IsDistinct}
use Rattle.scheme_base.specs.declared.lit.Lit.TheVariants as lit
use Rattle.scheme_base.specs.Constants.{Integer, Undefined}
use Rattle.scheme_base.specs.Outside.{Exits}
use Rattle.named_form.specs.Code.{program}
use Rattle.named_form.specs.NamedRun.{start}
use Rattle.named_form.specs.Valid.{Form, Literals, WellFormed, Valid, sure_next}
use Rattle.named_form.proofs.RunsThatStop.{always}
use Rattle.named_form.proofs.StorageHeld.{box_procs, box_lits}
use Rattle.named_form.proofs.RunsThatEnd.{loop_procs, loop_lits}
use Rattle.named_form.proofs.RunsThatFail.{hole_procs}

-- the program with a box
abbrev box_form : Form
box_form = record { procs = box_procs; tops = 1; lits = box_lits }

well_formed : WellFormed box_form
unfolding IsDistinct
well_formed =
    let literals : Literals box_form =
    record {
      firsts = 0 ∷ 1 ∷ [];
      laid = (1, Integer (pos 1), refl, refl, (refl, refl), (2, Integer (pos 2), refl, refl, (refl, refl), refl));
      named = search rules;
      needed = search rules;
      apart = search rules;
      defined = search rules;
    } in
    search (rules, lit<, literals)

valid : Valid box_form
valid =
    record {
      form = well_formed;
      sure =
          λ env n.
          let p = program box_procs box_lits in
          always 11 sure_next p env (start p env) (Exits 0 []) refl refl n;
    }

-- the one with closures that know each other
loop_is_well_formed : WellFormed (record { procs = loop_procs; tops = 0; lits = loop_lits })
unfolding IsDistinct
loop_is_well_formed =
    let literals : Literals (record { procs = loop_procs; tops = 0; lits = loop_lits }) =
    record {
      firsts = 0 ∷ 1 ∷ 2 ∷ 3 ∷ [];
      laid = (1, Integer (pos 9), refl, refl, (refl, refl), (2, Integer (pos 7), refl, refl, (refl, refl), (3, Integer (pos 1), refl, refl, (refl, refl), (4, Integer (pos 0), refl, refl, (refl, refl), refl))));
      named = search rules;
      needed = search rules;
      apart = search rules;
      defined = search rules;
    } in
    search (rules, lit<, literals)

-- the one whose variable is read before it has a value
hole_is_well_formed : WellFormed (record { procs = hole_procs; tops = 0; lits = lit.Integer (pos 1) ∷ lit.Undefined ∷ lit.Undefined ∷ [] })
unfolding IsDistinct
hole_is_well_formed =
    let literals : Literals (record { procs = hole_procs; tops = 0; lits = lit.Integer (pos 1) ∷ lit.Undefined ∷ lit.Undefined ∷ [] }) =
    record {
      firsts = 0 ∷ 1 ∷ 2 ∷ [];
      laid = (1, Integer (pos 1), refl, refl, (refl, refl), (2, Undefined, refl, tt, (refl, refl), (3, Undefined, refl, tt, (refl, refl), refl)));
      named = search rules;
      needed = search rules;
      apart = search rules;
      defined = search rules;
    } in
    search (rules, lit<, literals)
