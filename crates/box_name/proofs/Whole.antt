-- The named form of a whole program, from its procedures.
use Rattle.std.proofs.Common.{◌≡◌, ℕ, suc, ◌+◌, List, [], ◌∷◌, ◌++◌, map, length, None, refl, sym, ap, ◌∙◌, append-nil}
use Rattle.scheme_base.specs.declared.lit.Lit.{Lit}
use Rattle.named_form.specs.declared.program.Proc.{Proc}
use Rattle.named_form.specs.declared.program.Named.{Named}
use Rattle.named_form.specs.Written.{form, procedure}
use Rattle.box_name.specs.declared.namer.Namer.{Namer}
use Rattle.box_name.specs.Told.{Exprs}
use Rattle.box_name.specs.Counts.{all_after}
use Rattle.box_name.specs.Whole.{all_written, is_boxed, lambdas_places, named, placed_lambdas, setting, tops_of}
use Rattle.box_name.specs.NamingSteps.{Agrees}
use Rattle.box_name.specs.Procedures.{AreNamed, NamesProcs, NamesProgram}
use Rattle.box_name.proofs.Putting.{earlier}

-- The last naming has noted all places of the program, so each step before it was told right.
pub procs_named : (all : Exprs) (a b c : Namer) (program : Proc) (before now : List Proc) → a.vars.entries ≡ [] → a.next_var ≡ 0
    → a.next_proc ≡ 1 → NamesProgram a b all program → before ≡ program ∷ []
    → NamesProcs b c before now all (placed_lambdas 0 all) → AreNamed now all
procs_named all a b c program before now empty at proc_at first starts second =
    let one = first empty at proc_at in
    let P = lambdas_places (is_boxed all) (all_after (is_boxed all) 0 all) (placed_lambdas 0 all) in
    let two = second (all_after (is_boxed all) 0 all) one.1 in
    let agrees : Agrees c (setting all 0) = ([], sym (append-nil c.vars.entries ∙ (two.0 ∙ ap (λ u. u ++ P) one.0))) in
    let others = all_written all (all_after (is_boxed all) 0 all) 1 (placed_lambdas 0 all) in
    two.1 agrees
    ∙ (ap (λ u. map procedure u ++ others) starts
    ∙ ap (λ u. u ∷ others) (one.2 (earlier (setting all 0) b c P two.0 agrees)))

pub named_is : (all : Exprs) (made : Named) (lits : List Lit) → AreNamed made.procs all → made.tops ≡ length (tops_of all)
    → made.lits ≡ lits → form made ≡ named all lits
named_is all made lits procs tops same = λ i. record { procs = procs i; tops = tops i; lits = same i }
