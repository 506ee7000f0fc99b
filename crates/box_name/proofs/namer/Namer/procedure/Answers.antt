use Rattle.std.proofs.Common.{◌≡◌, ◌+◌, suc, refl, ap, arith}
use Rattle.box_name.specs.Counts.{procs_in}
use Rattle.box_name.specs.NamingSteps.{with_proc}
use Rattle.box_name.specs.Told.{told}
use Rattle.box_name.proofs.namer.Namer.procedure.Goals as goal

pub returns : goal.returns
returns c =
    λ e st s fits.
    let counted : procs_in (told c.args.stand.core.now.lits e) ≡ suc c.in_ok-inside.inside = c.in_ok-inside.ensures s fits e st in
    let moved : c.in-Some-checked_add.next ≡ c.args.self.now.next_proc + procs_in (told c.args.stand.core.now.lits e) = omega (arith, counted) in
    record { proc = refl; next = ap (λ u. with_proc c.args.self.now u) moved }
