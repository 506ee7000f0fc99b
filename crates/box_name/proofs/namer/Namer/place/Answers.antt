use Rattle.std.proofs.Common.{nat_eq, rules, refl, ◌∙◌}
use Rattle.indexmap.proofs.CallerLemmas.{insert_entry-new}
use Rattle.box_name.proofs.namer.Namer.place.Goals as goal

pub returns : goal.returns
returns c = record {
  entries =
      c.in_ok-insert.ensures.entries ∙ insert_entry-new nat_eq c.args.self.now.vars c.args.number c.args.var (search rules);
  next_var = refl;
  next_proc = refl;
}
