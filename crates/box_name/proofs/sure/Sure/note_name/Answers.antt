use Rattle.std.proofs.Common.{◌≡◌, None, true, is_some, rules, refl, sym, ap, ◌∙◌}
use Rattle.indexmap.specs.IndexMap.{get}
use Rattle.alpha_core.specs.Names.{same_name}
use Rattle.box_name.proofs.Knowing.{found_same}
use Rattle.box_name.proofs.Sureness.{noted_kept, noted_new}
use Rattle.box_name.proofs.sure.Sure.note_name.Goals as goal

pub returns-then-is_some : goal.returns-then-is_some
returns-then-is_some c =
    λ k.
    let there : is_some (get same_name c.args.self.now.from c.args.name) ≡ true = search rules in
    noted_kept (get same_name c.args.self.now.from k) (same_name c.args.name k) c.args.since
    (λ yes. ap is_some (sym (found_same c.args.name k c.args.self.now.from.entries yes)) ∙ there)

pub returns : goal.returns
returns c =
    λ k.
    let absent : get same_name c.args.self.now.from c.args.name ≡ None = search rules in
    noted_new _ (get same_name c.args.self.now.from k) (same_name c.args.name k) (same_name c.args.name k) c.args.since
    (c.in_ok-insert.ensures.updates.0 k) refl (λ yes. sym (found_same c.args.name k c.args.self.now.from.entries yes) ∙ absent)
