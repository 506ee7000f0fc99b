use Rattle.std.proofs.Common.{ap, subst, sym, ◌∙◌}
use Rattle.std.proofs.lemmas.Result.{on_ok_weaker}
use Rattle.indexmap.specs.IndexMap.{get}
use Rattle.alpha_core.specs.Names.{same_name, var_of}
use Rattle.box_name.specs.Sureness.{IsDefined, or_since}
use Rattle.box_name.specs.Told.{told}
use Rattle.box_name.specs.Whole.{defines}
use Rattle.box_name.proofs.Knowing.{tells}
use Rattle.box_name.proofs.Sureness.{noted_none}
use Rattle.box_name.proofs.sure.Sure.note.Goals as goal

pub returns-in-Some : goal.returns-in-Some
returns-in-Some c =
    on_ok_weaker c.note_name.result
    (λ noted e st k.
    noted k
    ∙ ap (λ t. or_since (get same_name c.args.self.now.from k) t c.args.since)
    (tells c.in-Some.name k
    ∙ sym (subst (λ o. IsDefined o (told c.args.core.now.lits e)) c.in-Some.is (c.in_ok-name.ensures e st) (var_of k))))
    c.note_name.ensures

pub returns-in-None : goal.returns-in-None
returns-in-None c =
    λ e st k.
    noted_none (get same_name c.args.self.now.from k) (defines (told c.args.core.now.lits e) (var_of k)) c.args.since
    (subst (λ o. IsDefined o (told c.args.core.now.lits e)) c.in-None.is (c.in_ok-name.ensures e st) (var_of k))
