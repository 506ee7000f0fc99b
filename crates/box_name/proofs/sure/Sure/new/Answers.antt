use Rattle.std.proofs.Common.{ap, rules, nat_eq}
use Rattle.std.proofs.lemmas.List.{nil_from_length}
use Rattle.std.specs.Map.{lookup}
use Rattle.indexmap.specs.IndexMap.{get}
use Rattle.alpha_core.specs.Names.{same_name}
use Rattle.box_name.proofs.Sureness.{looking_begins, looking_on, looking_ends}
use Rattle.box_name.proofs.sure.Sure.new.Goals as goal

pub loop-form-init : goal.loop-form-init
loop-form-init c =
    λ forms holds.
    looking_begins c.args.core.now forms _ c.args.core.now.forms _ holds (search rules)
    (λ k. ap (λ es. lookup (same_name k) es) c.new.ensures.empty)

pub loop-form-preserved : goal.loop-form-preserved
loop-form-preserved c =
    λ forms h.
    looking_on c.args.core.now forms c.loop-form.next c.loop-form.since c.in-Some-checked_add.after c.since_form-since.result
    (λ k. get same_name c.loop-form.sure.from k) (λ k. get same_name c.note.new.self.from k) c.in-Some.form.now
    c.loop-form.left.now c.in-Some.others.now (c.loop-form.invariant forms h) (search rules) (search rules) c.since_form-since.ensures
    c.in_ok-note.ensures

pub returns : goal.returns
returns c =
    λ forms h k f.
    looking_ends c.args.core.now forms c.loop-form.next c.loop-form.since (λ k. get same_name c.loop-form.sure.from k)
    c.loop-form.left.now (c.loop-form.invariant forms h) (nil_from_length _ c.in_default.ensures.cases) k f
