use Rattle.std.proofs.Common.{[], ◌∷◌, refl, sym, ap}
use Rattle.std.specs.Prelude.{map}
use Rattle.draft_form.specs.Drafts.{Fresh, Fix, item, none}
use Rattle.draft_form.specs.Drawn.{name_of}
use Rattle.scheme_expand.specs.Calls.{one}
use Rattle.scheme_expand.specs.Views.{leave}
use Rattle.scheme_expand.proofs.AddedDrafts.{both_ok, fix_added}
use Rattle.scheme_expand.proofs.Stacks.{made_left, redrawn, two_given, two_taken}
use Rattle.scheme_expand.proofs.make.Maker.make_loop.Goals as goal

pub returns : goal.returns
returns c =
    both_ok c.add.result
    (λ id kept added k v w i e.
    let p = c.args.pos in
    let level = c.args.level in
    let names = k.names in
    let nodes = k.source.nodes.now in
    let made = made_left k c.args.self.now _ v level i (c.leave.ensures names v.bound i.words i.scope) refl refl refl in
    two_given k c.take-2.new.self _ c.in_ok-procedure.procedure c.in_ok-body.body id (leave level v) w
    (λ procedure body. Fix p (Fresh level ∷ []) (one procedure) body)
    (two_taken k _ c.take.new.self c.take-2.new.self c.in_ok-procedure.procedure c.in_ok-body.body (leave level v) made
    c.in_ok-procedure.ensures c.in_ok-body.ensures)
    (redrawn c.take-2.new.self c.add.new.self kept)
    (λ d body x y.
    fix_added names nodes c.take-2.new.self.drafts c.add.new.self c.in_ok-vars.vars c.in_ok-lambdas.lambdas c.in_ok-body.body p id
    (Fresh level ∷ []) (one d) body added (sym (ap (map (name_of names)) c.in_ok-vars.ensures))
    (c.in_ok-procedure.procedure, [], c.in_ok-lambdas.ensures, x, refl) y)
    e)
    c.add.ensures.kept c.add.ensures.added
