use Rattle.std.proofs.Common.{◌+◌, ◌*◌, ◌/◌, ap}
use Rattle.flow_workers.proofs.Gifts.{follows_atom, gift_atom}
use Rattle.flow_workers.proofs.rule.give.Goals as goal

pub set-requires-clause-follows : goal.set-requires-clause-follows
set-requires-clause-follows c =
    follows_atom c.args.c.now c.args.pass.now.view.worker.loaded c.args.rule.now c.in-Atom.atom _ c.requires.listed
    c.requires.holds c.in-Atom.is (ap (λ s. c.args.rule.now.to * s + c.in-Atom.atom / 64) c.stride.ensures.value)

pub returns-in-Atom-clause-given : goal.returns-in-Atom-clause-given
returns-in-Atom-clause-given c =
    gift_atom c.args.c.now c.args.table.now c.set.new.pass c.args.rule.now c.in-Atom.atom _ c.requires.listed
    c.in-Atom.is (ap (λ s. c.args.rule.now.to * s + c.in-Atom.atom / 64) c.stride.ensures.value) c.set.ensures.seen
