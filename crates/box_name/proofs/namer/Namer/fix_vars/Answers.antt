use Rattle.std.proofs.Common.{rules, subst, sym}
use Rattle.std.proofs.lemmas.List.{nil_from_length}
use Rattle.box_name.proofs.Numbering.{Numbering, numbering_begins, numbering_on, numbering_ends}
use Rattle.box_name.proofs.namer.Namer.fix_vars.Goals as goal

pub loop-var-init : goal.loop-var-init
loop-var-init c = numbering_begins c.args.self.now c.args.vars.now _ _ (search rules) c.new-bound.ensures

pub loop-var-preserved : goal.loop-var-preserved
loop-var-preserved c =
    numbering_on c.args.self.now c.loop-var.self c.fresh.new.self c.place.new.self c.args.vars.now c.loop-var.left.now c.in-Some.var.now
    c.in-Some.others.now c.in-Local.number c.in_ok-var.var c.loop-var.bound c.push.new.self c.loop-var.invariant (search rules) c.in-Local.is
    c.in_ok-var.ensures c.in_ok-place.ensures (search rules)

pub returns : goal.returns
returns c =
    numbering_ends c.args.self.now c.loop-var.self c.args.vars.now c.loop-var.left.now c.loop-var.bound c.loop-var.invariant (nil_from_length _ c.in_default.ensures.cases)
