use Rattle.std.proofs.Common.{refl, rules}
use Rattle.std.proofs.lemmas.List.{nil_from_length}
use Rattle.box_name.specs.Told.{numbers}
use Rattle.box_name.proofs.Boxing.{settling_begins, settling_on, settling_ends, settling_breaks}
use Rattle.box_name.proofs.namer.Namer.settle_params.Goals as goal

pub loop-param-init : goal.loop-param-init
loop-param-init c = λ s fits n p v has h k.
    settling_begins s c.args.pos n p c.args.self.now c.args.self.now c.args.steps.now.items c.args.steps.now.items (numbers c.args.params.now) v
    c.args.params.now _ c.args.vars.now _ refl has (search rules) (search rules) h k

pub loop-param-preserved : goal.loop-param-preserved
loop-param-preserved c =
    λ s fits n p v has h k.
    settling_on s c.args.pos n p c.args.self.now c.loop-param.self c.args.steps.now.items c.loop-param.steps.items (numbers c.args.params.now) v
    c.settle.new.self c.settle.new.steps.items c.in-Some.param.now c.in-Some-split_first.var.now c.loop-param.params.now c.in-Some.other_params.now
    c.loop-param.vars.now c.in-Some-split_first.other_vars.now (c.loop-param.invariant s fits n p v has h k) (search rules) (search rules)
    (c.in_ok-settle.ensures s fits)

pub returns-in_default-split_first : goal.returns-in_default-split_first
returns-in_default-split_first c =
    λ s fits n p v has h k.
    absurd
    (settling_breaks s c.args.pos n p c.args.self.now c.loop-param.self c.args.steps.now.items c.loop-param.steps.items (numbers c.args.params.now)
    v c.in-Some.param.now c.loop-param.params.now c.in-Some.other_params.now c.loop-param.vars.now
    (c.loop-param.invariant s fits n p v has h k) (search rules) (nil_from_length _ c.in_default-split_first.ensures.cases))

pub returns : goal.returns
returns c =
    λ s fits n p v has h k.
    settling_ends s c.args.pos n p c.args.self.now c.loop-param.self c.args.steps.now.items c.loop-param.steps.items (numbers c.args.params.now)
    v c.loop-param.params.now c.loop-param.vars.now (c.loop-param.invariant s fits n p v has h k) (nil_from_length _ c.in_default.ensures.cases)
