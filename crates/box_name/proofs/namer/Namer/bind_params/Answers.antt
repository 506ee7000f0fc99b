use Rattle.std.proofs.Common.{rules, ap}
use Rattle.std.proofs.lemmas.List.{nil_from_length}
use Rattle.box_name.specs.Told.{number, numbers}
use Rattle.box_name.proofs.Listing.{binding_begins, binding_on, binding_ends, binding_breaks}
use Rattle.box_name.proofs.namer.Namer.bind_params.Goals as goal

pub loop-param-init : goal.loop-param-init
loop-param-init c = λ s fits n p h k.
    binding_begins s c.args.pos n p c.args.self.now c.args.self.now c.args.steps.now.items c.args.steps.now.items (numbers c.args.params.now)
    c.args.values.now _ _ (ap numbers c.as_slice-params.ensures) (search rules) h k

pub loop-param-preserved : goal.loop-param-preserved
loop-param-preserved c =
    λ s fits n p h k.
    binding_on s c.args.pos n p c.args.self.now c.loop-param.self c.args.steps.now.items c.loop-param.steps.items (numbers c.args.params.now)
    c.args.values.now c.bind_param.new.self c.bind_param.new.steps.items (number c.in-Some.param.now) c.in-Some-split_first.value.now
    (numbers c.loop-param.params.now) (numbers c.in-Some.other_params.now) c.loop-param.values.now c.in-Some-split_first.other_values.now
    (c.loop-param.invariant s fits n p h k) (ap numbers c.in-Some.ensures.cases.0) (search rules) (c.in_ok-bind_param.ensures s fits)

pub returns-in_default-split_first : goal.returns-in_default-split_first
returns-in_default-split_first c =
    λ s fits n p h k.
    binding_breaks s c.args.pos n p c.args.self.now c.loop-param.self c.args.steps.now.items c.loop-param.steps.items (numbers c.args.params.now)
    c.args.values.now (number c.in-Some.param.now) (numbers c.loop-param.params.now) (numbers c.in-Some.other_params.now)
    c.loop-param.values.now (c.loop-param.invariant s fits n p h k) (ap numbers c.in-Some.ensures.cases.0) (nil_from_length _ c.in_default-split_first.ensures.cases)

pub returns : goal.returns
returns c =
    λ s fits n p h k.
    binding_ends s c.args.pos n p c.args.self.now c.loop-param.self c.args.steps.now.items c.loop-param.steps.items (numbers c.args.params.now)
    c.args.values.now (numbers c.loop-param.params.now) c.loop-param.values.now (c.loop-param.invariant s fits n p h k)
    (ap numbers (nil_from_length _ c.in_default.ensures.cases))
