use Rattle.std.proofs.Common.{◌≡◌, ap, ◌∙◌, arith}
use Rattle.std.proofs.lemmas.List.{take_more}
use Rattle.scheme_expand.specs.ByWord.{flag_at}
use Rattle.scheme_expand.proofs.VariablesInOrder.{more_taken, all_taken}
use Rattle.scheme_expand.proofs.assemble.Whole.own_names.Goals as goal

pub loop-variable-init : goal.loop-variable-init
loop-variable-init c = λ names own one marks.
    let same : c.in_ok-to_vec.field-0.items ≡ c.args.self.own.now = c.in_ok-to_vec.ensures.items_if_clones_equal (λ x y e. e) in
    c.new-firsts.ensures names own (λ w. ap (λ flags. flag_at flags w) same ∙ marks w)

pub loop-variable-preserved : goal.loop-variable-preserved
loop-variable-preserved c = λ names own one marks.
    more_taken names own c.args.variables.now c.loop-variable.variable-index _ c.loop-variable.firsts c.take_top.new.firsts
    (take_more c.args.variables.now c.loop-variable.variable-index _ c.loop-variable-test.true) one c.in_ok-take_top.ensures
    (c.loop-variable.invariant names own one marks)

pub returns : goal.returns
returns c = λ names own one marks.
    all_taken names own c.args.variables.now c.loop-variable.variable-index c.loop-variable.firsts
    (omega (arith, c.loop-variable-test.false)) (c.loop-variable.invariant names own one marks)
