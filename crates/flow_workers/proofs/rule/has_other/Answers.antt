use Rattle.std.proofs.Common.{ℕ, ◌+◌, ◌*◌, ap, arith, subst}
use Rattle.flow_form.specs.Race.{MaskWithin}
use Rattle.flow_form.specs.Shape.{In}
use Rattle.flow_workers.proofs.Others.{other_found}
use Rattle.flow_workers.proofs.rule.has_other.Goals as goal

pub returns-then-others_of-ne0-clause-tells : goal.returns-then-others_of-ne0-clause-tells
returns-then-others_of-ne0-clause-tells c =
    let At : ℕ → Type 0 =
    λ p. MaskWithin c.args.c.now p c.load-word.result (In c.args.c.now c.load-word.new.pass.view.worker.loaded) in
    other_found c.args.c.now (In c.args.c.now c.load-word.new.pass.view.worker.loaded) c.args.row c.loop-at.at c.args.atom
    c.load-word.result c.others_of.result c.requires.row (omega (arith, c.stride-stride.ensures.value, c.loop-at-test.true))
    (omega arith) (omega arith) c.others_of.ensures
    (subst At (ap (λ s. c.args.row * s + c.loop-at.at) c.stride-stride.ensures.value) c.load-word.ensures.loaded)
