use Rattle.std.proofs.Common.{ap, ◌∙◌, arith}
use Rattle.scheme_expand.specs.Programs.{is_public}
use Rattle.scheme_expand.proofs.Flags.{none_marked, next_marked, all_marked}
use Rattle.scheme_expand.proofs.defined.public_names.Goals as goal

pub loop-name-init : goal.loop-name-init
loop-name-init c =
    none_marked c.args.words.now.names.keys c.args.names.now _ _ _ _ c.new-public.ensures.items c.in_ok-resize.ensures.items
    (first_of (omega (arith, c.in_ok-resize.ensures.len, c.len.ensures, c.resize.new.self.ok.0), omega (arith, c.in_ok-resize.ensures.len, c.len.ensures)))

pub loop-name-preserved : goal.loop-name-preserved
loop-name-preserved c =
    next_marked c.args.words.now.names.keys c.args.names.now c.loop-name.name-index _ _ c.is_public.result c.loop-name-test.true
    (c.is_public.ensures ∙ ap is_public c.name.ensures) c.raise_if.ensures c.loop-name.invariant

pub returns-clause-marks : goal.returns-clause-marks
returns-clause-marks c = all_marked _ _ _ _ c.loop-name-test.false c.loop-name.invariant

pub returns-clause-size : goal.returns-clause-size
returns-clause-size c = c.loop-name.invariant.size
