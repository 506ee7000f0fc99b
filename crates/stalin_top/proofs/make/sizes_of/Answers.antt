use Rattle.std.proofs.Common.{refl, subst}
use Rattle.image_build.specs.Emitted.{IsAnalysed}
use Rattle.stalin_top.proofs.NumbersTold.{unanalysed}
use Rattle.stalin_top.proofs.make.sizes_of.Goals as goal

pub returns-in-Ok : goal.returns-in-Ok
returns-in-Ok g c =
    λ heap.
    record {
      analysis = c.in-Ok.analysis;
      analysed = subst (λ p. IsAnalysed p c.in-Ok.analysis) c.requires.program c.in-Ok.ensures.analysed;
      rows = refl;
      atoms = refl;
      rules = c.len.ensures;
    }

pub returns-in-Err : goal.returns-in-Err
returns-in-Err g c =
    λ heap.
    unanalysed c.args.count heap c.args.program.now c.in-Err.error c.answer_to.result c.requires.program
    c.in-Err.ensures.refused c.answer_to.ensures
