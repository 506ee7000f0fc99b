use Rattle.std.proofs.Common.{rules, arith, ◌≡◌, ◌∙◌, [], ◌∷◌, ◌++◌}
use Rattle.tail_codegen.specs.Written.{code_of}
use Rattle.image_build.proofs.InRows.{one_more}
use Rattle.image_build.proofs.codes.in_order.Goals as goal

pub loop-proc-preserved : goal.loop-proc-preserved
loop-proc-preserved c =
    let flat = c.args.flat.now in
    let offsets = c.args.offsets.now in
    let proc = c.loop-proc.proc in
    let pushed : c.push.new.self.items ≡ c.loop-proc.all.items ++ code_of flat offsets proc ∷ [] = search rules in
    record {
      within = omega (arith, c.loop-proc.invariant.within);
      made =
          pushed
          ∙ one_more flat offsets c.args.first proc c.loop-proc.all.items c.loop-proc.invariant.within c.loop-proc.invariant.made;
    }
