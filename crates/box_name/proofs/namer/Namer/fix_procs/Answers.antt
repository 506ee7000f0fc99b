use Rattle.std.proofs.Common.{rules}
use Rattle.std.proofs.lemmas.List.{nil_from_length}
use Rattle.box_name.proofs.Numbering.{counting_begins, counting_on, counting_ends}
use Rattle.box_name.proofs.namer.Namer.fix_procs.Goals as goal

pub loop-lambda-init : goal.loop-lambda-init
loop-lambda-init c = λ ls sls s fits.
    counting_begins c.args.stand.core.now.exprs c.args.stand.core.now.lits c.args.self.now ls c.args.lambdas.now _ _ sls (search rules) c.new-procs.ensures

pub loop-lambda-preserved : goal.loop-lambda-preserved
loop-lambda-preserved c =
    λ ls sls s fits.
    counting_on c.args.stand.core.now.exprs c.args.stand.core.now.lits c.args.self.now c.loop-lambda.self c.procedure.new.self ls
    c.in-Some.lambda.now c.in_ok-procedure.field-0 c.loop-lambda.left.now c.in-Some.others.now c.loop-lambda.procs c.push.new.self
    (c.loop-lambda.invariant ls sls s fits) (search rules) (λ e st. c.in_ok-procedure.ensures e st s fits) (search rules)

pub returns : goal.returns
returns c =
    λ ls sls s fits.
    counting_ends c.args.stand.core.now.exprs c.args.stand.core.now.lits c.args.self.now c.loop-lambda.self ls c.loop-lambda.left.now
    c.loop-lambda.procs (c.loop-lambda.invariant ls sls s fits) (nil_from_length _ c.in_default.ensures.cases)
