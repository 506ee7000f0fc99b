use Rattle.std.proofs.Common.{rules, refl}
use Rattle.named_form.specs.Code.{Fix}
use Rattle.box_name.specs.Told.{all_told, numbers}
use Rattle.box_name.proofs.Acts.{fix_is, puts_step}
use Rattle.box_name.proofs.Numbering.{put_fix}
use Rattle.box_name.proofs.namer.Namer.name_fix.Goals as goal

pub returns : goal.returns
returns c =
    λ ls sls s fits n p.
    put_fix s n p c.args.self.now c.fix_vars.new.self c.fix_procs.new.self c.args.steps.now.items c.push.new.self.items c.args.pos
    (numbers c.args.vars.now) (all_told c.args.stand.core.now.lits ls) c.in_ok-vars.vars c.in_ok-procs.procs c.in_ok-vars.ensures
    (c.in_ok-procs.ensures ls sls s fits)
    (puts_step c.args.steps.now.items c.push.new.self.items _ c.args.pos c.in_ok-vars.vars (Fix c.in_ok-procs.procs) c.in_ok-push.ensures.items
    refl refl (fix_is c.in_ok-procs.procs))
