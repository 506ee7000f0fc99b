use Rattle.box_name.proofs.Boxing.{takes_none, takes_one}
use Rattle.box_name.proofs.namer.Namer.rest_var.Goals as goal

pub returns-in_ok-fresh-in-Some : goal.returns-in_ok-fresh-in-Some
returns-in_ok-fresh-in-Some c =
    takes_one c.args.self.now c.fresh.new.self c.args.rest.now c.in-Some.field-0 c.in_ok-fresh-in-Some.field-0 c.in-Some.is
    c.in_ok-fresh-in-Some.ensures

pub returns-in-None : goal.returns-in-None
returns-in-None c = takes_none c.args.self.now c.args.rest.now c.in-None.is
