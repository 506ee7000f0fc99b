use Rattle.flow_workers.proofs.Rests.{round_left}
use Rattle.flow_workers.proofs.round.round.Goals as goal

pub returns : goal.returns
returns g c =
    round_left c.args.c.now c.args.opened.0.base c.args.settled.now c.args.opened.0.rounds c.args.opened.0
    c.args.opened.1 c.do_rest.new.pass c.close.result c.requires.start c.close.ensures c.requires.settled
    c.do_rest.ensures.all
