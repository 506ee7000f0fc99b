use Rattle.flow_workers.proofs.Others.{others_cleared}
use Rattle.flow_workers.proofs.rule.others_of.Goals as goal

pub returns-then-at-atom : goal.returns-then-at-atom
returns-then-at-atom c = others_cleared c.args.word c.args.at c.args.atom c.if-at-atom.true
