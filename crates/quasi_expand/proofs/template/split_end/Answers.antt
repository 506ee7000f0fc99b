use Rattle.quasi_expand.proofs.TemplateEnds.{tail_split}
use Rattle.quasi_expand.proofs.template.split_end.Goals as goal

pub returns-in-Some : goal.returns-in-Some
returns-in-Some c = λ ds t h k. tail_split c.args.nodes.now c.args.items.now ds c.args.tail c.in-Some.tail t h k c.in-Some.is
