use Rattle.stalin_top.proofs.Fitting.{value_fits}
use Rattle.stalin_top.proofs.command.Given.with_value.Goals as goal

pub returns-clause-fit : goal.returns-clause-fit
returns-clause-fit c =
    value_fits c.args.setting c.range.result c.args.word.now c.in_ok-value.value c.number.result c.args.self.settings c.with.result
    c.range.ensures.range c.number.ensures c.in_ok-value.was c.with.ensures
