use Rattle.std.proofs.Common.{sym, ap, ◌∙◌, arith, rules}
use Rattle.std.specs.Option.{option_map}
use Rattle.stalin_top.specs.Given.{said_by}
use Rattle.stalin_top.proofs.Fitting.{none_fit}
use Rattle.stalin_top.proofs.OneWordMore.{breaks_at, goes_on_at}
use Rattle.stalin_top.proofs.command.read_words.Goals as goal

pub loop-at-init : goal.loop-at-init
loop-at-init c = record { said = search rules; fit = none_fit }

pub returns-in-None-clause-task : goal.returns-in-None-clause-task
returns-in-None-clause-task c =
    breaks_at c.args.verb c.args.words.now c.loop-at.at (said_by c.loop-at.given) _ _ _ _
    (omega (arith, c.len-at-end.ensures.count, c.loop-at-test.true))
    c.word.ensures
    c.unwrap_or-word.ensures
    (sym c.with.ensures.said ∙ ap (option_map said_by) c.in-None.is)
    c.loop-at.invariant.said

pub loop-at-preserved : goal.loop-at-preserved
loop-at-preserved c =
    let fit = rw c.in-Some.is at (c.with.ensures.fit c.loop-at.invariant.fit) in
    record {
      said =
          goes_on_at c.args.verb c.args.words.now c.loop-at.at (said_by c.loop-at.given) (said_by c.in-Some.more) _ _ _ _
          (omega (arith, c.len-at-end.ensures.count, c.loop-at-test.true))
          c.word.ensures
          c.unwrap_or-word.ensures
          (sym c.with.ensures.said ∙ ap (option_map said_by) c.in-Some.is)
          c.loop-at.invariant.said;
      fit = fit;
    }

pub command-requires : goal.command-requires
command-requires c = c.loop-at.invariant.fit
