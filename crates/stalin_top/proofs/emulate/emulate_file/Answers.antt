use Rattle.stalin_top.proofs.Emulations.{emulated, not_run}
use Rattle.stalin_top.proofs.emulate.emulate_file.Goals as goal

pub returns-in-Err : goal.returns-in-Err
returns-in-Err g c = not_run c.args.bytes c.args.steps c.in-Err.answer _ c.in-Err.ensures.answer

pub returns-in-Ended : goal.returns-in-Ended
returns-in-Ended g c =
    emulated _ _ _ _ _ _ _ _ c.in-Ok.ensures.machine.holds c.in-Ok.ensures.machine.starts c.in-Ended.ensures.plays
    c.in-Ended.ensures.answer c.answers_are_of_an_environment.ensures c.console_shows_the_trace.ensures

pub returns-in-Spent : goal.returns-in-Spent
returns-in-Spent g c =
    emulated _ _ _ _ _ _ _ _ c.in-Ok.ensures.machine.holds c.in-Ok.ensures.machine.starts c.in-Spent.ensures.plays
    c.in-Spent.ensures.answer c.answers_are_of_an_environment.ensures c.console_shows_the_trace.ensures

pub returns : goal.returns
returns g c =
    emulated _ _ _ _ _ _ _ _ c.in-Ok.ensures.machine.holds c.in-Ok.ensures.machine.starts c.in-Trapped.ensures.plays
    c.in-Trapped.ensures.answer c.answers_are_of_an_environment.ensures c.console_shows_the_trace.ensures
