use Rattle.flow_form.specs.Laws.{Passing}
use Rattle.flow_form.specs.Least.{Nothing}
use Rattle.flow_form.proofs.Least.{least_has_base, least_closed, least_within, least_of_repeat, least_of_restart}
use Rattle.flow_form.proofs.laws.least_is_least.Goals as goal

pub returns : goal.returns
returns c = λ rules base. record {
  has_base = least_has_base rules (Passing base);
  closed = least_closed rules (Passing base);
  least = λ test. least_within rules (Passing base) (Passing test);
  repeats = least_of_repeat rules (Passing base);
  restarts = least_of_restart rules Nothing (Passing base) (λ row atom none. absurd none);
}
