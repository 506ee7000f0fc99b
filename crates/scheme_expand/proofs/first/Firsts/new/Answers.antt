use Rattle.scheme_expand.proofs.FirstNames.{none_taken}
use Rattle.scheme_expand.proofs.first.Firsts.new.Goals as goal

pub returns : goal.returns
returns c = λ names listed marks. none_taken names listed _ c.new.ensures.items marks
