use Rattle.std.proofs.Common.{ap, ◌∙◌}
use Rattle.scheme_expand.proofs.Scopes.{named_bound}
use Rattle.scheme_expand.proofs.scope.Scope.bind.Goals as goal

pub returns : goal.returns
returns c = λ names bs x words h spells.
    named_bound names c.args.self.now c.set_innermost.new.self bs c.args.word x c.find-hidden.result c.in_ok-level.level words h spells
    (c.find-hidden.ensures.core names bs h spells.0) (c.in_ok-level.ensures names bs h)
    (ap (λ v. v.items) c.set_innermost.ensures.bound ∙ c.in_ok-push.ensures.items) c.set_innermost.ensures.innermost
