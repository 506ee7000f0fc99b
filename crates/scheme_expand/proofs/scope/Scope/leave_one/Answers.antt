use Rattle.std.proofs.Common.{◌++◌, ◌∷◌, [], refl, sym, ap, ◌∙◌}
use Rattle.scheme_expand.proofs.Scopes.{named_left, fresh_left}
use Rattle.scheme_expand.proofs.scope.Scope.leave_one.Goals as goal

pub returns-in-Some-word : goal.returns-in-Some-word
returns-in-Some-word c = λ names bs words h.
    named_left names c.args.self.now c.set_innermost.new.self bs c.in-Some.last c.in-Some-word.word words h
    (c.in-Some.ensures.items ∙ ap (λ v. v.items ++ c.in-Some.last ∷ []) (sym c.set_innermost.ensures.bound)) c.in-Some-word.is
    c.set_innermost.ensures.innermost

pub returns-in_default-word : goal.returns-in_default-word
returns-in_default-word c = λ names bs words h.
    fresh_left names c.args.self.now _ bs c.in-Some.last words h c.in-Some.ensures.items c.in_default-word.is refl
