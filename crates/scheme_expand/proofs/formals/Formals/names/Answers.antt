use Rattle.std.proofs.Common.{◌++◌, ◌∷◌, [], ap, ◌∙◌}
use Rattle.scheme_expand.proofs.Parameters.{no_rest, one_rest}
use Rattle.scheme_expand.proofs.formals.Formals.names.Goals as goal

pub returns-in_ok-push-in-Some : goal.returns-in_ok-push-in-Some
returns-in_ok-push-in-Some c = λ from ws r h.
    one_rest from c.args.self ws r _ c.in-Some.rest h c.in-Some.is
    (c.in_ok-push-in-Some.ensures.items
    ∙ ap (λ l. l ++ c.in-Some.rest ∷ [])
    (c.in_ok-extend_from_slice.ensures.items ∙ ap (λ l. l ++ c.args.self.params.now) c.new-names.ensures.items))

pub returns-in-None : goal.returns-in-None
returns-in-None c = λ from ws r h.
    no_rest from c.args.self ws r _ h c.in-None.is
    (c.in_ok-extend_from_slice.ensures.items ∙ ap (λ l. l ++ c.args.self.params.now) c.new-names.ensures.items)
