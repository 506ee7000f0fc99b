use Rattle.std.proofs.Common.{◌≡◌, [], Some, sym, ap, ap₂, ◌∙◌, rules, arith}
use Rattle.std.specs.Prelude.{map}
use Rattle.std.proofs.lemmas.Grind.{common_steps}
use Rattle.draft_form.specs.Drafts.{Lambda}
use Rattle.draft_form.specs.Drawn.{name_of}
use Rattle.scheme_expand.specs.Making.{lambda_made}
use Rattle.scheme_expand.proofs.MadeLetrecs.{no_rest_made, rest_made}
use Rattle.scheme_expand.proofs.make.without_rest.Goals as goal

pub returns-then-not-has_rest : goal.returns-then-not-has_rest
returns-then-not-has_rest c = λ names p e.
    ap₂ (λ b vs. lambda_made p b (map (name_of names) vs) e) c.if-not-has_rest.true (sym c.from_vec.ensures)

pub returns-in-Some : goal.returns-in-Some
returns-in-Some c = λ names p e.
    let f = name_of names in
    ap (λ b. lambda_made p b (map f c.args.variables.items) e) c.if-not-has_rest.false
    ∙ (rest_made names p e c.args.variables.items c.pop.new.self.items c.in-Some.rest c.in-Some.ensures.items
    ∙ ap (λ vs. Lambda p (map f vs) (Some (f c.in-Some.rest)) e) (sym c.from_vec-in-Some.ensures))

pub returns-in-None : goal.returns-in-None
returns-in-None c = λ names p e.
    let left : c.pop.new.self.items ≡ [] = first_of (search rules, grind (arith, common_steps)) in
    let all : c.args.variables.items ≡ [] = first_of (search rules, grind (arith, common_steps)) in
    ap (λ b. lambda_made p b (map (name_of names) c.args.variables.items) e) c.if-not-has_rest.false
    ∙ no_rest_made names p e c.args.variables.items c.from_vec-in-None.result all (c.from_vec-in-None.ensures ∙ left)
