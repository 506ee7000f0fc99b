use Rattle.std.proofs.Common.{sym, ap, ◌∙◌}
use Rattle.std.proofs.lemmas.List.{nil_from_length}
use Rattle.box_name.specs.NamingSteps.{last_of}
use Rattle.box_name.proofs.Acts.{last_pushed}
use Rattle.box_name.proofs.namer.last_of.Goals as goal

pub returns-in-Some : goal.returns-in-Some
returns-in-Some c =
    sym (ap (λ vs. last_of 0 vs) (sym c.as_slice.ensures ∙ c.in-Some.ensures.cases.0) ∙ last_pushed 0 c.in-Some.field-0-1.now c.in-Some.last.now)

pub returns-in-None : goal.returns-in-None
returns-in-None c = ap (λ vs. last_of 0 vs) (sym (sym c.as_slice.ensures ∙ nil_from_length _ c.in-None.ensures.cases))
