use Rattle.std.proofs.Common.{map, sym, ap, ◌∙◌, subst}
use Rattle.std.proofs.lemmas.Option.{MatchOption-at_some}
use Rattle.flow_form.specs.Shape.{IsMadeOf}
use Rattle.named_form.specs.Code.{first_sites}
use Rattle.named_form.specs.Written.{form, procedure}
use Rattle.flow_constraints.specs.Census.{cut}
use Rattle.flow_constraints.specs.Counting.{procs_count}
use Rattle.flow_constraints.specs.Walk.{put_procs}
use Rattle.flow_constraints.proofs.ProgramFits.{rules_valid}
use Rattle.flow_constraints.proofs.Refused.{made_is, rules_decide}
use Rattle.flow_constraints.proofs.constraints.generate.Goals as goal

pub returns-in-Some-past-clause-refused : goal.returns-in-Some-past-clause-refused
returns-in-Some-past-clause-refused c =
    let n = c.args.named.now in
    let flow = c.in-Ok.flow in
    let count = c.in-Ok-count_rules.count in
    rules_decide (form n) flow c.of-census.result.rows c.of-census.result.atoms count _ c.in-Ok.ensures c.of-census.ensures.rows
    c.of-census.ensures.atoms (sym c.table_limit.ensures ∙ c.in_default.is)
    (c.in-Ok-count_rules.ensures
    ∙ (ap (λ ls. cut (procs_count flow ls (map procedure c.as_slice-procs.result.now))) c.as_slice-lits.ensures
    ∙ ap (λ ps. cut (procs_count flow n.lits (map procedure ps))) c.as_slice-procs.ensures))
    (sym c.past.ensures ∙ c.in-Some-past.is)

pub returns-in-Some-made-clause-made : goal.returns-in-Some-made-clause-made
returns-in-Some-made-clause-made c =
    let n = c.args.named.now in
    let flow = c.in-Ok.flow in
    let atoms = c.in-Ok-narrow.atoms in
    let made = c.in-Some-made.constraints in
    made_is (form n) flow made atoms c.in-Ok.ensures (c.in-Ok-narrow.ensures ∙ c.len.ensures)
    (subst
    (λ ps. IsMadeOf made flow.rows atoms (put_procs flow n.lits (first_sites (map procedure ps)) (map procedure ps)))
    c.as_slice-procs.ensures
    (subst
    (λ ls.
    IsMadeOf made flow.rows atoms
    (put_procs flow ls (first_sites (map procedure c.as_slice-procs.result.now)) (map procedure c.as_slice-procs.result.now)))
    c.as_slice-lits.ensures
    (MatchOption-at_some _ _ made c.in-Some-made.is c.in-Ok-listed.ensures)))

pub returns-in-Some-made-clause-within : goal.returns-in-Some-made-clause-within
returns-in-Some-made-clause-within c =
    let n = c.args.named.now in
    let flow = c.in-Ok.flow in
    let count = c.in-Ok-count_rules.count in
    rules_decide (form n) flow c.of-census.result.rows c.of-census.result.atoms count _ c.in-Ok.ensures c.of-census.ensures.rows
    c.of-census.ensures.atoms (sym c.table_limit.ensures ∙ c.in_default.is)
    (c.in-Ok-count_rules.ensures
    ∙ (ap (λ ls. cut (procs_count flow ls (map procedure c.as_slice-procs.result.now))) c.as_slice-lits.ensures
    ∙ ap (λ ps. cut (procs_count flow n.lits (map procedure ps))) c.as_slice-procs.ensures))
    (sym c.past.ensures ∙ c.in_default-past.is)

pub returns-in_default-flow_of-clause-valid : goal.returns-in_default-flow_of-clause-valid
returns-in_default-flow_of-clause-valid c = rules_valid (form c.args.named.now)

pub returns-in_default-narrow-clause-valid : goal.returns-in_default-narrow-clause-valid
returns-in_default-narrow-clause-valid c = rules_valid (form c.args.named.now)

pub returns-in_default-count_rules-clause-valid : goal.returns-in_default-count_rules-clause-valid
returns-in_default-count_rules-clause-valid c = rules_valid (form c.args.named.now)

pub returns-in-Some-past-clause-valid : goal.returns-in-Some-past-clause-valid
returns-in-Some-past-clause-valid c = rules_valid (form c.args.named.now)

pub returns-in_default-listed-clause-valid : goal.returns-in_default-listed-clause-valid
returns-in_default-listed-clause-valid c = rules_valid (form c.args.named.now)

pub returns-in-Some-made-clause-valid : goal.returns-in-Some-made-clause-valid
returns-in-Some-made-clause-valid c = rules_valid (form c.args.named.now)

pub returns-clause-valid : goal.returns-clause-valid
returns-clause-valid c = rules_valid (form c.args.named.now)
