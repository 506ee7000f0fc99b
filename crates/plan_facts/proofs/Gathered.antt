-- What is gathered from a program is what is known of it.
use Rattle.std.proofs.Common.{◌≡◌, List, map, ap, ◌∙◌}
use Rattle.flow_constraints.specs.declared.flow.Flow.{Flow}
use Rattle.flow_constraints.specs.Layout.{flow_of}
use Rattle.flow_form.specs.declared.rows.Rows.{Rows}
use Rattle.named_form.specs.declared.program.Named.{Named}
use Rattle.named_form.specs.declared.program.Proc.{Proc}
use Rattle.named_form.specs.Written.{form, procedure}
use Rattle.plan_facts.specs.declared.place.Place.{Place}
use Rattle.plan_facts.specs.Places.{facts, facts_of, places_of}

pub facts_same : (n : Named) (rows : Rows) (procs : List Proc) (flow : Flow) (steps : List Place) → procs ≡ n.procs → flow ≡ flow_of (form n)
    → steps ≡ places_of (form n) → facts (map procedure procs) flow rows steps ≡ facts_of (form n) rows
facts_same n rows procs flow steps same_procs same_flow same_steps =
    ap (λ ps. facts (map procedure ps) flow rows steps) same_procs
    ∙ (ap (λ f. facts (map procedure n.procs) f rows steps) same_flow
    ∙ ap (λ ss. facts (map procedure n.procs) (flow_of (form n)) rows ss) same_steps)
