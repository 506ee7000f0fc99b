-- The steps that are gathered from a program stand in it, and its calls in record mode are those of the definition.
use Rattle.std.proofs.Common.{◌≡◌, ℕ, true, List, length, map, sym, ap, ◌∙◌, subst}
use Rattle.std.specs.List.{filter, list_all}
use Rattle.std.specs.Prelude.{nat_lt}
use Rattle.std.proofs.lemmas.List.{length-map}
use Rattle.flow_constraints.specs.declared.flow.Flow.{Flow}
use Rattle.flow_constraints.specs.Layout.{flow_of}
use Rattle.flow_form.specs.declared.rows.Rows.{Rows}
use Rattle.least_set.proofs.Has.{and_cases}
use Rattle.named_form.specs.declared.program.Named.{Named}
use Rattle.named_form.specs.declared.program.Proc.{Proc}
use Rattle.named_form.specs.ValidPlan.{is_set, rises}
use Rattle.named_form.specs.Written.{form, procedure}
use Rattle.plan_facts.specs.declared.place.Place.{Place}
use Rattle.plan_facts.specs.Capturing.{in_record_mode, recording}
use Rattle.plan_facts.specs.Places.{AllStand, Facts, places_of}
use Rattle.plan_facts.proofs.Gathered.{facts_same}
use Rattle.plan_facts.proofs.Standing.{all_stand}
use Rattle.callcc_conv.specs.Recording.{marked, recorded}
use Rattle.callcc_conv.proofs.Marking.{recorded_same}

pub steps_stand : (n : Named) (procs : List Proc) (steps : List Place) → procs ≡ n.procs → steps ≡ places_of (form n) → AllStand (length procs) steps
steps_stand n procs steps same_procs same_steps =
    let many : length (map procedure n.procs) ≡ length procs = length-map n.procs procedure ∙ ap (λ ps. length ps) (sym same_procs) in
    subst (λ m. AllStand m steps) many (subst (λ ss. AllStand (length (map procedure n.procs)) ss) (sym same_steps) (all_stand (form n)))

pub recording_is : (n : Named) (rows : Rows) (procs : List Proc) (flow : Flow) (steps : List Place) (many : ℕ) (set vars : List ℕ)
    → procs ≡ n.procs → flow ≡ flow_of (form n) → steps ≡ places_of (form n) → is_set many set ≡ true
    → vars ≡ recorded (map procedure procs) flow rows (marked many set) steps → vars ≡ recording (form n) rows set
recording_is n rows procs flow steps many set vars same_procs same_flow same_steps fits is =
    is
    ∙ (recorded_same (map procedure procs) flow rows steps steps many set
    (and_cases (rises set) (list_all (λ x. nat_lt x many) set) fits).1
    ∙ ap (λ (k : Facts). map (λ (p : Place). p.var) (filter (in_record_mode k set) k.steps)) (facts_same n rows procs flow steps same_procs same_flow same_steps))
