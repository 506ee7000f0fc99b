use Rattle.std.proofs.Common.{◌≡◌, ℕ, ◌-◌, List, length, map, sym, ap, subst, ◌∙◌}
use Rattle.std.proofs.lemmas.List.{length-map}
use Rattle.std.proofs.lemmas.Result.{IfOk-weaker}
use Rattle.named_form.specs.declared.plan.Plan.{Plan}
use Rattle.named_form.specs.declared.program.Named.{Named}
use Rattle.named_form.specs.declared.program.Proc.{Proc}
use Rattle.named_form.specs.declared.tally.Tally.{Tally}
use Rattle.named_form.specs.Code.{Written}
use Rattle.named_form.specs.PlainPlan.{Begins, all_free, plain}
use Rattle.named_form.specs.Tallies.{met_all, planned, started, vars_before}
use Rattle.named_form.specs.Valid.{WellFormed}
use Rattle.named_form.specs.ValidPlan.{FitsProgram}
use Rattle.named_form.specs.Written.{form, procedure}
use Rattle.named_form.proofs.Tallied.{begins, planned_is}
use Rattle.named_form.proofs.Waiting.{plain_fits}
use Rattle.named_form.proofs.plan.Plan.plain.Goals as goal

many : (procs : List Proc) → length (map procedure procs) ≡ length procs
many procs = rw length-map

-- the plan of what is met of a program's procedures is its plain plan
exact : (named : Named) (procs : List Proc) (start met : Tally) (kept : List (List ℕ)) (others : ℕ) (plan : Plan)
    → procs ≡ named.procs → start ≡ started others → others ≡ length procs - 1
    → met ≡ met_all (map procedure procs) start → kept ≡ all_free (map procedure procs)
    → plan ≡ planned met kept (length procs) → plan ≡ plain (form named)
exact named procs start met kept others plan hp hs ho hm hk h =
    let ps : List Written = map procedure named.procs in
    let long = many procs in
    let begun : start ≡ started (length (map procedure procs) - 1) =
    hs ∙ ap started (ho ∙ ap (λ n. n - 1) (sym long)) in
    let all : met ≡ met_all ps (started (length ps - 1)) =
    hm
    ∙ (ap (met_all (map procedure procs)) begun
    ∙ ap (λ rs. met_all (map procedure rs) (started (length (map procedure rs) - 1))) hp) in
    let free : kept ≡ all_free ps = hk ∙ ap (λ rs. all_free (map procedure rs)) hp in
    let same : length procs ≡ length ps = sym long ∙ ap (λ rs. length (map procedure rs)) hp in
    h
    ∙ (ap (λ t. planned t kept (length procs)) all
    ∙ (ap (λ k. planned (met_all ps (started (length ps - 1))) k (length procs)) free
    ∙ (ap (planned (met_all ps (started (length ps - 1))) (all_free ps)) same
    ∙ planned_is (form named))))

-- where the procedures of a well-formed program begin
begin : (named : Named) (procs : List Proc) (start : Tally) (firsts items : List ℕ) (others : ℕ)
    → procs ≡ named.procs → start ≡ started others → items ≡ vars_before (map procedure procs) start → firsts ≡ items
    → WellFormed (form named) → Begins (map procedure procs) firsts
begin named procs start firsts items others hp hs hi hf w =
    let same : form named ≡ record { procs = map procedure procs; tops = named.tops; lits = named.lits } =
    ap (λ rs. record { procs = map procedure rs; tops = named.tops; lits = named.lits }) (sym hp) in
    let v = subst WellFormed same w in
    record {
      numbered = v.numbered;
      made = v.made;
      scoped = v.scoped;
      begins = hf ∙ (hi ∙ (ap (vars_before (map procedure procs)) hs ∙ begins (map procedure procs) others));
    }

pub returns-clause-exact : goal.returns-clause-exact
returns-clause-exact c =
    λ w.
    let kept = c.in_ok-kept.ensures (begin c.args.named.now c.as_slice-procs.result.now c.new-tally.result c.as_slice.result.now c.in_ok-firsts.firsts.items c.saturating_sub.result c.as_slice-procs.ensures c.new-tally.ensures c.in_ok-firsts.ensures.firsts c.as_slice.ensures.value w) in
    IfOk-weaker c.plan_of.result
    (λ plan. plan ≡ planned c.meet_all.new.tally c.in_ok-kept.kept (length c.as_slice-procs.result.now))
    (λ plan. plan ≡ plain (form c.args.named.now))
    (λ plan h.
    exact c.args.named.now c.as_slice-procs.result.now c.new-tally.result c.meet_all.new.tally c.in_ok-kept.kept
    c.saturating_sub.result plan c.as_slice-procs.ensures c.new-tally.ensures c.saturating_sub.ensures
    c.in_ok-firsts.ensures.tally kept h)
    c.plan_of.ensures

pub returns-clause-fits : goal.returns-clause-fits
returns-clause-fits c =
    λ w.
    IfOk-weaker c.plan_of.result (λ plan. plan ≡ plain (form c.args.named.now))
    (λ plan. FitsProgram plan (form c.args.named.now).procs)
    (λ plan h. subst (λ p. FitsProgram p (form c.args.named.now).procs) (sym h) (plain_fits (form c.args.named.now) w.numbered))
    (returns-clause-exact c w)
