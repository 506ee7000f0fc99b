-- There is a row for each variable of a program.
use Rattle.std.proofs.Common.{◌≡◌, ℕ, ◌+◌, ◌-◌, List, [], ◌∷◌, ◌++◌, length, refl, sym, ap, ◌∙◌, arith, length-append}
use Rattle.std.specs.List.{flat_map}
use Rattle.named_form.specs.Code.{Counts, Written, binds, bound_in, option_list}
use Rattle.named_form.specs.PlainPlan.{var_count}
use Rattle.named_form.specs.Valid.{Form}
use Rattle.flow_constraints.specs.Layout.{begins, entry_of, flow_of, laid_all, laid_body, laid_lambdas, laid_lambda, laid_main, laid_rest, bound_all, started}
use Rattle.flow_constraints.proofs.LayoutGrows.{code_stands, params_stand}

body_vars : (p : Written) (t : _) → length (laid_body p t).vars ≡ length t.vars + length (bound_in p)
body_vars p t =
    let at : Counts = record { steps = 0; sites = length t.made; blocks = length t.blocks } in
    let params = params_stand 0 (length t.vars) at p t (record { vars = refl; blocks = refl; sites = omega arith }) in
    let body = code_stands 0 (length t.vars + length p.params + length (option_list p.rest)) at p.body (laid_rest p.rest (bound_all p.params t)) params in
    let all = body.vars in
    let one = length-append p.params (option_list p.rest ++ binds p.body) in
    let two = length-append (option_list p.rest) (binds p.body) in
    omega (arith, all, one, two)

lambdas_vars : (ps : List Written) (t : _) → length (laid_lambdas ps t).vars ≡ length t.vars + length (flat_map bound_in ps)
lambdas_vars [] t = omega arith
lambdas_vars (p ∷ ps) t =
    let first = body_vars p (begins 2 (record t { entries = t.entries ++ entry_of p t ∷ [] })) in
    let others = lambdas_vars ps (laid_lambda p t) in
    let all = length-append (bound_in p) (flat_map bound_in ps) in
    omega (arith, first, others, all)

all_vars : (ps : List Written) (t : _) → length (laid_all ps t).vars ≡ length t.vars + var_count ps
all_vars [] t = omega arith
all_vars (p ∷ ps) t =
    let first = body_vars p (begins 1 t) in
    let others = lambdas_vars ps (laid_main p t) in
    let all = length-append (bound_in p) (flat_map bound_in ps) in
    omega (arith, first, others, all)

pub row_each : (f : Form) → length (flow_of f).vars ≡ var_count f.procs
row_each f =
    let all = all_vars f.procs (started f.tops (length f.procs - 1)) in
    let same : length (flow_of f).vars ≡ length (laid_all f.procs (started f.tops (length f.procs - 1))).vars = refl in
    omega (arith, all, same)
