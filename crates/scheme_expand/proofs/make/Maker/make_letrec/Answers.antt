use Rattle.std.proofs.Common.{◌≡◌, [], ◌∷◌, ◌&&◌, not, false, true, length, refl, sym, ap, ap₂, ◌∙◌, arith}
use Rattle.std.specs.Prelude.{map}
use Rattle.std.proofs.Math.Bool.{and-false}
use Rattle.draft_form.specs.Drawn.{name_of}
use Rattle.scheme_expand.specs.Making.{from_level, taken}
use Rattle.scheme_expand.specs.Rewriting.{variables, level}
use Rattle.scheme_expand.specs.Views.{leave, scope_of}
use Rattle.scheme_expand.proofs.AddedDrafts.{both_ok, fix_added}
use Rattle.scheme_expand.proofs.MadeLetrecs.{bound_at, letrec_given, levels_same, many_variables, set_drawn}
use Rattle.scheme_expand.proofs.Stacks.{made_left, one_taken, redrawn, several_still, several_taken}
use Rattle.scheme_expand.proofs.make.Maker.make_letrec.Goals as goal
use Rattle.scheme_expand.proofs.make.Maker.make_letrec.Goals.{then-not-all_lambdas-via-then-not-all_lambdas, then-not-all_lambdas-via-else-not-all_lambdas+then-assigned}

pub returns-then-not-all_lambdas : goal.returns-then-not-all_lambdas
returns-then-not-all_lambdas c =
    both_ok c.letrec_by_set.result
    (λ id draws drawn k v w i e.
    let p = c.args.pos in
    let names = k.names in
    let nodes = k.source.nodes.now in
    let vs = c.in_ok-variables.variables.items in
    let many = length vs in
    let xs = from_level c.args.level v.bound in
    let scope = scope_of k (leave c.args.level v) in
    let params = c.in_ok-variables.ensures names v.bound i.words i.scope in
    let count : length c.in_ok-values.values ≡ many = omega (arith, c.in_ok-values.ensures.1, c.len.ensures, c.in_ok-variables.variables.ok.0) in
    let made = made_left k c.args.self.now _ v c.args.level i (c.leave.ensures names v.bound i.words i.scope) refl refl refl in
    let several = several_taken k _ c.take_all.new.self c.in_ok-values.values many (leave c.args.level v) made c.in_ok-values.ensures.0 count in
    let one = one_taken k c.take_all.new.self c.take.new.self c.in_ok-body.body _ several.made c.in_ok-body.ensures in
    let values = several_still k c.take_all.new.self c.take.new.self (c.in_ok-body.body ∷ []) c.in_ok-values.values _ c.in_ok-body.ensures several.drawn in
    let assigned = c.assigns_from-assigned.ensures names v.bound i.scope in
    let off : (c.args.all_lambdas && not c.assigns_from-assigned.result) ≡ false =
    elim c.then-not-all_lambdas.branch [ then-not-all_lambdas-via-then-not-all_lambdas w ↦ ap (λ b. b && not c.assigns_from-assigned.result) w.if-not-all_lambdas.true | then-not-all_lambdas-via-else-not-all_lambdas+then-assigned w ↦ ap (λ b. c.args.all_lambdas && not b) w.if-assigned.true ∙ and-false c.args.all_lambdas ] in
    letrec_given k c.take.new.self _ id c.in_ok-body.body many c.args.level p c.args.all_lambdas false v w one (many_variables names c.args.level vs xs params)
    draws (ap (λ b. c.args.all_lambdas && not b) (sym assigned) ∙ off)
    (λ d body.
    set_drawn names nodes c.letrec_by_set.new.self.drafts id c.args.level p scope xs (taken many v.made) d (bound_at k c.args.level v)
    (λ u at. drawn names nodes u xs (taken many v.made) d at params values body))
    e)
    c.letrec_by_set.ensures.kept c.letrec_by_set.ensures.drawn

pub returns : goal.returns
returns c =
    both_ok c.add.result
    (λ id kept added k v w i e.
    let p = c.args.pos in
    let names = k.names in
    let nodes = k.source.nodes.now in
    let vs = c.in_ok-variables.variables.items in
    let many = length vs in
    let xs = from_level c.args.level v.bound in
    let scope = scope_of k (leave c.args.level v) in
    let params = c.in_ok-variables.ensures names v.bound i.words i.scope in
    let count : length c.in_ok-values.values ≡ many = omega (arith, c.in_ok-values.ensures.1, c.len.ensures, c.in_ok-variables.variables.ok.0) in
    let made = made_left k c.args.self.now _ v c.args.level i (c.leave.ensures names v.bound i.words i.scope) refl refl refl in
    let several = several_taken k _ c.take_all.new.self c.in_ok-values.values many (leave c.args.level v) made c.in_ok-values.ensures.0 count in
    let one = one_taken k c.take_all.new.self c.take.new.self c.in_ok-body.body _ several.made c.in_ok-body.ensures in
    let values = several_still k c.take_all.new.self c.take.new.self (c.in_ok-body.body ∷ []) c.in_ok-values.values _ c.in_ok-body.ensures several.drawn in
    let assigned = c.assigns_from-assigned.ensures names v.bound i.scope in
    let on : (c.args.all_lambdas && not c.assigns_from-assigned.result) ≡ true = ap₂ (λ a b. a && not b) c.if-not-all_lambdas.false c.if-assigned.false in
    let named = levels_same scope c.args.level xs (bound_at k c.args.level v) ∙ (sym params ∙ ap (map (name_of names)) (sym c.from_vec.ensures)) in
    letrec_given k c.take.new.self _ id c.in_ok-body.body many c.args.level p c.args.all_lambdas true v w one (many_variables names c.args.level vs xs params)
    (redrawn c.take.new.self c.add.new.self kept) (ap (λ b. c.args.all_lambdas && not b) (sym assigned) ∙ on)
    (λ d body.
    fix_added names nodes c.take.new.self.drafts c.add.new.self c.from_vec.result c.in_ok-values.values c.in_ok-body.body p id
    (variables (level scope) xs) (taken many v.made) d added named values body)
    e)
    c.add.ensures.kept c.add.ensures.added
