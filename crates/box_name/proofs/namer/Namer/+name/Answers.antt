use Rattle.std.proofs.Common.{◌≡◌, ℕ, ◌+◌, suc, arith, ◌∙◌, Some, None, refl, sym, ap, subst, rules, length}
use Rattle.std.proofs.lemmas.List.{nil_from_length}
use Rattle.std.proofs.lemmas.Result.{IfOk-weaker}
use Rattle.core_form.specs.declared.program.What.TheVariants as form
use Rattle.alpha_core.proofs.Shapes.{node_of, const_tree, ref_tree, lambda_tree, if_tree, set_tree, call_tree, prim_tree, seq_tree, fix_tree, define_tree}
use Rattle.box_name.specs.Counts.{all_procs_in, procs_in}
use Rattle.core_form.specs.Trees.{Stands}
use Rattle.core_form.specs.Trees as tree
use Rattle.named_form.specs.declared.program.Block.{Block, Block-F, out-Block, out-roll-Block, roll-Block}
use Rattle.named_form.specs.declared.program.Act.{Act as ActType}
use Rattle.named_form.specs.declared.program.Step.{Step}
use Rattle.named_form.specs.Code as act
use Rattle.box_name.specs.NamingSteps.{Binds, BindsParams, Does, MakesArm, PutsOne, with_proc}
use Rattle.box_name.proofs.Acts.{binds_as, call_is, const_is, if_is}
use Rattle.box_name.specs.Told.{told, all_told, told_operands, numbers}
use Rattle.box_name.proofs.Emitting.{emit_const, emit_prim, emit_seq, emit_fix, emit_if, emit_call, emit_direct, make_arm}
use Rattle.box_name.proofs.Listing.{Going, Paying, going_begins, going_on, going_ends, paying_begins, paying_on, paying_ends}
use Rattle.box_name.proofs.Telling.{direct_told, call_told, operand_hole, operand_value}
use Rattle.box_name.proofs.namer.Namer.+name.Goals as goal

pub name_expr-returns-in-Const : goal.name_expr-returns-in-Const
name_expr-returns-in-Const _ c =
    IfOk-weaker c.bind.result _ _
    (λ v bound e st.
    const_tree c.args.stand.core.now.exprs c.args.expr c.in-Some.node.now.pos e
    (λ t. Does c.args.stand c.args.self.now c.bind.new.self c.args.steps.now.items c.bind.new.steps.items (told c.args.stand.core.now.lits t) v) c.in-Const.lit
    (node_of c.args.stand.core.now.exprs c.args.expr c.in-Some.node.now (form.Const c.in-Const.lit) c.in-Some.ensures.value c.in-Const.is)
    (λ s fits n p. emit_const s n p c.args.self.now c.bind.new.self c.args.steps.now.items c.bind.new.steps.items c.in-Some.node.now.pos v c.in-Const.lit
    (binds_as _ _ _ _ _ _ (act.Const c.in-Const.lit) _ (const_is c.in-Const.lit) bound)) st)
    c.bind.ensures

pub name_expr-returns-in-Ref : goal.name_expr-returns-in-Ref
name_expr-returns-in-Ref _ c =
    IfOk-weaker c.name_ref.result _ _
    (λ v does e st.
    ref_tree c.args.stand.core.now.exprs c.args.expr c.in-Some.node.now.pos e
    (λ t. Does c.args.stand c.args.self.now c.name_ref.new.self c.args.steps.now.items c.name_ref.new.steps.items (told c.args.stand.core.now.lits t) v) c.in-Ref.var
    (node_of c.args.stand.core.now.exprs c.args.expr c.in-Some.node.now (form.Ref c.in-Ref.var) c.in-Some.ensures.value c.in-Ref.is)
    does st)
    c.name_ref.ensures

pub name_expr-returns-in-Lambda : goal.name_expr-returns-in-Lambda
name_expr-returns-in-Lambda _ c =
    let node = node_of c.args.stand.core.now.exprs c.args.expr c.in-Some.node.now (form.Lambda c.in-Lambda.params c.in-Lambda.rest c.in-Lambda.body) c.in-Some.ensures.value c.in-Lambda.is in
    IfOk-weaker c.name_lambda.result _ _
    (λ v does e st.
    lambda_tree c.args.stand.core.now.exprs c.args.expr c.in-Some.node.now.pos e
    (λ t. Does c.args.stand c.args.self.now c.name_lambda.new.self c.args.steps.now.items c.name_lambda.new.steps.items (told c.args.stand.core.now.lits t) v) c.in-Lambda.params c.in-Lambda.rest c.in-Lambda.body
    node
    (λ b sb. does (tree.Lambda c.in-Some.node.now.pos c.in-Lambda.params c.in-Lambda.rest b) (c.in-Lambda.body, node, sb) refl) st)
    c.name_lambda.ensures

pub name_expr-returns-in-If : goal.name_expr-returns-in-If
name_expr-returns-in-If _ c =
    IfOk-weaker c.name_if.result _ _
    (λ v does e st.
    if_tree c.args.stand.core.now.exprs c.args.expr c.in-Some.node.now.pos e
    (λ t. Does c.args.stand c.args.self.now c.name_if.new.self c.args.steps.now.items c.name_if.new.steps.items (told c.args.stand.core.now.lits t) v) c.in-If.test c.in-If.yes c.in-If.no
    (node_of c.args.stand.core.now.exprs c.args.expr c.in-Some.node.now (form.If c.in-If.test c.in-If.yes c.in-If.no) c.in-Some.ensures.value c.in-If.is)
    does st)
    c.name_if.ensures

pub name_expr-returns-in_ok-from-in-Set : goal.name_expr-returns-in_ok-from-in-Set
name_expr-returns-in_ok-from-in-Set _ c =
    IfOk-weaker c.name_set.result _ _
    (λ v last e st.
    set_tree c.args.stand.core.now.exprs c.args.expr c.in-Some.node.now.pos e
    (λ t. Does c.args.stand c.args.self.now c.name_set.new.self c.args.steps.now.items c.name_set.new.steps.items (told c.args.stand.core.now.lits t) v) c.in-Set.var c.in-Set.value
    (node_of c.args.stand.core.now.exprs c.args.expr c.in-Some.node.now (form.Set c.in-Set.var c.in-Set.value) c.in-Some.ensures.value c.in-Set.is)
    (λ b sb s fits n p. last s fits n p c.args.self.now c.args.steps.now.items (told c.args.stand.core.now.lits b) (c.in_ok-from-in-Set.ensures b sb s fits n p)) st)
    c.name_set.ensures

pub name_expr-returns-in-Call : goal.name_expr-returns-in-Call
name_expr-returns-in-Call _ c =
    IfOk-weaker c.name_call.result _ _
    (λ v does e st.
    call_tree c.args.stand.core.now.exprs c.args.expr c.in-Some.node.now.pos e
    (λ t. Does c.args.stand c.args.self.now c.name_call.new.self c.args.steps.now.items c.name_call.new.steps.items (told c.args.stand.core.now.lits t) v) c.in-Call.operator c.in-Call.operands
    (node_of c.args.stand.core.now.exprs c.args.expr c.in-Some.node.now (form.Call c.in-Call.operator c.in-Call.operands) c.in-Some.ensures.value c.in-Call.is)
    does st)
    c.name_call.ensures

pub name_expr-returns-in_ok-operands-in-Prim : goal.name_expr-returns-in_ok-operands-in-Prim
name_expr-returns-in_ok-operands-in-Prim _ c =
    IfOk-weaker c.bind-in-Prim.result _ _
    (λ v bound e st.
    prim_tree c.args.stand.core.now.exprs c.args.expr c.in-Some.node.now.pos e
    (λ t. Does c.args.stand c.args.self.now c.bind-in-Prim.new.self c.args.steps.now.items c.bind-in-Prim.new.steps.items (told c.args.stand.core.now.lits t) v) c.in-Prim.op c.in-Prim.operands
    (node_of c.args.stand.core.now.exprs c.args.expr c.in-Some.node.now (form.Prim c.in-Prim.op c.in-Prim.operands) c.in-Some.ensures.value c.in-Prim.is)
    (λ es ses s fits n p.
    emit_prim s n p c.args.self.now c.name_list.new.self c.bind-in-Prim.new.self c.args.steps.now.items c.name_list.new.steps.items c.bind-in-Prim.new.steps.items c.in-Some.node.now.pos (all_told c.args.stand.core.now.lits es) v
    c.in_ok-operands-in-Prim.operands c.in-Prim.op (c.in_ok-operands-in-Prim.ensures es ses s fits n p)
    (subst (λ t. Binds c.name_list.new.self c.bind-in-Prim.new.self c.name_list.new.steps.items c.bind-in-Prim.new.steps.items c.in-Some.node.now.pos t v) c.operation.ensures bound)) st)
    c.bind-in-Prim.ensures

pub name_expr-returns-in_ok-values-in-Seq : goal.name_expr-returns-in_ok-values-in-Seq
name_expr-returns-in_ok-values-in-Seq _ c =
    λ e st.
    seq_tree c.args.stand.core.now.exprs c.args.expr c.in-Some.node.now.pos e
    (λ t. Does c.args.stand c.args.self.now c.name_list-in-Seq.new.self c.args.steps.now.items c.name_list-in-Seq.new.steps.items (told c.args.stand.core.now.lits t) c.last_of.result) c.in-Seq.items
    (node_of c.args.stand.core.now.exprs c.args.expr c.in-Some.node.now (form.Seq c.in-Seq.items) c.in-Some.ensures.value c.in-Seq.is)
    (λ es ses s fits n p.
    emit_seq s n p c.args.self.now c.name_list-in-Seq.new.self c.args.steps.now.items c.name_list-in-Seq.new.steps.items c.in-Some.node.now.pos (all_told c.args.stand.core.now.lits es) c.last_of.result
    c.in_ok-values-in-Seq.values (c.in_ok-values-in-Seq.ensures es ses s fits n p) c.last_of.ensures) st

pub name_expr-returns-in_ok-name_fix-in-Fix : goal.name_expr-returns-in_ok-name_fix-in-Fix
name_expr-returns-in_ok-name_fix-in-Fix _ c =
    IfOk-weaker c.name_expr-in-Fix.result _ _
    (λ v does e st.
    fix_tree c.args.stand.core.now.exprs c.args.expr c.in-Some.node.now.pos e
    (λ t. Does c.args.stand c.args.self.now c.name_expr-in-Fix.new.self c.args.steps.now.items c.name_expr-in-Fix.new.steps.items (told c.args.stand.core.now.lits t) v) c.in-Fix.vars c.in-Fix.lambdas c.in-Fix.body
    (node_of c.args.stand.core.now.exprs c.args.expr c.in-Some.node.now (form.Fix c.in-Fix.vars c.in-Fix.lambdas c.in-Fix.body) c.in-Some.ensures.value c.in-Fix.is)
    (λ ls b sls sb s fits n p h k.
    emit_fix s n p c.args.self.now c.name_fix.new.self c.name_expr-in-Fix.new.self c.args.steps.now.items c.name_fix.new.steps.items c.name_expr-in-Fix.new.steps.items c.in-Some.node.now.pos
    (numbers c.in-Fix.vars) (all_told c.args.stand.core.now.lits ls) (told c.args.stand.core.now.lits b) v (c.in_ok-name_fix-in-Fix.ensures ls sls s fits n p h k)
    (does b sb s fits (n + length (numbers c.in-Fix.vars)) (p + all_procs_in (all_told c.args.stand.core.now.lits ls)))) st)
    c.name_expr-in-Fix.ensures

pub name_expr-returns-in_ok-from-in-Define : goal.name_expr-returns-in_ok-from-in-Define
name_expr-returns-in_ok-from-in-Define _ c =
    IfOk-weaker c.name_define.result _ _
    (λ v last e st.
    define_tree c.args.stand.core.now.exprs c.args.expr c.in-Some.node.now.pos e
    (λ t. Does c.args.stand c.args.self.now c.name_define.new.self c.args.steps.now.items c.name_define.new.steps.items (told c.args.stand.core.now.lits t) v) c.in-Define.var c.in-Define.value
    (node_of c.args.stand.core.now.exprs c.args.expr c.in-Some.node.now (form.Define c.in-Define.var c.in-Define.value) c.in-Some.ensures.value c.in-Define.is)
    (λ b sb s fits n p. last s fits n p c.args.self.now c.args.steps.now.items (told c.args.stand.core.now.lits b) (c.in_ok-from-in-Define.ensures b sb s fits n p)) st)
    c.name_define.ensures

pub name_if-returns : goal.name_if-returns
name_if-returns _ c =
    IfOk-weaker c.put.result _ _
    (λ v put x y z sx sy sz s fits n p.
    emit_if s n p c.args.self.now c.name_expr.new.self c.fresh.new.self c.name_arm.new.self c.name_arm-2.new.self c.put.new.self c.args.steps.now.items
    c.name_expr.new.steps.items c.put.new.steps.items c.args.pos (told c.args.stand.core.now.lits x) (told c.args.stand.core.now.lits y) (told c.args.stand.core.now.lits z) v c.in_ok-test.test c.in_ok-var.var
    c.in_ok-yes.yes c.in_ok-no.no (c.in_ok-test.ensures x sx s fits n p) c.in_ok-var.ensures (c.in_ok-yes.ensures y sy s fits)
    (c.in_ok-no.ensures z sz s fits)
    (subst (λ t. PutsOne c.name_arm-2.new.self c.put.new.self c.name_expr.new.steps.items c.put.new.steps.items c.args.pos c.in_ok-var.var t v)
    (if_is c.in_ok-test.test c.in_ok-yes.yes c.in_ok-no.no) put))
    c.put.ensures

pub name_arm-returns : goal.name_arm-returns
name_arm-returns _ c =
    λ e st s fits n p h k.
    let made : (block : Block) → (out-Block block).steps ≡ c.name_expr.new.steps.items → (out-Block block).value ≡ Some c.in_ok-value.value
    → MakesArm s n p c.args.self.now c.name_expr.new.self (told c.args.stand.core.now.lits e) block =
    λ block same is.
    make_arm s n p c.args.self.now c.name_expr.new.self (told c.args.stand.core.now.lits e) block _ c.name_expr.new.steps.items c.in_ok-value.value
    c.new-steps.ensures.items same is (c.in_ok-value.ensures e st s fits n p h k) in
    let layer : Block-F ActType Block Step = record { steps = c.from_vec.result; value = Some c.in_ok-value.value } in
    made (roll-Block layer) (ap (λ l. l.steps) (out-roll-Block layer) ∙ c.from_vec.ensures) (ap (λ l. l.value) (out-roll-Block layer))

pub name_call-returns-in-Some : goal.name_call-returns-in-Some
name_call-returns-in-Some _ c =
    IfOk-weaker c.name_direct.result _ _
    (λ v does f es sf ses.
    direct_told c.args.stand.core.now.lits c.args.stand.core.now.exprs c.args.pos c.in-Some.lambda.params.now c.in-Some.lambda.body c.len.result c.args.operands.now f es
    (λ t. Does c.args.stand c.args.self.now c.name_direct.new.self c.args.steps.now.items c.name_direct.new.steps.items t v) (c.in-Some.ensures.some f sf) ses c.len.ensures
    (λ q b is sb. does q b es (subst (λ t. Stands c.args.stand.core.now.exprs c.args.operator t) is sf) sb ses))
    c.name_direct.ensures

pub name_call-returns-in_ok-operands-in-None : goal.name_call-returns-in_ok-operands-in-None
name_call-returns-in_ok-operands-in-None _ c =
    IfOk-weaker c.bind.result _ _
    (λ v bound f es sf ses.
    call_told c.args.stand.core.now.lits c.args.stand.core.now.exprs c.args.pos c.len.result c.args.operands.now f es
    (λ t. Does c.args.stand c.args.self.now c.bind.new.self c.args.steps.now.items c.bind.new.steps.items t v) (c.in-None.ensures.none f sf) ses c.len.ensures
    (λ s fits n p.
    emit_call s n p c.args.self.now c.name_expr.new.self c.name_list.new.self c.bind.new.self c.args.steps.now.items c.name_expr.new.steps.items
    c.name_list.new.steps.items c.bind.new.steps.items c.args.pos (told c.args.stand.core.now.lits f) (all_told c.args.stand.core.now.lits es) v c.in_ok-operator-in-None.operator
    c.in_ok-operands-in-None.operands (c.in_ok-operator-in-None.ensures f sf s fits n p) (c.in_ok-operands-in-None.ensures es ses s fits)
    (binds_as _ _ _ _ _ _ (act.Call c.in_ok-operator-in-None.operator c.in_ok-operands-in-None.operands) _ (call_is c.in_ok-operator-in-None.operator c.in_ok-operands-in-None.operands) bound)))
    c.bind.ensures

pub name_list-loop-expr-init : goal.name_list-loop-expr-init
name_list-loop-expr-init _ c =
    λ es ses s fits n p h k.
    going_begins c.args.stand.core.now.exprs c.args.stand.core.now.lits s n p c.args.self.now c.args.self.now c.args.steps.now.items
    c.args.steps.now.items es c.args.exprs.now _ _ ses (search rules) c.new-values.ensures h k

pub name_list-loop-expr-preserved : goal.name_list-loop-expr-preserved
name_list-loop-expr-preserved _ c =
    λ es ses s fits n p h k.
    going_on c.args.stand.core.now.exprs c.args.stand.core.now.lits s n p c.args.self.now c.loop-expr.self c.args.steps.now.items c.loop-expr.steps.items es c.name_expr.new.self c.name_expr.new.steps.items
    c.in-Some.expr.now c.in_ok-name_expr.field-0 c.loop-expr.left.now c.in-Some.others.now c.loop-expr.values c.push.new.self
    (c.loop-expr.invariant es ses s fits n p h k) (search rules) (λ e st. c.in_ok-name_expr.ensures e st s fits) (search rules)

pub name_list-returns : goal.name_list-returns
name_list-returns _ c =
    λ es ses s fits n p h k.
    going_ends c.args.stand.core.now.exprs c.args.stand.core.now.lits s n p c.args.self.now c.loop-expr.self c.args.steps.now.items c.loop-expr.steps.items es c.loop-expr.left.now c.loop-expr.values
    (c.loop-expr.invariant es ses s fits n p h k) (nil_from_length _ c.in_default.ensures.cases)

pub name_values-loop-operand-init : goal.name_values-loop-operand-init
name_values-loop-operand-init _ c =
    λ es ses s fits n p h k.
    paying_begins c.args.stand.core.now.exprs c.args.stand.core.now.lits s n p c.args.self.now c.args.self.now c.args.steps.now.items
    c.args.steps.now.items es c.args.operands.now _ _ ses (search rules) c.new-values.ensures.items h k

pub name_values-loop-operand-preserved : goal.name_values-loop-operand-preserved
name_values-loop-operand-preserved _ c =
    λ es ses s fits n p h k.
    paying_on c.args.stand.core.now.exprs c.args.stand.core.now.lits s n p c.args.self.now c.loop-operand.self c.args.steps.now.items c.loop-operand.steps.items es c.name_value.new.self c.name_value.new.steps.items
    c.in-Some.operand.now c.in_ok-name_value.field-0 c.loop-operand.left.now c.in-Some.others.now c.loop-operand.values.items
    c.push.new.self.items (c.loop-operand.invariant es ses s fits n p h k) (search rules)
    (λ e st. c.in_ok-name_value.ensures e st s fits) (search rules)

pub name_values-returns : goal.name_values-returns
name_values-returns _ c =
    λ es ses s fits n p h k.
    paying_ends c.args.stand.core.now.exprs c.args.stand.core.now.lits s n p c.args.self.now c.loop-operand.self c.args.steps.now.items c.loop-operand.steps.items es c.loop-operand.left.now c.loop-operand.values.items
    (c.loop-operand.invariant es ses s fits n p h k) (nil_from_length _ c.in_default.ensures.cases)

pub name_value-returns-then-is_hole : goal.name_value-returns-then-is_hole
name_value-returns-then-is_hole _ c =
    λ e st s fits n p. operand_hole s n p c.args.self.now c.args.steps.now.items c.args.stand.core.now.lits e (sym (c.is_hole.ensures e st) ∙ c.if-is_hole.true)

pub name_value-returns-in_ok-name_expr : goal.name_value-returns-in_ok-name_expr
name_value-returns-in_ok-name_expr _ c =
    λ e st s fits n p.
    operand_value s n p c.args.self.now c.name_expr.new.self c.args.steps.now.items c.name_expr.new.steps.items c.args.stand.core.now.lits e c.in_ok-name_expr.field-0 (sym (c.is_hole.ensures e st) ∙ c.if-is_hole.false)
    (c.in_ok-name_expr.ensures e st s fits n p)

pub name_direct-returns : goal.name_direct-returns
name_direct-returns _ c =
    λ q b es sf sb ses s fits n p.
    let counted : procs_in (told c.args.stand.core.now.lits (tree.Lambda q c.args.lambda.params.now None b)) ≡ suc c.in_ok-inside.inside =
    c.in_ok-inside.ensures s fits (tree.Lambda q c.args.lambda.params.now None b) sf in
    let moved : c.in-Some.next ≡ c.args.self.now.next_proc + procs_in (told c.args.stand.core.now.lits b) = omega (arith, counted) in
    emit_direct s n p c.args.self.now _ c.name_values.new.self c.bind_params.new.self _ c.name_expr.new.self _ c.args.steps.now.items
    c.name_values.new.steps.items c.bind_params.new.steps.items c.name_expr.new.steps.items c.args.pos (numbers c.args.lambda.params.now)
    (told c.args.stand.core.now.lits b) (told_operands c.args.stand.core.now.lits es) c.in_ok-value.value c.in_ok-values.values.items
    (ap (λ u. with_proc c.args.self.now u) moved) (c.in_ok-values.ensures es ses s fits)
    (subst (λ vs. (m r : ℕ) → BindsParams s m r c.name_values.new.self c.bind_params.new.self c.name_values.new.steps.items c.bind_params.new.steps.items c.args.pos (numbers c.args.lambda.params.now) vs)
    c.as_slice.ensures.value (c.in_ok-bind_params.ensures s fits))
    refl (c.in_ok-value.ensures b sb s fits) refl
