use Rattle.std.proofs.Common.{rules}
use Rattle.std.proofs.lemmas.Result.{IfOk-weaker}
use Rattle.core_form.specs.declared.program.What.TheVariants as form
use Rattle.alpha_core.specs.RenamingSteps.{Makes}
use Rattle.alpha_core.proofs.Shapes.{node_of, const_tree, ref_tree, lambda_tree, if_tree, set_tree, call_tree, prim_tree, seq_tree, fix_tree, define_tree}
use Rattle.alpha_core.proofs.Making.{make_const, make_lambda, make_if, make_set, make_call, make_prim, make_seq, make_fix, make_define, list_goes, list_ends}
use Rattle.alpha_core.proofs.renamer.Renamer.+rename.Goals as goal

pub rename_expr-returns-in-Const : goal.rename_expr-returns-in-Const
rename_expr-returns-in-Const _ c =
    IfOk-weaker c.add.result _ _
    (λ id made e s.
    const_tree c.args.core.now.exprs c.args.expr c.in-Some.node.now.pos e (λ t. Makes c.args.self.now c.add.new.self t id) c.in-Const.lit
    (node_of c.args.core.now.exprs c.args.expr c.in-Some.node.now (form.Const c.in-Const.lit) c.in-Some.ensures.value c.in-Const.is)
    (make_const c.args.self.now c.add.new.self c.in-Some.node.now.pos c.in-Const.lit id made) s)
    c.add.ensures

pub rename_expr-returns-in-Ref : goal.rename_expr-returns-in-Ref
rename_expr-returns-in-Ref _ c =
    IfOk-weaker c.rename_ref.result _ _
    (λ id made e s.
    ref_tree c.args.core.now.exprs c.args.expr c.in-Some.node.now.pos e (λ t. Makes c.args.self.now c.rename_ref.new.self t id) c.in-Ref.var
    (node_of c.args.core.now.exprs c.args.expr c.in-Some.node.now (form.Ref c.in-Ref.var) c.in-Some.ensures.value c.in-Ref.is)
    made s)
    c.rename_ref.ensures

pub rename_expr-returns-in-Lambda : goal.rename_expr-returns-in-Lambda
rename_expr-returns-in-Lambda _ c =
    IfOk-weaker c.rename_lambda.result _ _
    (λ id made e s.
    lambda_tree c.args.core.now.exprs c.args.expr c.in-Some.node.now.pos e (λ t. Makes c.args.self.now c.rename_lambda.new.self t id) c.in-Lambda.params c.in-Lambda.rest c.in-Lambda.body
    (node_of c.args.core.now.exprs c.args.expr c.in-Some.node.now (form.Lambda c.in-Lambda.params c.in-Lambda.rest c.in-Lambda.body) c.in-Some.ensures.value c.in-Lambda.is)
    made s)
    c.rename_lambda.ensures

pub rename_expr-returns-in-If : goal.rename_expr-returns-in-If
rename_expr-returns-in-If _ c =
    IfOk-weaker c.rename_if.result _ _
    (λ id made e s.
    if_tree c.args.core.now.exprs c.args.expr c.in-Some.node.now.pos e (λ t. Makes c.args.self.now c.rename_if.new.self t id) c.in-If.test c.in-If.yes c.in-If.no
    (node_of c.args.core.now.exprs c.args.expr c.in-Some.node.now (form.If c.in-If.test c.in-If.yes c.in-If.no) c.in-Some.ensures.value c.in-If.is)
    made s)
    c.rename_if.ensures

pub rename_expr-returns-in-Set : goal.rename_expr-returns-in-Set
rename_expr-returns-in-Set _ c =
    IfOk-weaker c.rename_set.result _ _
    (λ id made e s.
    set_tree c.args.core.now.exprs c.args.expr c.in-Some.node.now.pos e (λ t. Makes c.args.self.now c.rename_set.new.self t id) c.in-Set.var c.in-Set.value
    (node_of c.args.core.now.exprs c.args.expr c.in-Some.node.now (form.Set c.in-Set.var c.in-Set.value) c.in-Some.ensures.value c.in-Set.is)
    made s)
    c.rename_set.ensures

pub rename_expr-returns-in-Call : goal.rename_expr-returns-in-Call
rename_expr-returns-in-Call _ c =
    IfOk-weaker c.rename_call.result _ _
    (λ id made e s.
    call_tree c.args.core.now.exprs c.args.expr c.in-Some.node.now.pos e (λ t. Makes c.args.self.now c.rename_call.new.self t id) c.in-Call.operator c.in-Call.operands
    (node_of c.args.core.now.exprs c.args.expr c.in-Some.node.now (form.Call c.in-Call.operator c.in-Call.operands) c.in-Some.ensures.value c.in-Call.is)
    made s)
    c.rename_call.ensures

pub rename_expr-returns-in-Prim : goal.rename_expr-returns-in-Prim
rename_expr-returns-in-Prim _ c =
    IfOk-weaker c.rename_prim.result _ _
    (λ id made e s.
    prim_tree c.args.core.now.exprs c.args.expr c.in-Some.node.now.pos e (λ t. Makes c.args.self.now c.rename_prim.new.self t id) c.in-Prim.op c.in-Prim.operands
    (node_of c.args.core.now.exprs c.args.expr c.in-Some.node.now (form.Prim c.in-Prim.op c.in-Prim.operands) c.in-Some.ensures.value c.in-Prim.is)
    made s)
    c.rename_prim.ensures

pub rename_expr-returns-in-Seq : goal.rename_expr-returns-in-Seq
rename_expr-returns-in-Seq _ c =
    IfOk-weaker c.rename_seq.result _ _
    (λ id made e s.
    seq_tree c.args.core.now.exprs c.args.expr c.in-Some.node.now.pos e (λ t. Makes c.args.self.now c.rename_seq.new.self t id) c.in-Seq.items
    (node_of c.args.core.now.exprs c.args.expr c.in-Some.node.now (form.Seq c.in-Seq.items) c.in-Some.ensures.value c.in-Seq.is)
    made s)
    c.rename_seq.ensures

pub rename_expr-returns-in-Fix : goal.rename_expr-returns-in-Fix
rename_expr-returns-in-Fix _ c =
    IfOk-weaker c.rename_fix.result _ _
    (λ id made e s.
    fix_tree c.args.core.now.exprs c.args.expr c.in-Some.node.now.pos e (λ t. Makes c.args.self.now c.rename_fix.new.self t id) c.in-Fix.vars c.in-Fix.lambdas c.in-Fix.body
    (node_of c.args.core.now.exprs c.args.expr c.in-Some.node.now (form.Fix c.in-Fix.vars c.in-Fix.lambdas c.in-Fix.body) c.in-Some.ensures.value c.in-Fix.is)
    made s)
    c.rename_fix.ensures

pub rename_expr-returns-in-Define : goal.rename_expr-returns-in-Define
rename_expr-returns-in-Define _ c =
    IfOk-weaker c.rename_define.result _ _
    (λ id made e s.
    define_tree c.args.core.now.exprs c.args.expr c.in-Some.node.now.pos e (λ t. Makes c.args.self.now c.rename_define.new.self t id) c.in-Define.var c.in-Define.value
    (node_of c.args.core.now.exprs c.args.expr c.in-Some.node.now (form.Define c.in-Define.var c.in-Define.value) c.in-Some.ensures.value c.in-Define.is)
    made s)
    c.rename_define.ensures

pub rename_lambda-returns : goal.rename_lambda-returns
rename_lambda-returns _ c =
    IfOk-weaker c.add.result _ _
    (λ id made e s.
    make_lambda c.args.self.now c.bind_all.new.self c.bind_rest.new.self c.rename_expr.new.self c.add.new.self c.leave.new.self
    c.len-outside.result c.args.pos c.args.params.now c.in_ok-params.params c.args.rest.now c.in_ok-rest.rest e c.in_ok-body.body id
    c.len-outside.ensures c.in_ok-params.ensures.vars c.in_ok-params.ensures.binds c.in_ok-rest.ensures.var
    c.in_ok-rest.ensures.binds (c.in_ok-body.ensures e s) c.in_ok-leave.ensures made)
    c.add.ensures

pub rename_if-returns : goal.rename_if-returns
rename_if-returns _ c =
    IfOk-weaker c.add.result _ _
    (λ id made x y z r s t.
    make_if c.args.self.now c.rename_expr.new.self c.rename_expr-2.new.self c.rename_expr-3.new.self c.add.new.self c.args.pos x y z
    c.in_ok-test.test c.in_ok-yes.yes c.in_ok-no.no id (c.in_ok-test.ensures x r) (c.in_ok-yes.ensures y s)
    (c.in_ok-no.ensures z t) made)
    c.add.ensures

pub rename_set-returns : goal.rename_set-returns
rename_set-returns _ c =
    IfOk-weaker c.add.result _ _
    (λ id made e s.
    make_set c.args.self.now c.rename_expr.new.self c.add.new.self c.args.pos c.args.var.now c.in_ok-var.var e c.in_ok-value.value id
    c.in_ok-var.ensures (c.in_ok-value.ensures e s) made)
    c.add.ensures

pub rename_call-returns : goal.rename_call-returns
rename_call-returns _ c =
    IfOk-weaker c.add.result _ _
    (λ id made f es s t.
    make_call c.args.self.now c.rename_expr.new.self c.rename_list.new.self c.add.new.self c.args.pos f es c.in_ok-operator.operator
    c.in_ok-operands.operands id (c.in_ok-operator.ensures f s) (c.in_ok-operands.ensures es t) made)
    c.add.ensures

pub rename_prim-returns : goal.rename_prim-returns
rename_prim-returns _ c =
    IfOk-weaker c.add.result _ _
    (λ id made es s.
    make_prim c.args.self.now c.rename_list.new.self c.add.new.self c.args.pos c.args.op es c.in_ok-operands.operands id
    (c.in_ok-operands.ensures es s) made)
    c.add.ensures

pub rename_seq-returns : goal.rename_seq-returns
rename_seq-returns _ c =
    IfOk-weaker c.add.result _ _
    (λ id made es s.
    make_seq c.args.self.now c.rename_list.new.self c.add.new.self c.args.pos es c.in_ok-items.items id
    (c.in_ok-items.ensures es s) made)
    c.add.ensures

pub rename_fix-returns : goal.rename_fix-returns
rename_fix-returns _ c =
    IfOk-weaker c.add.result _ _
    (λ id made ls e s t.
    make_fix c.args.self.now c.bind_all.new.self c.rename_list.new.self c.rename_expr.new.self c.add.new.self c.leave.new.self
    c.len-outside.result c.args.pos c.args.vars.now c.in_ok-vars.vars ls e c.in_ok-lambdas.lambdas c.in_ok-body.body id
    c.len-outside.ensures c.in_ok-vars.ensures.vars c.in_ok-vars.ensures.binds (c.in_ok-lambdas.ensures ls s)
    (c.in_ok-body.ensures e t) c.in_ok-leave.ensures made)
    c.add.ensures

pub rename_define-returns : goal.rename_define-returns
rename_define-returns _ c =
    IfOk-weaker c.add.result _ _
    (λ id made e s.
    make_define c.args.self.now c.rename_expr.new.self c.add.new.self c.args.pos c.args.var.now c.in_ok-copy_var.field-0 e
    c.in_ok-value.value id c.in_ok-copy_var.ensures (c.in_ok-value.ensures e s) made)
    c.add.ensures

pub rename_list-loop-expr-preserved : goal.rename_list-loop-expr-preserved
rename_list-loop-expr-preserved _ c =
    λ es s ρ shown.
    list_goes c.args.core.now.exprs ρ c.args.self.now c.loop-expr.self c.rename_expr.new.self es c.loop-expr.left.now
    c.in-Some.others.now c.loop-expr.renamed c.push.new.self c.in-Some.expr.now c.in_ok-rename_expr.field-0
    (c.loop-expr.invariant es s ρ shown) (search rules) c.in_ok-rename_expr.ensures c.in_ok-push.ensures.ok

pub rename_list-returns : goal.rename_list-returns
rename_list-returns _ c =
    λ es s ρ shown.
    list_ends c.args.core.now.exprs ρ c.args.self.now c.loop-expr.self es c.loop-expr.left.now c.loop-expr.renamed
    (c.loop-expr.invariant es s ρ shown) c.in_default.ensures.cases
