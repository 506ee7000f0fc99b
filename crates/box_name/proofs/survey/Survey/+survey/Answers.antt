use Rattle.std.proofs.Common.{◌≡◌, ◌+◌, None, refl, sym, ap, subst, rules, length}
use Rattle.std.proofs.lemmas.List.{nil_from_length}
use Rattle.std.proofs.lemmas.Result.{on_ok_weaker}
use Rattle.core_form.specs.declared.program.What.TheVariants as form
use Rattle.core_form.specs.Trees.{Stands}
use Rattle.core_form.specs.Trees as tree
use Rattle.alpha_core.proofs.Shapes.{node_of, const_tree, ref_tree, lambda_tree, if_tree, set_tree, call_tree, prim_tree, seq_tree, fix_tree, define_tree}
use Rattle.box_name.specs.Counts.{procs_in}
use Rattle.box_name.specs.Finding.{FindsIn, FindsInAll}
use Rattle.box_name.specs.Told.{told, all_told, told_operands, numbers, option_number, top_name}
use Rattle.box_name.proofs.Finding.{finds_none, finds_then, finds_if, finds_call, finds_fix, finds_item, finds_direct, finds_operands, finds_ref, finds_set, finds_define, finds_lambda, finds_body, found_many, left_begins, left_on, left_ends}
use Rattle.box_name.proofs.Telling.{direct_told, call_told}
use Rattle.box_name.proofs.survey.Survey.+survey.Goals as goal

pub survey_expr-returns-in-Const : goal.survey_expr-returns-in-Const
survey_expr-returns-in-Const _ c =
    λ e st.
    const_tree c.args.core.now.exprs c.args.expr c.in-Some.node.now.pos e (λ t. FindsIn c.args.core.now c.args.form c.args.self.now c.args.self.now (told c.args.core.now.lits t)) c.in-Const.field-0
    (node_of c.args.core.now.exprs c.args.expr c.in-Some.node.now (form.Const c.in-Const.field-0) c.in-Some.ensures.value c.in-Const.is)
    (finds_none c.args.core.now c.args.form c.args.self.now) st

pub survey_expr-returns-in-Ref : goal.survey_expr-returns-in-Ref
survey_expr-returns-in-Ref _ c =
    on_ok_weaker c.note_top.result
    (λ found e st.
    ref_tree c.args.core.now.exprs c.args.expr c.in-Some.node.now.pos e (λ t. FindsIn c.args.core.now c.args.form c.args.self.now c.note_top.new.self (told c.args.core.now.lits t)) c.in-Ref.var
    (node_of c.args.core.now.exprs c.args.expr c.in-Some.node.now (form.Ref c.in-Ref.var) c.in-Some.ensures.value c.in-Ref.is)
    (finds_ref c.args.core.now c.args.form c.args.self.now c.note_top.new.self c.in-Some.node.now.pos c.in-Ref.var (found c.args.core.now c.args.form)) st)
    c.note_top.ensures

pub survey_expr-returns-in_ok-push-in-Lambda : goal.survey_expr-returns-in_ok-push-in-Lambda
survey_expr-returns-in_ok-push-in-Lambda _ c =
    let node = node_of c.args.core.now.exprs c.args.expr c.in-Some.node.now (form.Lambda c.in-Lambda.params c.in-Lambda.rest c.in-Lambda.body) c.in-Some.ensures.value c.in-Lambda.is in
    on_ok_weaker c.survey_body.result
    (λ found e st.
    lambda_tree c.args.core.now.exprs c.args.expr c.in-Some.node.now.pos e (λ t. FindsIn c.args.core.now c.args.form c.args.self.now c.survey_body.new.self (told c.args.core.now.lits t)) c.in-Lambda.params c.in-Lambda.rest c.in-Lambda.body
    node
    (λ b sb.
    finds_lambda c.args.core.now c.args.form c.args.self.now _ c.survey_body.new.self (record { expr = c.args.expr; form = c.args.form })
    (tree.Lambda c.in-Some.node.now.pos c.in-Lambda.params c.in-Lambda.rest b) c.in-Some.node.now.pos (numbers c.in-Lambda.params) (option_number c.in-Lambda.rest)
    (told c.args.core.now.lits b) c.in_ok-push-in-Lambda.ensures.items refl refl refl refl refl (c.in-Lambda.body, node, sb) refl
    (found c.in-Some.node.now.pos c.in-Lambda.params c.in-Lambda.rest b (c.in-Lambda.body, node, sb) sb)) st)
    c.survey_body.ensures

pub survey_expr-returns-in_ok-survey_expr-in-If-2 : goal.survey_expr-returns-in_ok-survey_expr-in-If-2
survey_expr-returns-in_ok-survey_expr-in-If-2 _ c =
    on_ok_weaker c.survey_expr-in-If-2.result
    (λ found e st.
    if_tree c.args.core.now.exprs c.args.expr c.in-Some.node.now.pos e (λ t. FindsIn c.args.core.now c.args.form c.args.self.now c.survey_expr-in-If-2.new.self (told c.args.core.now.lits t)) c.in-If.test c.in-If.yes c.in-If.no
    (node_of c.args.core.now.exprs c.args.expr c.in-Some.node.now (form.If c.in-If.test c.in-If.yes c.in-If.no) c.in-Some.ensures.value c.in-If.is)
    (λ x y z sx sy sz.
    finds_if c.args.core.now c.args.form c.args.self.now c.survey_expr.new.self c.survey_expr-in-If.new.self c.survey_expr-in-If-2.new.self c.in-Some.node.now.pos (told c.args.core.now.lits x)
    (told c.args.core.now.lits y) (told c.args.core.now.lits z) (c.in_ok-survey_expr-in-If.ensures x sx) (c.in_ok-survey_expr-in-If-2.ensures y sy) (found z sz)) st)
    c.survey_expr-in-If-2.ensures

pub survey_expr-returns-in_ok-note_assigned-in-Set : goal.survey_expr-returns-in_ok-note_assigned-in-Set
survey_expr-returns-in_ok-note_assigned-in-Set _ c =
    on_ok_weaker c.survey_expr-in-Set.result
    (λ found e st.
    set_tree c.args.core.now.exprs c.args.expr c.in-Some.node.now.pos e (λ t. FindsIn c.args.core.now c.args.form c.args.self.now c.survey_expr-in-Set.new.self (told c.args.core.now.lits t)) c.in-Set.var c.in-Set.value
    (node_of c.args.core.now.exprs c.args.expr c.in-Some.node.now (form.Set c.in-Set.var c.in-Set.value) c.in-Some.ensures.value c.in-Set.is)
    (λ b sb.
    finds_set c.args.core.now c.args.form c.args.self.now c.note_assigned.new.self c.survey_expr-in-Set.new.self c.in-Some.node.now.pos c.in-Set.var (told c.args.core.now.lits b)
    (c.in_ok-note_assigned-in-Set.ensures c.args.core.now c.args.form) (found b sb)) st)
    c.survey_expr-in-Set.ensures

pub survey_expr-returns-in-Call : goal.survey_expr-returns-in-Call
survey_expr-returns-in-Call _ c =
    on_ok_weaker c.survey_call.result
    (λ found e st.
    call_tree c.args.core.now.exprs c.args.expr c.in-Some.node.now.pos e (λ t. FindsIn c.args.core.now c.args.form c.args.self.now c.survey_call.new.self (told c.args.core.now.lits t)) c.in-Call.operator c.in-Call.operands
    (node_of c.args.core.now.exprs c.args.expr c.in-Some.node.now (form.Call c.in-Call.operator c.in-Call.operands) c.in-Some.ensures.value c.in-Call.is)
    (found c.in-Some.node.now.pos) st)
    c.survey_call.ensures

pub survey_expr-returns-in-Prim : goal.survey_expr-returns-in-Prim
survey_expr-returns-in-Prim _ c =
    on_ok_weaker c.survey_list.result
    (λ found e st.
    prim_tree c.args.core.now.exprs c.args.expr c.in-Some.node.now.pos e (λ t. FindsIn c.args.core.now c.args.form c.args.self.now c.survey_list.new.self (told c.args.core.now.lits t)) c.in-Prim.op c.in-Prim.operands
    (node_of c.args.core.now.exprs c.args.expr c.in-Some.node.now (form.Prim c.in-Prim.op c.in-Prim.operands) c.in-Some.ensures.value c.in-Prim.is)
    found st)
    c.survey_list.ensures

pub survey_expr-returns-in-Seq : goal.survey_expr-returns-in-Seq
survey_expr-returns-in-Seq _ c =
    on_ok_weaker c.survey_list-in-Seq.result
    (λ found e st.
    seq_tree c.args.core.now.exprs c.args.expr c.in-Some.node.now.pos e (λ t. FindsIn c.args.core.now c.args.form c.args.self.now c.survey_list-in-Seq.new.self (told c.args.core.now.lits t)) c.in-Seq.items
    (node_of c.args.core.now.exprs c.args.expr c.in-Some.node.now (form.Seq c.in-Seq.items) c.in-Some.ensures.value c.in-Seq.is)
    found st)
    c.survey_list-in-Seq.ensures

pub survey_expr-returns-in_ok-survey_list-in-Fix : goal.survey_expr-returns-in_ok-survey_list-in-Fix
survey_expr-returns-in_ok-survey_list-in-Fix _ c =
    on_ok_weaker c.survey_expr-in-Fix.result
    (λ found e st.
    fix_tree c.args.core.now.exprs c.args.expr c.in-Some.node.now.pos e (λ t. FindsIn c.args.core.now c.args.form c.args.self.now c.survey_expr-in-Fix.new.self (told c.args.core.now.lits t)) c.in-Fix.vars c.in-Fix.lambdas c.in-Fix.body
    (node_of c.args.core.now.exprs c.args.expr c.in-Some.node.now (form.Fix c.in-Fix.vars c.in-Fix.lambdas c.in-Fix.body) c.in-Some.ensures.value c.in-Fix.is)
    (λ ls b sls sb.
    finds_fix c.args.core.now c.args.form c.args.self.now c.survey_list-in-Fix.new.self c.survey_expr-in-Fix.new.self c.in-Some.node.now.pos (numbers c.in-Fix.vars) (all_told c.args.core.now.lits ls)
    (told c.args.core.now.lits b) (c.in_ok-survey_list-in-Fix.ensures ls sls) (found b sb)) st)
    c.survey_expr-in-Fix.ensures

pub survey_expr-returns-in_ok-note_defined-in-Define : goal.survey_expr-returns-in_ok-note_defined-in-Define
survey_expr-returns-in_ok-note_defined-in-Define _ c =
    on_ok_weaker c.survey_expr-in-Define.result
    (λ found e st.
    define_tree c.args.core.now.exprs c.args.expr c.in-Some.node.now.pos e (λ t. FindsIn c.args.core.now c.args.form c.args.self.now c.survey_expr-in-Define.new.self (told c.args.core.now.lits t)) c.in-Define.var c.in-Define.value
    (node_of c.args.core.now.exprs c.args.expr c.in-Some.node.now (form.Define c.in-Define.var c.in-Define.value) c.in-Some.ensures.value c.in-Define.is)
    (λ b sb.
    finds_define c.args.core.now c.args.form c.args.self.now c.note_defined.new.self c.survey_expr-in-Define.new.self c.in-Some.node.now.pos (top_name c.in-Define.var) (told c.args.core.now.lits b)
    (c.in_ok-note_defined-in-Define.ensures c.args.core.now c.args.form) (found b sb)) st)
    c.survey_expr-in-Define.ensures

pub survey_body-returns : goal.survey_body-returns
survey_body-returns _ c =
    λ q xs r b sl sb.
    let found : length c.survey_expr.new.self.procs.items ≡ length c.args.self.now.procs.items + procs_in (told c.args.core.now.lits b) =
    found_many c.args.core.now c.args.form c.args.self.now c.survey_expr.new.self (told c.args.core.now.lits b) (c.in_ok-survey_expr.ensures b sb) in
    let many : c.in-Ok.inside ≡ procs_in (told c.args.core.now.lits b) = search (rules, found) in
    finds_body c.args.core.now c.args.form c.args.self.now c.survey_expr.new.self _ c.args.lambda c.in-Ok.inside q xs r b (c.in_ok-survey_expr.ensures b sb) refl refl refl
    refl c.in_ok-insert.ensures.updates.0 many sl

pub survey_call-returns-in-Some : goal.survey_call-returns-in-Some
survey_call-returns-in-Some _ c =
    on_ok_weaker c.survey_direct.result
    (λ found p f es sf ses.
    direct_told c.args.core.now.lits c.args.core.now.exprs p c.in-Some.lambda.params.now c.in-Some.lambda.body c.len.result c.args.operands.now f es
    (λ t. FindsIn c.args.core.now c.args.form c.args.self.now c.survey_direct.new.self t) (c.in-Some.ensures.some f sf) ses c.len.ensures
    (λ q b is sb. found p q b es (subst (λ t. Stands c.args.core.now.exprs c.args.operator t) is sf) sb ses))
    c.survey_direct.ensures

pub survey_call-returns-in_ok-survey_expr-in-None : goal.survey_call-returns-in_ok-survey_expr-in-None
survey_call-returns-in_ok-survey_expr-in-None _ c =
    on_ok_weaker c.survey_list.result
    (λ found p f es sf ses.
    call_told c.args.core.now.lits c.args.core.now.exprs p c.len.result c.args.operands.now f es
    (λ t. FindsIn c.args.core.now c.args.form c.args.self.now c.survey_list.new.self t) (c.in-None.ensures.none f sf) ses c.len.ensures
    (finds_call c.args.core.now c.args.form c.args.self.now c.survey_expr.new.self c.survey_list.new.self p (told c.args.core.now.lits f) (all_told c.args.core.now.lits es)
    (c.in_ok-survey_expr-in-None.ensures f sf) (found es ses)))
    c.survey_list.ensures

pub survey_direct-returns : goal.survey_direct-returns
survey_direct-returns _ c =
    on_ok_weaker c.survey_list.result
    (λ found p q b es sf sb ses.
    finds_direct c.args.core.now c.args.form c.args.self.now c.note_holes.new.self c.survey_body.new.self c.survey_list.new.self p (numbers c.args.lambda.params.now)
    (told c.args.core.now.lits b) (told_operands c.args.core.now.lits es) (c.in_ok-note_holes.ensures c.args.form es ses)
    (c.in_ok-survey_body.ensures q c.args.lambda.params.now None b sf sb)
    (finds_operands c.args.core.now c.args.form c.survey_body.new.self c.survey_list.new.self c.args.core.now.lits es (found es ses)))
    c.survey_list.ensures

pub survey_list-loop-expr-init : goal.survey_list-loop-expr-init
survey_list-loop-expr-init _ c =
    λ es ses. left_begins c.args.core.now c.args.form c.args.self.now es c.args.exprs.now _ ses (search rules)

pub survey_list-loop-expr-preserved : goal.survey_list-loop-expr-preserved
survey_list-loop-expr-preserved _ c =
    λ es ses.
    left_on c.args.core.now c.args.form c.args.self.now c.loop-expr.self c.survey_expr.new.self es c.in-Some.expr.now c.loop-expr.left.now
    c.in-Some.others.now (c.loop-expr.invariant es ses) (search rules) c.in_ok-survey_expr.ensures

pub survey_list-returns : goal.survey_list-returns
survey_list-returns _ c =
    λ es ses.
    left_ends c.args.core.now c.args.form c.args.self.now c.loop-expr.self es c.loop-expr.left.now (c.loop-expr.invariant es ses)
    (nil_from_length _ c.in_default.ensures.cases)
