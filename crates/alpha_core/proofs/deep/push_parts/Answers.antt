use Rattle.std.proofs.Common.{refl}
use Rattle.std.proofs.lemmas.Result.{on_ok_weaker}
use Rattle.core_form.specs.declared.program.What.TheVariants as form
use Rattle.alpha_core.proofs.Shapes.{node_of}
use Rattle.alpha_core.proofs.Depths.{const_leaves, ref_leaves, lambda_leaves, if_leaves, set_leaves, call_leaves, prim_leaves, seq_leaves, fix_leaves, define_leaves}
use Rattle.alpha_core.proofs.deep.push_parts.Goals as goal

pub returns-in-Const : goal.returns-in-Const
returns-in-Const c =
    λ e s.
    const_leaves c.args.core.now.exprs c.args.expr c.args.depth c.in-Some.node.now.pos c.args.levels.now.items c.args.levels.now.items e
    c.in-Const.field-0
    (node_of c.args.core.now.exprs c.args.expr c.in-Some.node.now (form.Const c.in-Const.field-0) c.in-Some.ensures.value c.in-Const.is)
    s refl

pub returns-in-Ref : goal.returns-in-Ref
returns-in-Ref c =
    λ e s.
    ref_leaves c.args.core.now.exprs c.args.expr c.args.depth c.in-Some.node.now.pos c.args.levels.now.items c.args.levels.now.items e
    c.in-Ref.field-0
    (node_of c.args.core.now.exprs c.args.expr c.in-Some.node.now (form.Ref c.in-Ref.field-0) c.in-Some.ensures.value c.in-Ref.is)
    s refl

pub returns-in-Lambda : goal.returns-in-Lambda
returns-in-Lambda c =
    on_ok_weaker c.push_part.result
    (λ items e s.
    lambda_leaves c.args.core.now.exprs c.args.expr c.args.depth c.in-Some.node.now.pos c.args.levels.now.items
    c.push_part.new.levels.items e c.in-Lambda.params c.in-Lambda.rest c.in-Lambda.body
    (node_of c.args.core.now.exprs c.args.expr c.in-Some.node.now
    (form.Lambda c.in-Lambda.params c.in-Lambda.rest c.in-Lambda.body) c.in-Some.ensures.value c.in-Lambda.is)
    s items)
    c.push_part.ensures

pub returns-in_ok-push_part-in-If-2 : goal.returns-in_ok-push_part-in-If-2
returns-in_ok-push_part-in-If-2 c =
    on_ok_weaker c.push_part-in-If-3.result
    (λ items e s.
    if_leaves c.args.core.now.exprs c.args.expr c.args.depth c.in-Some.node.now.pos c.args.levels.now.items
    c.push_part-in-If-3.new.levels.items e c.in-If.test c.in-If.yes c.in-If.no c.push_part-in-If.new.levels.items
    c.push_part-in-If-2.new.levels.items
    (node_of c.args.core.now.exprs c.args.expr c.in-Some.node.now (form.If c.in-If.test c.in-If.yes c.in-If.no)
    c.in-Some.ensures.value c.in-If.is)
    s c.in_ok-push_part-in-If.ensures c.in_ok-push_part-in-If-2.ensures items)
    c.push_part-in-If-3.ensures

pub returns-in-Set : goal.returns-in-Set
returns-in-Set c =
    on_ok_weaker c.push_part-in-Set.result
    (λ items e s.
    set_leaves c.args.core.now.exprs c.args.expr c.args.depth c.in-Some.node.now.pos c.args.levels.now.items
    c.push_part-in-Set.new.levels.items e c.in-Set.var c.in-Set.value
    (node_of c.args.core.now.exprs c.args.expr c.in-Some.node.now (form.Set c.in-Set.var c.in-Set.value)
    c.in-Some.ensures.value c.in-Set.is)
    s items)
    c.push_part-in-Set.ensures

pub returns-in_ok-push_part-in-Call : goal.returns-in_ok-push_part-in-Call
returns-in_ok-push_part-in-Call c =
    on_ok_weaker c.push_all.result
    (λ items e s.
    call_leaves c.args.core.now.exprs c.args.expr c.args.depth c.in-Some.node.now.pos c.args.levels.now.items
    c.push_all.new.levels.items e c.in-Call.operator c.in-Call.operands c.push_part-in-Call.new.levels.items
    (node_of c.args.core.now.exprs c.args.expr c.in-Some.node.now (form.Call c.in-Call.operator c.in-Call.operands)
    c.in-Some.ensures.value c.in-Call.is)
    s c.in_ok-push_part-in-Call.ensures items)
    c.push_all.ensures

pub returns-in-Prim : goal.returns-in-Prim
returns-in-Prim c =
    on_ok_weaker c.push_all-in-Prim.result
    (λ items e s.
    prim_leaves c.args.core.now.exprs c.args.expr c.args.depth c.in-Some.node.now.pos c.args.levels.now.items
    c.push_all-in-Prim.new.levels.items e c.in-Prim.op c.in-Prim.operands
    (node_of c.args.core.now.exprs c.args.expr c.in-Some.node.now (form.Prim c.in-Prim.op c.in-Prim.operands)
    c.in-Some.ensures.value c.in-Prim.is)
    s items)
    c.push_all-in-Prim.ensures

pub returns-in-Seq : goal.returns-in-Seq
returns-in-Seq c =
    on_ok_weaker c.push_all-in-Seq.result
    (λ items e s.
    seq_leaves c.args.core.now.exprs c.args.expr c.args.depth c.in-Some.node.now.pos c.args.levels.now.items
    c.push_all-in-Seq.new.levels.items e c.in-Seq.items
    (node_of c.args.core.now.exprs c.args.expr c.in-Some.node.now (form.Seq c.in-Seq.items) c.in-Some.ensures.value c.in-Seq.is)
    s items)
    c.push_all-in-Seq.ensures

pub returns-in_ok-push_all-in-Fix : goal.returns-in_ok-push_all-in-Fix
returns-in_ok-push_all-in-Fix c =
    on_ok_weaker c.push_part-in-Fix.result
    (λ items e s.
    fix_leaves c.args.core.now.exprs c.args.expr c.args.depth c.in-Some.node.now.pos c.args.levels.now.items
    c.push_part-in-Fix.new.levels.items e c.in-Fix.vars c.in-Fix.lambdas c.in-Fix.body c.push_all-in-Fix.new.levels.items
    (node_of c.args.core.now.exprs c.args.expr c.in-Some.node.now (form.Fix c.in-Fix.vars c.in-Fix.lambdas c.in-Fix.body)
    c.in-Some.ensures.value c.in-Fix.is)
    s c.in_ok-push_all-in-Fix.ensures items)
    c.push_part-in-Fix.ensures

pub returns-in-Define : goal.returns-in-Define
returns-in-Define c =
    on_ok_weaker c.push_part-in-Define.result
    (λ items e s.
    define_leaves c.args.core.now.exprs c.args.expr c.args.depth c.in-Some.node.now.pos c.args.levels.now.items
    c.push_part-in-Define.new.levels.items e c.in-Define.var c.in-Define.value
    (node_of c.args.core.now.exprs c.args.expr c.in-Some.node.now (form.Define c.in-Define.var c.in-Define.value)
    c.in-Some.ensures.value c.in-Define.is)
    s items)
    c.push_part-in-Define.ensures
