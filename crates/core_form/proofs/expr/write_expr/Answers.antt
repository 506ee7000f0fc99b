use Rattle.std.proofs.Common.{◌++◌, ◌∷◌, [], sym, ap, subst, ◌∙◌, ◌<◌, length, arith, append-nil}
use Rattle.std.specs.Prelude.{codes}
use Rattle.scheme_base.specs.Operands.{name_of}
use Rattle.core_form.specs.declared.program.What.TheVariants as expr
use Rattle.core_form.specs.declared.piece.Piece.TheVariants.{Next, List as Listed, Literal, Close}
use Rattle.core_form.specs.Text.{var_text, vars_text, rest_text}
use Rattle.core_form.proofs.PieceTexts.{within, read, both, const_goes, ref_goes, lambda_goes, if_goes, set_goes, call_goes, prim_goes, seq_goes, fix_goes, define_goes}
use Rattle.core_form.proofs.expr.write_expr.Goals as goal

pub bounds-as_slice-expr : goal.bounds-as_slice-expr
bounds-as_slice-expr c =
    subst (λ n. c.args.expr < n) (ap length (sym c.as_slice.ensures))
    (within c.args.core.now c.args.expr c.requires.0 c.requires.1)

pub returns-in_ok-extend_from_slice-in-Const-2 : goal.returns-in_ok-extend_from_slice-in-Const-2
returns-in_ok-extend_from_slice-in-Const-2 c =
    record {
      written = codes "(const ";
      left = Close ∷ Literal c.in-Const.lit ∷ [];
      text = c.in_ok-extend_from_slice-in-Const.ensures.items;
      stack = c.in_ok-extend_from_slice-in-Const-2.ensures.items;
      few = omega arith;
      whole = λ t rest h.
          const_goes c.args.core.now c.in-Const.lit t rest
          (read c.args.core.now c.as_slice.result.now c.args.expr c.index-as_slice-expr.result (expr.Const c.in-Const.lit) t
          c.as_slice.ensures (c.in-Const.is) h);
    }

pub returns-in_ok-push-in-Ref : goal.returns-in_ok-push-in-Ref
returns-in_ok-push-in-Ref c =
    record {
      written = codes "(ref " ++ (var_text c.in-Ref.var ++ codes ")");
      left = [];
      text = both c.args.text.now.items c.extend_from_slice-in-Ref.new.self.items c.push.new.self.items (codes "(ref ") (var_text c.in-Ref.var ++ codes ")") c.in_ok-extend_from_slice-in-Ref.ensures.items
          (both c.extend_from_slice-in-Ref.new.self.items c.write_var.new.text.items c.push.new.self.items (var_text c.in-Ref.var) (codes ")") c.in_ok-write_var-in-Ref.ensures c.in_ok-push-in-Ref.ensures.items);
      stack = sym (append-nil _);
      few = omega arith;
      whole = λ t rest h.
          ref_goes c.args.core.now c.in-Ref.var t rest
          (read c.args.core.now c.as_slice.result.now c.args.expr c.index-as_slice-expr.result (expr.Ref c.in-Ref.var) t
          c.as_slice.ensures (c.in-Ref.is) h);
    }

pub returns-in_ok-extend_from_slice-in-Lambda-2 : goal.returns-in_ok-extend_from_slice-in-Lambda-2
returns-in_ok-extend_from_slice-in-Lambda-2 c =
    record {
      written = codes "(lambda " ++ (vars_text c.in-Lambda.params ++ (32 ∷ rest_text c.in-Lambda.rest));
      left = Close ∷ Next c.in-Lambda.body ∷ [];
      text = both c.args.text.now.items c.extend_from_slice-in-Lambda.new.self.items c.write_rest.new.text.items (codes "(lambda ") (vars_text c.in-Lambda.params ++ (32 ∷ rest_text c.in-Lambda.rest)) c.in_ok-extend_from_slice-in-Lambda.ensures.items
          (both c.extend_from_slice-in-Lambda.new.self.items c.write_vars.new.text.items c.write_rest.new.text.items (vars_text c.in-Lambda.params) (32 ∷ rest_text c.in-Lambda.rest)
          (c.in_ok-write_vars-in-Lambda.ensures ∙ ap (λ xs. c.extend_from_slice-in-Lambda.new.self.items ++ vars_text xs) c.as_slice-in-Lambda.ensures)
          (both c.write_vars.new.text.items c.push-in-Lambda.new.self.items c.write_rest.new.text.items (32 ∷ []) (rest_text c.in-Lambda.rest) c.in_ok-push-in-Lambda.ensures.items c.in_ok-write_rest-in-Lambda.ensures));
      stack = c.in_ok-extend_from_slice-in-Lambda-2.ensures.items;
      few = omega arith;
      whole = λ t rest h.
          lambda_goes c.args.core.now c.in-Lambda.params c.in-Lambda.rest c.in-Lambda.body t rest
          (read c.args.core.now c.as_slice.result.now c.args.expr c.index-as_slice-expr.result (expr.Lambda c.in-Lambda.params c.in-Lambda.rest c.in-Lambda.body) t
          c.as_slice.ensures (c.in-Lambda.is) h);
    }

pub returns-in_ok-extend_from_slice-in-If-2 : goal.returns-in_ok-extend_from_slice-in-If-2
returns-in_ok-extend_from_slice-in-If-2 c =
    record {
      written = codes "(if";
      left = Close ∷ Next c.in-If.no ∷ Next c.in-If.yes ∷ Next c.in-If.test ∷ [];
      text = c.in_ok-extend_from_slice-in-If.ensures.items;
      stack = c.in_ok-extend_from_slice-in-If-2.ensures.items;
      few = omega arith;
      whole = λ t rest h.
          if_goes c.args.core.now c.in-If.test c.in-If.yes c.in-If.no t rest
          (read c.args.core.now c.as_slice.result.now c.args.expr c.index-as_slice-expr.result (expr.If c.in-If.test c.in-If.yes c.in-If.no) t
          c.as_slice.ensures (c.in-If.is) h);
    }

pub returns-in_ok-extend_from_slice-in-Set-2 : goal.returns-in_ok-extend_from_slice-in-Set-2
returns-in_ok-extend_from_slice-in-Set-2 c =
    record {
      written = codes "(set " ++ var_text c.in-Set.var;
      left = Close ∷ Next c.in-Set.value ∷ [];
      text = both c.args.text.now.items c.extend_from_slice-in-Set.new.self.items c.write_var-in-Set.new.text.items (codes "(set ") (var_text c.in-Set.var) c.in_ok-extend_from_slice-in-Set.ensures.items c.in_ok-write_var-in-Set.ensures;
      stack = c.in_ok-extend_from_slice-in-Set-2.ensures.items;
      few = omega arith;
      whole = λ t rest h.
          set_goes c.args.core.now c.in-Set.var c.in-Set.value t rest
          (read c.args.core.now c.as_slice.result.now c.args.expr c.index-as_slice-expr.result (expr.Set c.in-Set.var c.in-Set.value) t
          c.as_slice.ensures (c.in-Set.is) h);
    }

pub returns-in_ok-extend_from_slice-in-Define-2 : goal.returns-in_ok-extend_from_slice-in-Define-2
returns-in_ok-extend_from_slice-in-Define-2 c =
    record {
      written = codes "(define " ++ var_text c.in-Define.var;
      left = Close ∷ Next c.in-Define.value ∷ [];
      text = both c.args.text.now.items c.extend_from_slice-in-Define.new.self.items c.write_var-in-Define.new.text.items (codes "(define ") (var_text c.in-Define.var) c.in_ok-extend_from_slice-in-Define.ensures.items c.in_ok-write_var-in-Define.ensures;
      stack = c.in_ok-extend_from_slice-in-Define-2.ensures.items;
      few = omega arith;
      whole = λ t rest h.
          define_goes c.args.core.now c.in-Define.var c.in-Define.value t rest
          (read c.args.core.now c.as_slice.result.now c.args.expr c.index-as_slice-expr.result (expr.Define c.in-Define.var c.in-Define.value) t
          c.as_slice.ensures (c.in-Define.is) h);
    }

pub returns-in_ok-extend_from_slice-in-Call-2 : goal.returns-in_ok-extend_from_slice-in-Call-2
returns-in_ok-extend_from_slice-in-Call-2 c =
    record {
      written = codes "(call";
      left = Close ∷ Listed c.as_slice-in-Call.result ∷ Next c.in-Call.operator ∷ [];
      text = c.in_ok-extend_from_slice-in-Call.ensures.items;
      stack = c.in_ok-extend_from_slice-in-Call-2.ensures.items;
      few = omega arith;
      whole = λ t rest h.
          call_goes c.args.core.now c.in-Call.operator c.as_slice-in-Call.result t rest
          (read c.args.core.now c.as_slice.result.now c.args.expr c.index-as_slice-expr.result (expr.Call c.in-Call.operator c.as_slice-in-Call.result.now) t
          c.as_slice.ensures (c.in-Call.is ∙ ap (λ is. expr.Call c.in-Call.operator is) (sym c.as_slice-in-Call.ensures)) h);
    }

pub returns-in_ok-extend_from_slice-in-Prim-3 : goal.returns-in_ok-extend_from_slice-in-Prim-3
returns-in_ok-extend_from_slice-in-Prim-3 c =
    record {
      written = codes "(prim " ++ name_of c.in-Prim.op;
      left = Close ∷ Listed c.as_slice-in-Prim.result ∷ [];
      text = both c.args.text.now.items c.extend_from_slice-in-Prim.new.self.items c.extend_from_slice-in-Prim-2.new.self.items (codes "(prim ") (name_of c.in-Prim.op) c.in_ok-extend_from_slice-in-Prim.ensures.items
          (c.in_ok-extend_from_slice-in-Prim-2.ensures.items ∙ ap (λ x. c.extend_from_slice-in-Prim.new.self.items ++ x) (c.as_bytes.ensures.value ∙ c.name.ensures));
      stack = c.in_ok-extend_from_slice-in-Prim-3.ensures.items;
      few = omega arith;
      whole = λ t rest h.
          prim_goes c.args.core.now c.in-Prim.op c.as_slice-in-Prim.result t rest
          (read c.args.core.now c.as_slice.result.now c.args.expr c.index-as_slice-expr.result (expr.Prim c.in-Prim.op c.as_slice-in-Prim.result.now) t
          c.as_slice.ensures (c.in-Prim.is ∙ ap (λ is. expr.Prim c.in-Prim.op is) (sym c.as_slice-in-Prim.ensures)) h);
    }

pub returns-in_ok-extend_from_slice-in-Seq-2 : goal.returns-in_ok-extend_from_slice-in-Seq-2
returns-in_ok-extend_from_slice-in-Seq-2 c =
    record {
      written = codes "(seq";
      left = Close ∷ Listed c.as_slice-in-Seq.result ∷ [];
      text = c.in_ok-extend_from_slice-in-Seq.ensures.items;
      stack = c.in_ok-extend_from_slice-in-Seq-2.ensures.items;
      few = omega arith;
      whole = λ t rest h.
          seq_goes c.args.core.now c.as_slice-in-Seq.result t rest
          (read c.args.core.now c.as_slice.result.now c.args.expr c.index-as_slice-expr.result (expr.Seq c.as_slice-in-Seq.result.now) t
          c.as_slice.ensures (c.in-Seq.is ∙ ap (λ is. expr.Seq is) (sym c.as_slice-in-Seq.ensures)) h);
    }

pub returns-in_ok-extend_from_slice-in-Fix-2 : goal.returns-in_ok-extend_from_slice-in-Fix-2
returns-in_ok-extend_from_slice-in-Fix-2 c =
    record {
      written = codes "(fix " ++ vars_text c.in-Fix.vars;
      left = Close ∷ Next c.in-Fix.body ∷ Listed c.as_slice-in-Fix-2.result ∷ [];
      text = both c.args.text.now.items c.extend_from_slice-in-Fix.new.self.items c.write_vars-in-Fix.new.text.items (codes "(fix ") (vars_text c.in-Fix.vars) c.in_ok-extend_from_slice-in-Fix.ensures.items
          (c.in_ok-write_vars-in-Fix.ensures ∙ ap (λ xs. c.extend_from_slice-in-Fix.new.self.items ++ vars_text xs) c.as_slice-in-Fix.ensures);
      stack = c.in_ok-extend_from_slice-in-Fix-2.ensures.items;
      few = omega arith;
      whole = λ t rest h.
          fix_goes c.args.core.now c.in-Fix.vars c.as_slice-in-Fix-2.result c.in-Fix.body t rest
          (read c.args.core.now c.as_slice.result.now c.args.expr c.index-as_slice-expr.result (expr.Fix c.in-Fix.vars c.as_slice-in-Fix-2.result.now c.in-Fix.body) t
          c.as_slice.ensures (c.in-Fix.is ∙ ap (λ is. expr.Fix c.in-Fix.vars is c.in-Fix.body) (sym c.as_slice-in-Fix-2.ensures)) h);
    }
