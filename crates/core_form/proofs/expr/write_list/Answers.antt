use Rattle.std.proofs.Common.{rules, ◌∷◌, [], sym, arith, append-nil}
use Rattle.std.specs.Prelude.{codes}
use Rattle.core_form.specs.declared.piece.Piece.TheVariants.{Expr, Rest}
use Rattle.core_form.proofs.PieceTexts.{list_ends, list_goes}
use Rattle.core_form.proofs.expr.write_list.Goals as goal

pub returns-in_ok-extend_from_slice-in-None : goal.returns-in_ok-extend_from_slice-in-None
returns-in_ok-extend_from_slice-in-None c =
    record {
      written = codes " ()";
      left = [];
      text = search rules;
      stack = sym (append-nil _);
      few = omega arith;
      whole = λ t rest h. list_ends c.args.core.now c.args.exprs t rest c.in-None.ensures.cases h;
    }

pub returns-in_ok-extend_from_slice-in-Some-2 : goal.returns-in_ok-extend_from_slice-in-Some-2
returns-in_ok-extend_from_slice-in-Some-2 c =
    record {
      written = codes " (";
      left = Rest c.in-Some.others ∷ Expr c.in-Some.first.now ∷ [];
      text = search rules;
      stack = search rules;
      few = omega arith;
      whole = λ t rest h.
          list_goes c.args.core.now c.args.exprs t rest c.in-Some.first.now c.in-Some.others (search rules) h;
    }
