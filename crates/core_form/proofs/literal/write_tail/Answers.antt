use Rattle.std.proofs.Common.{◌∷◌, [], refl, sym, arith, append-nil}
use Rattle.std.specs.Prelude.{codes}
use Rattle.scheme_base.specs.declared.lit.Lit.TheVariants as lit
use Rattle.core_form.specs.declared.piece.Piece.TheVariants.{Literal, Tail, Close}
use Rattle.core_form.proofs.PieceTexts.{tail_read, plain_goes, tail_goes, dotted_goes, no_list}
use Rattle.core_form.proofs.literal.write_tail.Goals as goal

pub returns-in_ok-push-in-Nil : goal.returns-in_ok-push-in-Nil
returns-in_ok-push-in-Nil c =
    record {
      written = codes ")";
      left = [];
      text = c.in_ok-push-in-Nil.ensures.items;
      stack = sym (append-nil _);
      few = omega arith;
      whole = λ t rest h.
          plain_goes c.args.core.now (codes ")") t rest (tail_read c.args.core.now c.as_slice.result.now c.args.lit c.index-as_slice-lit.result (lit.Nil) t c.as_slice.ensures c.index-as_slice-lit.is c.in-Nil.is h);
    }

pub returns-in_ok-extend_from_slice-in-Pair : goal.returns-in_ok-extend_from_slice-in-Pair
returns-in_ok-extend_from_slice-in-Pair c =
    record {
      written = 32 ∷ [];
      left = Tail c.in-Pair.cdr ∷ Literal c.in-Pair.car ∷ [];
      text = c.in_ok-push-in-Pair.ensures.items;
      stack = c.in_ok-extend_from_slice-in-Pair.ensures.items;
      few = omega arith;
      whole = λ t rest h.
          tail_goes c.args.core.now c.args.lit c.in-Pair.car c.in-Pair.cdr t rest (tail_read c.args.core.now c.as_slice.result.now c.args.lit c.index-as_slice-lit.result (lit.Pair c.in-Pair.car c.in-Pair.cdr) t c.as_slice.ensures c.index-as_slice-lit.is c.in-Pair.is h);
    }

pub returns-in_ok-extend_from_slice-in_default-2 : goal.returns-in_ok-extend_from_slice-in_default-2
returns-in_ok-extend_from_slice-in_default-2 c =
    record {
      written = codes " . ";
      left = Close ∷ Literal c.args.lit ∷ [];
      text = c.in_ok-extend_from_slice-in_default.ensures.items;
      stack = c.in_ok-extend_from_slice-in_default-2.ensures.items;
      few = omega arith;
      whole = λ t rest h.
          dotted_goes c.args.core.now c.args.lit t rest
          (no_list c.args.core.now c.args.lit c.index-as_slice-lit.result t c.in_default.not-Nil c.in_default.not-Pair
          (tail_read c.args.core.now c.as_slice.result.now c.args.lit c.index-as_slice-lit.result c.index-as_slice-lit.result t c.as_slice.ensures c.index-as_slice-lit.is refl h));
    }
