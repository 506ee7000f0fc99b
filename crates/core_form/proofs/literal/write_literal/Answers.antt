use Rattle.std.proofs.Common.{rules, ◌∷◌, [], refl, sym, ap, ◌∙◌, arith, append-nil}
use Rattle.std.specs.Prelude.{codes}
use Rattle.scheme_base.specs.declared.lit.Lit.TheVariants as lit
use Rattle.core_form.specs.declared.piece.Piece.TheVariants.{Literal, Tail, More}
use Rattle.core_form.specs.Pieces.{plain_text}
use Rattle.core_form.proofs.PieceTexts.{lit_read, no_parts, plain_goes, pair_goes, row_ends, row_goes, both}
use Rattle.core_form.proofs.literal.write_literal.Goals as goal

pub returns-in_ok-write_plain-in_default : goal.returns-in_ok-write_plain-in_default
returns-in_ok-write_plain-in_default c =
    let l = c.index-as_slice-lit.result in
    record {
      written = plain_text l;
      left = [];
      text = c.in_ok-write_plain-in_default.ensures;
      stack = sym (append-nil _);
      few = omega arith;
      whole = λ t rest h.
          plain_goes c.args.core.now (plain_text l) t rest
          (no_parts c.args.core.now l t c.in_default.not-Pair c.in_default.not-Vector
          (lit_read c.args.core.now c.as_slice.result.now c.args.lit l l t c.as_slice.ensures c.index-as_slice-lit.is refl h));
    }

pub returns-in_ok-extend_from_slice-in-Pair : goal.returns-in_ok-extend_from_slice-in-Pair
returns-in_ok-extend_from_slice-in-Pair c =
    record {
      written = 40 ∷ [];
      left = Tail c.in-Pair.cdr ∷ Literal c.in-Pair.car ∷ [];
      text = c.in_ok-push-in-Pair.ensures.items;
      stack = c.in_ok-extend_from_slice-in-Pair.ensures.items;
      few = omega arith;
      whole = λ t rest h.
          pair_goes c.args.core.now c.in-Pair.car c.in-Pair.cdr t rest (lit_read c.args.core.now c.as_slice.result.now c.args.lit c.index-as_slice-lit.result (lit.Pair c.in-Pair.car c.in-Pair.cdr) t c.as_slice.ensures c.index-as_slice-lit.is c.in-Pair.is h);
    }

pub returns-in_ok-push-in-None : goal.returns-in_ok-push-in-None
returns-in_ok-push-in-None c =
    record {
      written = codes "#()";
      left = [];
      text =
          both c.args.text.now.items c.extend_from_slice-in-Vector.new.self.items c.push-in-None.new.self.items
          (codes "#(") (codes ")") c.in_ok-extend_from_slice-in-Vector.ensures.items c.in_ok-push-in-None.ensures.items;
      stack = sym (append-nil _);
      few = omega arith;
      whole = λ t rest h. row_ends c.args.core.now c.as_slice-in-Vector.result.now t rest c.in-None.ensures.cases (lit_read c.args.core.now c.as_slice.result.now c.args.lit c.index-as_slice-lit.result (lit.Vector c.as_slice-in-Vector.result.now) t c.as_slice.ensures c.index-as_slice-lit.is (c.in-Vector.is ∙ ap lit.Vector (sym c.as_slice-in-Vector.ensures)) h);
    }

pub returns-in_ok-extend_from_slice-in-Some : goal.returns-in_ok-extend_from_slice-in-Some
returns-in_ok-extend_from_slice-in-Some c =
    record {
      written = codes "#(";
      left = More c.in-Some.others ∷ Literal c.in-Some.first.now ∷ [];
      text = c.in_ok-extend_from_slice-in-Vector.ensures.items;
      stack = c.in_ok-extend_from_slice-in-Some.ensures.items;
      few = omega arith;
      whole = λ t rest h.
          row_goes c.args.core.now c.as_slice-in-Vector.result.now t rest c.in-Some.first.now c.in-Some.others (search rules) (lit_read c.args.core.now c.as_slice.result.now c.args.lit c.index-as_slice-lit.result (lit.Vector c.as_slice-in-Vector.result.now) t c.as_slice.ensures c.index-as_slice-lit.is (c.in-Vector.is ∙ ap lit.Vector (sym c.as_slice-in-Vector.ensures)) h);
    }
