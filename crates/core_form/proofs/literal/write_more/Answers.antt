use Rattle.std.proofs.Common.{rules, ◌∷◌, [], sym, arith, append-nil}
use Rattle.core_form.specs.declared.piece.Piece.TheVariants.{Literal, More}
use Rattle.core_form.proofs.PieceTexts.{more_ends, more_goes}
use Rattle.core_form.proofs.literal.write_more.Goals as goal

pub returns-in_ok-push-in-None : goal.returns-in_ok-push-in-None
returns-in_ok-push-in-None c =
    record {
      written = 41 ∷ [];
      left = [];
      text = search rules;
      stack = sym (append-nil _);
      few = omega arith;
      whole = λ t rest h. more_ends c.args.core.now c.args.lits t rest c.in-None.ensures.cases h;
    }

pub returns-in_ok-extend_from_slice-in-Some : goal.returns-in_ok-extend_from_slice-in-Some
returns-in_ok-extend_from_slice-in-Some c =
    record {
      written = 32 ∷ [];
      left = More c.in-Some.others ∷ Literal c.in-Some.first.now ∷ [];
      text = search rules;
      stack = search rules;
      few = omega arith;
      whole = λ t rest h.
          more_goes c.args.core.now c.args.lits t rest c.in-Some.first.now c.in-Some.others (search rules) h;
    }
