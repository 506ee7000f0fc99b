use Rattle.std.proofs.Common.{◌∷◌, [], sym, subst, arith}
use Rattle.core_form.specs.declared.piece.Piece.TheVariants.{Expr}
use Rattle.core_form.specs.Pieces.{Writes}
use Rattle.core_form.proofs.PieceTexts.{next_goes}
use Rattle.core_form.proofs.text.write_piece.Goals as goal

pub returns-in_ok-push-in-Next-2 : goal.returns-in_ok-push-in-Next-2
returns-in_ok-push-in-Next-2 c =
    subst
    (λ p. Writes c.args.core.now p c.args.stack.now.items c.push-in-Next.new.self.items c.args.text.now.items c.push.new.self.items)
    (sym c.in-Next.is)
    (record {
      written = 32 ∷ [];
      left = Expr c.in-Next.expr ∷ [];
      text = c.in_ok-push-in-Next.ensures.items;
      stack = c.in_ok-push-in-Next-2.ensures.items;
      few = omega arith;
      whole = next_goes c.args.core.now c.in-Next.expr;
    })
