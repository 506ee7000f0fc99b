use Rattle.std.proofs.Common.{◌++◌, ◌∷◌, [], ◌<◌, ◌^◌, length, ◌*◌, ◌-◌, ◌+◌, sym, ap, subst, ◌∙◌, arith}
use Rattle.core_form.specs.declared.piece.Piece.TheVariants.{Expr}
use Rattle.core_form.proofs.PieceTexts.{Left, turn, next_piece, shrinks, finished, begun, empty}
use Rattle.core_form.proofs.text.write_form.Goals as goal

pub loop-piece-init : goal.loop-piece-init
loop-piece-init c =
    λ t h.
    begun c.args.core.now c.push.new.self.items c.args.form c.args.text.now.items t
    (c.in_ok-push.ensures.items ∙ ap (λ s. s ++ Expr c.args.form ∷ []) c.new-stack.ensures.items)
    h

pub write_piece-requires : goal.write_piece-requires
write_piece-requires c =
    next_piece c.args.core.now c.pop.new.self.items c.in-Some.piece c.loop-piece.text.items (c.args.text.now.items ++ c.requires.0)
    (subst (λ s. Left c.args.core.now s c.loop-piece.text.items (c.args.text.now.items ++ c.requires.0)) c.in-Some.ensures.items
    (c.loop-piece.invariant c.requires.0 c.requires.1))

pub loop-piece-smaller : goal.loop-piece-smaller
loop-piece-smaller c =
    let fits : length c.write_piece.new.text.items < 2 ^ 64 =
    omega (arith, c.write_piece.new.text.ok.0, c.write_piece.new.text.ok.1, c.write_piece.new.text.small)
    in
    subst
    (λ s. 8 * (2 ^ 64 - length c.write_piece.new.text.items) + length c.write_piece.new.stack.items < 8 * (2 ^ 64 - length c.loop-piece.text.items) + length s)
    (sym c.in-Some.ensures.items)
    (shrinks c.args.core.now c.pop.new.self.items c.write_piece.new.stack.items c.in-Some.piece c.loop-piece.text.items c.write_piece.new.text.items c.in_ok-write_piece.ensures fits)

pub loop-piece-preserved : goal.loop-piece-preserved
loop-piece-preserved c =
    λ t h.
    turn c.args.core.now c.pop.new.self.items c.write_piece.new.stack.items c.in-Some.piece c.loop-piece.text.items
    c.write_piece.new.text.items (c.args.text.now.items ++ t)
    (subst (λ s. Left c.args.core.now s c.loop-piece.text.items (c.args.text.now.items ++ t)) c.in-Some.ensures.items
    (c.loop-piece.invariant t h))
    c.in_ok-write_piece.ensures

pub returns : goal.returns
returns c =
    λ t h.
    finished c.args.core.now c.loop-piece.stack.items c.loop-piece.text.items (c.args.text.now.items ++ t)
    (empty c.loop-piece.stack.items (sym c.loop-piece.stack.ok.0 ∙ c.in_default.ensures.cases.0))
    (c.loop-piece.invariant t h)
