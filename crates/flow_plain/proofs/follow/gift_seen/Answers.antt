use Rattle.std.proofs.Common.{ℕ, ◌≡◌, ◌+◌, ◌*◌, bit_or, get_or, sym, ◌∙◌, subst, arith}
use Rattle.std.specs.Int.{bit_at}
use Rattle.flow_plain.proofs.BitsFollowing.{gift_more, part_of_gift}
use Rattle.flow_plain.proofs.follow.gift_seen.Goals as goal

pub returns-then-not-is_part : goal.returns-then-not-is_part
returns-then-not-is_part c =
    let place : ℕ = c.args.rule.now.to * c.stride-stride.result + c.loop-at.at in
    let word : bit_or (get_or c.args.seat.now.loaded place 0) (get_or c.args.seat.now.grown place 0)
    ≡ bit_or (get_or c.loaded.result.now place 0) (get_or c.grown.result.now place 0) =
    cc (c.loaded.ensures, c.grown.ensures) in (
      (λ h. cc),
      (λ seen.
          sym c.if-not-is_part.true
          ∙ c.is_part.ensures.1
          (λ bit below set.
          let Bit : ℕ → Type 0 = λ n. bit_at n bit ≡ 1 in
          subst Bit word
          (part_of_gift c.args.c.now c.args.base.now c.args.seat.now c.args.rule.now
          c.stride-stride.result c.loop-at.at c.given_word.result c.stride-stride.ensures.value c.given_word.ensures seen bit below set))),
    )

pub loop-at-preserved : goal.loop-at-preserved
loop-at-preserved c =
    let place : ℕ = c.args.rule.now.to * c.stride-stride.result + c.loop-at.at in
    let word : bit_or (get_or c.loaded.result.now place 0) (get_or c.grown.result.now place 0)
    ≡ bit_or (get_or c.args.seat.now.loaded place 0) (get_or c.args.seat.now.grown place 0) =
    cc (c.loaded.ensures, c.grown.ensures) in
    gift_more c.args.c.now c.args.base.now c.args.seat.now c.args.rule.now
    c.stride-stride.result c.loop-at.at c.given_word.result c.stride-stride.ensures.value c.requires.named.to (omega arith)
    c.given_word.ensures
    (λ bit below set.
    let Bit : ℕ → Type 0 = λ n. bit_at n bit ≡ 1 in
    subst Bit word (c.is_part.ensures.0 c.if-not-is_part.false bit below set))
    c.loop-at.invariant
