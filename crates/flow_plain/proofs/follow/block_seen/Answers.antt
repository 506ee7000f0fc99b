use Rattle.std.proofs.Common.{◌≡◌, ◌+◌, ◌*◌, ◌≤◌, ◌⊎◌, inl, inr, refl, sym, ◌∙◌, ap, arith, length, subst}
use Rattle.std.proofs.lemmas.Bool.{cases_lt}
use Rattle.flow_form.specs.declared.rule.Rule.{Rule}
use Rattle.flow_form.specs.Least.{Gives, Within}
use Rattle.flow_form.specs.Race.{Seen}
use Rattle.flow_form.specs.Shape.{In}
use Rattle.flow_plain.proofs.Rules.{listed_in, rule_at, rule_here}
use Rattle.flow_plain.proofs.BitsFollowing.{block_all, rule_of_block}
use Rattle.flow_plain.proofs.follow.block_seen.Goals as goal

pub returns-then-not-rule_seen : goal.returns-then-not-rule_seen
returns-then-not-rule_seen c = (
  (λ h. cc),
  (λ all.
      sym c.if-not-rule_seen.true
      ∙ c.rule_seen.ensures.1
      (rule_of_block c.args.c.now c.args.base.now (Seen c.args.c.now c.args.seat.now) c.args.block c.loop-index.index
      (rule_here c.as_slice-rules.result.now c.loop-index.index) (omega arith) (omega arith)
      (listed_in c.args.c.now.rules c.as_slice-rules.result.now c.loop-index.index c.as_slice-rules.ensures (omega arith)) all)),
)

pub loop-index-preserved : goal.loop-index-preserved
loop-index-preserved c = λ index rule from near listed.
    elim (cases_lt index c.loop-index.index) [
      | inl before ↦ c.loop-index.invariant index rule from before listed
      | inr last ↦
          let at : c.loop-index.index ≡ index = omega arith in
          let here = listed_in c.args.c.now.rules c.as_slice-rules.result.now c.loop-index.index c.as_slice-rules.ensures (omega arith) in
          let same : rule_here c.as_slice-rules.result.now c.loop-index.index ≡ rule =
          rule_at c.args.c.now.rules c.loop-index.index index (rule_here c.as_slice-rules.result.now c.loop-index.index) rule at here listed in
          let All : Rule → Type 0 =
          λ r. Within (Gives (In c.args.c.now c.args.base.now) r) (Seen c.args.c.now c.args.seat.now) in
          subst All same (c.rule_seen.ensures.0 c.if-not-rule_seen.false)
    ]

pub returns : goal.returns
returns c =
    let all : (length c.args.c.now.rules ≤ c.loop-index.index) ⊎ (c.args.block * 1024 + 1024 ≤ c.loop-index.index) =
    elim (cases_lt (length c.args.c.now.rules) (c.args.block * 1024 + 1024)) [
      | inl short ↦ inl (omega (arith, ap length c.as_slice-rules.ensures))
      | inr long ↦ inr (omega (arith, ap length c.as_slice-rules.ensures))
    ] in (
      (λ h.
          block_all c.args.c.now c.args.base.now (Seen c.args.c.now c.args.seat.now) c.args.block c.loop-index.index
          all c.loop-index.invariant),
      (λ h. refl),
    )
