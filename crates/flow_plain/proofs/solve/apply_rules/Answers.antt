use Rattle.std.proofs.Common.{ℕ, List, ◌+◌, ◌⊎◌, ◌↔◌, refl, sym, ap, subst, arith, length}
use Rattle.std.proofs.lemmas.Bool.{false≢true}
use Rattle.flow_form.specs.Shape.{In}
use Rattle.flow_plain.proofs.Rules.{GivenBelow, listed_in, rule_here, rules_all, rules_more, rules_skipped}
use Rattle.flow_plain.proofs.solve.apply_rules.Goals as goal
use Rattle.flow_plain.proofs.solve.apply_rules.Goals.{then-rule_holds, else-rule_holds}

pub loop-rule-preserved : goal.loop-rule-preserved
loop-rule-preserved c =
    let place : ℕ = c.loop-rule.rule-index in
    let rule = rule_here c.as_slice-rules.result.now place in
    let listed = listed_in c.args.c.now.rules c.as_slice-rules.result.now place c.as_slice-rules.ensures c.loop-rule-test.true in
    let Put : List ℕ → Type 0 =
    λ words. (row atom : ℕ) → In c.args.c.now words row atom
    ↔ (In c.args.c.now c.args.next.now row atom ⊎ GivenBelow c.args.c.now c.args.words.now (place + 1) row atom) in
    elim c.if-rule_holds.branch [
      | then-rule_holds w ↦
          subst Put (sym w.next-is)
          (rules_more c.args.c.now c.args.words.now c.args.next.now c.loop-rule.next w.give.new.next place rule listed
          (w.if-rule_holds.ensures.0 refl) c.loop-rule.invariant w.give.ensures)
      | else-rule_holds w ↦
          subst Put (sym w.next-is)
          (rules_skipped c.args.c.now c.args.words.now c.args.next.now c.loop-rule.next place rule listed
          (λ holds. false≢true (w.if-rule_holds.ensures.1 holds)) c.loop-rule.invariant)
    ]

pub returns : goal.returns
returns c =
    rules_all c.args.c.now c.args.words.now c.args.next.now c.loop-rule.next c.loop-rule.rule-index
    (omega (arith, ap length c.as_slice-rules.ensures)) c.loop-rule.invariant
