use Rattle.std.proofs.Common.{◌+◌, ◌*◌, sym, ◌∙◌, arith}
use Rattle.plan_facts.specs.Pairs.{holds}
use Rattle.plan_facts.proofs.BlankWords.{blank_word, word_begins}
use Rattle.plan_facts.proofs.InOrder.{one_on}
use Rattle.plan_facts.proofs.pairs.put_word.Goals as goal

pub returns-then-is_blank : goal.returns-then-is_blank
returns-then-is_blank c =
    blank_word c.args.rows.now c.args.row c.args.at c.args.atoms.now (sym c.is_blank.ensures ∙ c.if-is_blank.true)

pub loop-atom-init : goal.loop-atom-init
loop-atom-init c =
    word_begins (holds c.args.rows.now c.args.row) c.args.at c.in_ok-first.first c.args.atoms.now c.in_ok-first.ensures

pub loop-atom-preserved : goal.loop-atom-preserved
loop-atom-preserved c =
    one_on (holds c.args.rows.now c.args.row) c.loop-atom.atom (c.args.at * 64 + 64) c.loop-atom.atoms c.put_member.new.atoms _
    (omega (arith, c.in_ok-first.ensures, c.in_ok-past.ensures, c.loop-atom-test.true)) c.in_ok-put_member.ensures c.loop-atom.invariant
