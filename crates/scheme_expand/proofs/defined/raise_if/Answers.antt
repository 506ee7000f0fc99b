use Rattle.std.proofs.Common.{◌≡◌, ◌≤◌, length, true, false, if◌then◌else◌, sym, ap, ◌∙◌, arith}
use Rattle.std.specs.Prelude.{slice_set}
use Rattle.std.proofs.lemmas.Grind.{common_steps}
use Rattle.scheme_expand.proofs.Flags.{not_raised}
use Rattle.scheme_expand.proofs.defined.raise_if.Goals as goal

pub returns-then-not-raised : goal.returns-then-not-raised
returns-then-not-raised c =
    let items = c.args.flags.now.items in
    let off : c.args.raised ≡ false = grind (arith, common_steps, c.if-not-raised.true) in
    sym (ap (λ b. if b then slice_set items c.args.word true else items) off)

pub returns-then-len-word : goal.returns-then-len-word
returns-then-len-word c =
    let items = c.args.flags.now.items in
    let on : c.args.raised ≡ true = grind (arith, common_steps, c.if-not-raised.false) in
    let past : length items ≤ c.args.word = omega arith in
    sym (ap (λ b. if b then slice_set items c.args.word true else items) on ∙ not_raised items c.args.word past)

pub returns : goal.returns
returns c =
    let items = c.args.flags.now.items in
    let on : c.args.raised ≡ true = grind (arith, common_steps, c.if-not-raised.false) in
    sym (ap (λ b. if b then slice_set items c.args.word true else items) on)
