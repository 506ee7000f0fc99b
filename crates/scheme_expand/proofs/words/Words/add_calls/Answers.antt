use Rattle.std.proofs.Common.{map, refl, arith}
use Rattle.std.proofs.lemmas.List.{length-map}
use Rattle.scheme_expand.specs.Naming.{call_name, name_list}
use Rattle.scheme_expand.proofs.NumberedNames.{no_names, one_more, all_added}
use Rattle.scheme_expand.proofs.words.Words.add_calls.Goals as goal

pub loop-name-init : goal.loop-name-init
loop-name-init c = no_names (name_list c.args.self.now)

pub loop-name-preserved : goal.loop-name-preserved
loop-name-preserved c =
    let known = c.args.known.now in
    one_more call_name (map call_name known) known _ _ _ _ _ _ refl
    (omega (arith, c.loop-name-test.true, length-map known call_name)) c.loop-name.invariant c.in_ok-add.ensures refl

pub returns : goal.returns
returns c =
    let known = c.args.known.now in
    all_added (map call_name known) _ _ _ (omega (arith, c.loop-name-test.false, length-map known call_name)) c.loop-name.invariant
