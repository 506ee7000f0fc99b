use Rattle.std.proofs.Common.{◌≡◌, true, sym, ◌∙◌, arith}
use Rattle.std.proofs.lemmas.Grind.{common_steps}
use Rattle.scheme_expand.specs.Grammar.{is_define}
use Rattle.scheme_expand.proofs.DefinedWords.{word_defined}
use Rattle.scheme_expand.proofs.Targets.{good_read}
use Rattle.scheme_expand.proofs.defined.defined_name.Goals as goal

pub returns : goal.returns
returns c = λ names d spelled h.
    let found : c.defines.result ≡ true = grind (arith, common_steps, c.if-not-defines.false) in
    let define : is_define d ≡ true = sym (c.defines.ensures d h) ∙ found in
    word_defined c.args.source names c.in-Ok.definition _ c.in-Some.word d spelled define
    (good_read c.args.source c.read_definition.result _ _ _ (c.read_definition.ensures d h define) c.in-Ok.is) c.word.ensures c.in-Some.is
