use Rattle.std.proofs.Common.{refl}
use Rattle.scheme_expand.specs.declared.words.Keyword.TheVariants as keyword
use Rattle.scheme_expand.specs.Waiting.{keyword_table, name_of}
use Rattle.scheme_expand.specs.Naming.{keyword_names, name_list}
use Rattle.scheme_expand.proofs.NumberedNames.{no_names, one_more, all_added}
use Rattle.scheme_expand.proofs.words.Words.add_keywords.Goals as goal

pub loop-keyword-init : goal.loop-keyword-init
loop-keyword-init c = no_names (name_list c.args.self.now)

pub loop-keyword-preserved : goal.loop-keyword-preserved
loop-keyword-preserved c =
    one_more name_of keyword_names keyword_table _ keyword.Quote _ _ _ _ refl c.loop-keyword-test.true c.loop-keyword.invariant
    c.in_ok-add.ensures c.name.ensures

pub returns : goal.returns
returns c = all_added keyword_names _ _ _ c.loop-keyword-test.false c.loop-keyword.invariant
