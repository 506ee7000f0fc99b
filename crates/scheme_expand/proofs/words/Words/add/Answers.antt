use Rattle.std.proofs.Common.{◌≤◌, length, arith}
use Rattle.scheme_expand.specs.Naming.{name_list}
use Rattle.scheme_expand.proofs.NumberedNames.{is_new, many_texts}
use Rattle.scheme_expand.proofs.words.Words.add.Goals as goal

pub returns : goal.returns
returns c =
    let old = name_list c.args.self.now in
    let w = c.in_ok-word.word in
    let later : length old ≤ w = omega (arith, c.if-word-next.false, c.len-next.ensures.len, many_texts c.args.self.now.names.keys) in
    is_new old _ c.args.name.now w c.in_ok-word.ensures.number later
