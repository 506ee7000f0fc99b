use Rattle.std.proofs.Common.{arith}
use Rattle.rv_encode.proofs.FromWords.{valid_from_word, word_from_word}
use Rattle.rv_encode.proofs.laws.decoded_is_encoded.Goals as goal

pub returns-clause-valid : goal.returns-clause-valid
returns-clause-valid c = valid_from_word c.args.word c.args.instr (let r = c.ranges.word.fits in omega arith) c.requires

pub returns-clause-word : goal.returns-clause-word
returns-clause-word c = word_from_word c.args.word c.args.instr (let r = c.ranges.word.fits in omega arith) c.requires
