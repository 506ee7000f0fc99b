use Rattle.rv_form.proofs.Words.{of_its_word}
use Rattle.rv_encode.proofs.laws.encoded_is_decoded.Goals as goal

pub returns : goal.returns
returns c = of_its_word c.args.instr c.requires
