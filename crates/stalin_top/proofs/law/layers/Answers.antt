use Rattle.elf_write.proofs.Answers.{one_answer}
use Rattle.rv_encode.proofs.FromWords.{word_from_word}
use Rattle.rv_form.proofs.Steadiness.{is_steady}
use Rattle.rv_form.proofs.Words.{of_its_word}
use Rattle.stalin_top.proofs.law.layers.Goals as goal

pub returns : goal.returns
returns c =
    record {
      files = one_answer;
      encoded = of_its_word;
      decoded = λ word instr small is. word_from_word word instr small is;
      machine = is_steady;
      answered = c.answers_are_of_an_environment.ensures;
      told = c.console_shows_the_trace.ensures;
    }
