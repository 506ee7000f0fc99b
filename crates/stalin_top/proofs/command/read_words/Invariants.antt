use Rattle.std.proofs.Common.{◌≡◌, ◌+◌, drop}
use Rattle.stalin_top.specs.Command.{nothing_said, reading}
use Rattle.stalin_top.specs.Given.{AreFit, said_by}
use Rattle.stalin_top.proofs.command.read_words.Given as goal

-- what the words say is what the words that are left say after those that were read
abbrev pub invariant-loop-at : goal.invariant-loop-at
invariant-loop-at l =
    record {
      said :
          reading l.verb 2 (drop 1 l.words) nothing_said ≡ reading l.verb (l.at + 1) (drop l.at l.words) (said_by l.given);
      fit : AreFit l.given.settings;
    }
