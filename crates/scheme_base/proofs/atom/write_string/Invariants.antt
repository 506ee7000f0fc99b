use Rattle.std.proofs.Common.{◌≡◌, ◌++◌, length}
use Rattle.std.specs.Prelude.{codes}
use Rattle.scheme_base.specs.AtomText.{escaped_text}
use Rattle.scheme_base.proofs.atom.write_string.Given as goal

-- what is written, and then what is left
abbrev pub invariant-loop-first : goal.invariant-loop-first
invariant-loop-first l =
    l.text.items ++ escaped_text l.rest ≡ l.fn.text.items ++ (codes "\"" ++ escaped_text l.fn.bytes)

abbrev pub decreases-loop-first : goal.decreases-loop-first
decreases-loop-first l = length l.rest
