-- The laws of the least solution, over every set that a test tells, and of one plain step of words.
use Rattle.std.specs.Prelude.{ℕ, suc, List, Bool, IsTrue, ◌≡◌, ◌<◌, length}
use Rattle.flow_form.specs.declared.constraints.Constraints.{Constraints}
use Rattle.flow_form.specs.declared.rule.Rule.{Rule}
use Rattle.flow_form.specs.Least.{Pairs, Within, SameSet, Plain, Closed, Stage, LeastFrom, Least}
use Rattle.flow_form.specs.Shape.{In, pairs_in, size_of}

-- the pairs that pass a test
abbrev pub Passing : (ℕ → ℕ → Bool) → Pairs
Passing test row atom = IsTrue (test row atom)

-- the least solution from a base
pub record IsLeastSolution (rules : List Rule) (base : ℕ → ℕ → Bool) : Type 0 where
  -- it has the base, and all that the rules give in it
  pub has_base : Within (Passing base) (LeastFrom rules (Passing base))
  pub closed : Closed rules (LeastFrom rules (Passing base))
  -- it is within every other such set
  pub least :
      (test : ℕ → ℕ → Bool) → Within (Passing base) (Passing test) → Closed rules (Passing test)
      → Within (LeastFrom rules (Passing base)) (Passing test)
  -- the first plain step that adds nothing ends in it
  pub repeats :
      (steps : ℕ) → Within (Stage rules (Passing base) (suc steps)) (Stage rules (Passing base) steps)
      → SameSet (LeastFrom rules (Passing base)) (Stage rules (Passing base) steps)
  -- a base within the least solution leads to the same one
  pub restarts :
      Within (Passing base) (Least rules) → SameSet (LeastFrom rules (Passing base)) (Least rules)

-- more words that are a plain step of words hold more pairs, unless the words are closed
abbrev pub StepGrows : Constraints → (words more : List ℕ) → Type 0
StepGrows c words more =
    length words ≡ size_of c → length more ≡ size_of c → SameSet (In c more) (Plain c.rules (In c words))
    → ¬ Closed c.rules (In c words) → pairs_in words < pairs_in more
