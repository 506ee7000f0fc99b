-- What a block needs of the procedures around it, where it is known what is free in each procedure.
use Rattle.std.specs.Prelude.{ℕ, List, [], ◌++◌, slice_get}
use Rattle.std.specs.List.{filter}
use Rattle.scheme_base.specs.Operations.{item_or}
use Rattle.named_form.specs.Code.{Code, Ends, Then, Act, If, has, needs, option_list}
use Rattle.named_form.specs.Valid.{numbers_from}

-- the list of this number, if there is one
abbrev pub listed : List (List ℕ) → ℕ → List ℕ
listed lists q = item_or [] (slice_get lists q)

abbrev mutual
  -- the variables that a block reads, its arms among it, and those that are free in the procedures of which it
  -- makes closures
  pub needs_in : {L : Type 0} → (free : ℕ → List ℕ) → Code L → List ℕ
  needs_in free (Ends value) = option_list value
  needs_in free (Then l vars act rest) = needs free act ++ (arms_need free act ++ needs_in free rest)

  pub arms_need : {L : Type 0} → (free : ℕ → List ℕ) → Act L → List ℕ
  arms_need free (If test this that) = needs_in free this ++ needs_in free that
  arms_need free act = []

-- the numbers below this one that a list has, in order
abbrev pub among : (below : ℕ) → List ℕ → List ℕ
among below xs = filter (has xs) (numbers_from 0 below)
