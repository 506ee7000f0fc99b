-- The views from which the clauses of a `cond` and of a `case` are made, the last first.
use Rattle.std.specs.Prelude.{ℕ, suc, ◌≡◌, List, [], ◌∷◌, Option, Some, None, Bool, true, false}
use Rattle.std.specs.Borrow.{Bor}
use Rattle.scheme_base.specs.declared.pos.Pos.{Pos}
use Rattle.draft_form.specs.Drawn.{Names}
use Rattle.scheme_expand.specs.declared.scope.Scope.{Scope as Variables}
use Rattle.scheme_expand.specs.declared.step.Step.{Step}
use Rattle.scheme_expand.specs.declared.step.Step.TheVariants as step
use Rattle.scheme_expand.specs.Forms.{Clauses, Cases, no_clause, otherwise, value, clause, passing, no_case, others, one_of}
use Rattle.scheme_expand.specs.Rewriting.{unspecified, unnamed}
use Rattle.scheme_expand.specs.Viewed.{AreWords, IsScope}
use Rattle.scheme_expand.specs.Views.{View, Bound, bind, put_inside, pushed}

-- how many values of tests are held by fresh variables
abbrev pub held_values : Clauses → ℕ
held_values no_clause = 0
held_values (otherwise es) = 0
held_values (value test cs) = suc (held_values cs)
held_values (clause test es cs) = held_values cs
held_values (passing test e cs) = suc (held_values cs)

abbrev pub clauses_end : Clauses → Bool
clauses_end no_clause = false
clauses_end (otherwise es) = true
clauses_end (value test cs) = clauses_end cs
clauses_end (clause test es cs) = clauses_end cs
clauses_end (passing test e cs) = clauses_end cs

abbrev pub cases_end : Cases → Bool
cases_end no_case = false
cases_end (others es) = true
cases_end (one_of constants es cs) = cases_end cs

-- what stands where no clause is chosen, if none begins with `else`
abbrev pub ended : Pos → (ends : Bool) → View → View
ended p true v = v
ended p false v = pushed (unspecified p) v

-- the fresh variables of the clauses are bound
abbrev pub before_clauses : Pos → Clauses → View → View
before_clauses p cs v = ended p (clauses_end cs) (bind (unnamed (held_values cs)) v)

abbrev pub before_cases : Pos → Cases → View → View
before_cases p cs v = ended p (cases_end cs) v

-- the values of tests are held by fresh variables, and it is known whether the clauses end with `else`
pub record Holds (cs : Clauses) (ends : Bool) (before after : Variables) : Type 0 where
  pub ends_so : ends ≡ clauses_end cs
  pub bound : (names : Names) (bs : List Bound) → AreWords names → IsScope names before bs
      → IsScope names after (put_inside (unnamed (held_values cs)) bs)

-- the steps that test whether the key of a `case` is one of some data, which are none after `else`
abbrev pub key_tests : Pos → Option (Bor (List ℕ)) → (level : ℕ) → List Step
key_tests p None k = []
key_tests p (Some ids) k = step.Branch p ∷ step.IsAmong p ids k ∷ []
