-- What is known of the lists of a program's procedures: the variables that are free in each, those to which it refers,
-- the procedures of which it makes closures, and what it needs.
use Rattle.std.specs.Prelude.{ℕ, ◌≡◌, ◌<◌, List, true, length}
use Rattle.std.specs.List.{filter}
use Rattle.flow_form.specs.declared.rows.Rows.{Rows}
use Rattle.least_set.specs.Least.{has}
use Rattle.least_set.specs.Search.{listed}
use Rattle.named_form.specs.PlainPlan.{all_free, var_count}
use Rattle.named_form.specs.Valid.{Form}
use Rattle.plan_facts.specs.Places.{facts_of}
use Rattle.plan_facts.specs.Slotted.{MakesOf, Refers, is_free}
use Rattle.slot_facts.specs.Needs.{MakesLater, wanted}

pub record Known (f : Form) (rows : Rows) (free references makings needed : List (List ℕ)) : Type 0 where
  pub free_many : length free ≡ length f.procs
  pub free_is : (q x : ℕ) → has (listed free q) x ≡ is_free f q x
  pub free_below : (q x : ℕ) → has (listed free q) x ≡ true → x < var_count f.procs
  pub referred : (q x : ℕ) → q < length f.procs → Refers f (facts_of f rows) q x → has (listed references q) x ≡ true
  pub refers : (q x : ℕ) → has (listed references q) x ≡ true → Refers f (facts_of f rows) q x
  pub made : (q r : ℕ) → q < length f.procs → MakesOf (facts_of f rows) q r → has (listed makings q) r ≡ true
  pub makes : (q r : ℕ) → has (listed makings q) r ≡ true → MakesOf (facts_of f rows) q r
  pub later : MakesLater makings
  pub needed_many : length needed ≡ length free
  pub needed_is :
      (q : ℕ) → q < length free
      → listed needed q ≡ filter (has (wanted (listed references q) (listed makings q) needed)) (listed free q)

-- for each procedure what it needs
pub record NeedOf (f : Form) (rows : Rows) (needed : List (List ℕ)) : Type 0 where
  pub free : List (List ℕ)
  pub free_are : free ≡ all_free f.procs
  pub references : List (List ℕ)
  pub makings : List (List ℕ)
  pub known : Known f rows free references makings needed
