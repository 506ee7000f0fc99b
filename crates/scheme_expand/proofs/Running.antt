-- What is left to be done, turn by turn.
use Rattle.std.proofs.Common.{Bor, ℕ, ◌≡◌, List, [], ◌∷◌, ◌++◌, Option, None, refl, sym, ap, subst, ◌∙◌}
use Rattle.scheme_expand.specs.declared.source.Source.{Source}
use Rattle.scheme_base.specs.declared.pos.Pos.{Pos}
use Rattle.scheme_expand.specs.declared.step.Step.{Step}
use Rattle.scheme_expand.specs.declared.step.Step.TheVariants as step
use Rattle.scheme_expand.specs.declared.expander.Expander.{Expander}
use Rattle.scheme_expand.specs.Faults.{Fault}
use Rattle.scheme_expand.specs.Noted.{noted}
use Rattle.scheme_expand.specs.Waiting.{earlier, Waits, AllWait, Adds, Done}
use Rattle.scheme_expand.proofs.Adding.{wait_append, last_waits}
use Rattle.scheme_expand.proofs.Least.{earlier_none, earlier_swap}

-- Turns

-- what was due before is noted or waits
pub record Left (before now : Expander) (due : Option Fault) : Type 0 where
  pub source : now.source ≡ before.source
  pub later : Option Fault
  pub waiting : AllWait before.source now.steps.items later
  pub total : earlier (noted now.fault) later ≡ earlier (noted before.fault) due

pub all_left : (a : Expander) (due : Option Fault) → AllWait a.source a.steps.items due → Left a a due
all_left a due w = record { source = refl; later = due; waiting = w; total = refl }

totals : (n m b c later q whole : Option Fault) → later ≡ earlier b c → earlier n later ≡ whole
    → earlier m q ≡ earlier n c → earlier m (earlier b q) ≡ whole
totals n m b c later q whole e f g =
    earlier_swap m b q
    ∙ (ap (earlier b) g ∙ (earlier_swap b n c ∙ (ap (earlier n) (sym e) ∙ f)))

-- the last step is taken and done
pub one_done : (a now popped after : Expander) (one : Step) (due : Option Fault) → Left a now due
    → now.steps.items ≡ popped.steps.items ++ one ∷ [] → popped.source ≡ now.source → popped.fault ≡ now.fault
    → ((x : Option Fault) → Waits popped.source one x → Adds popped after x) → Left a after due
one_done a now popped after one due i items source fault step =
    let P : List Step → Type 0 = λ l. AllWait a.source l i.later in
    let r = last_waits a.source popped.steps.items one i.later (subst P items i.waiting) in
    let same : popped.source ≡ a.source = source ∙ i.source in
    let Q : Source → Type 0 = λ s. Waits s one r.1 in
    let p = step r.1 (subst Q (sym same) r.3) in
    let R : Source → Type 0 = λ s. AllWait s p.put p.later in
    let S : List Step → Type 0 = λ l. AllWait a.source l (earlier r.0 p.later) in
    record {
      source = p.source ∙ same;
      later = earlier r.0 p.later;
      waiting = subst S (sym p.steps) (wait_append a.source popped.steps.items p.put r.0 p.later r.2 (subst R same p.waiting));
      total =
          totals (noted now.fault) (noted after.fault) r.0 r.1 i.later p.later (earlier (noted a.fault) due) r.4 i.total
          (p.total ∙ ap (λ f. earlier (noted f) r.1) fault);
    }

-- no step waits
pub all_done : (a now : Expander) (due : Option Fault) → Left a now due → now.steps.items ≡ [] → Done a now due
all_done a now due i e =
    let P : List Step → Type 0 = λ l. AllWait a.source l i.later in
    let n : i.later ≡ None = subst P e i.waiting in
    record {
      source = i.source;
      steps = e;
      total = sym (earlier_none (noted now.fault)) ∙ (ap (earlier (noted now.fault)) (sym n) ∙ i.total);
    }

-- Steps

pub waits_as : (s : Source) (x y : Step) (due : Option Fault) → x ≡ y → Waits s x due → Waits s y due
waits_as s x y due e w = let P : Step → Type 0 = λ z. Waits s z due in subst P e w

-- a step that waits for no data has no fault
pub idle_step : (s : Source) (x : Step) (due : Option Fault) → ((id : ℕ) → x ≡ step.Expr id → ⊥)
    → ((ids : Bor (List ℕ)) → x ≡ step.Exprs ids → ⊥) → ((id : ℕ) → x ≡ step.Defined id → ⊥)
    → ((p : Pos) (ids : Bor (List ℕ)) → x ≡ step.Conjuncts p ids → ⊥)
    → ((p : Pos) (ids : Bor (List ℕ)) (k : ℕ) → x ≡ step.Alternatives p ids k → ⊥)
    → ((p : Pos) (ids : Bor (List ℕ)) (k : ℕ) → x ≡ step.Clauses p ids k → ⊥)
    → ((p : Pos) (ids : Bor (List ℕ)) (k : ℕ) → x ≡ step.Cases p ids k → ⊥) → Waits s x due → due ≡ None
idle_step s (step.Expr id) due a b c d e f g w = absurd (a id refl)
idle_step s (step.Exprs ids) due a b c d e f g w = absurd (b ids refl)
idle_step s (step.Defined id) due a b c d e f g w = absurd (c id refl)
idle_step s (step.Conjuncts p ids) due a b c d e f g w = absurd (d p ids refl)
idle_step s (step.Alternatives p ids k) due a b c d e f g w = absurd (e p ids k refl)
idle_step s (step.Clauses p ids k) due a b c d e f g w = absurd (f p ids k refl)
idle_step s (step.Cases p ids k) due a b c d e f g w = absurd (g p ids k refl)
idle_step s x due a b c d e f g w = w
