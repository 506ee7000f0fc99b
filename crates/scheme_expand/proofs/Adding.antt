-- What is due is put down step by step.
use Rattle.std.proofs.Common.{◌≡◌, List, [], ◌∷◌, ◌++◌, Option, Some, None, refl, sym, ap, subst, ◌∙◌, append_assoc}
use Rattle.std.proofs.lemmas.List.{append-nil}
use Rattle.scheme_expand.specs.declared.source.Source.{Source}
use Rattle.scheme_expand.specs.declared.step.Step.{Step}
use Rattle.scheme_expand.specs.declared.expander.Expander.{Expander}
use Rattle.scheme_expand.specs.Faults.{Fault}
use Rattle.scheme_expand.specs.Noted.{noted}
use Rattle.scheme_expand.specs.Waiting.{earlier, Waits, AllWait, Adds, Keeps}
use Rattle.scheme_expand.proofs.Least.{earlier_none, earlier_comm, earlier_assoc}

-- Steps

pub wait_append : (s : Source) (xs ys : List Step) (a b : Option Fault) → AllWait s xs a → AllWait s ys b
    → AllWait s (xs ++ ys) (earlier a b)
wait_append s [] ys a b p q = let P : Option Fault → Type 0 = λ x. AllWait s ys (earlier x b) in subst P (sym p) q
wait_append s (x ∷ xs) ys a b p q = (
  p.0,
  earlier p.1 b,
  p.2,
  wait_append s xs ys p.1 b p.3 q,
  ap (λ x. earlier x b) p.4 ∙ earlier_assoc p.0 p.1 b,
)

pub one_waits : (s : Source) (one : Step) (a : Option Fault) → Waits s one a → AllWait s (one ∷ []) a
one_waits s one a p = (a, None, p, refl, sym (earlier_none a))

pub two_wait : (s : Source) (one two : Step) (a b : Option Fault) → Waits s one a → Waits s two b
    → AllWait s (one ∷ two ∷ []) (earlier a b)
two_wait s one two a b p q = (a, b, p, one_waits s two b q, refl)

-- the last of some steps, and those before it
pub last_waits : (s : Source) (xs : List Step) (one : Step) (a : Option Fault) → AllWait s (xs ++ one ∷ []) a
    → (b : Option Fault) × (c : Option Fault) × AllWait s xs b × Waits s one c × (a ≡ earlier b c)
last_waits s [] one a p =
    (None, p.0, refl, p.2, p.4 ∙ (ap (earlier p.0) p.3 ∙ earlier_none p.0))
last_waits s (x ∷ xs) one a p =
    let r = last_waits s xs one p.1 p.3 in (
      earlier p.0 r.0,
      r.1,
      (p.0, r.0, p.2, r.2, refl),
      r.3,
      p.4 ∙ (ap (earlier p.0) r.4 ∙ sym (earlier_assoc p.0 r.0 r.1)),
    )

-- Calls, one after another

pub kept : (a b : Expander) → Keeps a b → Adds a b None
kept a b k = record {
  source = k.source;
  put = [];
  steps = ap (λ v. v.items) k.steps ∙ sym (append-nil a.steps.items);
  later = None;
  waiting = refl;
  total = ap (λ f. earlier (noted f) None) k.fault;
}

pub nothing : (a : Expander) → Adds a a None
nothing a = kept a a (record { source = refl; steps = refl; fault = refl })

pub due : (a b : Expander) (x y : Option Fault) → x ≡ y → Adds a b x → Adds a b y
due a b x y e p = let P : Option Fault → Type 0 = λ z. Adds a b z in subst P e p

-- what is noted and waits at last, when the first two parts of it are as they were due
totals : (a b c p q x y : Option Fault) → earlier b p ≡ earlier a x → earlier c q ≡ earlier b y
    → earlier c (earlier p q) ≡ earlier a (earlier x y)
totals a b c p q x y e f =
    ap (earlier c) (earlier_comm p q)
    ∙ (sym (earlier_assoc c q p)
    ∙ (ap (λ z. earlier z p) f
    ∙ (earlier_assoc b y p
    ∙ (ap (earlier b) (earlier_comm y p)
    ∙ (sym (earlier_assoc b p y) ∙ (ap (λ z. earlier z y) e ∙ earlier_assoc a x y))))))

pub both : (a b c : Expander) (x y : Option Fault) → Adds a b x → Adds b c y → Adds a c (earlier x y)
both a b c x y p q =
    let P : Source → Type 0 = λ s. AllWait s q.put q.later in
    record {
      source = q.source ∙ p.source;
      put = p.put ++ q.put;
      steps = q.steps ∙ (ap (λ l. l ++ q.put) p.steps ∙ append_assoc a.steps.items p.put q.put);
      later = earlier p.later q.later;
      waiting = wait_append a.source p.put q.put p.later q.later p.waiting (subst P p.source q.waiting);
      total = totals (noted a.fault) (noted b.fault) (noted c.fault) p.later q.later x y p.total q.total;
    }

-- the second call has nothing that is due
pub both_kept : (a b c : Expander) (x : Option Fault) → Adds a b x → Keeps b c → Adds a c x
both_kept a b c x p k = due a c (earlier x None) x (earlier_none x) (both a b c x None p (kept b c k))

pub kept_both : (a b c : Expander) (x : Option Fault) → Keeps a b → Adds b c x → Adds a c x
kept_both a b c x k p = both a b c None x (kept a b k) p

-- steps are put behind the others
pub waiting : (a b : Expander) (put : List Step) (x : Option Fault) → b.source ≡ a.source → b.fault ≡ a.fault
    → b.steps.items ≡ a.steps.items ++ put → AllWait a.source put x → Adds a b x
waiting a b put x source fault steps w = record {
  source = source;
  put = put;
  steps = steps;
  later = x;
  waiting = w;
  total = ap (λ f. earlier (noted f) x) fault;
}

-- a fault is noted
pub noting : (a b : Expander) (f : Fault) → b.source ≡ a.source → b.steps ≡ a.steps
    → noted b.fault ≡ earlier (Some f) (noted a.fault) → Adds a b (Some f)
noting a b f source steps e = record {
  source = source;
  put = [];
  steps = ap (λ v. v.items) steps ∙ sym (append-nil a.steps.items);
  later = None;
  waiting = refl;
  total = earlier_none (noted b.fault) ∙ (e ∙ earlier_comm (Some f) (noted a.fault));
}
