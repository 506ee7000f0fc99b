-- Steps that are put one after another.
use Rattle.std.proofs.Common.{◌≡◌, ℕ, suc, ◌+◌, nat_eq, cond, List, [], ◌∷◌, ◌++◌, Option, None, Some, Bool, true, false, refl, sym, ap, subst, ◌∙◌, append_assoc, append-nil, arith}
use Rattle.std.specs.Map.{lookup}
use Rattle.indexmap.specs.IndexMap.{get}
use Rattle.scheme_base.specs.declared.pos.Pos.{Pos}
use Rattle.named_form.specs.declared.program.Step.{Step}
use Rattle.named_form.specs.Code.{Code, Then, Act}
use Rattle.named_form.specs.Written.{Onto}
use Rattle.box_name.specs.declared.namer.Namer.{Namer}
use Rattle.box_name.specs.Naming.{Setting, found, place}
use Rattle.box_name.specs.NamingSteps.{linked, PutsStep, Binds, with_next, Agrees, Notes, Emits}

-- Places

pub earlier : (s : Setting) (a b : Namer) (P : List (ℕ × ℕ)) → b.vars.entries ≡ a.vars.entries ++ P → Agrees b s → Agrees a s
earlier s a b P h agrees =
    (P ++ agrees.0, agrees.1 ∙ (ap (λ u. u ++ agrees.0) h ∙ append_assoc a.vars.entries P agrees.0))

lookup_first : (x v : ℕ) (ps qs : List (ℕ × ℕ)) → lookup (nat_eq x) ps ≡ Some v → lookup (nat_eq x) (ps ++ qs) ≡ Some v
lookup_first x v [] qs h = absurd (cc)
lookup_first x v (p ∷ ps) qs h = by (nat_eq x p.0) (lookup (nat_eq x) ps) (lookup (nat_eq x) (ps ++ qs)) (lookup_first x v ps qs) h
  where
    by : (t : Bool) (l r : Option ℕ) → (l ≡ Some v → r ≡ Some v) → cond t (Some p.1) l ≡ Some v → cond t (Some p.1) r ≡ Some v
    by true l r f g = g
    by false l r f g = f g

-- a variable is found where it was noted
pub found_at : (s : Setting) (a : Namer) (x v : ℕ) → get nat_eq a.vars x ≡ Some v → Agrees a s → place s.places x ≡ v
found_at s a x v h agrees =
    ap (λ ps. found (lookup (nat_eq x) ps)) agrees.1 ∙ ap found (lookup_first x v a.vars.entries agrees.0 h)

-- Notes

pub notes_then : (a b c : Namer) (P Q : List (ℕ × ℕ)) (n p m q : ℕ) → Notes a b P n p → Notes b c Q m q → Notes a c (P ++ Q) m q
notes_then a b c P Q n p m q h k = record {
  entries = k.entries ∙ (ap (λ u. u ++ Q) h.entries ∙ append_assoc a.vars.entries P Q);
  next_var = k.next_var;
  next_proc = k.next_proc;
}

-- nothing was noted
pub notes_none : (a b : Namer) (n p : ℕ) → b.vars ≡ a.vars → b.next_var ≡ n → b.next_proc ≡ p → Notes a b [] n p
notes_none a b n p same h k = record {
  entries = ap (λ m. m.entries) same ∙ sym (append-nil a.vars.entries);
  next_var = h;
  next_proc = k;
}

pub next_is : (n m : ℕ) → n ≡ m → n + 1 ≡ suc m
next_is n m h = omega (arith, h)

pub notes_next : (a b : Namer) (n p : ℕ) → a.next_var ≡ n → a.next_proc ≡ p → b ≡ with_next a → Notes a b [] (suc n) p
notes_next a b n p h k next =
    notes_none a b (suc n) p (ap (λ u. u.vars) next) (ap (λ u. u.next_var) next ∙ next_is a.next_var n h)
    (ap (λ u. u.next_proc) next ∙ k)

pub notes_as : (a b : Namer) (P Q : List (ℕ × ℕ)) (n m p q : ℕ) → P ≡ Q → n ≡ m → p ≡ q → Notes a b P n p → Notes a b Q m q
notes_as a b P Q n m p q noted vars procs h = record {
  entries = h.entries ∙ ap (λ u. a.vars.entries ++ u) noted;
  next_var = h.next_var ∙ vars;
  next_proc = h.next_proc ∙ procs;
}

-- the same from a naming with another next procedure
pub notes_from : (a a1 b : Namer) (P : List (ℕ × ℕ)) (n p : ℕ) → a1.vars ≡ a.vars → Notes a1 b P n p → Notes a b P n p
notes_from a a1 b P n p same h = record {
  entries = h.entries ∙ ap (λ m. m.entries ++ P) same;
  next_var = h.next_var;
  next_proc = h.next_proc;
}

-- Steps

pub emits_then : (s : Setting) (a b c : Namer) (x y z : List Step) (P Q : List (ℕ × ℕ)) (n p m q : ℕ) (f g : Onto)
    → Emits s a b x y P n p f → Emits s b c y z Q m q g → Emits s a c x z (P ++ Q) m q (λ rest. f (g rest))
emits_then s a b c x y z P Q n p m q f g h k = record {
  notes = notes_then a b c P Q n p m q h.notes k.notes;
  puts = λ agrees rest. k.puts agrees rest ∙ h.puts (earlier s b c Q k.notes.entries agrees) (g rest);
}

pub emits_as : (s : Setting) (a b : Namer) (x y : List Step) (P Q : List (ℕ × ℕ)) (n m p q : ℕ) (f g : Onto) → P ≡ Q → n ≡ m → p ≡ q
    → (Agrees b s → (rest : Code Pos) → f rest ≡ g rest) → Emits s a b x y P n p f → Emits s a b x y Q m q g
emits_as s a b x y P Q n m p q f g noted vars procs same h = record {
  notes = notes_as a b P Q n m p q noted vars procs h.notes;
  puts = λ agrees rest. h.puts agrees rest ∙ ap (linked x) (same agrees rest);
}

-- nothing was put
pub emits_none : (s : Setting) (a b : Namer) (x y : List Step) (P : List (ℕ × ℕ)) (n p : ℕ) → y ≡ x → Notes a b P n p
    → Emits s a b x y P n p (λ rest. rest)
emits_none s a b x y P n p still h = record { notes = h; puts = λ agrees rest. ap (λ u. linked u rest) still }

pub emits_step : (s : Setting) (a b : Namer) (x y : List Step) (P : List (ℕ × ℕ)) (n p : ℕ) (q : Pos) (vars : List ℕ) (act : Act Pos)
    → Notes a b P n p → PutsStep x y q vars act → Emits s a b x y P n p (λ rest. Then q vars act rest)
emits_step s a b x y P n p q vars act h put = record { notes = h; puts = λ agrees rest. put rest }

-- one step was put that binds the next variable
pub emits_next : (s : Setting) (a b : Namer) (x y : List Step) (n p : ℕ) (q : Pos) (act : Act Pos) (v : ℕ) → a.next_var ≡ n
    → a.next_proc ≡ p → Binds a b x y q act v
    → Emits s a b x y [] (suc n) p (λ rest. Then q (n ∷ []) act rest)
emits_next s a b x y n p q act v h k bound =
    emits_step s a b x y [] (suc n) p q (n ∷ []) act (notes_next a b n p h k bound.next)
    (subst (λ w. PutsStep x y q (w ∷ []) act) h bound.step)

-- a step that binds the next variable was put behind others
pub finish : (s : Setting) (a b c : Namer) (x y z : List Step) (P : List (ℕ × ℕ)) (m p : ℕ) (f : Onto) (q : Pos) (made act : Act Pos) (v : ℕ)
    → Emits s a b x y P m p f → Binds b c y z q made v → (Agrees b s → made ≡ act)
    → Emits s a c x z P (suc m) p (λ rest. f (Then q (m ∷ []) act rest))
finish s a b c x y z P m p f q made act v h bound same =
    let last = emits_next s b c y z m p q made v h.notes.next_var h.notes.next_proc bound in
    emits_as s a c x z (P ++ []) P (suc m) (suc m) p p (λ rest. f (Then q (m ∷ []) made rest))
    (λ rest. f (Then q (m ∷ []) act rest)) (append-nil P) refl refl
    (λ agrees rest. ap (λ u. f (Then q (m ∷ []) u rest)) (same (earlier s b c [] last.notes.entries agrees)))
    (emits_then s a b c x y z P [] m p (suc m) p f (λ rest. Then q (m ∷ []) made rest) h last)
