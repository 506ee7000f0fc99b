-- What is seen after a variable is bound, and after it is left.
use Rattle.std.proofs.Common.{◌≡◌, ◌≤◌, List, [], ◌∷◌, ◌++◌, ℕ, suc, Bool, true, false, cond, Option, Some, map, reverse, length, refl, sym, ap, ◌∙◌, arith}
use Rattle.std.proofs.lemmas.List.{reverse-append, length-append, length-map, length-reverse}
use Rattle.std.specs.Map.{lookup}
use Rattle.indexmap.specs.IndexMap.{get}
use Rattle.core_form.specs.declared.program.Var.{Var}
use Rattle.core_form.specs.Source.{Scope}
use Rattle.core_form.specs.Variables.{same_var}
use Rattle.alpha_core.specs.declared.name.Name.{Name}
use Rattle.alpha_core.specs.declared.scope.Binding.{Binding}
use Rattle.alpha_core.specs.declared.scope.Scope.{Scope as Held}
use Rattle.alpha_core.specs.Names.{var_of, same_name}
use Rattle.alpha_core.specs.ScopesHeld.{seen, outers, flat, Shows}
use Rattle.alpha_core.proofs.Names.{name_decides, name_tells}

last_first : (items rest : List Binding) (b : Binding) → items ≡ rest ++ b ∷ [] → reverse items ≡ b ∷ reverse rest
last_first items rest b h = ap reverse h ∙ reverse-append rest (b ∷ [])

seen_last : (items rest : List Binding) (b : Binding) → items ≡ rest ++ b ∷ []
    → seen items ≡ (b.var.now, b.number) ∷ seen rest
seen_last items rest b h = ap (λ bs. map (λ c. (c.var.now, c.number)) bs) (last_first items rest b h)

outer_last : (items rest : List Binding) (b : Binding) → items ≡ rest ++ b ∷ []
    → map (λ c. c.outer) (reverse items) ≡ b.outer ∷ map (λ c. c.outer) (reverse rest)
outer_last items rest b h = ap (λ bs. map (λ c. c.outer) bs) (last_first items rest b h)

found : (a b : Bool) (n : ℕ) (old : Option (Option ℕ)) (o : Option ℕ) → a ≡ b → flat old ≡ o
    → flat (cond a (Some (Some n)) old) ≡ cond b (Some n) o
found true b n old o e h = ap (λ c. cond c (Some n) o) e
found false b n old o e h = h ∙ ap (λ c. cond c (Some n) o) e

pub bound : (s t : Held) (b : Binding) (k : Name) (ρ : Scope Var) → Shows s ρ → t.bindings.items ≡ s.bindings.items ++ b ∷ []
    → var_of k ≡ b.var.now
    → ((q : Name) → get same_name t.innermost q ≡ cond (same_name k q) (Some (Some b.number)) (get same_name s.innermost q))
    → b.outer ≡ lookup (same_var b.var.now) ρ → Shows t ((b.var.now, b.number) ∷ ρ)
bound s t b k ρ h items name updates outer = record {
  bindings = seen_last t.bindings.items s.bindings.items b items ∙ ap (λ r. (b.var.now, b.number) ∷ r) h.bindings;
  outer =
      outer_last t.bindings.items s.bindings.items b items
      ∙ (ap (λ o. o ∷ map (λ c. c.outer) (reverse s.bindings.items)) outer
      ∙ ap (λ os. lookup (same_var b.var.now) ρ ∷ os) h.outer);
  innermost =
      λ q.
      ap flat (updates q)
      ∙ found (same_name k q) (same_var (var_of q) b.var.now) b.number (get same_name s.innermost q) (lookup (same_var (var_of q)) ρ)
      (name_tells k q b.var.now name)
      (h.innermost q);
}

same_head : {A : Type 0} (x y : A) (xs ys : List A) → x ∷ xs ≡ y ∷ ys → x ≡ y
same_head x y xs ys e = cc

same_tail : {A : Type 0} (x y : A) (xs ys : List A) → x ∷ xs ≡ y ∷ ys → xs ≡ ys
same_tail x y xs ys e = cc

lost : (a b : Bool) (n : ℕ) (outer : Option ℕ) (old : Option (Option ℕ)) (o : Option ℕ) → a ≡ b → (a ≡ true → outer ≡ o)
    → flat old ≡ cond b (Some n) o → flat (cond a (Some outer) old) ≡ o
lost true b n outer old o e f h = f refl
lost false b n outer old o e f h = h ∙ ap (λ c. cond c (Some n) o) (sym e)

pub unbound : (s t : Held) (b : Binding) (k : Name) (c : Var × ℕ) (ρ : Scope Var) → Shows s (c ∷ ρ)
    → s.bindings.items ≡ t.bindings.items ++ b ∷ [] → var_of k ≡ b.var.now
    → ((q : Name) → get same_name t.innermost q ≡ cond (same_name k q) (Some b.outer) (get same_name s.innermost q))
    → Shows t ρ
unbound s t b k c ρ h items name updates =
    let all = sym (seen_last s.bindings.items t.bindings.items b items) ∙ h.bindings in
    let all_outer = sym (outer_last s.bindings.items t.bindings.items b items) ∙ h.outer in
    let var : b.var.now ≡ c.0 = ap (λ p. p.0) (same_head (b.var.now, b.number) c (seen t.bindings.items) ρ all) in
    let outer = same_head b.outer (lookup (same_var c.0) ρ) (map (λ d. d.outer) (reverse t.bindings.items)) (outers ρ) all_outer in
    record {
      bindings = same_tail (b.var.now, b.number) c (seen t.bindings.items) ρ all;
      outer =
          same_tail b.outer (lookup (same_var c.0) ρ) (map (λ d. d.outer) (reverse t.bindings.items)) (outers ρ) all_outer;
      innermost =
          λ q.
          ap flat (updates q)
          ∙ lost (same_name k q) (same_var (var_of q) c.0) c.1 b.outer (get same_name s.innermost q) (lookup (same_var (var_of q)) ρ)
          (name_tells k q c.0 (name ∙ var))
          (λ e. outer ∙ ap (λ x. lookup (same_var x) ρ) (sym var ∙ (sym name ∙ (name_decides k q).0 e)))
          (h.innermost q);
    }

many : (bs : List Binding) → length (seen bs) ≡ length bs
many bs = grind (arith, length-map, length-reverse)

pub emptied : (s : Held) (left ρ : Scope Var) → Shows s (left ++ ρ) → length s.bindings.items ≤ length ρ → Shows s ρ
emptied s [] ρ h few = h
emptied s (c ∷ left) ρ h few =
    let size = sym (many s.bindings.items) ∙ ap length h.bindings in
    absurd (omega (arith, size, few, length-append left ρ))

pub left_one : (s t : Held) (b : Binding) (k : Name) (left ρ : Scope Var) → Shows s (left ++ ρ) → suc (length ρ) ≤ length s.bindings.items
    → s.bindings.items ≡ t.bindings.items ++ b ∷ [] → var_of k ≡ b.var.now
    → ((q : Name) → get same_name t.innermost q ≡ cond (same_name k q) (Some b.outer) (get same_name s.innermost q))
    → (more : Scope Var) × Shows t (more ++ ρ)
left_one s t b k [] ρ h many_left items name updates =
    let size = sym (many s.bindings.items) ∙ ap length h.bindings in
    absurd (omega (arith, size, many_left))
left_one s t b k (c ∷ left) ρ h many_left items name updates = (left, unbound s t b k c (left ++ ρ) h items name updates)
