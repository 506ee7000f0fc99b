-- The numbers of levels are those that are given, and are restored.
use Rattle.std.proofs.Common.{◌≡◌, ℕ, suc, ◌+◌, List, [], ◌∷◌, ◌++◌, reverse, Bool, true, false, if◌then◌else◌, refl, sym, ap, subst, ◌∙◌, arith, eqb-true}
use Rattle.std.specs.Prelude.{nat_eq, map}
use Rattle.std.specs.Borrow.{Bor}
use Rattle.scheme_base.specs.declared.lit.Lit.{Lit}
use Rattle.core_form.specs.declared.program.Var.{Var}
use Rattle.core_form.specs.Trees.{Tree}
use Rattle.draft_form.specs.declared.draft.Variable.{Variable}
use Rattle.draft_form.specs.declared.draft.Variable.TheVariants as variable
use Rattle.draft_form.specs.declared.level.Levels.{Levels}
use Rattle.draft_form.specs.declared.level.Visit.{Visit}
use Rattle.draft_form.specs.declared.level.Visit.TheVariants.{Restore}
use Rattle.draft_form.specs.Drafts.{Name, Local, Fresh, Top, Library}
use Rattle.draft_form.specs.Drawn.{name_of}
use Rattle.draft_form.specs.Numbers.{Given, give, give_all, fresh_in}
use Rattle.draft_form.specs.Numbering.{number_in, Gives, Walk, Expects, NumbersAll}
use Rattle.draft_form.proofs.Reversed.{reversed_last}

-- One variable

restored : (g : Given) (level m n other : ℕ) → m ≡ g level → give (give g level n) level m other ≡ g other
restored g level m n other e = by_test (nat_eq other level) refl
  where
    by_test : (b : Bool) → nat_eq other level ≡ b → (if b then m else (if b then n else g other)) ≡ g other
    by_test true h = e ∙ ap g (sym (eqb-true other level h))
    by_test false h = refl

pub fresh_numbered : (words : List (Bor (List ℕ))) (level : ℕ) (before after : Levels) (visits later : List Visit) (g : Given)
    → after.fresh ≡ suc before.fresh
    → ((f : Given) → Gives before.numbers.items f → Gives after.numbers.items (give f level (suc before.fresh)))
    → later ≡ visits ++ Restore level (number_in before.numbers.items level) ∷ [] → Gives before.numbers.items g
    → NumbersAll words (variable.Fresh level ∷ []) before after visits later g
fresh_numbered words level before after visits later g e gives f h =
    let n : ℕ = suc before.fresh in
    let m : ℕ = number_in before.numbers.items level in
    let P : Walk → List Lit → ℕ → List (Tree Var) → List Visit → Type 0 = λ w lits k ds vs. Expects w vs (give g level n) lits k ds in
    record {
      gives = gives g h;
      fresh = omega (arith, e);
      expects = λ w lits k ds x.
          subst (P w lits k ds) (sym (ap reverse f ∙ reversed_last visits (Restore level m)))
          (g, (λ other. restored g level m n other (h level)), x);
    }

pub local_numbered : (words : List (Bor (List ℕ))) (level word : ℕ) (levels : Levels) (visits : List Visit) (g : Given)
    → Gives levels.numbers.items g → NumbersAll words (variable.Local level word ∷ []) levels levels visits visits g
local_numbered words level word levels visits g h = record { gives = h; fresh = omega arith; expects = λ w lits k ds x. x }

pub top_numbered : (words : List (Bor (List ℕ))) (word : ℕ) (levels : Levels) (visits : List Visit) (g : Given)
    → Gives levels.numbers.items g → NumbersAll words (variable.Top word ∷ []) levels levels visits visits g
top_numbered words word levels visits g h = record { gives = h; fresh = omega arith; expects = λ w lits k ds x. x }

pub library_numbered : (words : List (Bor (List ℕ))) (word : ℕ) (levels : Levels) (visits : List Visit) (g : Given)
    → Gives levels.numbers.items g → NumbersAll words (variable.Library word ∷ []) levels levels visits visits g
library_numbered words word levels visits g h = record { gives = h; fresh = omega arith; expects = λ w lits k ds x. x }

pub none_numbered : (words : List (Bor (List ℕ))) (levels : Levels) (visits : List Visit) (g : Given)
    → Gives levels.numbers.items g → NumbersAll words [] levels levels visits visits g
none_numbered words levels visits g h = record { gives = h; fresh = omega arith; expects = λ w lits k ds x. x }

pub same_variable : (words : List (Bor (List ℕ))) (v x : Variable) (before after : Levels) (visits later : List Visit) (g : Given) → v ≡ x
    → NumbersAll words (x ∷ []) before after visits later g → NumbersAll words (v ∷ []) before after visits later g
same_variable words v x before after visits later g e h =
    let P : Variable → Type 0 = λ y. NumbersAll words (y ∷ []) before after visits later g in subst P (sym e) h

-- Variables one after another

give_all-append : (g : Given) (n : ℕ) (xs ys : List Name) → give_all g n (xs ++ ys) ≡ give_all (give_all g n xs) (n + fresh_in xs) ys
give_all-append g n [] ys = let m : n ≡ n + 0 = omega arith in ap (λ k. give_all g k ys) m
give_all-append g n (Local k x ∷ xs) ys = give_all-append g n xs ys
give_all-append g n (Fresh k ∷ xs) ys =
    let m : suc n + fresh_in xs ≡ n + suc (fresh_in xs) = omega arith in
    give_all-append (give g k (suc n)) (suc n) xs ys
    ∙ ap (λ i. give_all (give_all (give g k (suc n)) (suc n) xs) i ys) m
give_all-append g n (Top x ∷ xs) ys = give_all-append g n xs ys
give_all-append g n (Library x ∷ xs) ys = give_all-append g n xs ys

fresh-append : (xs ys : List Name) → fresh_in (xs ++ ys) ≡ fresh_in xs + fresh_in ys
fresh-append [] ys = omega arith
fresh-append (Local k x ∷ xs) ys = fresh-append xs ys
fresh-append (Fresh k ∷ xs) ys = let h = fresh-append xs ys in omega (arith, h)
fresh-append (Top x ∷ xs) ys = fresh-append xs ys
fresh-append (Library x ∷ xs) ys = fresh-append xs ys

names-append : (words : List (Bor (List ℕ))) (vs : List Variable) (v : Variable)
    → map (name_of words) (vs ++ v ∷ []) ≡ map (name_of words) vs ++ name_of words v ∷ []
names-append words [] v = refl
names-append words (x ∷ vs) v = ap (λ l. name_of words x ∷ l) (names-append words vs v)

pub numbered_then : (words : List (Bor (List ℕ))) (vs all : List Variable) (v : Variable) (a b c : Levels) (visits middle later : List Visit) (g : Given)
    → all ≡ vs ++ v ∷ [] → NumbersAll words vs a b visits middle g
    → ((h : Given) → Gives b.numbers.items h → NumbersAll words (v ∷ []) b c middle later h)
    → NumbersAll words all a c visits later g
numbered_then words vs all v a b c visits middle later g e first next =
    let xs : List Name = map (name_of words) vs in
    let x : Name = name_of words v in
    let h : Given = give_all g a.fresh xs in
    let last : NumbersAll words (v ∷ []) b c middle later h = next h first.gives in
    let names : map (name_of words) all ≡ xs ++ x ∷ [] = ap (map (name_of words)) e ∙ names-append words vs v in
    let given : give_all h b.fresh (x ∷ []) ≡ give_all g a.fresh (map (name_of words) all) =
    ap (λ k. give_all h k (x ∷ [])) first.fresh
    ∙ (sym (give_all-append g a.fresh xs (x ∷ [])) ∙ ap (give_all g a.fresh) (sym names)) in
    let P : Given → Type 0 = λ f. Gives c.numbers.items f in
    let counts : fresh_in (map (name_of words) all) ≡ fresh_in xs + fresh_in (x ∷ []) = ap fresh_in names ∙ fresh-append xs (x ∷ []) in
    record {
      gives = subst P given last.gives;
      fresh = omega (arith, last.fresh, first.fresh, counts);
      expects = λ w lits k ds y.
          let Q : Given → Type 0 = λ f. Expects w (reverse later) f lits k ds in
          subst Q given (last.expects w lits k ds (first.expects w lits k ds y));
    }
