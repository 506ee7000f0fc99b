-- What is found in a whole program is what the settings of its forms say.
use Rattle.std.proofs.Common.{◌≡◌, ℕ, suc, ◌+◌, nat_eq, nat_lt, cond, List, [], ◌∷◌, ◌++◌, map, length, position, Option, None, Some, Bool, true, false, not, ◌||◌, if◌then◌else◌, refl, sym, ap, subst, ◌∙◌, append-nil, arith}
use Rattle.std.specs.Bool.{Decides}
use Rattle.std.specs.Map.{lookup}
use Rattle.std.specs.List.{list_any, prefix_len}
use Rattle.std.proofs.lemmas.Bool.{eqb-true, eq-eqb}
use Rattle.indexmap.specs.IndexSet.{contains, insert_key}
use Rattle.core_form.specs.declared.program.Var.{Var}
use Rattle.core_form.specs.declared.program.VarRef.{VarRef}
use Rattle.core_form.specs.declared.program.Program.{Program}
use Rattle.core_form.specs.Variables.{same_var}
use Rattle.alpha_core.specs.declared.name.Name.{Name}
use Rattle.alpha_core.specs.Names.{var_of, same_name}
use Rattle.alpha_core.proofs.Names.{same_decides, name_decides}
use Rattle.box_name.specs.declared.facts.Facts.{Facts}
use Rattle.box_name.specs.declared.survey.Survey.{Survey}
use Rattle.box_name.specs.Told.{Exprs}
use Rattle.box_name.specs.Naming.{found}
use Rattle.box_name.specs.Whole.{all_assigned, all_holes, all_tops, has, is_boxed, is_sure, seen, setting, tops_of}
use Rattle.box_name.specs.Finding.{Finds, IsInside, IsSurvey}
use Rattle.box_name.specs.Fitting.{Knows, KnowsAll}
use Rattle.box_name.specs.Sureness.{is_checked}

agree : (a b : Bool) → (a ≡ true → b ≡ true) → (b ≡ true → a ≡ true) → a ≡ b
agree true b f g = sym (f refl)
agree false true f g = g refl
agree false false f g = refl

pub tells : (k j : Name) → same_name k j ≡ same_var (var_of k) (var_of j)
tells k j =
    agree (same_name k j) (same_var (var_of k) (var_of j)) (λ h. (same_decides (var_of k) (var_of j)).1 ((name_decides k j).0 h))
    (λ h. (name_decides k j).1 ((same_decides (var_of k) (var_of j)).0 h))

-- names of one variable find the same
pub found_same : {A : Type 0} (j k : Name) (es : List (Name × A)) → same_name j k ≡ true → lookup (same_name j) es ≡ lookup (same_name k) es
found_same j k [] h = refl
found_same j k (e ∷ es) h =
    let one : var_of j ≡ var_of k = (name_decides j k).0 h in
    let test : same_name j e.0 ≡ same_name k e.0 = tells j e.0 ∙ (ap (λ x. same_var x (var_of e.0)) one ∙ sym (tells k e.0)) in
    ap (λ t. cond t (Some e.1) (lookup (same_name j) es)) test ∙ ap (λ o. cond (same_name k e.0) (Some e.1) o) (found_same j k es h)

any_is : (k : Name) (js : List Name) → list_any (same_name k) js ≡ list_any (same_var (var_of k)) (map var_of js)
any_is k [] = refl
any_is k (j ∷ js) =
    ap (λ t. t || list_any (same_name k) js) (tells k j) ∙ ap (λ t. same_var (var_of k) (var_of j) || t) (any_is k js)

passed_is : (k : Name) (js : List Name)
    → prefix_len (λ j. not (same_name k j)) js ≡ prefix_len (λ x. not (same_var (var_of k) x)) (map var_of js)
passed_is k [] = refl
passed_is k (j ∷ js) =
    ap (λ t. cond (not t) (1 + prefix_len (λ j. not (same_name k j)) js) 0) (tells k j)
    ∙ ap (λ n. cond (not (same_var (var_of k) (var_of j))) (1 + n) 0) (passed_is k js)

long : (js : List Name) → length js ≡ length (map var_of js)
long [] = refl
long (j ∷ js) = ap suc (long js)

position_is : (k : Name) (js : List Name) → position (same_name k) js ≡ position (same_var (var_of k)) (map var_of js)
position_is k js =
    ap (λ n. cond (nat_lt n (length js)) (Some n) None) (passed_is k js)
    ∙ ap (λ n. cond (nat_lt (prefix_len (λ x. not (same_var (var_of k) x)) (map var_of js)) n) (Some (prefix_len (λ x. not (same_var (var_of k) x)) (map var_of js))) None)
    (long js)

map_push : (js : List Name) (k : Name) → map var_of (js ++ k ∷ []) ≡ map var_of js ++ var_of k ∷ []
map_push [] k = refl
map_push (j ∷ js) k = ap (λ u. var_of j ∷ u) (map_push js k)

inserted : (k : Name) (js : List Name) → map var_of (insert_key same_name js k) ≡ seen (map var_of js) (var_of k ∷ [])
inserted k js =
    by (list_any (same_name k) js)
    ∙ ap (λ t. if t then map var_of js else map var_of js ++ var_of k ∷ []) (any_is k js)
  where
    by : (t : Bool) → map var_of (if t then js else js ++ k ∷ []) ≡ (if t then map var_of js else map var_of js ++ var_of k ∷ [])
    by true = refl
    by false = map_push js k

or_none : (a : Bool) → a ≡ a || false
or_none true = refl
or_none false = refl

flip : (a b : ℕ) → nat_eq a b ≡ nat_eq b a
flip a b =
    agree (nat_eq a b) (nat_eq b a) (λ h. eq-eqb b a (sym (eqb-true a b h))) (λ h. eq-eqb a b (sym (eqb-true b a h)))

either : (t a : Bool) → cond t true a ≡ a || (t || false)
either true true = refl
either true false = refl
either false true = refl
either false false = refl

module _ (core : Program VarRef) (form : ℕ) (a b : Survey) where
  -- a top-level variable was noted
  pub finds_top : (k : Name) (x : Var) → b.procs.items ≡ a.procs.items → b.assigned ≡ a.assigned → b.holes ≡ a.holes
      → b.inside ≡ a.inside → b.tops.keys ≡ insert_key same_name a.tops.keys k → var_of k ≡ x
      → Finds core form a b [] [] [] (x ∷ [])
  finds_top k x procs assigned_same holes_same inside_same keys of_x = record {
    more = [];
    items = procs ∙ sym (append-nil a.procs.items);
    origins = tt;
    assigned = λ y. ap (λ m. contains nat_eq m y) assigned_same ∙ or_none (contains nat_eq a.assigned y);
    holes = λ y. ap (λ m. contains nat_eq m y) holes_same ∙ or_none (contains nat_eq a.holes y);
    tops = ap (map var_of) keys ∙ (inserted k a.tops.keys ∙ ap (λ u. seen (map var_of a.tops.keys) (u ∷ [])) of_x);
    inside = λ h. subst (λ m. IsInside core m) (sym inside_same) h;
  }

  -- an assigned variable was noted
  pub finds_assigned : (x : ℕ) → b.procs.items ≡ a.procs.items → b.holes ≡ a.holes → b.tops ≡ a.tops → b.inside ≡ a.inside
      → ((y : ℕ) → contains nat_eq b.assigned y ≡ cond (nat_eq x y) true (contains nat_eq a.assigned y))
      → Finds core form a b [] (x ∷ []) [] []
  finds_assigned x procs holes_same tops_same inside_same updates = record {
    more = [];
    items = procs ∙ sym (append-nil a.procs.items);
    origins = tt;
    assigned =
        λ y.
        updates y
        ∙ (ap (λ t. cond t true (contains nat_eq a.assigned y)) (flip x y) ∙ either (nat_eq y x) (contains nat_eq a.assigned y));
    holes = λ y. ap (λ m. contains nat_eq m y) holes_same ∙ or_none (contains nat_eq a.holes y);
    tops = ap (λ m. map var_of m.keys) tops_same;
    inside = λ h. subst (λ m. IsInside core m) (sym inside_same) h;
  }

  -- a variable without a value was noted
  pub finds_hole : (x : ℕ) → b.procs.items ≡ a.procs.items → b.assigned ≡ a.assigned → b.tops ≡ a.tops → b.inside ≡ a.inside
      → ((y : ℕ) → contains nat_eq b.holes y ≡ cond (nat_eq x y) true (contains nat_eq a.holes y))
      → Finds core form a b [] [] (x ∷ []) []
  finds_hole x procs assigned_same tops_same inside_same updates = record {
    more = [];
    items = procs ∙ sym (append-nil a.procs.items);
    origins = tt;
    assigned = λ y. ap (λ m. contains nat_eq m y) assigned_same ∙ or_none (contains nat_eq a.assigned y);
    holes =
        λ y.
        updates y
        ∙ (ap (λ t. cond t true (contains nat_eq a.holes y)) (flip x y) ∙ either (nat_eq y x) (contains nat_eq a.holes y));
    tops = ap (λ m. map var_of m.keys) tops_same;
    inside = λ h. subst (λ m. IsInside core m) (sym inside_same) h;
  }

-- all of this is what the settings say
pub knows_all : (core : Program VarRef) (facts : Facts) (all : Exprs) → IsSurvey core facts.survey all
    → ((k : Name) (f : ℕ) → is_checked facts.sure f k ≡ not (is_sure all f (var_of k))) → KnowsAll core facts all
knows_all core facts all s sure =
    λ f.
    record {
      boxed =
          λ x.
          ap (λ t. t || contains nat_eq facts.survey.holes x) (s.assigned x)
          ∙ ap (λ t. has (all_assigned all) x || t) (s.holes x);
      hole = s.holes;
      top =
          λ k.
          ap found
          (position_is k facts.survey.tops.keys ∙ ap (λ xs. position (same_var (var_of k)) xs) s.tops);
      checked = λ k. sure k f;
      inside = s.inside;
    }

pub long_tops : (core : Program VarRef) (survey : Survey) (all : Exprs) → IsSurvey core survey all
    → length survey.tops.keys ≡ length (tops_of all)
long_tops core survey all s = long survey.tops.keys ∙ ap length s.tops
