-- What becomes of a view when changes are noted, drafts are made, and variables are bound and left.
--
-- `Alike`: parts with the same changes, in whatever order. `noting_alike`, `noting_both`, `noting_swap`: what is
-- noted of them. `visit_all_is`, `all_seen_is`, `taken_all`, `left_of_all`: drafts made one after another.
-- `standing`: a draft in the place of its parts. `scope_bound`, `leave_bound`, `leave_twice`: variables bound
-- round what is made, and left. `from_bound`, `assigned_bound`: which variables these are.
use Rattle.std.proofs.Common.{ℕ, zero, suc, ◌≡◌, ◌+◌, ◌≤◌, ◌<◌, Bool, true, false, ◌||◌, if◌then◌else◌, nat_lt, List, [], ◌∷◌, ◌++◌, length, refl, sym, ap, ap₂, ◌∙◌, append_assoc, append-nil, arith, lt-ltb, le-ltb, ltb-false}
use Rattle.std.proofs.Math.Bool.{or_assoc, or_comm, or-false}
use Rattle.std.proofs.lemmas.Bool.Decides.{nat_tests}
use Rattle.std.proofs.lemmas.List.Folds.{list_any-append}
use Rattle.std.specs.Str.{bytes_eq}
use Rattle.scheme_base.specs.declared.pos.Pos.{Pos}
use Rattle.scheme_base.specs.Constants.{Constant}
use Rattle.scheme_expand.specs.Calls.{count}
use Rattle.scheme_expand.specs.Forms.{Exp, Exps, no_exp, exp}
use Rattle.scheme_expand.specs.Making.{from_level, one_assigned, taken_before, taken, left_of, instead, sequenced}
use Rattle.scheme_expand.specs.Programs.{changed}
use Rattle.scheme_expand.specs.Rewriting.{Scope, Side, core, cores, has_name, inside, within}
use Rattle.scheme_expand.specs.Views.{Context, View, Bound, bound_names, scope_of, height, raised, marked, noting, pushed, visit, visit_all, seen, all_seen, put_inside, bind, lowered, leave}
use Rattle.draft_form.specs.Drafts.{Name, Draft, Drafts, Local, Fresh, Top, Library, Seq, none, item, ◌then◌, Part, Held, ListsSymbols, Referred, Changed, parts, all_parts, is_change, changes}
use Rattle.draft_form.specs.Drawn.{Names}

-- Views, field by field

abbrev pub bound_as : List ℕ → Bool → Bound
bound_as x a = record { name = x; assigned = a }

abbrev pub view_of : List Draft → List Bound → List Bool → View
view_of ds bs fs = record { made = ds; bound = bs; flags = fs }

pub same_view : (v w : View) → v.made ≡ w.made → v.bound ≡ w.bound → v.flags ≡ w.flags → v ≡ w
same_view v w d b f =
    ap (λ ds. view_of ds v.bound v.flags) d
    ∙ (ap (λ bs. view_of w.made bs v.flags) b ∙ ap (view_of w.made w.bound) f)

abbrev pub scope_with : Side → List (List ℕ) → Scope
scope_with side bound = record { side = side; bound = bound }

-- views with the same variables have the same scope
pub same_scope : (c : Context) (v w : View) → bound_names v.bound ≡ bound_names w.bound → scope_of c v ≡ scope_of c w
same_scope c v w e = ap (scope_with c.side) e

-- Parts with the same changes

pub record Alike (ps qs : List Part) : Type 0 where
  pub levels : (k n : ℕ) → changes k n ps ≡ changes k n qs
  pub names : (x : List ℕ) → has_name (changed ps) x ≡ has_name (changed qs) x

pub alike : (ps qs : List Part) → ps ≡ qs → Alike ps qs
alike ps qs e = record { levels = λ k n. ap (changes k n) e; names = λ x. ap (λ found. has_name (changed found) x) e }

pub alike_sym : (ps qs : List Part) → Alike ps qs → Alike qs ps
alike_sym ps qs a = record { levels = λ k n. sym (a.levels k n); names = λ x. sym (a.names x) }

pub alike_twice : (ps qs rs : List Part) → Alike ps qs → Alike qs rs → Alike ps rs
alike_twice ps qs rs a b = record {
  levels = λ k n. a.levels k n ∙ b.levels k n;
  names = λ x. a.names x ∙ b.names x;
}

-- a part that is no change
pub alike_held : (a : Constant) (ps : List Part) → Alike (Held a ∷ ps) ps
alike_held a ps = record { levels = λ k n. refl; names = λ x. refl }

pub alike_referred : (y : Name) (ps : List Part) → Alike (Referred y ∷ ps) ps
alike_referred y ps = record { levels = λ k n. refl; names = λ x. refl }

changed_both : (ps qs : List Part) → changed (ps ++ qs) ≡ changed ps ++ changed qs
changed_both [] qs = refl
changed_both (Held a ∷ ps) qs = changed_both ps qs
changed_both (ListsSymbols ∷ ps) qs = changed_both ps qs
changed_both (Referred y ∷ ps) qs = changed_both ps qs
changed_both (Changed (Local k x) ∷ ps) qs = changed_both ps qs
changed_both (Changed (Fresh k) ∷ ps) qs = changed_both ps qs
changed_both (Changed (Top x) ∷ ps) qs = changed_both ps qs
changed_both (Changed (Library x) ∷ ps) qs = ap (λ xs. x ∷ xs) (changed_both ps qs)

levels_both : (k n : ℕ) (ps qs : List Part) → changes k n (ps ++ qs) ≡ (changes k n ps || changes k n qs)
levels_both k n ps qs = list_any-append (is_change k n) ps qs

names_both : (x : List ℕ) (ps qs : List Part)
    → has_name (changed (ps ++ qs)) x ≡ (has_name (changed ps) x || has_name (changed qs) x)
names_both x ps qs =
    ap (λ xs. has_name xs x) (changed_both ps qs) ∙ list_any-append (bytes_eq x) (changed ps) (changed qs)

pub alike_swap : (ps qs : List Part) → Alike (ps ++ qs) (qs ++ ps)
alike_swap ps qs = record {
  levels = λ k n. levels_both k n ps qs ∙ (or_comm (changes k n ps) (changes k n qs) ∙ sym (levels_both k n qs ps));
  names =
      λ x. names_both x ps qs
      ∙ (or_comm (has_name (changed ps) x) (has_name (changed qs) x) ∙ sym (names_both x qs ps));
}

pub alike_both : (ps qs rs ss : List Part) → Alike ps qs → Alike rs ss → Alike (ps ++ rs) (qs ++ ss)
alike_both ps qs rs ss a b = record {
  levels =
      λ k n. levels_both k n ps rs ∙ (ap₂ (λ d e. d || e) (a.levels k n) (b.levels k n) ∙ sym (levels_both k n qs ss));
  names = λ x. names_both x ps rs ∙ (ap₂ (λ d e. d || e) (a.names x) (b.names x) ∙ sym (names_both x qs ss));
}

-- parts that are no changes, behind others
pub alike_behind : (ps qs : List Part) → Alike qs [] → Alike ps (ps ++ qs)
alike_behind ps qs a =
    alike_twice ps (ps ++ []) (ps ++ qs) (alike ps (ps ++ []) (sym (append-nil ps)))
    (alike_both ps ps [] qs (alike ps ps refl) (alike_sym qs [] a))

-- What is noted

pub raised_names : (ps : List Part) (bs : List Bound) → bound_names (raised ps bs) ≡ bound_names bs
raised_names ps [] = refl
raised_names ps (b ∷ bs) = ap (λ xs. b.name ∷ xs) (raised_names ps bs)

pub length-raised : (ps : List Part) (bs : List Bound) → length (raised ps bs) ≡ length bs
length-raised ps [] = refl
length-raised ps (b ∷ bs) = ap suc (length-raised ps bs)

pub raised_named : (ps qs : List Part) (bs : List Bound) → ((k n : ℕ) → changes k n ps ≡ changes k n qs)
    → raised ps bs ≡ raised qs bs
raised_named ps qs [] a = refl
raised_named ps qs (b ∷ bs) a =
    ap₂ (λ d cs. bound_as b.name (b.assigned || d) ∷ cs) (a (length bs) 1) (raised_named ps qs bs a)

pub raised_alike : (ps qs : List Part) (bs : List Bound) → Alike ps qs → raised ps bs ≡ raised qs bs
raised_alike ps qs bs a = raised_named ps qs bs a.levels

pub raised_none : (bs : List Bound) → raised [] bs ≡ bs
raised_none [] = refl
raised_none (b ∷ bs) = ap₂ (λ a cs. bound_as b.name a ∷ cs) (or-false b.assigned) (raised_none bs)

pub raised_both : (ps qs : List Part) (bs : List Bound) → raised (ps ++ qs) bs ≡ raised qs (raised ps bs)
raised_both ps qs [] = refl
raised_both ps qs (b ∷ bs) =
    let k : ℕ = length bs in
    ap₂ (λ a cs. bound_as b.name a ∷ cs)
    (ap (λ d. b.assigned || d) (levels_both k 1 ps qs)
    ∙ (sym (or_assoc b.assigned (changes k 1 ps) (changes k 1 qs))
    ∙ ap (λ j. (b.assigned || changes k 1 ps) || changes j 1 qs) (sym (length-raised ps bs))))
    (raised_both ps qs bs)

pub length-marked : (ps : List Part) (xs : Names) (fs : List Bool) → length fs ≡ length xs
    → length (marked ps xs fs) ≡ length xs
length-marked ps [] fs e = e
length-marked ps (x ∷ xs) [] e = e
length-marked ps (x ∷ xs) (f ∷ fs) e = let same : length fs ≡ length xs = cc in ap suc (length-marked ps xs fs same)

pub marked_named : (ps qs : List Part) (xs : Names) (fs : List Bool)
    → ((x : List ℕ) → has_name (changed ps) x ≡ has_name (changed qs) x) → marked ps xs fs ≡ marked qs xs fs
marked_named ps qs [] fs a = refl
marked_named ps qs (x ∷ xs) [] a = refl
marked_named ps qs (x ∷ xs) (f ∷ fs) a =
    ap₂ (λ d gs. (f || d) ∷ gs) (a x.now) (marked_named ps qs xs fs a)

pub marked_alike : (ps qs : List Part) (xs : Names) (fs : List Bool) → Alike ps qs → marked ps xs fs ≡ marked qs xs fs
marked_alike ps qs xs fs a = marked_named ps qs xs fs a.names

pub marked_none : (xs : Names) (fs : List Bool) → marked [] xs fs ≡ fs
marked_none [] fs = refl
marked_none (x ∷ xs) [] = refl
marked_none (x ∷ xs) (f ∷ fs) = ap₂ (λ a gs. a ∷ gs) (or-false f) (marked_none xs fs)

pub marked_both : (ps qs : List Part) (xs : Names) (fs : List Bool)
    → marked (ps ++ qs) xs fs ≡ marked qs xs (marked ps xs fs)
marked_both ps qs [] fs = refl
marked_both ps qs (x ∷ xs) [] = refl
marked_both ps qs (x ∷ xs) (f ∷ fs) =
    ap₂ (λ a gs. a ∷ gs)
    (ap (λ d. f || d) (names_both x.now ps qs)
    ∙ sym (or_assoc f (has_name (changed ps) x.now) (has_name (changed qs) x.now)))
    (marked_both ps qs xs fs)

pub noting_alike : (c : Context) (ps qs : List Part) (v : View) → Alike ps qs → noting c ps v ≡ noting c qs v
noting_alike c ps qs v a =
    same_view (noting c ps v) (noting c qs v) refl (raised_alike ps qs v.bound a) (marked_alike ps qs c.names v.flags a)

pub noting_none : (c : Context) (v : View) → noting c [] v ≡ v
noting_none c v = same_view (noting c [] v) v refl (raised_none v.bound) (marked_none c.names v.flags)

-- one after another
pub noting_both : (c : Context) (ps qs : List Part) (v : View) → noting c (ps ++ qs) v ≡ noting c qs (noting c ps v)
noting_both c ps qs v =
    same_view (noting c (ps ++ qs) v) (noting c qs (noting c ps v)) refl (raised_both ps qs v.bound)
    (marked_both ps qs c.names v.flags)

pub noting_swap : (c : Context) (ps qs : List Part) (v : View)
    → noting c ps (noting c qs v) ≡ noting c qs (noting c ps v)
noting_swap c ps qs v =
    sym (noting_both c qs ps v)
    ∙ (noting_alike c (qs ++ ps) (ps ++ qs) v (alike_swap qs ps) ∙ noting_both c ps qs v)

pub noting_scope : (c : Context) (ps : List Part) (v : View) → scope_of c (noting c ps v) ≡ scope_of c v
noting_scope c ps v = same_scope c (noting c ps v) v (raised_names ps v.bound)

pub noting_height : (c : Context) (ps : List Part) (v : View) → height (noting c ps v) ≡ height v
noting_height c ps v = length-raised ps v.bound

-- Drafts, one after another

pub visit_scope : (c : Context) (d : Draft) (v : View) → scope_of c (visit c d v) ≡ scope_of c v
visit_scope c d v = same_scope c (visit c d v) v (raised_names (parts d) v.bound)

-- drafts before others, the last first
abbrev pub made_before : Drafts → List Draft → List Draft
made_before none es = es
made_before (item d ds) es = made_before ds (d ∷ es)

-- these drafts are made, and what these parts change is noted
abbrev pub all_made : Context → Drafts → List Part → View → View
all_made c ds ps v = view_of (made_before ds v.made) (raised ps v.bound) (marked ps c.names v.flags)

pub visit_all_is : (c : Context) (ds : Drafts) (v : View) → visit_all c ds v ≡ all_made c ds (all_parts ds) v
visit_all_is c none v = sym (noting_none c v)
visit_all_is c (item d ds) v =
    visit_all_is c ds (visit c d v)
    ∙ same_view (all_made c ds (all_parts ds) (visit c d v)) (all_made c (item d ds) (all_parts (item d ds)) v) refl
    (sym (raised_both (parts d) (all_parts ds) v.bound)) (sym (marked_both (parts d) (all_parts ds) c.names v.flags))

pub visit_all_scope : (c : Context) (ds : Drafts) (v : View) → scope_of c (visit_all c ds v) ≡ scope_of c v
visit_all_scope c none v = refl
visit_all_scope c (item d ds) v = visit_all_scope c ds (visit c d v) ∙ visit_scope c d v

pub visit_all_then : (c : Context) (ds es : Drafts) (v : View)
    → visit_all c (ds then es) v ≡ visit_all c es (visit_all c ds v)
visit_all_then c none es v = refl
visit_all_then c (item d ds) es v = visit_all_then c ds es (visit c d v)

pub seen_scope : (c : Context) (e : Exp) (v : View) → scope_of c (seen c e v) ≡ scope_of c v
seen_scope c e v = visit_scope c (core e (scope_of c v)) v

-- expressions, which all stand in the scope of the first
pub all_seen_is : (c : Context) (es : Exps) (v : View) → all_seen c es v ≡ visit_all c (cores es (scope_of c v)) v
all_seen_is c no_exp v = refl
all_seen_is c (exp e es) v =
    all_seen_is c es (seen c e v) ∙ ap (λ s. visit_all c (cores es s) (seen c e v)) (seen_scope c e v)

pub all_seen_scope : (c : Context) (es : Exps) (v : View) → scope_of c (all_seen c es v) ≡ scope_of c v
all_seen_scope c es v =
    ap (scope_of c) (all_seen_is c es v) ∙ visit_all_scope c (cores es (scope_of c v)) v

-- What was made is taken

pub then-none : (ds : Drafts) → (ds then none) ≡ ds
then-none none = refl
then-none (item d ds) = ap (item d) (then-none ds)

more_taken : (n m : ℕ) (ds : Drafts) (es : List Draft) (fs : Drafts) → n ≡ count ds + m
    → taken_before n (made_before ds es) fs ≡ taken_before m es (ds then fs)
more_taken n m none es fs e = let same : n ≡ m = omega arith in ap (λ k. taken_before k es fs) same
more_taken n m (item d ds) es fs e = more_taken n (suc m) ds (d ∷ es) fs (omega arith)

more_left : (n m : ℕ) (ds : Drafts) (es : List Draft) → n ≡ count ds + m
    → left_of n (made_before ds es) ≡ left_of m es
more_left n m none es e = let same : n ≡ m = omega arith in ap (λ k. left_of k es) same
more_left n m (item d ds) es e = more_left n (suc m) ds (d ∷ es) (omega arith)

pub taken_all : (n : ℕ) (ds : Drafts) (es : List Draft) → n ≡ count ds → taken n (made_before ds es) ≡ ds
taken_all n ds es e = more_taken n 0 ds es none (omega arith) ∙ then-none ds

pub left_of_all : (n : ℕ) (ds : Drafts) (es : List Draft) → n ≡ count ds → left_of n (made_before ds es) ≡ es
left_of_all n ds es e = more_left n 0 ds es (omega arith)

-- a draft stands in the place of its parts, which were made one after another
pub standing : (c : Context) (ds : Drafts) (d : Draft) (v : View) → Alike (all_parts ds) (parts d)
    → instead (visit_all c ds v) v.made d ≡ visit c d v
standing c ds d v a =
    ap (λ u. instead u v.made d) (visit_all_is c ds v)
    ∙ same_view (instead (all_made c ds (all_parts ds) v) v.made d) (visit c d v) refl
    (raised_alike (all_parts ds) (parts d) v.bound a) (marked_alike (all_parts ds) (parts d) c.names v.flags a)

-- a draft stands in the place of one with the same changes
pub standing_one : (c : Context) (e d : Draft) (v : View) → Alike (parts e) (parts d)
    → instead (visit c e v) v.made d ≡ visit c d v
standing_one c e d v a =
    same_view (instead (visit c e v) v.made d) (visit c d v) refl (raised_alike (parts e) (parts d) v.bound a)
    (marked_alike (parts e) (parts d) c.names v.flags a)

pub sequence_standing : (c : Context) (p : Pos) (es : Exps) (v : View)
    → sequenced c p es v ≡ visit c (Seq p (cores es (scope_of c v))) v
sequence_standing c p es v =
    let ds : Drafts = cores es (scope_of c v) in
    ap (λ u. instead u v.made (Seq p ds)) (all_seen_is c es v)
    ∙ standing c ds (Seq p ds) v (alike (all_parts ds) (all_parts ds) refl)

-- Variables are bound and left

pub names_inside : (xs : List (List ℕ)) (bs : List Bound) → bound_names (put_inside xs bs) ≡ inside (bound_names bs) xs
names_inside [] bs = refl
names_inside (x ∷ xs) bs = names_inside xs (bound_as x false ∷ bs)

pub scope_bound : (c : Context) (xs : List (List ℕ)) (v : View) → scope_of c (bind xs v) ≡ within (scope_of c v) xs
scope_bound c xs v = ap (scope_with c.side) (names_inside xs v.bound)

pub length-put_inside : (xs : List (List ℕ)) (bs : List Bound) → length (put_inside xs bs) ≡ length bs + length xs
length-put_inside [] bs = omega arith
length-put_inside (x ∷ xs) bs =
    let rest : length (put_inside xs (bound_as x false ∷ bs)) ≡ suc (length bs) + length xs =
    length-put_inside xs (bound_as x false ∷ bs) in
    omega arith

pub height_bound : (xs : List (List ℕ)) (v : View) → height (bind xs v) ≡ height v + length xs
height_bound xs v = length-put_inside xs v.bound

-- some variables, then others
pub bind_both : (xs ys : List (List ℕ)) (v : View) → bind (xs ++ ys) v ≡ bind ys (bind xs v)
bind_both xs ys v = ap (λ bs. view_of v.made bs v.flags) (put_both xs v.bound)
  where
    put_both : (zs : List (List ℕ)) (bs : List Bound) → put_inside (zs ++ ys) bs ≡ put_inside ys (put_inside zs bs)
    put_both [] bs = refl
    put_both (z ∷ zs) bs = put_both zs (bound_as z false ∷ bs)

-- a variable at or behind a level, or before it
kept : {A : Type 0} (j k : ℕ) (x y : A) → j < k → (if nat_lt j k then x else y) ≡ x
kept j k x y h = ap (λ b. if b then x else y) (lt-ltb j k h)

passed : {A : Type 0} (j k : ℕ) (x y : A) → k ≤ j → (if nat_lt j k then x else y) ≡ y
passed j k x y h = ap (λ b. if b then x else y) (le-ltb j k h)

lowered_all : (k : ℕ) (bs : List Bound) → length bs ≤ k → lowered k bs ≡ bs
lowered_all k [] h = refl
lowered_all k (b ∷ bs) h = let there : length bs < k = omega arith in kept (length bs) k (b ∷ bs) (lowered k bs) there

lowered_inside : (k : ℕ) (xs : List (List ℕ)) (bs : List Bound) → k ≤ length bs
    → lowered k (put_inside xs bs) ≡ lowered k bs
lowered_inside k [] bs h = refl
lowered_inside k (x ∷ xs) bs h =
    let b : Bound = bound_as x false in
    lowered_inside k xs (b ∷ bs) (omega arith) ∙ passed (length bs) k (b ∷ bs) (lowered k bs) h

both_tests : {A : Type 0} (j k : ℕ) (t u x y : A) → t ≡ u → x ≡ y → (if nat_lt j k then t else x) ≡ (if nat_lt j k then u else y)
both_tests j k t u x y e f = ap₂ (λ a b. if nat_lt j k then a else b) e f

lowered_raised : (k : ℕ) (ps : List Part) (bs : List Bound) → lowered k (raised ps bs) ≡ raised ps (lowered k bs)
lowered_raised k ps [] = refl
lowered_raised k ps (b ∷ bs) =
    let c : Bound = bound_as b.name (b.assigned || changes (length bs) 1 ps) in
    ap (λ j. if nat_lt j k then c ∷ raised ps bs else lowered k (raised ps bs)) (length-raised ps bs)
    ∙ (both_tests (length bs) k (c ∷ raised ps bs) (c ∷ raised ps bs) (lowered k (raised ps bs))
    (raised ps (lowered k bs)) refl (lowered_raised k ps bs)
    ∙ through (nat_lt (length bs) k))
  where
    through : (t : Bool)
        → (if t then raised ps (b ∷ bs) else raised ps (lowered k bs)) ≡ raised ps (if t then b ∷ bs else lowered k bs)
    through true = refl
    through false = refl

pub lowered_twice : (j k : ℕ) (bs : List Bound) → j ≤ k → lowered j (lowered k bs) ≡ lowered j bs
lowered_twice j k [] h = refl
lowered_twice j k (b ∷ bs) h = decided (nat_lt (length bs) k) refl (lowered_twice j k bs h)
  where
    decided : (t : Bool) → nat_lt (length bs) k ≡ t → lowered j (lowered k bs) ≡ lowered j bs
        → lowered j (if t then b ∷ bs else lowered k bs) ≡ lowered j (b ∷ bs)
    decided true e rest = refl
    decided false e rest =
        let behind : j ≤ length bs = omega (arith, ltb-false (length bs) k e) in
        rest ∙ sym (passed (length bs) j (b ∷ bs) (lowered j bs) behind)

-- variables that are bound round what is made, and are left again
pub leave_bound : (c : Context) (xs : List (List ℕ)) (ps : List Part) (v : View)
    → leave (height v) (noting c ps (bind xs v)) ≡ noting c ps v
leave_bound c xs ps v =
    ap (λ bs. view_of v.made bs (marked ps c.names v.flags))
    (lowered_raised (length v.bound) ps (put_inside xs v.bound)
    ∙ ap (raised ps) (lowered_inside (length v.bound) xs v.bound (omega arith) ∙ lowered_all (length v.bound) v.bound (omega arith)))

-- the same where a draft is made in their scope
pub leave_visit : (c : Context) (xs : List (List ℕ)) (d : Draft) (v : View)
    → leave (height v) (visit c d (bind xs v)) ≡ visit c d v
leave_visit c xs d v = ap (pushed d) (leave_bound c xs (parts d) v)

pub leave_twice : (j k : ℕ) (v : View) → j ≤ k → leave j (leave k v) ≡ leave j v
leave_twice j k v h = ap (λ bs. view_of v.made bs v.flags) (lowered_twice j k v.bound h)

-- Which variables are left

from_inside : (k : ℕ) (xs : List (List ℕ)) (bs : List Bound) → k ≤ length bs
    → from_level k (put_inside xs bs) ≡ from_level k bs ++ xs
from_inside k [] bs h = sym (append-nil (from_level k bs))
from_inside k (x ∷ xs) bs h =
    let b : Bound = bound_as x false in
    from_inside k xs (b ∷ bs) (omega arith)
    ∙ (ap (λ ys. ys ++ xs) (passed (length bs) k [] (from_level k bs ++ x ∷ []) h)
    ∙ append_assoc (from_level k bs) (x ∷ []) xs)

from_none : (k : ℕ) (bs : List Bound) → length bs ≤ k → from_level k bs ≡ []
from_none k [] h = refl
from_none k (b ∷ bs) h =
    let there : length bs < k = omega arith in kept (length bs) k [] (from_level k bs ++ b.name ∷ []) there

pub from_raised : (k : ℕ) (ps : List Part) (bs : List Bound) → from_level k (raised ps bs) ≡ from_level k bs
from_raised k ps [] = refl
from_raised k ps (b ∷ bs) =
    ap₂ (λ j xs. if nat_lt j k then [] else xs ++ b.name ∷ []) (length-raised ps bs) (from_raised k ps bs)

-- the names that were bound from this level on
pub from_bound : (ps : List Part) (xs : List (List ℕ)) (bs : List Bound)
    → from_level (length bs) (raised ps (put_inside xs bs)) ≡ xs
from_bound ps xs bs =
    from_raised (length bs) ps (put_inside xs bs)
    ∙ (from_inside (length bs) xs bs (omega arith) ∙ ap (λ ys. ys ++ xs) (from_none (length bs) bs (omega arith)))

fresh_assigned : (k : ℕ) (xs : List (List ℕ)) (bs : List Bound) → k ≤ length bs
    → one_assigned k (put_inside xs bs) ≡ one_assigned k bs
fresh_assigned k [] bs h = refl
fresh_assigned k (x ∷ xs) bs h =
    fresh_assigned k xs (bound_as x false ∷ bs) (omega arith) ∙ passed (length bs) k false (one_assigned k bs) h

none_assigned : (k : ℕ) (bs : List Bound) → length bs ≤ k → one_assigned k bs ≡ false
none_assigned k [] h = refl
none_assigned k (b ∷ bs) h =
    let there : length bs < k = omega arith in kept (length bs) k false (b.assigned || one_assigned k bs) there

-- the changes of no variables, and of one more
no_change : (k : ℕ) (ps : List Part) → changes k 0 ps ≡ false
no_change k [] = refl
no_change k (p ∷ ps) = ap₂ (λ a b. a || b) (not_this p) (no_change k ps)
  where
    not_this : (q : Part) → is_change k 0 q ≡ false
    not_this (Held a) = refl
    not_this ListsSymbols = refl
    not_this (Referred y) = refl
    not_this (Changed (Local j x)) = grind (arith, nat_tests)
    not_this (Changed (Fresh j)) = refl
    not_this (Changed (Top x)) = refl
    not_this (Changed (Library x)) = refl

one_change : (k n : ℕ) (q : Part) → is_change k (suc n) q ≡ (is_change (k + n) 1 q || is_change k n q)
one_change k n (Held a) = refl
one_change k n ListsSymbols = refl
one_change k n (Referred y) = refl
one_change k n (Changed (Local j x)) = grind (arith, nat_tests)
one_change k n (Changed (Fresh j)) = refl
one_change k n (Changed (Top x)) = refl
one_change k n (Changed (Library x)) = refl

-- two pairs of tests in another order
pub crossed : (a b c d : Bool) → ((a || b) || (c || d)) ≡ ((a || c) || (b || d))
crossed true b c d = refl
crossed false true true d = refl
crossed false true false d = refl
crossed false false c d = refl

more_changes : (k n : ℕ) (ps : List Part) → changes k (suc n) ps ≡ (changes (k + n) 1 ps || changes k n ps)
more_changes k n [] = refl
more_changes k n (p ∷ ps) =
    ap₂ (λ a b. a || b) (one_change k n p) (more_changes k n ps)
    ∙ crossed (is_change (k + n) 1 p) (is_change k n p) (changes (k + n) 1 ps) (changes k n ps)

raised_assigned : (k n : ℕ) (ps : List Part) (bs : List Bound) → length bs ≡ k + n
    → one_assigned k (raised ps bs) ≡ (one_assigned k bs || changes k n ps)
raised_assigned k zero ps bs e =
    none_assigned k (raised ps bs) (omega (arith, length-raised ps bs))
    ∙ sym (ap₂ (λ a b. a || b) (none_assigned k bs (omega arith)) (no_change k ps))
raised_assigned k (suc n) ps [] e = absurd (omega arith)
raised_assigned k (suc n) ps (b ∷ bs) e =
    let here : length bs ≡ k + n = omega arith in
    let changed_here : Bool = b.assigned || changes (length bs) 1 ps in
    ap (λ j. if nat_lt j k then false else changed_here || one_assigned k (raised ps bs)) (length-raised ps bs)
    ∙ (passed (length bs) k false (changed_here || one_assigned k (raised ps bs)) (omega arith)
    ∙ (ap₂ (λ j d. (b.assigned || changes j 1 ps) || d) here (raised_assigned k n ps bs here)
    ∙ (crossed b.assigned (changes (k + n) 1 ps) (one_assigned k bs) (changes k n ps)
    ∙ ap₂ (λ x y. x || y) (sym (passed (length bs) k false (b.assigned || one_assigned k bs) (omega arith)))
    (sym (more_changes k n ps)))))

-- whether one of the variables that were bound from this level on is assigned
pub assigned_bound : (ps : List Part) (xs : List (List ℕ)) (bs : List Bound)
    → one_assigned (length bs) (raised ps (put_inside xs bs)) ≡ changes (length bs) (length xs) ps
assigned_bound ps xs bs =
    raised_assigned (length bs) (length xs) ps (put_inside xs bs) (length-put_inside xs bs)
    ∙ ap (λ a. a || changes (length bs) (length xs) ps)
    (fresh_assigned (length bs) xs bs (omega arith) ∙ none_assigned (length bs) bs (omega arith))
