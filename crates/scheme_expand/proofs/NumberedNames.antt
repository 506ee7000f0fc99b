-- Names get their numbers from a set of names in the order in which they were first seen.
use Rattle.std.proofs.Common.{ℕ, zero, suc, ◌≡◌, ◌+◌, ◌<◌, ◌≤◌, List, [], ◌∷◌, ◌++◌, map, length, take, get_or, Bor, Some, Bool, true, false, refl, sym, ap, subst, ◌∙◌, append_assoc, append-nil, arith}
use Rattle.std.specs.Prelude.{slice_get, if◌then◌else◌, ◌||◌}
use Rattle.std.specs.List.{AllByRecursion, IsDistinct, list_any}
use Rattle.std.specs.Str.{bytes_eq}
use Rattle.std.proofs.lemmas.List.{get_or-map, length-map, take_more}
use Rattle.std.proofs.lemmas.Map.Keys.{IsDistinct-head, IsDistinct-tail}
use Rattle.std.proofs.lemmas.Option.{slice_get_within}
use Rattle.std.proofs.lemmas.Slice.Eq.{bytes_eq-Decides}
use Rattle.draft_form.proofs.LiteralsAdded.{taken_all}
use Rattle.scheme_expand.specs.Naming.{AreDistinct, AreNamed, Adds, Grows, IsNumbered, IsTable, keyword_names, known_names, operation_names, table_names}
use Rattle.scheme_expand.specs.Rewriting.{has_name}
use Rattle.scheme_expand.proofs.FirstNames.{has_behind}

abbrev pub Name : Type 0
Name = Bor (List ℕ)

abbrev pub same_name : Name → Name → Bool
same_name x y = bytes_eq x.now y.now

abbrev pub texts : List Name → List (List ℕ)
texts names = map (λ name. name.now) names

-- Lists of names

none_such : (name : Name) (names : List Name) (w : ℕ) → AllByRecursion (λ y. same_name name y ≡ false) names
    → slice_get (texts names) w ≡ Some name.now → ⊥
none_such name [] w h e = cc
none_such name (y ∷ names) zero h e =
    let same : y.now ≡ name.now = cc in
    let found : bytes_eq name.now y.now ≡ true = (bytes_eq-Decides name.now y.now).1 (sym same) in
    let g : false ≡ true = sym h.0 ∙ found in
    cc
none_such name (y ∷ names) (suc w) h e = none_such name names w h.1 e

pub distinct_names : (names : List Name) → IsDistinct same_name names → AreDistinct (texts names)
distinct_names [] d v w x p q = absurd (cc)
distinct_names (name ∷ names) d zero zero x p q = refl
distinct_names (name ∷ names) d zero (suc w) x p q =
    absurd (none_such name names w (IsDistinct-head same_name name names d) (q ∙ sym p))
distinct_names (name ∷ names) d (suc v) zero x p q =
    absurd (none_such name names v (IsDistinct-head same_name name names d) (p ∙ sym q))
distinct_names (name ∷ names) d (suc v) (suc w) x p q =
    ap suc (distinct_names names (IsDistinct-tail same_name name names d) v w x p q)

texts_behind : (xs ys : List Name) → texts (xs ++ ys) ≡ texts xs ++ texts ys
texts_behind [] ys = refl
texts_behind (x ∷ xs) ys = ap (λ l. x.now ∷ l) (texts_behind xs ys)

text_at : (names : List Name) (w : ℕ) (k : Name) → slice_get names w ≡ Some k → slice_get (texts names) w ≡ Some k.now
text_at [] w k e = absurd (cc)
text_at (y ∷ names) zero k e = let same : y ≡ k = cc in ap (λ y. Some y.now) same
text_at (y ∷ names) (suc w) k e = text_at names w k e

pub many_texts : (names : List Name) → length (texts names) ≡ length names
many_texts [] = refl
many_texts (y ∷ names) = ap suc (many_texts names)

has_text : (name : Name) (names : List Name) → list_any (same_name name) names ≡ has_name (texts names) name.now
has_text name [] = refl
has_text name (y ∷ names) = ap (λ b. same_name name y || b) (has_text name names)

-- A name that is numbered

not_empty : (x : List ℕ) → (length x ≡ 0 → ⊥) → bytes_eq [] x ≡ false
not_empty [] h = absurd (h refl)
not_empty (b ∷ x) h = refl

stays_named : (old new : List (List ℕ)) (x : List ℕ) → (length x ≡ 0 → ⊥) → new ≡ old ++ x ∷ [] → AreNamed old → AreNamed new
stays_named old new x h e named =
    ap (λ l. has_name l []) e
    ∙ (has_behind old x [] ∙ (ap (λ b. b || bytes_eq [] x) named ∙ not_empty x h))

pub numbered : (old new : List Name) (name k : Name) (w : ℕ) → IsDistinct same_name new → (length name.now ≡ 0 → ⊥)
    → new ≡ (if list_any (same_name name) old then old else old ++ name ∷ []) → slice_get new w ≡ Some k → same_name name k ≡ true
    → IsNumbered (texts old) (texts new) name.now w
numbered old new name k w unique some inserted at same = by_test (list_any (same_name name) old) (has_text name old) inserted
  where
    is_there : slice_get (texts new) w ≡ Some name.now
    is_there = text_at new w k at ∙ ap Some (sym ((bytes_eq-Decides name.now k.now).0 same))

    added : (b : Bool) → b ≡ has_name (texts old) name.now → texts new ≡ (if b then texts old else texts old ++ name.now ∷ [])
        → texts new ≡ (if has_name (texts old) name.now then texts old else texts old ++ name.now ∷ [])
    added b e h = h ∙ ap (λ b. if b then texts old else texts old ++ name.now ∷ []) e

    by_test : (b : Bool) → b ≡ has_name (texts old) name.now → new ≡ (if b then old else old ++ name ∷ [])
        → IsNumbered (texts old) (texts new) name.now w
    by_test true h e =
        let P : List (List ℕ) → Type 0 = λ l. AreNamed l in
        record {
          grows =
              record {
                more = [];
                adds =
                    record {
                      longer = ap texts e ∙ sym (append-nil (texts old));
                      distinct = λ d. distinct_names new unique;
                      named = λ n. subst P (sym (ap texts e)) n;
                    };
              };
          is = is_there;
          added = added true h (ap texts e);
        }
    by_test false h e =
        let longer : texts new ≡ texts old ++ name.now ∷ [] = ap texts e ∙ texts_behind old (name ∷ []) in
        record {
          grows =
              record {
                more = name.now ∷ [];
                adds =
                    record {
                      longer = longer;
                      distinct = λ d. distinct_names new unique;
                      named = stays_named (texts old) (texts new) name.now some longer;
                    };
              };
          is = is_there;
          added = added false h longer;
        }

pub number_as : (old new : List (List ℕ)) (x y : List ℕ) (v w : ℕ) → v ≡ w → x ≡ y → IsNumbered old new x v → IsNumbered old new y w
number_as old new x y v w e f h =
    let P : ℕ → Type 0 = λ n. IsNumbered old new x n in
    let Q : List ℕ → Type 0 = λ n. IsNumbered old new n w in
    subst Q f (subst P e h)

pub is_new : (old new : List (List ℕ)) (x : List ℕ) (w : ℕ) → IsNumbered old new x w → length old ≤ w → Adds old (x ∷ []) new
is_new old new x w n later = by_test (has_name old x) n.added
  where
    by_test : (b : Bool) → new ≡ (if b then old else old ++ x ∷ []) → Adds old (x ∷ []) new
    by_test true e = absurd (omega (arith, later, slice_get_within old w x (ap (λ l. slice_get l w) (sym e) ∙ n.is)))
    by_test false e = record { longer = e; distinct = n.grows.adds.distinct; named = n.grows.adds.named }

-- Names of a table, one after another

pub no_names : (names : List (List ℕ)) → Adds names [] names
no_names names = record { longer = sym (append-nil names); distinct = λ h. h; named = λ h. h }

pub adds_twice : (a xs b ys c : List (List ℕ)) → Adds a xs b → Adds b ys c → Adds a (xs ++ ys) c
adds_twice a xs b ys c p q = record {
  longer = q.longer ∙ (ap (λ l. l ++ ys) p.longer ∙ append_assoc a xs ys);
  distinct = λ h. q.distinct (p.distinct h);
  named = λ h. q.named (p.named h);
}

-- the first names of a table are added, and the next
pub one_name : (names : List (List ℕ)) (i : ℕ) (x : List ℕ) (old now after : List (List ℕ)) → i < length names
    → Adds old (take i names) now → Adds now (x ∷ []) after → x ≡ get_or names i [] → Adds old (take (i + 1) names) after
one_name names i x old now after within p q e =
    let P : List (List ℕ) → Type 0 = λ l. Adds old l after in
    let Q : List ℕ → Type 0 = λ y. Adds now (y ∷ []) after in
    subst P (sym (take_more names i [] within)) (adds_twice old (take i names) now (get_or names i [] ∷ []) after p (subst Q e q))

pub one_more : {A : Type 0} (name : A → List ℕ) (names : List (List ℕ)) (items : List A) (i : ℕ) (d : A) (x : List ℕ)
    (old now after : List (List ℕ)) → names ≡ map name items → i < length names → Adds old (take i names) now
    → Adds now (x ∷ []) after → x ≡ name (get_or items i d) → Adds old (take (i + 1) names) after
one_more name names items i d x old now after are within p q e =
    let there : i < length items = omega (arith, within, ap length are, length-map items name) in
    one_name names i x old now after within p q
    (e ∙ (sym (get_or-map name items i d [] there) ∙ ap (λ l. get_or l i []) (sym are)))

pub all_added : (names : List (List ℕ)) (i : ℕ) (old now : List (List ℕ)) → length names ≤ i → Adds old (take i names) now
    → Adds old names now
all_added names i old now past h = let P : List (List ℕ) → Type 0 = λ l. Adds old l now in subst P (taken_all names i past) h

-- the whole table, and names behind it
pub table_made : (a b c d e : List (List ℕ)) → a ≡ [] → Adds a keyword_names b → Adds b known_names c
    → Adds c operation_names d → Grows d e → IsTable e
table_made a b c d e empty keywords known operations g =
    let P : List (List ℕ) → Type 0 = λ l. AreDistinct l in
    let Q : List (List ℕ) → Type 0 = λ l. AreNamed l in
    let table : Adds a table_names d =
    adds_twice a keyword_names b (known_names ++ operation_names) d keywords
    (adds_twice b known_names c operation_names d known operations)
    in
    record {
      more = g.more;
      begins =
          g.adds.longer ∙ ap (λ l. l ++ g.more) (table.longer ∙ ap (λ l. l ++ table_names) empty);
      distinct = g.adds.distinct (table.distinct (subst P (sym empty) (λ v w x p q. absurd (cc))));
      named = g.adds.named (table.named (subst Q (sym empty) refl));
    }
