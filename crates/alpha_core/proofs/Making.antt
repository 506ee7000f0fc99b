-- What is made of an expression, from what is made of its parts.
use Rattle.std.proofs.Common.{◌≡◌, ℕ, suc, ◌+◌, List, [], ◌∷◌, ◌++◌, length, Option, None, Some, refl, sym, ap, subst, ◌∙◌, append_assoc, append-nil, arith}
use Rattle.core_form.specs.declared.program.Var.{Var}
use Rattle.core_form.specs.declared.program.VarRef.{VarRef}
use Rattle.core_form.specs.declared.program.VarRef.TheVariants as ref
use Rattle.core_form.specs.declared.program.Node.{Node}
use Rattle.core_form.specs.declared.program.What.{What}
use Rattle.core_form.specs.declared.program.What.TheVariants as form
use Rattle.scheme_base.specs.declared.op.Op.{Op}
use Rattle.scheme_base.specs.declared.pos.Pos.{Pos}
use Rattle.core_form.specs.Source.{Scope, scope_with}
use Rattle.core_form.specs.Trees.{Tree, Const, Lambda, If, Set, Call, Prim, Seq, Fix, Define, Trees, none, item, Stands, StandAll, IsNode}
use Rattle.alpha_core.specs.declared.scope.Scope.{Scope as Held}
use Rattle.alpha_core.specs.declared.renamer.Renamer.{Renamer}
use Rattle.alpha_core.specs.Renaming.{past, past_all, past_rest, refer, renamed, all_renamed, locals, local_rest, with_rest}
use Rattle.alpha_core.specs.ScopesHeld.{Shows}
use Rattle.alpha_core.specs.RenamingSteps.{Renames, RenamesAll, Adds, Makes, MakesAll, Binds}
use Rattle.alpha_core.proofs.Standing.{get_last, stands_more, stand_more}

abbrev Longer : List (Node VarRef) → List (Node VarRef) → Type 0
Longer x y = (more : List (Node VarRef)) × (y ≡ x ++ more)

then : (x y z : List (Node VarRef)) → Longer x y → Longer y z → Longer x z
then x y z h k = (h.0 ++ k.0, k.1 ∙ (ap (λ u. u ++ k.0) h.1 ∙ append_assoc x h.0 k.0))

kept : (x y : List (Node VarRef)) (i : ℕ) (e : Tree VarRef) → Longer x y → Stands x i e → Stands y i e
kept x y i e h s = subst (λ u. Stands u i e) (sym h.1) (stands_more x h.0 i e s)

kept_all : (x y : List (Node VarRef)) (ids : List ℕ) (es : Trees VarRef) → Longer x y → StandAll x ids es → StandAll y ids es
kept_all x y ids es h s = subst (λ u. StandAll u ids es) (sym h.1) (stand_more x h.0 ids es s)

shows_at : (s t : Renamer) (ρ : Scope Var) → t.scope ≡ s.scope → Shows s.scope ρ → Shows t.scope ρ
shows_at s t ρ h shown = subst (λ u. Shows u ρ) (sym h) shown

-- the node that was added
added : (s t : Renamer) (what : What VarRef) (p : Pos) (id : ℕ) → Adds s t what p id → IsNode t.exprs id what p
added s t what p id a =
    subst (λ u. IsNode u id what p) (sym a.exprs)
    (subst (λ i. IsNode (s.exprs ++ record { what = what; pos = p } ∷ []) i what p) (sym a.number)
    (get_last s.exprs (record { what = what; pos = p })))

grown : (s t : Renamer) (what : What VarRef) (p : Pos) (id : ℕ) → Adds s t what p id → Longer s.exprs t.exprs
grown s t what p id a = (record { what = what; pos = p } ∷ [], a.exprs)

-- all that is said of a step whose last part is the node of its expression
made : (s t : Renamer) (ρ : Scope Var) (e : Tree Var) (id m : ℕ) → Longer s.exprs t.exprs → t.next ≡ past s.next e
    → Stands t.exprs id (renamed ρ s.next e) → Renames ρ s.next t.next s.exprs t.exprs e id
made s t ρ e id m longer next stands = record { more = longer.0; exprs = longer.1; next = next; stands = stands }

longer_of : (s t : Renamer) (ρ : Scope Var) (e : Tree Var) (id : ℕ) → Renames ρ s.next t.next s.exprs t.exprs e id
    → Longer s.exprs t.exprs
longer_of s t ρ e id r = (r.more, r.exprs)

longer_all : (s t : Renamer) (ρ : Scope Var) (es : Trees Var) (ids : List ℕ) → RenamesAll ρ s.next t.next s.exprs t.exprs es ids
    → Longer s.exprs t.exprs
longer_all s t ρ es ids r = (r.more, r.exprs)

from : (x : List (Node VarRef)) (i m n : ℕ) (ρ : Scope Var) (e : Tree Var) → m ≡ n → Stands x i (renamed ρ m e)
    → Stands x i (renamed ρ n e)
from x i m n ρ e h s = subst (λ u. Stands x i (renamed ρ u e)) h s

from_all : (x : List (Node VarRef)) (ids : List ℕ) (m n : ℕ) (ρ : Scope Var) (es : Trees Var) → m ≡ n
    → StandAll x ids (all_renamed ρ m es) → StandAll x ids (all_renamed ρ n es)
from_all x ids m n ρ es h s = subst (λ u. StandAll x ids (all_renamed ρ u es)) h s

pub make_const : (s t : Renamer) (p : Pos) (l id : ℕ) → Adds s t (form.Const l) p id → Makes s t (Const p l) id
make_const s t p l id a =
    λ ρ shown. (
      shows_at s t ρ a.scope shown,
      made s t ρ (Const p l) id 0 (grown s t (form.Const l) p id a) a.next (added s t (form.Const l) p id a),
    )

pub make_if : (s s1 s2 s3 t : Renamer) (p : Pos) (a b c : Tree Var) (i j k id : ℕ) → Makes s s1 a i → Makes s1 s2 b j
    → Makes s2 s3 c k → Adds s3 t (form.If i j k) p id → Makes s t (If p a b c) id
make_if s s1 s2 s3 t p a b c i j k id m1 m2 m3 add =
    λ ρ shown.
    let r1 = m1 ρ shown in
    let r2 = m2 ρ r1.0 in
    let r3 = m3 ρ r2.0 in
    let second = r2.1.next ∙ ap (λ m. past m b) r1.1.next in
    let last = grown s3 t (form.If i j k) p id add in
    let end = then s2.exprs s3.exprs t.exprs (r3.1.more, r3.1.exprs) last in
    let tail = then s1.exprs s2.exprs t.exprs (r2.1.more, r2.1.exprs) end in (
      shows_at s3 t ρ add.scope r3.0,
      made s t ρ (If p a b c) id 0 (then s.exprs s1.exprs t.exprs (r1.1.more, r1.1.exprs) tail)
          (add.next ∙ (r3.1.next ∙ ap (λ m. past m c) second)) (
            i,
            j,
            k,
            added s3 t (form.If i j k) p id add,
            kept s1.exprs t.exprs i (renamed ρ s.next a) tail r1.1.stands,
            kept s2.exprs t.exprs j (renamed ρ (past s.next a) b) end (from s2.exprs j s1.next (past s.next a) ρ b r1.1.next r2.1.stands),
            kept s3.exprs t.exprs k (renamed ρ (past (past s.next a) b) c) last
                (from s3.exprs k s2.next (past (past s.next a) b) ρ c second r3.1.stands),
          ),
    )

pub make_set : (s s1 t : Renamer) (p : Pos) (x : Var) (x' : VarRef) (e : Tree Var) (i id : ℕ)
    → ((ρ : Scope Var) → Shows s.scope ρ → x' ≡ refer ρ x) → Makes s s1 e i → Adds s1 t (form.Set x' i) p id
    → Makes s t (Set p x e) id
make_set s s1 t p x x' e i id var m1 add =
    λ ρ shown.
    let r1 = m1 ρ shown in
    let last = grown s1 t (form.Set x' i) p id add in (
      shows_at s1 t ρ add.scope r1.0,
      made s t ρ (Set p x e) id 0 (then s.exprs s1.exprs t.exprs (r1.1.more, r1.1.exprs) last) (add.next ∙ r1.1.next) (
        i,
        subst (λ y. IsNode t.exprs id (form.Set y i) p) (var ρ shown) (added s1 t (form.Set x' i) p id add),
        kept s1.exprs t.exprs i (renamed ρ s.next e) last r1.1.stands,
      ),
    )

pub make_define : (s s1 t : Renamer) (p : Pos) (x y : Var) (e : Tree Var) (i id : ℕ) → y ≡ x → Makes s s1 e i
    → Adds s1 t (form.Define (ref.Top y) i) p id → Makes s t (Define p x e) id
make_define s s1 t p x y e i id var m1 add =
    λ ρ shown.
    let r1 = m1 ρ shown in
    let last = grown s1 t (form.Define (ref.Top y) i) p id add in (
      shows_at s1 t ρ add.scope r1.0,
      made s t ρ (Define p x e) id 0 (then s.exprs s1.exprs t.exprs (r1.1.more, r1.1.exprs) last) (add.next ∙ r1.1.next) (
        i,
        subst (λ z. IsNode t.exprs id (form.Define (ref.Top z) i) p) var (added s1 t (form.Define (ref.Top y) i) p id add),
        kept s1.exprs t.exprs i (renamed ρ s.next e) last r1.1.stands,
      ),
    )

pub make_call : (s s1 s2 t : Renamer) (p : Pos) (f : Tree Var) (es : Trees Var) (i : ℕ) (ids : List ℕ) (id : ℕ) → Makes s s1 f i
    → MakesAll s1 s2 es ids → Adds s2 t (form.Call i ids) p id → Makes s t (Call p f es) id
make_call s s1 s2 t p f es i ids id m1 m2 add =
    λ ρ shown.
    let r1 = m1 ρ shown in
    let r2 = m2 ρ r1.0 in
    let last = grown s2 t (form.Call i ids) p id add in
    let tail = then s1.exprs s2.exprs t.exprs (r2.1.more, r2.1.exprs) last in (
      shows_at s2 t ρ add.scope r2.0,
      made s t ρ (Call p f es) id 0 (then s.exprs s1.exprs t.exprs (r1.1.more, r1.1.exprs) tail)
          (add.next ∙ (r2.1.next ∙ ap (λ m. past_all m es) r1.1.next)) (
            i,
            ids,
            added s2 t (form.Call i ids) p id add,
            kept s1.exprs t.exprs i (renamed ρ s.next f) tail r1.1.stands,
            kept_all s2.exprs t.exprs ids (all_renamed ρ (past s.next f) es) last
                (from_all s2.exprs ids s1.next (past s.next f) ρ es r1.1.next r2.1.stand),
          ),
    )

pub make_prim : (s s1 t : Renamer) (p : Pos) (o : Op) (es : Trees Var) (ids : List ℕ) (id : ℕ) → MakesAll s s1 es ids
    → Adds s1 t (form.Prim o ids) p id → Makes s t (Prim p o es) id
make_prim s s1 t p o es ids id m1 add =
    λ ρ shown.
    let r1 = m1 ρ shown in
    let last = grown s1 t (form.Prim o ids) p id add in (
      shows_at s1 t ρ add.scope r1.0,
      made s t ρ (Prim p o es) id 0 (then s.exprs s1.exprs t.exprs (r1.1.more, r1.1.exprs) last) (add.next ∙ r1.1.next)
          (ids, added s1 t (form.Prim o ids) p id add, kept_all s1.exprs t.exprs ids (all_renamed ρ s.next es) last r1.1.stand),
    )

pub make_seq : (s s1 t : Renamer) (p : Pos) (es : Trees Var) (ids : List ℕ) (id : ℕ) → MakesAll s s1 es ids
    → Adds s1 t (form.Seq ids) p id → Makes s t (Seq p es) id
make_seq s s1 t p es ids id m1 add =
    λ ρ shown.
    let r1 = m1 ρ shown in
    let last = grown s1 t (form.Seq ids) p id add in (
      shows_at s1 t ρ add.scope r1.0,
      made s t ρ (Seq p es) id 0 (then s.exprs s1.exprs t.exprs (r1.1.more, r1.1.exprs) last) (add.next ∙ r1.1.next)
          (ids, added s1 t (form.Seq ids) p id add, kept_all s1.exprs t.exprs ids (all_renamed ρ s.next es) last r1.1.stand),
    )

-- Binders

-- what is seen inside of some variables ends with what is seen outside
inside : (xs : List Var) (n : ℕ) (ρ : Scope Var) → (inner : Scope Var) × (scope_with xs n ρ ≡ inner ++ ρ)
inside [] n ρ = ([], refl)
inside (x ∷ xs) n ρ =
    let h = inside xs (suc n) ((x, n) ∷ ρ) in
    (h.0 ++ (x, n) ∷ [], h.1 ∙ sym (append_assoc h.0 ((x, n) ∷ []) ρ))

inside_rest : (r : Option Var) (n : ℕ) (ρ : Scope Var) → (inner : Scope Var) × (with_rest r n ρ ≡ inner ++ ρ)
inside_rest None n ρ = ([], refl)
inside_rest (Some x) n ρ = ((x, n) ∷ [], refl)

abbrev pub Leaves : (inner outer : Held) (len : ℕ) → Type 0
Leaves inner outer len = (σ ρ : Scope Var) → Shows inner (σ ++ ρ) → length ρ ≡ len → Shows outer ρ

pub make_lambda : (s s1 s2 s3 t : Renamer) (held : Held) (len : ℕ) (p : Pos) (xs : List Var) (xs' : List VarRef) (r : Option Var)
    (r' : Option VarRef) (e : Tree Var) (i id : ℕ) → ((ρ : Scope Var) → Shows s.scope ρ → len ≡ length ρ)
    → xs' ≡ locals s.next xs → Binds s s1 (scope_with xs s.next) (s.next + length xs)
    → r' ≡ local_rest s1.next r → Binds s1 s2 (with_rest r s1.next) (past_rest s1.next r) → Makes s2 s3 e i
    → Leaves s3.scope held len → Adds (record s3 { scope = held }) t (form.Lambda xs' r' i) p id
    → Makes s t (Lambda p xs r e) id
make_lambda s s1 s2 s3 t held len p xs xs' r r' e i id size vars b1 rest b2 m leaves add =
    λ ρ shown.
    let inner = with_rest r s1.next (scope_with xs s.next ρ) in
    let r3 = m inner (b2.scope (scope_with xs s.next ρ) (b1.scope ρ shown)) in
    let one = inside xs s.next ρ in
    let two = inside_rest r s1.next (scope_with xs s.next ρ) in
    let split : inner ≡ (two.0 ++ one.0) ++ ρ = two.1 ∙ (ap (λ u. two.0 ++ u) one.1 ∙ sym (append_assoc two.0 one.0 ρ)) in
    let out = leaves (two.0 ++ one.0) ρ (subst (λ u. Shows s3.scope u) split r3.0) (sym (size ρ shown)) in
    let start : s2.next ≡ past_rest (s.next + length xs) r = b2.next ∙ ap (λ m. past_rest m r) b1.next in
    let first : Longer s.exprs s3.exprs =
    (r3.1.more, r3.1.exprs ∙ ap (λ u. u ++ r3.1.more) (b2.exprs ∙ b1.exprs)) in
    let last : Longer s3.exprs t.exprs = grown (record s3 { scope = held }) t (form.Lambda xs' r' i) p id add in (
      shows_at (record s3 { scope = held }) t ρ add.scope out,
      made s t ρ (Lambda p xs r e) id 0 (then s.exprs s3.exprs t.exprs first last)
          (add.next ∙ (r3.1.next ∙ ap (λ m. past m e) start)) (
            i,
            subst (λ u. IsNode t.exprs id (form.Lambda (locals s.next xs) u i) p) (rest ∙ ap (λ m. local_rest m r) b1.next)
                (subst (λ u. IsNode t.exprs id (form.Lambda u r' i) p) vars
                (added (record s3 { scope = held }) t (form.Lambda xs' r' i) p id add)),
            kept s3.exprs t.exprs i (renamed (with_rest r (s.next + length xs) (scope_with xs s.next ρ)) (past_rest (s.next + length xs) r) e)
                last
                (subst (λ m. Stands s3.exprs i (renamed (with_rest r m (scope_with xs s.next ρ)) (past_rest (s.next + length xs) r) e)) b1.next
                (from s3.exprs i s2.next (past_rest (s.next + length xs) r) inner e start r3.1.stands)),
          ),
    )

pub make_fix : (s s1 s2 s3 t : Renamer) (held : Held) (len : ℕ) (p : Pos) (xs : List Var) (xs' : List VarRef) (ls : Trees Var)
    (e : Tree Var) (ids : List ℕ) (i id : ℕ) → ((ρ : Scope Var) → Shows s.scope ρ → len ≡ length ρ)
    → xs' ≡ locals s.next xs → Binds s s1 (scope_with xs s.next) (s.next + length xs) → MakesAll s1 s2 ls ids → Makes s2 s3 e i
    → Leaves s3.scope held len → Adds (record s3 { scope = held }) t (form.Fix xs' ids i) p id
    → Makes s t (Fix p xs ls e) id
make_fix s s1 s2 s3 t held len p xs xs' ls e ids i id size vars b1 m1 m2 leaves add =
    λ ρ shown.
    let inner = scope_with xs s.next ρ in
    let r2 = m1 inner (b1.scope ρ shown) in
    let r3 = m2 inner r2.0 in
    let one = inside xs s.next ρ in
    let out = leaves one.0 ρ (subst (λ u. Shows s3.scope u) one.1 r3.0) (sym (size ρ shown)) in
    let start : s2.next ≡ past_all (s.next + length xs) ls = r2.1.next ∙ ap (λ m. past_all m ls) b1.next in
    let first : Longer s.exprs s2.exprs = (r2.1.more, r2.1.exprs ∙ ap (λ u. u ++ r2.1.more) b1.exprs) in
    let last : Longer s3.exprs t.exprs = grown (record s3 { scope = held }) t (form.Fix xs' ids i) p id add in
    let tail = then s2.exprs s3.exprs t.exprs (r3.1.more, r3.1.exprs) last in (
      shows_at (record s3 { scope = held }) t ρ add.scope out,
      made s t ρ (Fix p xs ls e) id 0 (then s.exprs s2.exprs t.exprs first tail)
          (add.next ∙ (r3.1.next ∙ ap (λ m. past m e) start)) (
            ids,
            i,
            subst (λ u. IsNode t.exprs id (form.Fix u ids i) p) vars (added (record s3 { scope = held }) t (form.Fix xs' ids i) p id add),
            kept_all s2.exprs t.exprs ids (all_renamed inner (s.next + length xs) ls) tail
                (from_all s2.exprs ids s1.next (s.next + length xs) inner ls b1.next r2.1.stand),
            kept s3.exprs t.exprs i (renamed inner (past_all (s.next + length xs) ls) e) last
                (from s3.exprs i s2.next (past_all (s.next + length xs) ls) inner e start r3.1.stands),
          ),
    )

-- Lists

-- Some expressions are renamed, and those of these numbers are left.
abbrev pub Follows : (exprs : List (Node Var)) (ρ : Scope Var) (s t : Renamer) (es : Trees Var) (left done : List ℕ) → Type 0
Follows exprs ρ s t es left done =
    Shows t.scope ρ
    × (others : Trees Var) × StandAll exprs left others
    × ((m : ℕ) (after : List (Node VarRef)) (ids : List ℕ) → RenamesAll ρ t.next m t.exprs after others ids
    → RenamesAll ρ s.next m s.exprs after es (done ++ ids))

one_more : (ρ : Scope Var) (n m k : ℕ) (x y z : List (Node VarRef)) (e : Tree Var) (es : Trees Var) (id : ℕ) (ids : List ℕ)
    → Renames ρ n m x y e id → RenamesAll ρ m k y z es ids → RenamesAll ρ n k x z (item e es) (id ∷ ids)
one_more ρ n m k x y z e es id ids r q =
    let longer = then x y z (r.more, r.exprs) (q.more, q.exprs) in
    record {
      more = longer.0;
      exprs = longer.1;
      next = q.next ∙ ap (λ u. past_all u es) r.next;
      stand = (
        id,
        ids,
        refl,
        kept y z id (renamed ρ n e) (q.more, q.exprs) r.stands,
        from_all z ids m (past n e) ρ es r.next q.stand,
      );
    }

pub list_begins : (exprs : List (Node Var)) (ρ : Scope Var) (s t : Renamer) (es : Trees Var) (left done : List ℕ) → t ≡ s
    → done ≡ [] → StandAll exprs left es → Shows s.scope ρ → Follows exprs ρ s t es left done
list_begins exprs ρ s t es left done same nothing stand shown =
    subst (λ u. Follows exprs ρ s u es left done) (sym same)
    (subst (λ d. Follows exprs ρ s s es left d) (sym nothing) (shown, es, stand, λ m after ids r. r))

pub list_goes : (exprs : List (Node Var)) (ρ : Scope Var) (s t u : Renamer) (es : Trees Var) (left others done now : List ℕ)
    (expr id : ℕ) → Follows exprs ρ s t es left done → left ≡ expr ∷ others
    → ((e : Tree Var) → Stands exprs expr e → Makes t u e id) → now ≡ done ++ id ∷ [] → Follows exprs ρ s u es others now
list_goes exprs ρ s t u es left others done now expr id f first makes grows =
    subst (λ d. Follows exprs ρ s u es others d) (sym grows) (by f.1 f.2 f.3)
  where
    by : (rest : Trees Var) → StandAll exprs left rest
        → ((m : ℕ) (after : List (Node VarRef)) (ids : List ℕ) → RenamesAll ρ t.next m t.exprs after rest ids
        → RenamesAll ρ s.next m s.exprs after es (done ++ ids))
        → Follows exprs ρ s u es others (done ++ id ∷ [])
    by none stand go = absurd (differ expr others (sym first ∙ stand))
      where
        differ : (i : ℕ) (is : List ℕ) → i ∷ is ≡ [] → ⊥
        differ i is e = cc
    by (item e rest) stand go =
        let same = sym first ∙ stand.2 in
        let r = makes e (subst (λ i. Stands exprs i e) (sym (head expr stand.0 others stand.1 same)) stand.3) ρ f.0 in (
          r.0,
          rest,
          subst (λ is. StandAll exprs is rest) (sym (tail expr stand.0 others stand.1 same)) stand.4,
          λ m after ids q.
              subst (λ d. RenamesAll ρ s.next m s.exprs after es d) (sym (append_assoc done (id ∷ []) ids))
              (go m after (id ∷ ids) (one_more ρ t.next u.next m t.exprs u.exprs after e rest id ids r.1 q)),
        )
      where
        head : (i j : ℕ) (is js : List ℕ) → i ∷ is ≡ j ∷ js → i ≡ j
        head i j is js e = cc

        tail : (i j : ℕ) (is js : List ℕ) → i ∷ is ≡ j ∷ js → is ≡ js
        tail i j is js e = cc

pub list_ends : (exprs : List (Node Var)) (ρ : Scope Var) (s t : Renamer) (es : Trees Var) (left done : List ℕ)
    → Follows exprs ρ s t es left done → length left ≡ 0
    → Shows t.scope ρ × RenamesAll ρ s.next t.next s.exprs t.exprs es done
list_ends exprs ρ s t es (i ∷ left) done f few = absurd (omega (arith, few))
list_ends exprs ρ s t es [] done f few = (f.0, by f.1 f.2 f.3)
  where
    by : (rest : Trees Var) → StandAll exprs [] rest
        → ((m : ℕ) (after : List (Node VarRef)) (ids : List ℕ) → RenamesAll ρ t.next m t.exprs after rest ids
        → RenamesAll ρ s.next m s.exprs after es (done ++ ids))
        → RenamesAll ρ s.next t.next s.exprs t.exprs es done
    by none stand go =
        subst (λ d. RenamesAll ρ s.next t.next s.exprs t.exprs es d) (append-nil done)
        (go t.next t.exprs [] (record { more = []; exprs = sym (append-nil t.exprs); next = refl; stand = refl }))
    by (item e rest) stand go = absurd (differ stand.0 stand.1 stand.2)
      where
        differ : (i : ℕ) (is : List ℕ) → [] ≡ i ∷ is → ⊥
        differ i is e = cc
