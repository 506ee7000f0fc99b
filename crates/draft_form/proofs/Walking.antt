-- What the visits of a draft lead to: all of an expression leads to what its parts and its end lead to.
use Rattle.std.proofs.Common.{◌≡◌, ℕ, suc, ◌+◌, List, [], ◌∷◌, ◌++◌, length, Option, None, Some, refl, sym, ap, subst, ◌∙◌, arith, append_assoc, length-append, append-nil}
use Rattle.std.specs.Prelude.{map, slice_get}
use Rattle.std.specs.Option.{option_map}
use Rattle.std.specs.Borrow.{Bor}
use Rattle.scheme_base.specs.declared.pos.Pos.{Pos}
use Rattle.scheme_base.specs.declared.lit.Lit.{Lit}
use Rattle.scheme_base.specs.declared.op.Op.{Op}
use Rattle.scheme_base.specs.Constants.{Constant}
use Rattle.scheme_base.proofs.Lists.{same_item}
use Rattle.core_form.specs.declared.program.Node.{Node}
use Rattle.core_form.specs.declared.program.Var.{Var}
use Rattle.core_form.specs.declared.program.What.{What}
use Rattle.core_form.specs.declared.program.What.TheVariants as form
use Rattle.core_form.specs.Trees.{Tree, Trees, IsNode, count}
use Rattle.core_form.specs.Trees as tree
use Rattle.draft_form.specs.declared.draft.Variable.{Variable}
use Rattle.draft_form.specs.declared.level.Visit.{Visit}
use Rattle.draft_form.specs.declared.level.Visit.TheVariants.{Begin, End}
use Rattle.draft_form.specs.Drafts.{Name, Draft, Drafts, Part, Const, Symbols, Ref, Lambda, If, Set, Call, Prim, Seq, Fix, Define, none, item, parts, all_parts}
use Rattle.draft_form.specs.Drawn.{Drawn, AllDrawn, name_of}
use Rattle.draft_form.specs.Numbers.{Given, At, size, all_sizes, constants, laid, laid_list, literals_in, fresh_in, give_all, all_named, maybe_named, bound_fresh, all_bound_fresh, after, after_all, numbered, all_numbered}
use Rattle.draft_form.specs.Numbering.{var_of, with_literals, at_of, done_then, Walk, Expects}
use Rattle.draft_form.specs.Parts.{bound_in, ids_in}
use Rattle.draft_form.proofs.Laying.{laid_list-length, constants-append}

-- Literals behind others

pub no_more : (i : ℕ) → i ≡ i + 0
no_more i = omega arith

pub sum : (i n m : ℕ) → (i + n) + m ≡ i + (n + m)
sum i n m = omega arith

laid_list-append : (i : ℕ) (cs ds : List Constant) → laid_list i (cs ++ ds) ≡ laid_list i cs ++ laid_list (i + all_sizes cs) ds
laid_list-append i [] ds = ap (λ k. laid_list k ds) (no_more i)
laid_list-append i (c ∷ cs) ds =
    ap (λ ls. laid i c ++ ls)
    (laid_list-append (i + size c) cs ds
    ∙ ap (λ k. laid_list (i + size c) cs ++ laid_list k ds) (sum i (size c) (all_sizes cs)))
    ∙ sym (append_assoc (laid i c) (laid_list (i + size c) cs) (laid_list (i + (size c + all_sizes cs)) ds))

literals-length : (s : Constant) (lits : List Lit) (found : List Part)
    → length (with_literals s lits found) ≡ length lits + literals_in s found
literals-length s lits found =
    length-append lits (laid_list (length lits) (constants s found))
    ∙ ap (λ n. length lits + n) (laid_list-length (length lits) (constants s found))

pub literals-append : (s : Constant) (lits : List Lit) (ps qs : List Part)
    → with_literals s lits (ps ++ qs) ≡ with_literals s (with_literals s lits ps) qs
literals-append s lits ps qs =
    let n : ℕ = length lits in
    let first : List Constant = constants s ps in
    let second : List Constant = constants s qs in
    ap (λ cs. lits ++ laid_list n cs) (constants-append s ps qs)
    ∙ (ap (λ ls. lits ++ ls) (laid_list-append n first second)
    ∙ (sym (append_assoc lits (laid_list n first) (laid_list (n + all_sizes first) second))
    ∙ ap (λ k. with_literals s lits ps ++ laid_list k second) (sym (literals-length s lits ps))))

pub at_after : (s : Constant) (lits : List Lit) (n : ℕ) (e : Draft)
    → after s (at_of lits n) e ≡ at_of (with_literals s lits (parts e)) (n + bound_fresh e)
at_after s lits n e =
    let A : ℕ → At = λ k. record { literals = k; fresh = n + bound_fresh e } in ap A (sym (literals-length s lits (parts e)))

at_after_all : (s : Constant) (lits : List Lit) (n : ℕ) (es : Drafts)
    → after_all s (at_of lits n) es ≡ at_of (with_literals s lits (all_parts es)) (n + all_bound_fresh es)
at_after_all s lits n es =
    let A : ℕ → At = λ k. record { literals = k; fresh = n + all_bound_fresh es } in ap A (sym (literals-length s lits (all_parts es)))

-- Visits

pub moved : (w : Walk) (vs : List Visit) (g : Given) (lits lits2 : List Lit) (n n2 : ℕ) (ds ds2 : List (Tree Var)) → lits ≡ lits2 → n ≡ n2
    → ds ≡ ds2 → Expects w vs g lits n ds → Expects w vs g lits2 n2 ds2
moved w vs g lits lits2 n n2 ds ds2 a b c h =
    let P : List Lit → Type 0 = λ l. Expects w vs g l n ds in
    let Q : ℕ → Type 0 = λ k. Expects w vs g lits2 k ds in
    let R : List (Tree Var) → Type 0 = λ d. Expects w vs g lits2 n2 d in
    subst R c (subst Q b (subst P a h))

abbrev pub begins : List ℕ → List Visit
begins [] = []
begins (id ∷ ids) = Begin id ∷ begins ids

begin_all : (w : Walk) (vs : List Visit) (g : Given) (es : Drafts) (ids : List ℕ) (lits : List Lit) (n : ℕ) (ds : List (Tree Var))
    → AllDrawn w.words w.nodes w.table ids es
    → Expects w vs g (with_literals w.symbols lits (all_parts es)) (n + all_bound_fresh es)
    (done_then (all_numbered w.symbols g (at_of lits n) es) ds)
    → Expects w (begins ids ++ vs) g lits n ds
begin_all w vs g none ids lits n ds drawn h =
    let P : List ℕ → Type 0 = λ is. Expects w (begins is ++ vs) g lits n ds in
    subst P (sym drawn) (moved w vs g _ lits _ n ds ds (append-nil lits) (sym (no_more n)) refl h)
begin_all w vs g (item e es) ids lits n ds drawn h =
    let s : Constant = w.symbols in
    let next : List Lit = with_literals s lits (parts e) in
    let t : Tree Var = numbered s g (at_of lits n) e in
    let P : List ℕ → Type 0 = λ is. Expects w (begins is ++ vs) g lits n ds in
    let rest : Expects w (begins drawn.1 ++ vs) g next (n + bound_fresh e) (t ∷ ds) =
    begin_all w vs g es drawn.1 next (n + bound_fresh e) (t ∷ ds) drawn.4
    (moved w vs g _ _ _ _ _ _ (literals-append s lits (parts e) (all_parts es)) (sym (sum n (bound_fresh e) (all_bound_fresh es)))
    (ap (λ at. done_then (all_numbered s g at es) (t ∷ ds)) (at_after s lits n e)) h) in
    subst P (sym drawn.2) (e, drawn.3, rest)

begins-append : (ids others : List ℕ) (vs : List Visit) → begins (ids ++ others) ++ vs ≡ begins ids ++ (begins others ++ vs)
begins-append [] others vs = refl
begins-append (id ∷ ids) others vs = ap (λ l. Begin id ∷ l) (begins-append ids others vs)

drawn_count : (w : Walk) (es : Drafts) (ids : List ℕ) (g : Given) (at : At) → AllDrawn w.words w.nodes w.table ids es
    → length ids ≡ count (all_numbered w.symbols g at es)
drawn_count w none ids g at h = ap (λ l. length l) h
drawn_count w (item e es) ids g at h = ap (λ l. length l) h.2 ∙ ap suc (drawn_count w es h.1 g _ h.4)

-- Names

all_named-map : (words : List (Bor (List ℕ))) (g : Given) (vs : List Variable) → all_named g (map (name_of words) vs) ≡ map (var_of words g) vs
all_named-map words g [] = refl
all_named-map words g (v ∷ vs) = ap (λ xs. var_of words g v ∷ xs) (all_named-map words g vs)

maybe_named-map : (words : List (Bor (List ℕ))) (g : Given) (r : Option Variable)
    → maybe_named g (option_map (name_of words) r) ≡ option_map (var_of words g) r
maybe_named-map words g None = refl
maybe_named-map words g (Some v) = refl

-- Expressions with parts

-- what follows the parts, where the bound variables have their numbers
abbrev pub Follows : Walk → (vs middle : List Visit) → Given → ℕ → What Variable → Type 0
Follows w vs middle g n what =
    (lits : List Lit) (m : ℕ) (ds : List (Tree Var)) → Expects w vs g lits m ds
    → Expects w middle (give_all g n (map (name_of w.words) (bound_in what))) lits m ds

abbrev pub IsOpen : Walk → ℕ → (vs middle : List Visit) → Given → List Lit → ℕ → List (Tree Var) → What Variable → Type 0
IsOpen w id vs middle g lits n ds what =
    Follows w vs middle g n what
    → Expects w (begins (ids_in what) ++ End id ∷ middle) (give_all g n (map (name_of w.words) (bound_in what))) lits
    (n + fresh_in (map (name_of w.words) (bound_in what))) ds

abbrev pub Leads : Walk → List Visit → Given → List Lit → ℕ → List (Tree Var) → Draft → Type 0
Leads w vs g lits n ds e =
    Expects w vs g (with_literals w.symbols lits (parts e)) (n + bound_fresh e) (numbered w.symbols g (at_of lits n) e ∷ ds)

-- nothing is bound
unbound : (w : Walk) (vs : List Visit) (g : Given) (lits : List Lit) (n : ℕ) (ds : List (Tree Var)) → Expects w vs g lits n ds
    → Expects w vs g lits (n + 0) ds
unbound w vs g lits n ds h = moved w vs g lits lits n (n + 0) ds ds refl (no_more n) refl h

open_if : (w : Walk) (id : ℕ) (vs middle : List Visit) (g : Given) (lits : List Lit) (n : ℕ) (ds : List (Tree Var)) (p : Pos)
    (a b c : Draft) (x y z : ℕ) → IsNode w.table.exprs.items id (form.If x y z) p → Drawn w.words w.nodes w.table x a
    → Drawn w.words w.nodes w.table y b → Drawn w.words w.nodes w.table z c → Leads w vs g lits n ds (If p a b c)
    → IsOpen w id vs middle g lits n ds (form.If x y z)
open_if w id vs middle g lits n ds p a b c x y z node da db dc leads follows =
    let s : Constant = w.symbols in
    let l1 : List Lit = with_literals s lits (parts a) in
    let l2 : List Lit = with_literals s l1 (parts b) in
    let n1 : ℕ = n + bound_fresh a in
    let n2 : ℕ = n1 + bound_fresh b in
    let first : Tree Var = numbered s g (at_of lits n) a in
    let second : Tree Var = numbered s g (at_of l1 n1) b in
    let third : Tree Var = numbered s g (at_of l2 n2) c in
    let at1 = at_after s lits n a in
    let at2 = ap (λ at. after s at b) at1 ∙ at_after s l1 n1 b in
    let all : numbered s g (at_of lits n) (If p a b c) ≡ tree.If p first second third =
    ap (λ at. tree.If p first (numbered s g at b) (numbered s g (after s (after s (at_of lits n) a) b) c)) at1
    ∙ ap (λ at. tree.If p first second (numbered s g at c)) at2 in
    let more : with_literals s lits (parts (If p a b c)) ≡ with_literals s l2 (parts c) =
    literals-append s lits (parts a) (parts b ++ parts c) ∙ literals-append s l1 (parts b) (parts c) in
    let fresh : n + bound_fresh (If p a b c) ≡ n2 + bound_fresh c = omega arith in
    let last : Expects w middle g (with_literals s l2 (parts c)) (n2 + bound_fresh c) (tree.If p first second third ∷ ds) =
    follows _ _ _ (moved w vs g _ _ _ _ _ _ more fresh (ap (λ t. t ∷ ds) all) leads) in
    let found : Expects w (begins (ids_in (form.If x y z)) ++ End id ∷ middle) g lits n ds =
    (a, da, (b, db, (c, dc, (form.If x y z, p, tree.If p first second third, ds, node, (first, second, third, refl), refl, last)))) in
    unbound w (begins (ids_in (form.If x y z)) ++ End id ∷ middle) g lits n ds found

open_lambda : (w : Walk) (id : ℕ) (vs middle : List Visit) (g : Given) (lits : List Lit) (n : ℕ) (ds : List (Tree Var)) (p : Pos)
    (xs : List Variable) (r : Option Variable) (e : Draft) (body : ℕ) → IsNode w.table.exprs.items id (form.Lambda xs r body) p
    → Drawn w.words w.nodes w.table body e
    → Leads w vs g lits n ds (Lambda p (map (name_of w.words) xs) (option_map (name_of w.words) r) e)
    → IsOpen w id vs middle g lits n ds (form.Lambda xs r body)
open_lambda w id vs middle g lits n ds p xs r e body node drawn leads follows =
    let names : List Name = map (name_of w.words) xs in
    let rest : Option Name = option_map (name_of w.words) r in
    let h : Given = give_all g n names in
    let m : ℕ = n + fresh_in names in
    let t : Tree Var = numbered w.symbols h (at_of lits m) e in
    let whole : Tree Var = tree.Lambda p (map (var_of w.words h) xs) (option_map (var_of w.words h) r) t in
    let all : numbered w.symbols g (at_of lits n) (Lambda p names rest e) ≡ whole =
    ap (λ ys. tree.Lambda p ys (maybe_named h rest) t) (all_named-map w.words h xs)
    ∙ ap (λ y. tree.Lambda p (map (var_of w.words h) xs) y t) (maybe_named-map w.words h r) in
    let last : Expects w middle h (with_literals w.symbols lits (parts e)) (m + bound_fresh e) (whole ∷ ds) =
    follows _ _ _ (moved w vs g _ _ _ _ _ _ refl (sym (sum n (fresh_in names) (bound_fresh e))) (ap (λ x. x ∷ ds) all) leads) in
    (e, drawn, (form.Lambda xs r body, p, whole, ds, node, (t, refl), refl, last))

open_set : (w : Walk) (id : ℕ) (vs middle : List Visit) (g : Given) (lits : List Lit) (n : ℕ) (ds : List (Tree Var)) (p : Pos)
    (v : Variable) (e : Draft) (value : ℕ) → IsNode w.table.exprs.items id (form.Set v value) p
    → Drawn w.words w.nodes w.table value e → Leads w vs g lits n ds (Set p (name_of w.words v) e)
    → IsOpen w id vs middle g lits n ds (form.Set v value)
open_set w id vs middle g lits n ds p v e value node drawn leads follows =
    let t : Tree Var = numbered w.symbols g (at_of lits n) e in
    let found : Expects w (begins (ids_in (form.Set v value)) ++ End id ∷ middle) g lits n ds =
    (e, drawn, (form.Set v value, p, tree.Set p (var_of w.words g v) t, ds, node, (t, refl), refl, follows _ _ _ leads)) in
    unbound w (begins (ids_in (form.Set v value)) ++ End id ∷ middle) g lits n ds found

open_define : (w : Walk) (id : ℕ) (vs middle : List Visit) (g : Given) (lits : List Lit) (n : ℕ) (ds : List (Tree Var)) (p : Pos)
    (v : Variable) (e : Draft) (value : ℕ) → IsNode w.table.exprs.items id (form.Define v value) p
    → Drawn w.words w.nodes w.table value e → Leads w vs g lits n ds (Define p (name_of w.words v) e)
    → IsOpen w id vs middle g lits n ds (form.Define v value)
open_define w id vs middle g lits n ds p v e value node drawn leads follows =
    let t : Tree Var = numbered w.symbols g (at_of lits n) e in
    let found : Expects w (begins (ids_in (form.Define v value)) ++ End id ∷ middle) g lits n ds =
    (e, drawn, (form.Define v value, p, tree.Define p (var_of w.words g v) t, ds, node, (t, refl), refl, follows _ _ _ leads)) in
    unbound w (begins (ids_in (form.Define v value)) ++ End id ∷ middle) g lits n ds found

open_call : (w : Walk) (id : ℕ) (vs middle : List Visit) (g : Given) (lits : List Lit) (n : ℕ) (ds : List (Tree Var)) (p : Pos)
    (f : Draft) (es : Drafts) (operator : ℕ) (operands : List ℕ) → IsNode w.table.exprs.items id (form.Call operator operands) p
    → Drawn w.words w.nodes w.table operator f → AllDrawn w.words w.nodes w.table operands es
    → Leads w vs g lits n ds (Call p f es) → IsOpen w id vs middle g lits n ds (form.Call operator operands)
open_call w id vs middle g lits n ds p f es operator operands node df des leads follows =
    let s : Constant = w.symbols in
    let l1 : List Lit = with_literals s lits (parts f) in
    let n1 : ℕ = n + bound_fresh f in
    let first : Tree Var = numbered s g (at_of lits n) f in
    let others : Trees Var = all_numbered s g (at_of l1 n1) es in
    let all : numbered s g (at_of lits n) (Call p f es) ≡ tree.Call p first others =
    ap (λ at. tree.Call p first (all_numbered s g at es)) (at_after s lits n f) in
    let last : Expects w middle g (with_literals s l1 (all_parts es)) (n1 + all_bound_fresh es) (tree.Call p first others ∷ ds) =
    follows _ _ _ (moved w vs g _ _ _ _ _ _ (literals-append s lits (parts f) (all_parts es))
    (sym (sum n (bound_fresh f) (all_bound_fresh es))) (ap (λ t. t ∷ ds) all) leads) in
    let found : Expects w (begins (ids_in (form.Call operator operands)) ++ End id ∷ middle) g lits n ds = (
      f,
      df,
      begin_all w (End id ∷ middle) g es operands l1 n1 (first ∷ ds) des
          (form.Call operator operands, p, tree.Call p first others, ds, node, (first, others, drawn_count w es operands g _ des, refl), refl, last),
    ) in
    unbound w (begins (ids_in (form.Call operator operands)) ++ End id ∷ middle) g lits n ds found

open_prim : (w : Walk) (id : ℕ) (vs middle : List Visit) (g : Given) (lits : List Lit) (n : ℕ) (ds : List (Tree Var)) (p : Pos)
    (o : Op) (es : Drafts) (operands : List ℕ) → IsNode w.table.exprs.items id (form.Prim o operands) p
    → AllDrawn w.words w.nodes w.table operands es → Leads w vs g lits n ds (Prim p o es)
    → IsOpen w id vs middle g lits n ds (form.Prim o operands)
open_prim w id vs middle g lits n ds p o es operands node des leads follows =
    let others : Trees Var = all_numbered w.symbols g (at_of lits n) es in
    unbound w _ g lits n ds
    (begin_all w (End id ∷ middle) g es operands lits n ds des
    (form.Prim o operands, p, tree.Prim p o others, ds, node, (others, drawn_count w es operands g _ des, refl), refl, follows _ _ _ leads))

open_seq : (w : Walk) (id : ℕ) (vs middle : List Visit) (g : Given) (lits : List Lit) (n : ℕ) (ds : List (Tree Var)) (p : Pos)
    (es : Drafts) (items : List ℕ) → IsNode w.table.exprs.items id (form.Seq items) p
    → AllDrawn w.words w.nodes w.table items es → Leads w vs g lits n ds (Seq p es)
    → IsOpen w id vs middle g lits n ds (form.Seq items)
open_seq w id vs middle g lits n ds p es items node des leads follows =
    let others : Trees Var = all_numbered w.symbols g (at_of lits n) es in
    unbound w _ g lits n ds
    (begin_all w (End id ∷ middle) g es items lits n ds des
    (form.Seq items, p, tree.Seq p others, ds, node, (others, drawn_count w es items g _ des, refl), refl, follows _ _ _ leads))

open_fix : (w : Walk) (id : ℕ) (vs middle : List Visit) (g : Given) (lits : List Lit) (n : ℕ) (ds : List (Tree Var)) (p : Pos)
    (xs : List Variable) (es : Drafts) (e : Draft) (lambdas : List ℕ) (body : ℕ)
    → IsNode w.table.exprs.items id (form.Fix xs lambdas body) p → AllDrawn w.words w.nodes w.table lambdas es
    → Drawn w.words w.nodes w.table body e → Leads w vs g lits n ds (Fix p (map (name_of w.words) xs) es e)
    → IsOpen w id vs middle g lits n ds (form.Fix xs lambdas body)
open_fix w id vs middle g lits n ds p xs es e lambdas body node des drawn leads follows =
    let s : Constant = w.symbols in
    let names : List Name = map (name_of w.words) xs in
    let h : Given = give_all g n names in
    let m : ℕ = n + fresh_in names in
    let l1 : List Lit = with_literals s lits (all_parts es) in
    let n1 : ℕ = m + all_bound_fresh es in
    let others : Trees Var = all_numbered s h (at_of lits m) es in
    let t : Tree Var = numbered s h (at_of l1 n1) e in
    let whole : Tree Var = tree.Fix p (map (var_of w.words h) xs) others t in
    let all : numbered s g (at_of lits n) (Fix p names es e) ≡ whole =
    ap (λ ys. tree.Fix p ys others (numbered s h (after_all s (at_of lits m) es) e)) (all_named-map w.words h xs)
    ∙ ap (λ at. tree.Fix p (map (var_of w.words h) xs) others (numbered s h at e)) (at_after_all s lits m es) in
    let count_all : n + (fresh_in names + (all_bound_fresh es + bound_fresh e)) ≡ n1 + bound_fresh e = omega arith in
    let last : Expects w middle h (with_literals s l1 (parts e)) (n1 + bound_fresh e) (whole ∷ ds) =
    follows _ _ _ (moved w vs g _ _ _ _ _ _ (literals-append s lits (all_parts es) (parts e)) count_all (ap (λ x. x ∷ ds) all) leads) in
    let P : List Visit → Type 0 = λ l. Expects w l h lits m ds in
    subst P (sym (begins-append lambdas (body ∷ []) (End id ∷ middle)))
    (begin_all w (Begin body ∷ End id ∷ middle) h es lambdas lits m ds des
    (e, drawn, (form.Fix xs lambdas body, p, whole, ds, node, (others, t, drawn_count w es lambdas h _ des, refl), refl, last)))

-- Any expression with parts

abbrev pub IsCompound : What Variable → Type 0
IsCompound (form.Const k) = ⊥
IsCompound (form.Ref v) = ⊥
IsCompound what = Unit {0}

pub same_what : (nodes : List (Node Variable)) (id : ℕ) (what other : What Variable) (p q : Pos) → IsNode nodes id what p → IsNode nodes id other q
    → other ≡ what
same_what nodes id what other p q h k =
    ap (λ n. n.what) (same_item (slice_get nodes id) (record { what = other; pos = q }) (record { what = what; pos = p }) k h)

pub opened : (w : Walk) (id : ℕ) (vs middle : List Visit) (g : Given) (lits : List Lit) (n : ℕ) (ds : List (Tree Var)) (what : What Variable) (p : Pos)
    → IsNode w.table.exprs.items id what p → IsCompound what → (e : Draft) → Drawn w.words w.nodes w.table id e
    → Leads w vs g lits n ds e → IsOpen w id vs middle g lits n ds what
opened w id vs middle g lits n ds what p node parts_in (Const q c) d leads =
    absurd (subst IsCompound (sym (same_what _ id what _ p q node d.2)) parts_in)
opened w id vs middle g lits n ds what p node parts_in (Symbols q) d leads =
    absurd (subst IsCompound (sym (same_what _ id what _ p q node d.1)) parts_in)
opened w id vs middle g lits n ds what p node parts_in (Ref q x) d leads =
    absurd (subst IsCompound (sym (same_what _ id what _ p q node d.1)) parts_in)
opened w id vs middle g lits n ds what p node parts_in (Lambda q xs r e) d leads =
    let P : List Name → Type 0 = λ ys. Leads w vs g lits n ds (Lambda q ys r e) in
    let Q : Option Name → Type 0 = λ y. Leads w vs g lits n ds (Lambda q (map (name_of w.words) d.0) y e) in
    subst (IsOpen w id vs middle g lits n ds) (same_what _ id what _ p q node d.3)
    (open_lambda w id vs middle g lits n ds q d.0 d.1 e d.2 d.3 d.6 (subst Q d.5 (subst P d.4 leads)))
opened w id vs middle g lits n ds what p node parts_in (If q a b c) d leads =
    subst (IsOpen w id vs middle g lits n ds) (same_what _ id what _ p q node d.3)
    (open_if w id vs middle g lits n ds q a b c d.0 d.1 d.2 d.3 d.4 d.5 d.6 leads)
opened w id vs middle g lits n ds what p node parts_in (Set q x e) d leads =
    let P : Name → Type 0 = λ y. Leads w vs g lits n ds (Set q y e) in
    subst (IsOpen w id vs middle g lits n ds) (same_what _ id what _ p q node d.2)
    (open_set w id vs middle g lits n ds q d.0 e d.1 d.2 d.4 (subst P d.3 leads))
opened w id vs middle g lits n ds what p node parts_in (Call q f es) d leads =
    subst (IsOpen w id vs middle g lits n ds) (same_what _ id what _ p q node d.2)
    (open_call w id vs middle g lits n ds q f es d.0 d.1 d.2 d.3 d.4 leads)
opened w id vs middle g lits n ds what p node parts_in (Prim q o es) d leads =
    subst (IsOpen w id vs middle g lits n ds) (same_what _ id what _ p q node d.1)
    (open_prim w id vs middle g lits n ds q o es d.0 d.1 d.2 leads)
opened w id vs middle g lits n ds what p node parts_in (Seq q es) d leads =
    subst (IsOpen w id vs middle g lits n ds) (same_what _ id what _ p q node d.1)
    (open_seq w id vs middle g lits n ds q es d.0 d.1 d.2 leads)
opened w id vs middle g lits n ds what p node parts_in (Fix q xs es e) d leads =
    let P : List Name → Type 0 = λ ys. Leads w vs g lits n ds (Fix q ys es e) in
    subst (IsOpen w id vs middle g lits n ds) (same_what _ id what _ p q node d.3)
    (open_fix w id vs middle g lits n ds q d.0 es e d.1 d.2 d.3 d.5 d.6 (subst P d.4 leads))
opened w id vs middle g lits n ds what p node parts_in (Define q x e) d leads =
    let P : Name → Type 0 = λ y. Leads w vs g lits n ds (Define q y e) in
    subst (IsOpen w id vs middle g lits n ds) (same_what _ id what _ p q node d.2)
    (open_define w id vs middle g lits n ds q d.0 e d.1 d.2 d.4 (subst P d.3 leads))
