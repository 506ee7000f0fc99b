-- After each visit a walk still comes to the same end.
use Rattle.std.proofs.Common.{◌≡◌, ℕ, ◌+◌, List, [], ◌∷◌, ◌++◌, length, reverse, false, Option, Some, None, refl, sym, ap, subst, ◌∙◌, append_assoc, append-nil}
use Rattle.std.specs.Prelude.{map, slice_get, codes}
use Rattle.std.specs.Fmt.{decimal}
use Rattle.std.specs.Option.{option_map}
use Rattle.std.proofs.lemmas.List.{map-append, reverse-append}
use Rattle.scheme_base.specs.declared.pos.Pos.{Pos}
use Rattle.scheme_base.specs.declared.lit.Lit.{Lit}
use Rattle.scheme_base.specs.Constants.{Constant}
use Rattle.scheme_base.proofs.Lists.{same_item}
use Rattle.core_form.specs.declared.program.Node.{Node}
use Rattle.core_form.specs.declared.program.Var.{Var}
use Rattle.core_form.specs.declared.program.What.{What}
use Rattle.core_form.specs.declared.program.What.TheVariants as form
use Rattle.core_form.specs.Trees.{Tree, IsNode, Stands}
use Rattle.core_form.specs.Trees as tree
use Rattle.draft_form.specs.declared.draft.Constant.{Constant as Held}
use Rattle.draft_form.specs.declared.draft.Constant.TheVariants as held
use Rattle.draft_form.specs.declared.draft.Variable.{Variable}
use Rattle.draft_form.specs.declared.growing.Growing.{Growing}
use Rattle.draft_form.specs.declared.level.Levels.{Levels}
use Rattle.draft_form.specs.declared.level.Visit.{Visit}
use Rattle.draft_form.specs.declared.level.Visit.TheVariants.{Begin, End, Restore}
use Rattle.draft_form.specs.Drafts.{Name, Draft, Local, Fresh, Top, Library, Const, Symbols, Ref, Lambda, If, Set, Call, Prim, Seq, Fix, Define}
use Rattle.draft_form.specs.Drawn.{Drawn, name_of}
use Rattle.draft_form.specs.Growing.{AddsNode, Takes}
use Rattle.draft_form.specs.Numbers.{Given, fresh_in, give, give_all, laid, laid_list, named}
use Rattle.draft_form.specs.Numbering.{number_in, var_of, parts_then, AreDone, AddsLiteral, Closes, Expects, Gives, Goes, HasHead, NumbersAll, Opens, Shows, Walk}
use Rattle.draft_form.specs.Parts.{bound_in, ids_in}
use Rattle.draft_form.specs.Quoted.{IsHeld, IsHeldWith}
use Rattle.draft_form.proofs.Building.{stays}
use Rattle.draft_form.proofs.Closing.{is_added, Closed, closed}
use Rattle.draft_form.proofs.Reversed.{reversed_last}
use Rattle.draft_form.proofs.SameConstant.{same_constant}
use Rattle.draft_form.proofs.Walking.{begins, moved, no_more, opened, same_what, Follows, IsCompound, Leads}

-- Variables

same_name : (g h : Given) (x : Name) → ((level : ℕ) → g level ≡ h level) → named g x ≡ named h x
same_name g h (Local k x) e = refl
same_name g h (Fresh k) e = let V : ℕ → Var = λ n. record { name = codes "." ++ decimal n; lib = false } in ap V (e k)
same_name g h (Top x) e = refl
same_name g h (Library x) e = refl

same_names : (f h : Variable → Var) (vs : List Variable) → ((v : Variable) → f v ≡ h v) → map f vs ≡ map h vs
same_names f h [] e = refl
same_names f h (v ∷ vs) e = ap (λ x. x ∷ map f vs) (e v) ∙ ap (λ xs. h v ∷ xs) (same_names f h vs e)

same_rest : (f h : Variable → Var) (r : Option Variable) → ((v : Variable) → f v ≡ h v) → option_map f r ≡ option_map h r
same_rest f h None e = refl
same_rest f h (Some v) e = ap (λ x. Some x) (e v)

same_heads : (f h : Variable → Var) (what : What Variable) (p : Pos) (t : Tree Var) → ((v : Variable) → f v ≡ h v) → HasHead f what p t
    → HasHead h what p t
same_heads f h (form.Const l) p t e k = absurd k
same_heads f h (form.Ref v) p t e k = absurd k
same_heads f h (form.Lambda vs r b) p t e k = (
  k.0,
  k.1
      ∙ (ap (λ xs. tree.Lambda p xs (option_map f r) k.0) (same_names f h vs e)
      ∙ ap (λ x. tree.Lambda p (map h vs) x k.0) (same_rest f h r e)),
)
same_heads f h (form.If a b c) p t e k = k
same_heads f h (form.Set v b) p t e k = (k.0, k.1 ∙ ap (λ x. tree.Set p x k.0) (e v))
same_heads f h (form.Call b bs) p t e k = k
same_heads f h (form.Prim o bs) p t e k = k
same_heads f h (form.Seq bs) p t e k = k
same_heads f h (form.Fix vs bs b) p t e k =
    (k.0, k.1, k.2, k.3 ∙ ap (λ xs. tree.Fix p xs k.0 k.1) (same_names f h vs e))
same_heads f h (form.Define v b) p t e k = (k.0, k.1 ∙ ap (λ x. tree.Define p x k.0) (e v))

-- Visits, of which the last is next

next_first : (w : Walk) (visits : List Visit) (v : Visit) (g : Given) (lits : List Lit) (n : ℕ) (ds : List (Tree Var))
    → Expects w (reverse (visits ++ v ∷ [])) g lits n ds → Expects w (v ∷ reverse visits) g lits n ds
next_first w visits v g lits n ds h =
    let P : List Visit → Type 0 = λ vs. Expects w vs g lits n ds in subst P (reversed_last visits v) h

begins_reversed : (ids : List ℕ) → reverse (map (λ part. Begin part) (reverse ids)) ≡ begins ids
begins_reversed [] = refl
begins_reversed (id ∷ ids) =
    let B : ℕ → Visit = λ part. Begin part in
    ap (λ l. reverse (map B l)) (reverse-append (id ∷ []) ids)
    ∙ (ap reverse (map-append B (reverse ids) (id ∷ []))
    ∙ (reversed_last (map B (reverse ids)) (Begin id) ∙ ap (λ l. Begin id ∷ l) (begins_reversed ids)))

opened_reversed : (middle later : List Visit) (id : ℕ) (ids : List ℕ)
    → later ≡ (middle ++ End id ∷ []) ++ map (λ part. Begin part) (reverse ids)
    → reverse later ≡ begins ids ++ End id ∷ reverse middle
opened_reversed middle later id ids e =
    let parts : List Visit = map (λ part. Begin part) (reverse ids) in
    ap reverse e
    ∙ (reverse-append (middle ++ End id ∷ []) parts
    ∙ (ap (λ l. l ++ reverse (middle ++ End id ∷ [])) (begins_reversed ids)
    ∙ ap (λ l. begins ids ++ l) (reversed_last middle (End id))))

-- An expression that is added

done_stay : (exprs more : List (Node Var)) (ids : List ℕ) (ds : List (Tree Var)) → AreDone exprs ids ds → AreDone (exprs ++ more) ids ds
done_stay exprs more ids [] h = h
done_stay exprs more ids (d ∷ ds) h = (h.0, h.1, h.2, stays exprs more h.1 d h.3, done_stay exprs more h.0 ds h.4)

shown : (w : Walk) (levels : Levels) (before after : Growing) (g : Given) (lits : List Lit) (n : ℕ) (below : List (Tree Var)) (t : Tree Var)
    (what : What Var) (p : Pos) (more : List (Node Var)) → AddsNode before after what p → Gives levels.numbers.items g
    → levels.fresh ≡ n → before.lits.items ≡ lits → Closed before.exprs what p before.done.items t below
    → before.exprs ≡ w.exprs ++ more → before.forms ≡ w.forms → Shows w levels after g lits n (t ∷ below)
shown w levels before after g lits n below t what p more adds gives fresh same parts_done e f =
    let node : Node Var = record { what = what; pos = p } in
    let P : List (Node Var) → Type 0 = λ es. Stands es (length before.exprs) t in
    let Q : List (Node Var) → Type 0 = λ es. AreDone es before.done.items below in
    record {
      gives = gives;
      fresh = fresh;
      literals = adds.lits ∙ same;
      done = (
        before.done.items,
        length before.exprs,
        adds.done,
        subst P (sym adds.exprs) parts_done.0,
        subst Q (sym adds.exprs) (done_stay before.exprs (node ∷ []) before.done.items below parts_done.1),
      );
      more = more ++ node ∷ [];
      exprs = adds.exprs ∙ (ap (λ es. es ++ node ∷ []) e ∙ append_assoc w.exprs more (node ∷ []));
      forms = adds.forms ∙ f;
    }

-- Expressions without parts

abbrev IsConst : What Variable → Type 0
IsConst (form.Const k) = Unit {0}
IsConst what = ⊥

abbrev IsRef : What Variable → Type 0
IsRef (form.Ref v) = Unit {0}
IsRef what = ⊥

abbrev const_of : What Variable → ℕ
const_of (form.Const k) = k
const_of what = 0

abbrev variable_of : Variable → What Variable → Variable
variable_of other (form.Ref v) = v
variable_of other what = other

same_place : (nodes : List (Node Variable)) (id : ℕ) (what other : What Variable) (p q : Pos) → IsNode nodes id what p → IsNode nodes id other q
    → q ≡ p
same_place nodes id what other p q h k =
    ap (λ n. n.pos) (same_item (slice_get nodes id) (record { what = other; pos = q }) (record { what = what; pos = p }) k h)

one_literal : (lits after : List Lit) (c d : Constant) → c ≡ d → after ≡ lits ++ laid (length lits) d → lits ++ laid_list (length lits) (c ∷ []) ≡ after
one_literal lits after c d e f =
    ap (λ ls. lits ++ ls) (append-nil (laid (length lits) c) ∙ ap (laid (length lits)) e) ∙ sym f

const_leads : (w : Walk) (vs : List Visit) (g : Given) (lits : List Lit) (n : ℕ) (ds : List (Tree Var)) (id k number : ℕ) (p : Pos) (h : Held)
    (c : Constant) (after : List Lit) → IsNode w.table.exprs.items id (form.Const k) p → slice_get w.table.constants.items k ≡ Some h
    → IsHeldWith w.symbols w.nodes h c → number ≡ length lits → after ≡ lits ++ laid (length lits) c
    → (e : Draft) → Drawn w.words w.nodes w.table id e → Leads w vs g lits n ds e → Expects w vs g after n (tree.Const p number ∷ ds)
const_leads w vs g lits n ds id k number p h c after node got is_held m adds (Const q b) d leads =
    let nodes : List (Node Variable) = w.table.exprs.items in
    let constants_there : List Held = w.table.constants.items in
    let G : ℕ → Type 0 = λ i. slice_get constants_there i ≡ Some d.1 in
    let first : slice_get constants_there k ≡ Some d.1 =
    subst G (ap const_of (same_what nodes id (form.Const k) (form.Const d.0) p q node d.2)) d.3 in
    let H : Held → Type 0 = λ x. IsHeld w.nodes x b in
    let same : b ≡ c = same_constant w.symbols w.nodes h b c (subst H (same_item (slice_get constants_there k) d.1 h first got) d.4) is_held in
    let t : tree.Const q (length lits) ∷ ds ≡ tree.Const p number ∷ ds =
    ap (λ r. tree.Const r (length lits) ∷ ds) (same_place nodes id (form.Const k) (form.Const d.0) p q node d.2)
    ∙ ap (λ i. tree.Const p i ∷ ds) (sym m) in
    moved w vs g _ after _ n _ _ (one_literal lits after b c same adds) (sym (no_more n)) t leads
const_leads w vs g lits n ds id k number p h c after node got is_held m adds (Symbols q) d leads =
    let nodes : List (Node Variable) = w.table.exprs.items in
    let constants_there : List Held = w.table.constants.items in
    let G : ℕ → Type 0 = λ i. slice_get constants_there i ≡ Some held.Symbols in
    let first : slice_get constants_there k ≡ Some held.Symbols =
    subst G (ap const_of (same_what nodes id (form.Const k) (form.Const d.0) p q node d.1)) d.2 in
    let H : Held → Type 0 = λ x. IsHeldWith w.symbols w.nodes x c in
    let same : w.symbols ≡ c = sym (subst H (same_item (slice_get constants_there k) h held.Symbols got first) is_held) in
    let t : tree.Const q (length lits) ∷ ds ≡ tree.Const p number ∷ ds =
    ap (λ r. tree.Const r (length lits) ∷ ds) (same_place nodes id (form.Const k) (form.Const d.0) p q node d.1)
    ∙ ap (λ i. tree.Const p i ∷ ds) (sym m) in
    moved w vs g _ after _ n _ _ (one_literal lits after w.symbols c same adds) (sym (no_more n)) t leads
const_leads w vs g lits n ds id k number p h c after node got is_held m adds (Ref q x) d leads = absurd (subst IsConst (sym (same_what _ id (form.Const k) _ p q node d.1)) tt)
const_leads w vs g lits n ds id k number p h c after node got is_held m adds (Lambda q xs r e) d leads = absurd (subst IsConst (sym (same_what _ id (form.Const k) _ p q node d.3)) tt)
const_leads w vs g lits n ds id k number p h c after node got is_held m adds (If q a b f) d leads = absurd (subst IsConst (sym (same_what _ id (form.Const k) _ p q node d.3)) tt)
const_leads w vs g lits n ds id k number p h c after node got is_held m adds (Set q x e) d leads = absurd (subst IsConst (sym (same_what _ id (form.Const k) _ p q node d.2)) tt)
const_leads w vs g lits n ds id k number p h c after node got is_held m adds (Call q f es) d leads = absurd (subst IsConst (sym (same_what _ id (form.Const k) _ p q node d.2)) tt)
const_leads w vs g lits n ds id k number p h c after node got is_held m adds (Prim q o es) d leads = absurd (subst IsConst (sym (same_what _ id (form.Const k) _ p q node d.1)) tt)
const_leads w vs g lits n ds id k number p h c after node got is_held m adds (Seq q es) d leads = absurd (subst IsConst (sym (same_what _ id (form.Const k) _ p q node d.1)) tt)
const_leads w vs g lits n ds id k number p h c after node got is_held m adds (Fix q xs es e) d leads = absurd (subst IsConst (sym (same_what _ id (form.Const k) _ p q node d.3)) tt)
const_leads w vs g lits n ds id k number p h c after node got is_held m adds (Define q x e) d leads = absurd (subst IsConst (sym (same_what _ id (form.Const k) _ p q node d.2)) tt)

ref_leads : (w : Walk) (vs : List Visit) (g : Given) (lits : List Lit) (n : ℕ) (ds : List (Tree Var)) (id : ℕ) (v : Variable) (p : Pos) (x : Var)
    → IsNode w.table.exprs.items id (form.Ref v) p → x ≡ var_of w.words g v
    → (e : Draft) → Drawn w.words w.nodes w.table id e → Leads w vs g lits n ds e → Expects w vs g lits n (tree.Ref p x ∷ ds)
ref_leads w vs g lits n ds id v p x node is (Const q c) d leads = absurd (subst IsRef (sym (same_what _ id (form.Ref v) _ p q node d.2)) tt)
ref_leads w vs g lits n ds id v p x node is (Symbols q) d leads = absurd (subst IsRef (sym (same_what _ id (form.Ref v) _ p q node d.1)) tt)
ref_leads w vs g lits n ds id v p x node is (Ref q y) d leads =
    let nodes : List (Node Variable) = w.table.exprs.items in
    let name : y ≡ name_of w.words v =
    d.2 ∙ ap (λ what. name_of w.words (variable_of v what)) (same_what nodes id (form.Ref v) (form.Ref d.0) p q node d.1) in
    let t : tree.Ref q (named g y) ∷ ds ≡ tree.Ref p x ∷ ds =
    ap (λ r. tree.Ref r (named g y) ∷ ds) (same_place nodes id (form.Ref v) (form.Ref d.0) p q node d.1)
    ∙ ap (λ z. tree.Ref p z ∷ ds) (ap (named g) name ∙ sym is) in
    moved w vs g _ lits _ n _ _ (append-nil lits) (sym (no_more n)) t leads
ref_leads w vs g lits n ds id v p x node is (Lambda q xs r e) d leads = absurd (subst IsRef (sym (same_what _ id (form.Ref v) _ p q node d.3)) tt)
ref_leads w vs g lits n ds id v p x node is (If q a b c) d leads = absurd (subst IsRef (sym (same_what _ id (form.Ref v) _ p q node d.3)) tt)
ref_leads w vs g lits n ds id v p x node is (Set q y e) d leads = absurd (subst IsRef (sym (same_what _ id (form.Ref v) _ p q node d.2)) tt)
ref_leads w vs g lits n ds id v p x node is (Call q f es) d leads = absurd (subst IsRef (sym (same_what _ id (form.Ref v) _ p q node d.2)) tt)
ref_leads w vs g lits n ds id v p x node is (Prim q o es) d leads = absurd (subst IsRef (sym (same_what _ id (form.Ref v) _ p q node d.1)) tt)
ref_leads w vs g lits n ds id v p x node is (Seq q es) d leads = absurd (subst IsRef (sym (same_what _ id (form.Ref v) _ p q node d.1)) tt)
ref_leads w vs g lits n ds id v p x node is (Fix q xs es e) d leads = absurd (subst IsRef (sym (same_what _ id (form.Ref v) _ p q node d.3)) tt)
ref_leads w vs g lits n ds id v p x node is (Define q y e) d leads = absurd (subst IsRef (sym (same_what _ id (form.Ref v) _ p q node d.2)) tt)

pub const_begun : (w : Walk) (id k number : ℕ) (p : Pos) (visits : List Visit) (levels : Levels) (before mid after : Growing)
    → IsNode w.table.exprs.items id (form.Const k) p → AddsLiteral w.symbols w.nodes w.table.constants.items k before mid number
    → AddsNode mid after (form.Const number) p → Goes w (visits ++ Begin id ∷ []) levels before → Goes w visits levels after
const_begun w id k number p visits levels before mid after node literal adds h =
    let g : Given = h.0 in
    let lits : List Lit = h.1 in
    let n : ℕ = h.2 in
    let ds : List (Tree Var) = h.3 in
    let shows : Shows w levels before g lits n ds = h.4 in
    let expects : Expects w (reverse (visits ++ Begin id ∷ [])) g lits n ds = h.5 in
    let first = next_first w visits (Begin id) g lits n ds expects in
    let L : List Lit → Type 0 = λ ls. mid.lits.items ≡ ls ++ laid (length ls) literal.3.0 in
    let leads =
    const_leads w (reverse visits) g lits n ds id k number p literal.0 literal.3.0 mid.lits.items node literal.1 literal.3.1
    (literal.2 ∙ ap length shows.literals) (subst L shows.literals literal.3.2) first.0 first.1 first.2 in
    let D : List (Node Var) → Type 0 = λ es. AreDone es mid.done.items ds in
    let E : List ℕ → Type 0 = λ is. AreDone before.exprs is ds in
    let same : before.done.items ≡ mid.done.items = ap (λ v. v.items) (sym literal.6) in
    let done : AreDone mid.exprs mid.done.items ds = subst D (sym literal.4) (subst E same shows.done) in (
      g,
      mid.lits.items,
      n,
      tree.Const p number ∷ ds,
      shown w levels mid after g mid.lits.items n ds (tree.Const p number) (form.Const number) p shows.more adds shows.gives shows.fresh refl
          (is_added mid.exprs (form.Const number) (form.Const number) p refl, done) (literal.4 ∙ shows.exprs) (literal.5 ∙ shows.forms),
      leads,
    )

pub ref_begun : (w : Walk) (id : ℕ) (v : Variable) (x : Var) (p : Pos) (visits : List Visit) (levels : Levels) (before after : Growing)
    → IsNode w.table.exprs.items id (form.Ref v) p → x ≡ var_of w.words (number_in levels.numbers.items) v
    → AddsNode before after (form.Ref x) p → Goes w (visits ++ Begin id ∷ []) levels before → Goes w visits levels after
ref_begun w id v x p visits levels before after node is adds h =
    let g : Given = h.0 in
    let lits : List Lit = h.1 in
    let n : ℕ = h.2 in
    let ds : List (Tree Var) = h.3 in
    let shows : Shows w levels before g lits n ds = h.4 in
    let expects : Expects w (reverse (visits ++ Begin id ∷ [])) g lits n ds = h.5 in
    let first = next_first w visits (Begin id) g lits n ds expects in
    let name : x ≡ var_of w.words g v = is ∙ same_name (number_in levels.numbers.items) g (name_of w.words v) shows.gives in (
      g,
      lits,
      n,
      tree.Ref p x ∷ ds,
      shown w levels before after g lits n ds (tree.Ref p x) (form.Ref x) p shows.more adds shows.gives shows.fresh shows.literals
          (is_added before.exprs (form.Ref x) (form.Ref x) p refl, shows.done) shows.exprs shows.forms,
      ref_leads w (reverse visits) g lits n ds id v p x node name first.0 first.1 first.2,
    )

-- Expressions with parts

pub is_compound : (what : What Variable) → ((k : ℕ) → what ≡ form.Const k → ⊥) → ((v : Variable) → what ≡ form.Ref v → ⊥) → IsCompound what
is_compound (form.Const k) a b = absurd (a k refl)
is_compound (form.Ref v) a b = absurd (b v refl)
is_compound (form.Lambda vs r b) no_const no_ref = tt
is_compound (form.If x y z) no_const no_ref = tt
is_compound (form.Set v b) no_const no_ref = tt
is_compound (form.Call b bs) no_const no_ref = tt
is_compound (form.Prim o bs) no_const no_ref = tt
is_compound (form.Seq bs) no_const no_ref = tt
is_compound (form.Fix vs bs b) no_const no_ref = tt
is_compound (form.Define v b) no_const no_ref = tt

pub open_begun : (w : Walk) (id : ℕ) (what : What Variable) (p : Pos) (visits later : List Visit) (before after : Levels) (growing : Growing)
    → IsNode w.table.exprs.items id what p → IsCompound what → Opens w.words id what before after visits later
    → Goes w (visits ++ Begin id ∷ []) before growing → Goes w later after growing
open_begun w id what p visits later before after growing node compound opens h =
    let g : Given = h.0 in
    let lits : List Lit = h.1 in
    let n : ℕ = h.2 in
    let ds : List (Tree Var) = h.3 in
    let shows : Shows w before growing g lits n ds = h.4 in
    let expects : Expects w (reverse (visits ++ Begin id ∷ [])) g lits n ds = h.5 in
    let first = next_first w visits (Begin id) g lits n ds expects in
    let middle : List Visit = opens.0 in
    let all : NumbersAll w.words (bound_in what) before after visits middle g = opens.1 g shows.gives in
    let names : List Name = map (name_of w.words) (bound_in what) in
    let L : ℕ → Type 0 = λ m. Leads w (reverse visits) g lits m ds first.0 in
    let leads : Leads w (reverse visits) g lits before.fresh ds first.0 = subst L (sym shows.fresh) first.2 in
    let follows : Follows w (reverse visits) (reverse middle) g before.fresh what = λ ls m es x. all.expects w ls m es x in
    let found =
    opened w id (reverse visits) (reverse middle) g lits before.fresh ds what p node compound first.0 first.1 leads follows in
    let P : List Visit → Type 0 = λ vs. Expects w vs (give_all g before.fresh names) lits (before.fresh + fresh_in names) ds in (
      give_all g before.fresh names,
      lits,
      before.fresh + fresh_in names,
      ds,
      record {
        gives = all.gives;
        fresh = all.fresh;
        literals = shows.literals;
        done = shows.done;
        more = shows.more;
        exprs = shows.exprs;
        forms = shows.forms;
      },
      subst P (sym (opened_reversed middle later id (ids_in what) opens.2)) found,
    )

pub end_done : (w : Walk) (id : ℕ) (what : What Variable) (made : What Var) (p : Pos) (visits : List Visit) (levels : Levels)
    (before mid after : Growing) → IsNode w.table.exprs.items id what p
    → Closes (var_of w.words (number_in levels.numbers.items)) what before mid made → AddsNode mid after made p
    → Goes w (visits ++ End id ∷ []) levels before → Goes w visits levels after
end_done w id what made p visits levels before mid after node closes adds h =
    let g : Given = h.0 in
    let lits : List Lit = h.1 in
    let n : ℕ = h.2 in
    let ds : List (Tree Var) = h.3 in
    let shows : Shows w levels before g lits n ds = h.4 in
    let expects : Expects w (reverse (visits ++ End id ∷ [])) g lits n ds = h.5 in
    let first = next_first w visits (End id) g lits n ds expects in
    let t : Tree Var = first.2 in
    let below : List (Tree Var) = first.3 in
    let nodes : List (Node Variable) = w.table.exprs.items in
    let H : What Variable → Type 0 = λ x. HasHead (var_of w.words g) x first.1 t in
    let I : Pos → Type 0 = λ q. HasHead (var_of w.words g) what q t in
    let head : HasHead (var_of w.words g) what p t =
    subst I (same_place nodes id what first.0 p first.1 node first.4) (subst H (same_what nodes id what first.0 p first.1 node first.4) first.5) in
    let here : HasHead (var_of w.words (number_in levels.numbers.items)) what p t =
    same_heads (var_of w.words g) (var_of w.words (number_in levels.numbers.items)) what p t
    (λ v. sym (same_name (number_in levels.numbers.items) g (name_of w.words v) shows.gives)) head in
    let D : List (Node Var) → Type 0 = λ es. AreDone es before.done.items (parts_then t below) in
    let E : List (Tree Var) → Type 0 = λ es. AreDone before.exprs before.done.items es in
    let takes : Takes before mid closes.0 = closes.1 in
    let parts_done =
    closed (var_of w.words (number_in levels.numbers.items)) mid.exprs what p t below closes.0 mid.done.items before.done.items made here
    closes.2 takes.done (subst D (sym takes.exprs) (subst E first.6 shows.done)) in (
      g,
      lits,
      n,
      t ∷ below,
      shown w levels mid after g lits n below t made p shows.more adds shows.gives shows.fresh (takes.lits ∙ shows.literals) parts_done
          (takes.exprs ∙ shows.exprs) (takes.forms ∙ shows.forms),
      first.7,
    )

pub restored : (w : Walk) (level number : ℕ) (visits : List Visit) (before after : Levels) (growing : Growing) → after.fresh ≡ before.fresh
    → ((g : Given) → Gives before.numbers.items g → Gives after.numbers.items (give g level number))
    → Goes w (visits ++ Restore level number ∷ []) before growing → Goes w visits after growing
restored w level number visits before after growing same gives h =
    let g : Given = h.0 in
    let lits : List Lit = h.1 in
    let n : ℕ = h.2 in
    let ds : List (Tree Var) = h.3 in
    let shows : Shows w before growing g lits n ds = h.4 in
    let expects : Expects w (reverse (visits ++ Restore level number ∷ [])) g lits n ds = h.5 in
    let first = next_first w visits (Restore level number) g lits n ds expects in (
      first.0,
      lits,
      n,
      ds,
      record {
        gives = λ other. gives g shows.gives other ∙ first.1 other;
        fresh = same ∙ shows.fresh;
        literals = shows.literals;
        done = shows.done;
        more = shows.more;
        exprs = shows.exprs;
        forms = shows.forms;
      },
      first.2,
    )
