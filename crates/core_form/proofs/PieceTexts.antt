-- How a piece's text begins, and which pieces are left of it: piece by piece.
use Rattle.std.proofs.Common.{◌≡◌, ℕ, suc, ◌+◌, ◌-◌, ◌*◌, ◌^◌, length-append, ◌<◌, List, [], ◌∷◌, ◌++◌, length, Option, Some, refl, sym, ap, subst, ◌∙◌, arith, append_assoc, append-nil, Bor}
use Rattle.std.specs.Prelude.{slice_get, codes, get_or}
use Rattle.std.proofs.lemmas.Option.{slice_get_within, slice_get-get_or}
use Rattle.scheme_base.specs.declared.lit.Lit.{Lit}
use Rattle.scheme_base.specs.declared.lit.Lit.TheVariants as lit
use Rattle.scheme_base.specs.declared.op.Op.{Op}
use Rattle.scheme_base.specs.Operands.{name_of}
use Rattle.scheme_base.specs.Constants.{Constant, Nil, Pair, Vector, Constants, none as no_constant, item as constant}
use Rattle.scheme_base.specs.Literals.{Laid, LaidAll}
use Rattle.scheme_base.proofs.Lists.{same_item, nil-cons, same_head, same_tail}
use Rattle.core_form.specs.declared.program.Var.{Var}
use Rattle.core_form.specs.declared.program.Node.{Node}
use Rattle.core_form.specs.declared.program.Program.{Program}
use Rattle.core_form.specs.declared.program.What.{What}
use Rattle.core_form.specs.declared.program.What.TheVariants as expr
use Rattle.core_form.specs.declared.piece.Piece.{Piece}
use Rattle.core_form.specs.declared.piece.Piece.TheVariants.{Expr, Next, List as Listed, Rest, Literal, Tail, More, Close}
use Rattle.core_form.specs.Trees.{Tree, Const, Ref, Lambda, If, Set, Call, Prim, Seq, Fix, Define, Trees, none, item, Stands, StandAll}
use Rattle.core_form.specs.Text.{constant_text, tail_text, items_text, more_text, dotted, IsLiteralText, var_text, vars_text, rest_text, IsText, IsListText, IsRestText}
use Rattle.core_form.specs.Pieces.{ExprText, RestText, PieceText, StackText, Writes, LinesText, plain_text}

abbrev pub ListText : Program Var → List ℕ → List ℕ → Type 0
ListText core ids t = (es : Trees Var) × StandAll core.exprs ids es × IsListText core.lits es t

-- the text of an expression by its parts
abbrev pub PartsText : Program Var → What Var → List ℕ → Type 0
PartsText core (expr.Const l) t = (u : List ℕ) × IsLiteralText core.lits l u × (t ≡ codes "(const " ++ (u ++ codes ")"))
PartsText core (expr.Ref x) t = t ≡ codes "(ref " ++ (var_text x ++ codes ")")
PartsText core (expr.Lambda xs rest body) t =
    (u : List ℕ) × ExprText core body u
    × (t ≡ codes "(lambda " ++ (vars_text xs ++ (32 ∷ rest_text rest ++ (32 ∷ u ++ codes ")"))))
PartsText core (expr.If a b d) t =
    (u v w : List ℕ) × ExprText core a u × ExprText core b v × ExprText core d w
    × (t ≡ codes "(if " ++ (u ++ (32 ∷ v ++ (32 ∷ w ++ codes ")"))))
PartsText core (expr.Set x a) t =
    (u : List ℕ) × ExprText core a u × (t ≡ codes "(set " ++ (var_text x ++ (32 ∷ u ++ codes ")")))
PartsText core (expr.Call f ids) t =
    (u v : List ℕ) × ExprText core f u × ListText core ids v × (t ≡ codes "(call " ++ (u ++ (32 ∷ v ++ codes ")")))
PartsText core (expr.Prim o ids) t =
    (v : List ℕ) × ListText core ids v × (t ≡ codes "(prim " ++ (name_of o ++ (32 ∷ v ++ codes ")")))
PartsText core (expr.Seq ids) t = (v : List ℕ) × ListText core ids v × (t ≡ codes "(seq " ++ (v ++ codes ")"))
PartsText core (expr.Fix xs ids a) t =
    (v u : List ℕ) × ListText core ids v × ExprText core a u
    × (t ≡ codes "(fix " ++ (vars_text xs ++ (32 ∷ v ++ (32 ∷ u ++ codes ")"))))
PartsText core (expr.Define x a) t =
    (u : List ℕ) × ExprText core a u × (t ≡ codes "(define " ++ (var_text x ++ (32 ∷ u ++ codes ")")))

-- the expression of this number is what its tree says
parts_of : (core : Program Var) (id : ℕ) (node : Node Var) (t : List ℕ) → slice_get core.exprs id ≡ Some node
    → (e : Tree Var) → Stands core.exprs id e → IsText core.lits e t → PartsText core node.what t
parts_of core id node t got (Const p l) s h =
    subst (λ n. PartsText core n.what t) (same_item (slice_get core.exprs id) _ node s got) h
parts_of core id node t got (Ref p x) s h =
    subst (λ n. PartsText core n.what t) (same_item (slice_get core.exprs id) _ node s got) h
parts_of core id node t got (Lambda p xs rest e) s h =
    subst (λ n. PartsText core n.what t) (same_item (slice_get core.exprs id) _ node s.1 got)
    (h.0, (e, s.2, h.1), h.2)
parts_of core id node t got (If p a b d) s h =
    subst (λ n. PartsText core n.what t) (same_item (slice_get core.exprs id) _ node s.3 got)
    (h.0, h.1, h.2, (a, s.4, h.3), (b, s.5, h.4), (d, s.6, h.5), h.6)
parts_of core id node t got (Set p x e) s h =
    subst (λ n. PartsText core n.what t) (same_item (slice_get core.exprs id) _ node s.1 got)
    (h.0, (e, s.2, h.1), h.2)
parts_of core id node t got (Call p f es) s h =
    subst (λ n. PartsText core n.what t) (same_item (slice_get core.exprs id) _ node s.2 got)
    (h.0, h.1, (f, s.3, h.2), (es, s.4, h.3), h.4)
parts_of core id node t got (Prim p o es) s h =
    subst (λ n. PartsText core n.what t) (same_item (slice_get core.exprs id) _ node s.1 got)
    (h.0, (es, s.2, h.1), h.2)
parts_of core id node t got (Seq p es) s h =
    subst (λ n. PartsText core n.what t) (same_item (slice_get core.exprs id) _ node s.1 got)
    (h.0, (es, s.2, h.1), h.2)
parts_of core id node t got (Fix p xs ls e) s h =
    subst (λ n. PartsText core n.what t) (same_item (slice_get core.exprs id) _ node s.2 got)
    (h.0, h.1, (ls, s.3, h.2), (e, s.4, h.3), h.4)
parts_of core id node t got (Define p x e) s h =
    subst (λ n. PartsText core n.what t) (same_item (slice_get core.exprs id) _ node s.1 got)
    (h.0, (e, s.2, h.1), h.2)

pub parts : (core : Program Var) (id : ℕ) (node : Node Var) (t : List ℕ) → slice_get core.exprs id ≡ Some node
    → ExprText core id t → PartsText core node.what t
parts core id node t got h = parts_of core id node t got h.0 h.1 h.2

-- an expression that has a text is in the list
pub within : (core : Program Var) (id : ℕ) (t : List ℕ) → ExprText core id t → id < length core.exprs
within core id t (e, s, h) = in_list core id e s where
  in_list : (c : Program Var) (i : ℕ) (f : Tree Var) → Stands c.exprs i f → i < length c.exprs
  in_list c i (Const p l) s = slice_get_within c.exprs i _ s
  in_list c i (Ref p x) s = slice_get_within c.exprs i _ s
  in_list c i (If p a b d) s = slice_get_within c.exprs i _ s.3
  in_list c i (Call p f es) s = slice_get_within c.exprs i _ s.2
  in_list c i (Fix p xs ls b) s = slice_get_within c.exprs i _ s.2
  in_list c i f s = slice_get_within c.exprs i _ s.1

-- the parts of an expression that was read from the list
pub read : (core : Program Var) (exprs : List (Node Var)) (id : ℕ) (d : Node Var) (what : What Var) (t : List ℕ)
    → exprs ≡ core.exprs → (get_or exprs id d).what ≡ what → ExprText core id t → PartsText core what t
read core exprs id d what t same is h =
    let got : slice_get core.exprs id ≡ Some (get_or core.exprs id d) =
    slice_get-get_or core.exprs id d (within core id t h)
    in
    subst (λ f. PartsText core f t) (ap (λ xs. (get_or xs id d).what) (sym same) ∙ is)
    (parts core id (get_or core.exprs id d) t got h)

-- texts that are written one after another
pub both : {A : Type 0} (a b c x y : List A) → b ≡ a ++ x → c ≡ b ++ y → c ≡ a ++ (x ++ y)
both a b c x y h k = k ∙ (ap (λ z. z ++ y) h ∙ append_assoc a x y)

-- a text goes on so: first what was written, then what these pieces say
abbrev pub GoesOn : Program Var → (written : List ℕ) (left : List Piece) (t rest : List ℕ) → Type 0
GoesOn core written left t rest = (v : List ℕ) × StackText core left rest v × (t ++ rest ≡ written ++ v)

-- Expressions

-- the text of a space and an expression
spaced : (core : Program Var) (id : ℕ) (u : List ℕ) → ExprText core id u → PieceText core (Next id) (32 ∷ u)
spaced core id u h = (u, h, refl)

pub const_goes : (core : Program Var) (l : ℕ) (t rest : List ℕ) → PartsText core (expr.Const l) t
    → GoesOn core (codes "(const ") (Close ∷ Literal l ∷ []) t rest
const_goes core l t rest h = (
  h.0 ++ (41 ∷ rest),
  (41 ∷ [], refl, (h.0, h.1, refl)),
  ap (λ x. x ++ rest) h.2 ∙ simp (append_assoc) refl,
)

pub ref_goes : (core : Program Var) (x : Var) (t rest : List ℕ) → PartsText core (expr.Ref x) t
    → GoesOn core (codes "(ref " ++ (var_text x ++ codes ")")) [] t rest
ref_goes core x t rest h = (rest, refl, ap (λ y. y ++ rest) h)

-- a piece, whose text follows a space, and then the end of the parentheses
closes : (core : Program Var) (written : List ℕ) (piece : Piece) (u t rest : List ℕ) → PieceText core piece (32 ∷ u)
    → t ++ rest ≡ written ++ (32 ∷ u ++ (41 ∷ rest)) → GoesOn core written (Close ∷ piece ∷ []) t rest
closes core written piece u t rest has e = (32 ∷ u ++ (41 ∷ rest), (41 ∷ [], refl, (32 ∷ u, has, refl)), e)

pub lambda_goes : (core : Program Var) (xs : List Var) (r : Option Var) (body : ℕ) (t rest : List ℕ)
    → PartsText core (expr.Lambda xs r body) t
    → GoesOn core (codes "(lambda " ++ (vars_text xs ++ (32 ∷ rest_text r))) (Close ∷ Next body ∷ []) t rest
lambda_goes core xs r body t rest h =
    closes core (codes "(lambda " ++ (vars_text xs ++ (32 ∷ rest_text r))) (Next body) h.0 t rest (spaced core body h.0 h.1)
    (ap (λ x. x ++ rest) h.2 ∙ simp (append_assoc) refl)

pub if_goes : (core : Program Var) (a b d : ℕ) (t rest : List ℕ) → PartsText core (expr.If a b d) t
    → GoesOn core (codes "(if") (Close ∷ Next d ∷ Next b ∷ Next a ∷ []) t rest
if_goes core a b d t rest h =
    let u = h.0 in
    let v = h.1 in
    let w = h.2 in (
      32 ∷ u ++ (32 ∷ v ++ (32 ∷ w ++ (41 ∷ rest))),
      (
        41 ∷ [],
        refl,
        (32 ∷ w, spaced core d w h.5, (32 ∷ v, spaced core b v h.4, (32 ∷ u, spaced core a u h.3, refl))),
      ),
      ap (λ x. x ++ rest) h.6 ∙ simp (append_assoc) refl,
    )

pub set_goes : (core : Program Var) (x : Var) (a : ℕ) (t rest : List ℕ) → PartsText core (expr.Set x a) t
    → GoesOn core (codes "(set " ++ var_text x) (Close ∷ Next a ∷ []) t rest
set_goes core x a t rest h =
    closes core (codes "(set " ++ var_text x) (Next a) h.0 t rest (spaced core a h.0 h.1)
    (ap (λ x. x ++ rest) h.2 ∙ simp (append_assoc) refl)

pub define_goes : (core : Program Var) (x : Var) (a : ℕ) (t rest : List ℕ) → PartsText core (expr.Define x a) t
    → GoesOn core (codes "(define " ++ var_text x) (Close ∷ Next a ∷ []) t rest
define_goes core x a t rest h =
    closes core (codes "(define " ++ var_text x) (Next a) h.0 t rest (spaced core a h.0 h.1)
    (ap (λ x. x ++ rest) h.2 ∙ simp (append_assoc) refl)

-- the text of a space and expressions in parentheses
listed : (core : Program Var) (r : Bor (List ℕ)) (u : List ℕ) → ListText core r.now u → PieceText core (Listed r) (32 ∷ u)
listed core r u h = (h.0, u, h.1, h.2, refl)

pub call_goes : (core : Program Var) (f : ℕ) (r : Bor (List ℕ)) (t rest : List ℕ) → PartsText core (expr.Call f r.now) t
    → GoesOn core (codes "(call") (Close ∷ Listed r ∷ Next f ∷ []) t rest
call_goes core f r t rest h = (
  32 ∷ h.0 ++ (32 ∷ h.1 ++ (41 ∷ rest)),
  (41 ∷ [], refl, (32 ∷ h.1, listed core r h.1 h.3, (32 ∷ h.0, spaced core f h.0 h.2, refl))),
  ap (λ x. x ++ rest) h.4 ∙ simp (append_assoc) refl,
)

pub prim_goes : (core : Program Var) (o : Op) (r : Bor (List ℕ)) (t rest : List ℕ) → PartsText core (expr.Prim o r.now) t
    → GoesOn core (codes "(prim " ++ name_of o) (Close ∷ Listed r ∷ []) t rest
prim_goes core o r t rest h =
    closes core (codes "(prim " ++ name_of o) (Listed r) h.0 t rest (listed core r h.0 h.1)
    (ap (λ x. x ++ rest) h.2 ∙ simp (append_assoc) refl)

pub seq_goes : (core : Program Var) (r : Bor (List ℕ)) (t rest : List ℕ) → PartsText core (expr.Seq r.now) t
    → GoesOn core (codes "(seq") (Close ∷ Listed r ∷ []) t rest
seq_goes core r t rest h =
    closes core (codes "(seq") (Listed r) h.0 t rest (listed core r h.0 h.1)
    (ap (λ x. x ++ rest) h.2 ∙ simp (append_assoc) refl)

pub fix_goes : (core : Program Var) (xs : List Var) (r : Bor (List ℕ)) (a : ℕ) (t rest : List ℕ)
    → PartsText core (expr.Fix xs r.now a) t
    → GoesOn core (codes "(fix " ++ vars_text xs) (Close ∷ Next a ∷ Listed r ∷ []) t rest
fix_goes core xs r a t rest h = (
  32 ∷ h.0 ++ (32 ∷ h.1 ++ (41 ∷ rest)),
  (41 ∷ [], refl, (32 ∷ h.1, spaced core a h.1 h.3, (32 ∷ h.0, listed core r h.0 h.2, refl))),
  ap (λ x. x ++ rest) h.4 ∙ simp (append_assoc) refl,
)

-- Lists of expressions

pub empty : {A : Type 0} (xs : List A) → length xs ≡ 0 → xs ≡ []
empty [] e = refl
empty (x ∷ xs) e = absurd (omega (arith, e))

pub rest_ends : (core : Program Var) (ids t rest : List ℕ) → length ids ≡ 0 → RestText core ids t → GoesOn core (41 ∷ []) [] t rest
rest_ends core ids t rest e (none, s, h) = (rest, refl, ap (λ x. x ++ rest) h)
rest_ends core ids t rest e (item f es, s, h) = absurd (nil-cons s.0 s.1 (sym (empty ids e) ∙ s.2))

-- the first expression and the others
exprs_go : (core : Program Var) (written ids t rest : List ℕ) (first : ℕ) (r : Bor (List ℕ)) (f : Tree Var)
    (es : Trees Var) (u v : List ℕ) → ids ≡ first ∷ r.now → StandAll core.exprs ids (item f es)
    → IsText core.lits f u → IsRestText core.lits es v → t ++ rest ≡ written ++ (u ++ (v ++ rest))
    → GoesOn core written (Rest r ∷ Expr first ∷ []) t rest
exprs_go core written ids t rest first r f es u v e s one_text others_text whole =
    let same = sym s.2 ∙ e in
    let one : Stands core.exprs first f =
    subst (λ i. Stands core.exprs i f) (same_head s.0 first s.1 r.now same) s.3
    in
    let others : StandAll core.exprs r.now es =
    subst (λ is. StandAll core.exprs is es) (same_tail s.0 first s.1 r.now same) s.4
    in (u ++ (v ++ rest), (v, (es, others, others_text), (u, (f, one, one_text), refl)), whole)

pub rest_goes : (core : Program Var) (ids t rest : List ℕ) (first : ℕ) (r : Bor (List ℕ)) → ids ≡ first ∷ r.now
    → RestText core ids t → GoesOn core (32 ∷ []) (Rest r ∷ Expr first ∷ []) t rest
rest_goes core ids t rest first r e (none, s, h) = absurd (nil-cons first r.now (sym s ∙ e))
rest_goes core ids t rest first r e (item f es, s, h) =
    exprs_go core (32 ∷ []) ids t rest first r f es h.0 h.1 e s h.2 h.3 (ap (λ x. x ++ rest) h.4 ∙ simp (append_assoc) refl)

pub list_ends : (core : Program Var) (r : Bor (List ℕ)) (t rest : List ℕ) → length r.now ≡ 0 → PieceText core (Listed r) t
    → GoesOn core (codes " ()") [] t rest
list_ends core r t rest e (none, u, s, h, k) = (rest, refl, ap (λ x. x ++ rest) (k ∙ ap (λ y. 32 ∷ y) h))
list_ends core r t rest e (item f es, u, s, h, k) = absurd (nil-cons s.0 s.1 (sym (empty r.now e) ∙ s.2))

pub list_goes : (core : Program Var) (l : Bor (List ℕ)) (t rest : List ℕ) (first : ℕ) (r : Bor (List ℕ)) → l.now ≡ first ∷ r.now
    → PieceText core (Listed l) t → GoesOn core (codes " (") (Rest r ∷ Expr first ∷ []) t rest
list_goes core l t rest first r e (none, u, s, h, k) = absurd (nil-cons first r.now (sym s ∙ e))
list_goes core l t rest first r e (item f es, u, s, h, k) =
    exprs_go core (codes " (") l.now t rest first r f es h.0 h.1 e s h.2 h.3
    (ap (λ x. x ++ rest) (k ∙ ap (λ y. 32 ∷ y) h.4) ∙ simp (append_assoc) refl)

pub next_goes : (core : Program Var) (id : ℕ) (t rest : List ℕ) → PieceText core (Next id) t
    → GoesOn core (32 ∷ []) (Expr id ∷ []) t rest
next_goes core id t rest h = (h.0 ++ rest, (h.0, h.1, refl), ap (λ x. x ++ rest) h.2)

pub close_goes : (core : Program Var) (t rest : List ℕ) → PieceText core Close t → GoesOn core (41 ∷ []) [] t rest
close_goes core t rest h = (rest, refl, ap (λ x. x ++ rest) h)

-- Literals

-- the text of a literal by its parts
abbrev pub LitText : Program Var → Lit → List ℕ → Type 0
LitText core (lit.Pair a d) t =
    (u v : List ℕ) × IsLiteralText core.lits a u × PieceText core (Tail d) v × (t ≡ 40 ∷ u ++ v)
LitText core (lit.Vector ids) t =
    (i : ℕ) × (cs : Constants) × (j : ℕ) × LaidAll core.lits ids i cs j × (t ≡ codes "#(" ++ items_text cs)
LitText core l t = t ≡ plain_text l

pub lit_parts : (core : Program Var) (id : ℕ) (l : Lit) (t : List ℕ) → slice_get core.lits id ≡ Some l
    → IsLiteralText core.lits id t → LitText core l t
lit_parts core id l t got (Pair a d, j, laid, e) =
    subst (λ k. LitText core k t) (same_item (slice_get core.lits id) _ l laid.1 got)
    (constant_text a, tail_text d, (a, laid.0, laid.2, refl), (d, j, laid.3, refl), e)
lit_parts core id l t got (Vector cs, j, laid, e) =
    subst (λ k. LitText core k t) (same_item (slice_get core.lits id) _ l laid.1 got) (suc id, cs, j, laid.2, e)
lit_parts core id l t got (c, j, laid, e) =
    subst (λ k. LitText core k t) (same_item (slice_get core.lits id) _ l laid.0 got) e

-- a literal that has no parts
pub no_parts : (core : Program Var) (l : Lit) (t : List ℕ) → ((a d : ℕ) → l ≡ lit.Pair a d → ⊥)
    → ((ids : List ℕ) → l ≡ lit.Vector ids → ⊥) → LitText core l t → t ≡ plain_text l
no_parts core (lit.Pair a d) t pair vector h = absurd (pair a d refl)
no_parts core (lit.Vector ids) t pair vector h = absurd (vector ids refl)
no_parts core l t pair vector h = h

lit_within : (core : Program Var) (id : ℕ) (c : Constant) (j : ℕ) → Laid core.lits id c j → id < length core.lits
lit_within core id (Pair a d) j laid = slice_get_within core.lits id _ laid.1
lit_within core id (Vector cs) j laid = slice_get_within core.lits id _ laid.1
lit_within core id c j laid = slice_get_within core.lits id _ laid.0

-- a literal that was read from the list
got_lit : (core : Program Var) (lits : List Lit) (id : ℕ) (d l : Lit) → lits ≡ core.lits → d ≡ get_or lits id d → d ≡ l
    → id < length core.lits → slice_get core.lits id ≡ Some l
got_lit core lits id d l same is what below =
    slice_get-get_or core.lits id d below
    ∙ ap Some (ap (λ xs. get_or xs id d) (sym same) ∙ (sym is ∙ what))

pub lit_read : (core : Program Var) (lits : List Lit) (id : ℕ) (d l : Lit) (t : List ℕ) → lits ≡ core.lits
    → d ≡ get_or lits id d → d ≡ l → IsLiteralText core.lits id t → LitText core l t
lit_read core lits id d l t same is what h =
    lit_parts core id l t (got_lit core lits id d l same is what (lit_within core id h.0 h.1 h.2)) h

pub plain_goes : (core : Program Var) (written t rest : List ℕ) → t ≡ written → GoesOn core written [] t rest
plain_goes core written t rest h = (rest, refl, ap (λ x. x ++ rest) h)

pub pair_goes : (core : Program Var) (a d : ℕ) (t rest : List ℕ) → LitText core (lit.Pair a d) t
    → GoesOn core (40 ∷ []) (Tail d ∷ Literal a ∷ []) t rest
pair_goes core a d t rest h = (
  h.0 ++ (h.1 ++ rest),
  (h.1, h.3, (h.0, h.2, refl)),
  ap (λ x. x ++ rest) h.4 ∙ simp (append_assoc) refl,
)

pub row_ends : (core : Program Var) (ids t rest : List ℕ) → length ids ≡ 0 → LitText core (lit.Vector ids) t
    → GoesOn core (codes "#()") [] t rest
row_ends core ids t rest e (i, no_constant, j, all, h) = (rest, refl, ap (λ x. x ++ rest) h)
row_ends core ids t rest e (i, constant c cs, j, all, h) = absurd (nil-cons i all.0 (sym (empty ids e) ∙ all.2))

-- the first constant and the others
constants_go : (core : Program Var) (written ids t rest : List ℕ) (first : ℕ) (r : Bor (List ℕ)) (i : ℕ) (c : Constant)
    (cs : Constants) (j : ℕ) → ids ≡ first ∷ r.now → LaidAll core.lits ids i (constant c cs) j
    → t ++ rest ≡ written ++ (constant_text c ++ (more_text cs ++ rest))
    → GoesOn core written (More r ∷ Literal first ∷ []) t rest
constants_go core written ids t rest first r i c cs j e all whole =
    let same = sym all.2 ∙ e in
    let one : Laid core.lits first c all.1 =
    subst (λ k. Laid core.lits k c all.1) (same_head i first all.0 r.now same) all.3
    in
    let others : LaidAll core.lits r.now all.1 cs j =
    subst (λ is. LaidAll core.lits is all.1 cs j) (same_tail i first all.0 r.now same) all.4
    in (
      constant_text c ++ (more_text cs ++ rest),
      (more_text cs, (all.1, cs, j, others, refl), (constant_text c, (c, all.1, one, refl), refl)),
      whole,
    )

pub row_goes : (core : Program Var) (ids t rest : List ℕ) (first : ℕ) (r : Bor (List ℕ)) → ids ≡ first ∷ r.now
    → LitText core (lit.Vector ids) t → GoesOn core (codes "#(") (More r ∷ Literal first ∷ []) t rest
row_goes core ids t rest first r e (i, no_constant, j, all, h) = absurd (nil-cons first r.now (sym all.0 ∙ e))
row_goes core ids t rest first r e (i, constant c cs, j, all, h) =
    constants_go core (codes "#(") ids t rest first r i c cs j e all (ap (λ x. x ++ rest) h ∙ simp (append_assoc) refl)

pub more_ends : (core : Program Var) (r : Bor (List ℕ)) (t rest : List ℕ) → length r.now ≡ 0 → PieceText core (More r) t
    → GoesOn core (41 ∷ []) [] t rest
more_ends core r t rest e (i, no_constant, j, all, h) = (rest, refl, ap (λ x. x ++ rest) h)
more_ends core r t rest e (i, constant c cs, j, all, h) = absurd (nil-cons i all.0 (sym (empty r.now e) ∙ all.2))

pub more_goes : (core : Program Var) (l : Bor (List ℕ)) (t rest : List ℕ) (first : ℕ) (r : Bor (List ℕ)) → l.now ≡ first ∷ r.now
    → PieceText core (More l) t → GoesOn core (32 ∷ []) (More r ∷ Literal first ∷ []) t rest
more_goes core l t rest first r e (i, no_constant, j, all, h) = absurd (nil-cons first r.now (sym all.0 ∙ e))
more_goes core l t rest first r e (i, constant c cs, j, all, h) =
    constants_go core (32 ∷ []) l.now t rest first r i c cs j e all (ap (λ x. x ++ rest) h ∙ simp (append_assoc) refl)

-- What follows an item of a list

abbrev pub DottedText : Program Var → ℕ → List ℕ → Type 0
DottedText core id t = (u : List ℕ) × IsLiteralText core.lits id u × (t ≡ dotted u)

-- the text of a tail by its parts
abbrev pub TailText : Program Var → ℕ → Lit → List ℕ → Type 0
TailText core id lit.Nil t = t ≡ codes ")"
TailText core id (lit.Pair a d) t =
    (u v : List ℕ) × IsLiteralText core.lits a u × PieceText core (Tail d) v × (t ≡ 32 ∷ u ++ v)
TailText core id l t = DottedText core id t

pub tail_parts : (core : Program Var) (id : ℕ) (l : Lit) (t : List ℕ) → slice_get core.lits id ≡ Some l
    → PieceText core (Tail id) t → TailText core id l t
tail_parts core id l t got (Nil, j, laid, e) =
    subst (λ k. TailText core id k t) (same_item (slice_get core.lits id) _ l laid.0 got) e
tail_parts core id l t got (Pair a d, j, laid, e) =
    subst (λ k. TailText core id k t) (same_item (slice_get core.lits id) _ l laid.1 got)
    (constant_text a, tail_text d, (a, laid.0, laid.2, refl), (d, j, laid.3, refl), e)
tail_parts core id l t got (Vector cs, j, laid, e) =
    subst (λ k. TailText core id k t) (same_item (slice_get core.lits id) _ l laid.1 got)
    (constant_text (Vector cs), (Vector cs, j, laid, refl), e)
tail_parts core id l t got (c, j, laid, e) =
    subst (λ k. TailText core id k t) (same_item (slice_get core.lits id) _ l laid.0 got)
    (constant_text c, (c, j, laid, refl), e)

pub tail_read : (core : Program Var) (lits : List Lit) (id : ℕ) (d l : Lit) (t : List ℕ) → lits ≡ core.lits
    → d ≡ get_or lits id d → d ≡ l → PieceText core (Tail id) t → TailText core id l t
tail_read core lits id d l t same is what h =
    tail_parts core id l t (got_lit core lits id d l same is what (lit_within core id h.0 h.1 h.2)) h

-- a tail that is no list goes on with a dot
pub no_list : (core : Program Var) (id : ℕ) (l : Lit) (t : List ℕ) → (l ≡ lit.Nil → ⊥) → ((a d : ℕ) → l ≡ lit.Pair a d → ⊥)
    → TailText core id l t → DottedText core id t
no_list core id lit.Nil t nil pair h = absurd (nil refl)
no_list core id (lit.Pair a d) t nil pair h = absurd (pair a d refl)
no_list core id l t nil pair h = h

pub tail_goes : (core : Program Var) (id a d : ℕ) (t rest : List ℕ) → TailText core id (lit.Pair a d) t
    → GoesOn core (32 ∷ []) (Tail d ∷ Literal a ∷ []) t rest
tail_goes core id a d t rest h = (
  h.0 ++ (h.1 ++ rest),
  (h.1, h.3, (h.0, h.2, refl)),
  ap (λ x. x ++ rest) h.4 ∙ simp (append_assoc) refl,
)

pub dotted_goes : (core : Program Var) (id : ℕ) (t rest : List ℕ) → DottedText core id t
    → GoesOn core (codes " . ") (Close ∷ Literal id ∷ []) t rest
dotted_goes core id t rest h = (
  h.0 ++ (41 ∷ rest),
  (41 ∷ [], refl, (h.0, h.1, refl)),
  ap (λ x. x ++ rest) h.2 ∙ simp (append_assoc) refl,
)

-- Stacks

split : (core : Program Var) (below above : List Piece) (rest t : List ℕ) → StackText core (below ++ above) rest t
    → (m : List ℕ) × StackText core below rest m × StackText core above m t
split core [] above rest t h = (rest, refl, h)
split core (p ∷ below) above rest t h =
    let later = split core below above (h.0 ++ rest) t h.2 in (later.0, (h.0, h.1, later.1), later.2)

join : (core : Program Var) (below above : List Piece) (rest m t : List ℕ) → StackText core below rest m
    → StackText core above m t → StackText core (below ++ above) rest t
join core [] above rest m t h k = subst (λ r. StackText core above r t) h k
join core (p ∷ below) above rest m t h k = (h.0, h.1, join core below above (h.0 ++ rest) m t h.2 k)

-- a whole text is what was written, and then what the stack says
abbrev pub Left : Program Var → List Piece → (written whole : List ℕ) → Type 0
Left core stack written whole = (v : List ℕ) × StackText core stack [] v × (whole ≡ written ++ v)

pub next_piece : (core : Program Var) (stack : List Piece) (piece : Piece) (written whole : List ℕ)
    → Left core (stack ++ piece ∷ []) written whole → (t : List ℕ) × PieceText core piece t
next_piece core stack piece written whole h =
    let parted = split core stack (piece ∷ []) [] h.0 h.1 in (parted.2.0, parted.2.1)

pub turn : (core : Program Var) (stack after : List Piece) (piece : Piece) (before now whole : List ℕ)
    → Left core (stack ++ piece ∷ []) before whole → Writes core piece stack after before now → Left core after now whole
turn core stack after piece before now whole h writes =
    let parted = split core stack (piece ∷ []) [] h.0 h.1 in
    let m = parted.0 in
    let u = parted.2.0 in
    let goes = writes.whole u m parted.2.1 in
    let joined : StackText core (stack ++ writes.left) [] goes.0 =
    join core stack writes.left [] m goes.0 parted.1 goes.1
    in (
      goes.0,
      subst (λ ps. StackText core ps [] goes.0) (sym writes.stack) joined,
      h.2 ∙ (ap (λ x. before ++ x) (parted.2.2 ∙ goes.2)
          ∙ (sym (append_assoc before writes.written goes.0) ∙ ap (λ x. x ++ goes.0) (sym writes.text))),
    )

-- what is left gets less with each piece, as long as a text has its length in 64 bits
pub shrinks : (core : Program Var) (stack after : List Piece) (piece : Piece) (before now : List ℕ)
    → Writes core piece stack after before now → length now < 2 ^ 64
    → 8 * (2 ^ 64 - length now) + length after < 8 * (2 ^ 64 - length before) + length (stack ++ piece ∷ [])
shrinks core stack after piece before now writes fits =
    let one : length now ≡ length before + length writes.written =
    ap length writes.text ∙ length-append before writes.written
    in
    let two : length after ≡ length stack + length writes.left =
    ap length writes.stack ∙ length-append stack writes.left
    in
    let three : length (stack ++ piece ∷ []) ≡ length stack + 1 = length-append stack (piece ∷ []) in
    omega (arith, one, two, three, fits, writes.few)

pub finished : (core : Program Var) (stack : List Piece) (written whole : List ℕ) → stack ≡ [] → Left core stack written whole
    → written ≡ whole
finished core stack written whole none_left h =
    let rest : h.0 ≡ [] = subst (λ s. StackText core s [] h.0) none_left h.1 in
    sym (h.2 ∙ (ap (λ x. written ++ x) rest ∙ append-nil written))

pub begun : (core : Program Var) (stack : List Piece) (form : ℕ) (written t : List ℕ) → stack ≡ Expr form ∷ []
    → ExprText core form t → Left core stack written (written ++ t)
begun core stack form written t one h =
    (t, subst (λ s. StackText core s [] t) (sym one) (t, h, sym (append-nil t)), refl)

-- Lines

pub one_line : (core : Program Var) (ids others : List ℕ) (first : ℕ) (v : List ℕ) → ids ≡ first ∷ others → LinesText core ids v
    → (u w : List ℕ) × ExprText core first u × LinesText core others w × (v ≡ u ++ 10 ∷ w)
one_line core ids others first v e (none, s, h) = absurd (nil-cons first others (sym s ∙ e))
one_line core ids others first v e (item f es, s, h) =
    let same = sym s.2 ∙ e in
    let one : Stands core.exprs first f =
    subst (λ i. Stands core.exprs i f) (same_head s.0 first s.1 others same) s.3
    in
    let more : StandAll core.exprs others es =
    subst (λ is. StandAll core.exprs is es) (same_tail s.0 first s.1 others same) s.4
    in
    (h.0, h.1, (f, one, h.2), (es, more, h.3), h.4)

pub no_line : (core : Program Var) (ids v : List ℕ) → length ids ≡ 0 → LinesText core ids v → v ≡ []
no_line core ids v e (none, s, h) = h
no_line core ids v e (item f es, s, h) = absurd (nil-cons s.0 s.1 (sym (empty ids e) ∙ s.2))

pub line_after : (core : Program Var) (ids others : List ℕ) (first : ℕ) (before mid now t v : List ℕ) → ids ≡ first ∷ others
    → ((u : List ℕ) → ExprText core first u → mid ≡ before ++ u) → now ≡ mid ++ 10 ∷ []
    → LinesText core ids v → t ≡ before ++ v → (w : List ℕ) × LinesText core others w × (t ≡ now ++ w)
line_after core ids others first before mid now t v e wrote ended lines whole =
    let line = one_line core ids others first v e lines in
    let u = line.0 in
    let w = line.1 in
    let all : now ≡ before ++ (u ++ 10 ∷ []) = both before mid now u (10 ∷ []) (wrote u line.2) ended in
    let text : (before ++ (u ++ 10 ∷ [])) ++ w ≡ before ++ (u ++ 10 ∷ w) = simp (append_assoc) refl in
    (w, line.3, whole ∙ (ap (λ x. before ++ x) line.4 ∙ (sym text ∙ ap (λ x. x ++ w) (sym all))))
