-- What is asked of the expressions of a valid renamed core, once direct calls are told apart.
use Rattle.std.proofs.Common.{◌≡◌, ℕ, suc, Bool, true, false, List, [], ◌∷◌, length, Some, None, inl, inr, ◌⊎◌, refl, sym, ap, ◌∙◌}
use Rattle.std.proofs.lemmas.List.{length-map}
use Rattle.std.specs.Prelude.{IsTrue, if◌then◌else◌, nat_eq}
use Rattle.scheme_base.specs.declared.lit.Lit.{Lit}
use Rattle.scheme_base.specs.declared.pos.Pos.{Pos}
use Rattle.scheme_base.specs.Operands.{operands_of}
use Rattle.scheme_base.specs.Positions.{IsPosition}
use Rattle.core_form.specs.declared.program.VarRef.{VarRef}
use Rattle.core_form.specs.declared.program.VarRef.TheVariants as ref
use Rattle.core_form.specs.Trees.{Tree, Trees, count}
use Rattle.core_form.specs.Trees as tree
use Rattle.core_form.specs.Valid as valid
use Rattle.core_form.specs.Valid.{AllFine, AllPlaced, FineForm, FineForms, FineOperands, IsFine, IsPlaced, is_hole, assigns}
use Rattle.core_form.specs.Variables.{same_ref}
use Rattle.box_name.specs.Told.{Expr, Hole, Const, Local, Top, Lambda, If, SetLocal, SetTop, Call, Direct, Prim, Seq, Fix, Define, Exprs, none, item, all_told, assignment, is_direct, number, reference, told, told_body, told_operands}

abbrev pub many : Exprs → ℕ
many none = 0
many (item e es) = suc (many es)

-- these are lambda expressions
abbrev pub AreLambdas : Exprs → Type 0
AreLambdas none = Unit {0}
AreLambdas (item (Lambda q xs r body) es) = AreLambdas es
AreLambdas (item e es) = ⊥

-- each expression stands at a position, an operation has its number of operands, a `Fix` has a lambda expression for
-- each variable and nothing else, and nothing in it is a definition
abbrev mutual
  pub IsFit : Expr → Type 0
  IsFit Hole = Unit {0}
  IsFit (Const q l) = IsPosition q
  IsFit (Local q x) = IsPosition q
  IsFit (Top q x) = IsPosition q
  IsFit (Lambda q xs r body) = IsPosition q × IsFit body
  IsFit (If q test this that) = IsPosition q × IsFit test × IsFit this × IsFit that
  IsFit (SetLocal q x e) = IsPosition q × IsFit e
  IsFit (SetTop q x e) = IsPosition q × IsFit e
  IsFit (Call q f es) = IsPosition q × IsFit f × AllFit es
  IsFit (Direct q xs body es) = IsPosition q × IsFit body × AllFit es
  IsFit (Prim q o es) = IsPosition q × (many es ≡ length (operands_of o)) × AllFit es
  IsFit (Seq q es) = IsPosition q × AllFit es
  IsFit (Fix q xs ls body) = IsPosition q × (length xs ≡ many ls) × AllFit ls × IsFit body × AreLambdas ls
  IsFit (Define q x e) = ⊥

  pub AllFit : Exprs → Type 0
  AllFit none = Unit {0}
  AllFit (item e es) = IsFit e × AllFit es

-- a form of the program may be a definition
abbrev pub FormFits : Expr → Type 0
FormFits (Define q x e) = IsPosition q × IsFit e
FormFits e = IsFit e

abbrev pub FormsFit : Exprs → Type 0
FormsFit none = Unit {0}
FormsFit (item e es) = FormFits e × FormsFit es

-- A valid core's expressions are such

many_told : (lits : List Lit) (es : Trees VarRef) → many (all_told lits es) ≡ count es
many_told lits tree.none = refl
many_told lits (tree.item e es) = ap suc (many_told lits es)

reference_fits : (p : Pos) (x : VarRef) → IsPosition p → IsFit (reference p x)
reference_fits p (ref.Local n) h = h
reference_fits p (ref.Top x) h = h

assignment_fits : (p : Pos) (x : VarRef) (e : Expr) → IsPosition p → IsFit e → IsFit (assignment p x e)
assignment_fits p (ref.Local n) e h k = (h, k)
assignment_fits p (ref.Top x) e h k = (h, k)

either_fits : (b : Bool) (d e : Expr) → IsFit d → IsFit e → IsFit (if b then d else e)
either_fits true d e h k = h
either_fits false d e h k = k

-- the two ways of telling a call
call_fits : (lits : List Lit) (p : Pos) (f : Tree VarRef) (es : Trees VarRef) → IsPosition p → IsFit (told lits f)
    → IsFit (told_body lits f) → AllFit (all_told lits es) → AllFit (told_operands lits es)
    → IsFit (told lits (tree.Call p f es))
call_fits lits p f es h operator body operands told =
    either_fits (is_direct f (count es)) _ _ (h, body, told) (h, operator, operands)

lambdas_told : (lits : List Lit) (ls : Trees VarRef) → valid.AreLambdas ls → AreLambdas (all_told lits ls)
lambdas_told lits tree.none h = tt
lambdas_told lits (tree.item (tree.Lambda p xs r body) ls) h = lambdas_told lits ls h.1
lambdas_told lits (tree.item e ls) h = absurd h.0

hole_fits : (lits : List Lit) (e : Tree VarRef) → is_hole lits e ≡ true → IsPlaced e → IsFit (told lits e)
hole_fits lits (tree.Const p l) h k = k
hole_fits lits e h k = cc

operand_fits : (lits : List Lit) (e : Tree VarRef) → IsFit (told lits e)
    → IsFit (if is_hole lits e then Hole else told lits e)
operand_fits lits e h = either_fits (is_hole lits e) Hole (told lits e) tt h

fine_or_hole : (lits : List Lit) (x : VarRef) (body e : Tree VarRef)
    → (IsFine lits same_ref e → IsFit (told lits e)) → IsPlaced e
    → IsFine lits same_ref e ⊎ (IsTrue (is_hole lits e) × IsTrue (assigns same_ref x body)) → IsFit (told lits e)
fine_or_hole lits x body e fits placed (inl fine) = fits fine
fine_or_hole lits x body e fits placed (inr hole) = hole_fits lits e hole.0 placed

mutual
  pub told_fits : (lits : List Lit) (e : Tree VarRef) → IsFine lits same_ref e → IsPlaced e → IsFit (told lits e)
  told_fits lits (tree.Const p l) h k = k
  told_fits lits (tree.Ref p x) h k = reference_fits p x k
  told_fits lits (tree.Lambda p xs r body) h k = (k.0, told_fits lits body h.1 k.1)
  told_fits lits (tree.If p test this that) h k =
      (k.0, told_fits lits test h.0 k.1, told_fits lits this h.1 k.2, told_fits lits that h.2 k.3)
  told_fits lits (tree.Set p x e) h k = assignment_fits p x (told lits e) k.0 (told_fits lits e h k.1)
  told_fits lits (tree.Call p (tree.Lambda q xs None body) es) h k =
      let inner = told_fits lits body h.1 k.1.1 in
      call_fits lits p (tree.Lambda q xs None body) es k.0 (k.1.0, inner) inner
      (fine_all lits (if nat_eq (length xs) (count es) then xs else []) body es h.2 k.2)
      (fine_operands lits (if nat_eq (length xs) (count es) then xs else []) body es h.2 k.2)
  told_fits lits (tree.Call p (tree.Lambda q xs (Some r) body) es) h k =
      let inner = told_fits lits body h.0.1 k.1.1 in
      call_fits lits p (tree.Lambda q xs (Some r) body) es k.0 (k.1.0, inner) inner (all_fit lits es h.1 k.2)
      (operands_fit lits es h.1 k.2)
  told_fits lits (tree.Call p f es) h k =
      call_fits lits p f es k.0 (told_fits lits f h.0 k.1) tt (all_fit lits es h.1 k.2) (operands_fit lits es h.1 k.2)
  told_fits lits (tree.Prim p o es) h k = (k.0, many_told lits es ∙ h.0, all_fit lits es h.1 k.1)
  told_fits lits (tree.Seq p es) h k = (k.0, all_fit lits es h.1 k.1)
  told_fits lits (tree.Fix p xs ls body) h k = (
    k.0,
    length-map xs number ∙ sym (many_told lits ls ∙ h.1),
    all_fit lits ls h.4 k.1,
    told_fits lits body h.5 k.2,
    lambdas_told lits ls h.2,
  )
  told_fits lits (tree.Define p x e) h k = absurd h

  pub all_fit : (lits : List Lit) (es : Trees VarRef) → AllFine lits same_ref es → AllPlaced es → AllFit (all_told lits es)
  all_fit lits tree.none h k = tt
  all_fit lits (tree.item e es) h k = (told_fits lits e h.0 k.0, all_fit lits es h.1 k.1)

  operands_fit : (lits : List Lit) (es : Trees VarRef) → AllFine lits same_ref es → AllPlaced es
      → AllFit (told_operands lits es)
  operands_fit lits tree.none h k = tt
  operands_fit lits (tree.item e es) h k =
      (operand_fits lits e (told_fits lits e h.0 k.0), operands_fit lits es h.1 k.1)

  fine_operands : (lits : List Lit) (xs : List VarRef) (body : Tree VarRef) (es : Trees VarRef)
      → FineOperands lits same_ref xs body es → AllPlaced es → AllFit (told_operands lits es)
  fine_operands lits xs body tree.none h k = tt
  fine_operands lits [] body (tree.item e es) h k =
      (operand_fits lits e (told_fits lits e h.0 k.0), operands_fit lits es h.1 k.1)
  fine_operands lits (x ∷ xs) body (tree.item e es) h k = (
    operand_fits lits e (fine_or_hole lits x body e (λ fine. told_fits lits e fine k.0) k.0 h.0),
    fine_operands lits xs body es h.1 k.1,
  )

  fine_all : (lits : List Lit) (xs : List VarRef) (body : Tree VarRef) (es : Trees VarRef)
      → FineOperands lits same_ref xs body es → AllPlaced es → AllFit (all_told lits es)
  fine_all lits xs body tree.none h k = tt
  fine_all lits [] body (tree.item e es) h k = (told_fits lits e h.0 k.0, all_fit lits es h.1 k.1)
  fine_all lits (x ∷ xs) body (tree.item e es) h k = (
    fine_or_hole lits x body e (λ fine. told_fits lits e fine k.0) k.0 h.0,
    fine_all lits xs body es h.1 k.1,
  )

form_fits : (lits : List Lit) (e : Tree VarRef) → FineForm lits same_ref e → IsPlaced e → FormFits (told lits e)
form_fits lits (tree.Define p x e) h k = (k.0, told_fits lits e h k.1)
form_fits lits e h k = fits_form (told lits e) (told_fits lits e h k)
  where
    fits_form : (d : Expr) → IsFit d → FormFits d
    fits_form (Define q x d) h = absurd h
    fits_form d h = h

pub forms_fit : (lits : List Lit) (es : Trees VarRef) → FineForms lits same_ref es → AllPlaced es
    → FormsFit (all_told lits es)
forms_fit lits tree.none h k = tt
forms_fit lits (tree.item e es) h k = (form_fits lits e h.0 k.0, forms_fit lits es h.1 k.1)
