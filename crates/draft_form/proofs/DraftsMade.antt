-- An expression that is added stands for the draft whose parts stood before.
use Rattle.std.proofs.Common.{◌≡◌, ℕ, List, [], ◌∷◌, ◌++◌, length, Result, Ok, Err, IfOk, refl, sym, subst}
use Rattle.std.specs.Prelude.{slice_get, map, Some, None}
use Rattle.scheme_base.specs.declared.pos.Pos.{Pos}
use Rattle.scheme_base.specs.declared.op.Op.{Op}
use Rattle.scheme_base.specs.Constants.{Constant}
use Rattle.core_form.specs.declared.program.Node.{Node}
use Rattle.core_form.specs.declared.program.What.{What}
use Rattle.core_form.specs.declared.program.What.TheVariants as form
use Rattle.core_form.specs.Trees.{IsNode}
use Rattle.draft_form.specs.declared.draft.Constant.{Constant as Held}
use Rattle.draft_form.specs.declared.draft.Constant.TheVariants as held
use Rattle.draft_form.specs.declared.draft.Drafts.{Drafts as Table}
use Rattle.draft_form.specs.declared.draft.Variable.{Variable}
use Rattle.draft_form.specs.Drafts.{Draft, Drafts, Const, Symbols, Ref, Lambda, If, Call, Prim, none, item}
use Rattle.draft_form.specs.Drawn.{name_of, Names, Data, Drawn, AllDrawn}
use Rattle.draft_form.specs.Made.{AddsDraft}
use Rattle.draft_form.specs.Quoted.{IsHeld}
use Rattle.draft_form.proofs.DraftsStay.{draft_added}
use Rattle.draft_form.proofs.Ends.{got_last}

pub if_ok : {T E : Type 0} (r : Result T E) {P Q : T → Type 0} → ((x : T) → P x → Q x) → IfOk r P → IfOk r Q
if_ok (Ok x) f h = f x h
if_ok (Err e) f h = h

is_added : (a b : Table) (what : What Variable) (p : Pos) (id : ℕ) → AddsDraft a b what p id → IsNode b.exprs.items id what p
is_added a b what p id h =
    let node : Node Variable = record { what = what; pos = p } in
    let P : List (Node Variable) → Type 0 = λ es. IsNode es (length a.exprs.items) what p in
    let Q : ℕ → Type 0 = λ i. IsNode b.exprs.items i what p in
    subst Q (sym h.number) (subst P (sym h.exprs) (got_last a.exprs.items node []))

held_last : (before after : Table) (h : Held) → after.constants.items ≡ before.constants.items ++ h ∷ []
    → slice_get after.constants.items (length before.constants.items) ≡ Some h
held_last before after h e =
    let P : List Held → Type 0 = λ hs. slice_get hs (length before.constants.items) ≡ Some h in
    subst P (sym e) (got_last before.constants.items h [])

held_there : (a b c : Table) (h : Held) (k : ℕ) (p : Pos) (id : ℕ) → b.constants.items ≡ a.constants.items ++ h ∷ []
    → k ≡ length a.constants.items → AddsDraft b c (form.Const k) p id → slice_get c.constants.items k ≡ Some h
held_there a b c h k p id e n adds =
    let P : List Held → Type 0 = λ hs. slice_get hs k ≡ Some h in
    let Q : ℕ → Type 0 = λ i. slice_get b.constants.items i ≡ Some h in
    subst P (sym adds.constants) (subst Q (sym n) (held_last a b h e))

pub const_made : (names : Names) (nodes : Data) (a b c : Table) (h : Held) (k : ℕ) (p : Pos) (id : ℕ) (q : Constant)
    → b.constants.items ≡ a.constants.items ++ h ∷ [] → k ≡ length a.constants.items → AddsDraft b c (form.Const k) p id
    → IsHeld nodes h q → Drawn names nodes c id (Const p q)
const_made names nodes a b c h k p id q e n adds is_held =
    (k, h, is_added b c (form.Const k) p id adds, held_there a b c h k p id e n adds, is_held)

pub symbols_made : (names : Names) (nodes : Data) (a b c : Table) (h : Held) (k : ℕ) (p : Pos) (id : ℕ)
    → b.constants.items ≡ a.constants.items ++ h ∷ [] → k ≡ length a.constants.items → AddsDraft b c (form.Const k) p id
    → h ≡ held.Symbols → Drawn names nodes c id (Symbols p)
symbols_made names nodes a b c h k p id e n adds is_symbols =
    let P : Held → Type 0 = λ x. slice_get c.constants.items k ≡ Some x in
    (k, is_added b c (form.Const k) p id adds, subst P is_symbols (held_there a b c h k p id e n adds))

pub ref_made : (names : Names) (nodes : Data) (a b : Table) (v : Variable) (p : Pos) (id : ℕ) → AddsDraft a b (form.Ref v) p id
    → Drawn names nodes b id (Ref p (name_of names v))
ref_made names nodes a b v p id h = (v, is_added a b (form.Ref v) p id h, refl)

pub if_made : (names : Names) (nodes : Data) (a b : Table) (x y z : ℕ) (p : Pos) (id : ℕ) (d e f : Draft) → AddsDraft a b (form.If x y z) p id
    → Drawn names nodes a x d → Drawn names nodes a y e → Drawn names nodes a z f → Drawn names nodes b id (If p d e f)
if_made names nodes a b x y z p id d e f h first second third =
    let keeps = draft_added a b (form.If x y z) p id h in (
      x,
      y,
      z,
      is_added a b (form.If x y z) p id h,
      keeps.one names nodes x d first,
      keeps.one names nodes y e second,
      keeps.one names nodes z f third,
    )

pub prim_made : (names : Names) (nodes : Data) (a b : Table) (o : Op) (ids : List ℕ) (x y : ℕ) (p : Pos) (id : ℕ) (d e : Draft)
    → AddsDraft a b (form.Prim o ids) p id → ids ≡ x ∷ y ∷ [] → Drawn names nodes a x d → Drawn names nodes a y e
    → Drawn names nodes b id (Prim p o (item d (item e none)))
prim_made names nodes a b o ids x y p id d e h two first second =
    let keeps = draft_added a b (form.Prim o ids) p id h in (
      ids,
      is_added a b (form.Prim o ids) p id h,
      (x, y ∷ [], two, keeps.one names nodes x d first, (y, [], refl, keeps.one names nodes y e second, refl)),
    )

pub call_made : (names : Names) (nodes : Data) (a b : Table) (operator : ℕ) (ids operands : List ℕ) (p : Pos) (id : ℕ) (f : Draft) (es : Drafts)
    → AddsDraft a b (form.Call operator ids) p id → ids ≡ operands → Drawn names nodes a operator f → AllDrawn names nodes a operands es
    → Drawn names nodes b id (Call p f es)
call_made names nodes a b operator ids operands p id f es h same first others =
    let keeps = draft_added a b (form.Call operator ids) p id h in
    let P : List ℕ → Type 0 = λ is. AllDrawn names nodes b is es in (
      operator,
      ids,
      is_added a b (form.Call operator ids) p id h,
      keeps.one names nodes operator f first,
      subst P (sym same) (keeps.all names nodes operands es others),
    )

pub lambda_made : (names : Names) (nodes : Data) (a b : Table) (vs : List Variable) (body : ℕ) (p : Pos) (id : ℕ) (e : Draft)
    → AddsDraft a b (form.Lambda vs None body) p id → Drawn names nodes a body e
    → Drawn names nodes b id (Lambda p (map (name_of names) vs) None e)
lambda_made names nodes a b vs body p id e h drawn = (
  vs,
  None,
  body,
  is_added a b (form.Lambda vs None body) p id h,
  refl,
  refl,
  (draft_added a b (form.Lambda vs None body) p id h).one names nodes body e drawn,
)

pub one_drawn : (names : Names) (nodes : Data) (t : Table) (ids : List ℕ) (id : ℕ) (e : Draft) → ids ≡ id ∷ [] → Drawn names nodes t id e
    → AllDrawn names nodes t ids (item e none)
one_drawn names nodes t ids id e one drawn = (id, [], one, drawn, refl)
