-- A draft that is added is what its parts are.
use Rattle.std.proofs.Common.{◌≡◌, ℕ, List, [], ◌∷◌, ◌++◌, length, Option, Result, Ok, Err, IfOk, OnOk, refl, sym, subst}
use Rattle.std.specs.Prelude.{map}
use Rattle.std.specs.Option.{option_map}
use Rattle.scheme_base.specs.declared.pos.Pos.{Pos}
use Rattle.scheme_base.specs.declared.op.Op.{Op}
use Rattle.core_form.specs.declared.program.Node.{Node}
use Rattle.core_form.specs.declared.program.What.{What}
use Rattle.core_form.specs.declared.program.What.TheVariants as form
use Rattle.core_form.specs.Trees.{IsNode}
use Rattle.draft_form.specs.declared.draft.Drafts.{Drafts as Table}
use Rattle.draft_form.specs.declared.draft.Variable.{Variable}
use Rattle.draft_form.specs.Drafts.{Name, Draft, Drafts, Lambda, Set, Call, Prim, Seq, Fix, Define, none, item, ◌then◌}
use Rattle.draft_form.specs.Drawn.{name_of, Names, Data, Drawn, AllDrawn}
use Rattle.draft_form.specs.Made.{AddsDraft}
use Rattle.draft_form.proofs.DraftsStay.{draft_added}
use Rattle.draft_form.proofs.Ends.{got_last}

-- what two clauses of an answer say
pub both_ok : {T E : Type 0} (r : Result T E) {P : Type 0} {Q R : T → Type 0} → ((x : T) → P → Q x → R x) → OnOk r P → IfOk r Q → IfOk r R
both_ok (Ok x) f p q = f x p q
both_ok (Err e) f p q = q

is_added : (a b : Table) (what : What Variable) (p : Pos) (id : ℕ) → AddsDraft a b what p id → IsNode b.exprs.items id what p
is_added a b what p id h =
    let node : Node Variable = record { what = what; pos = p } in
    let P : List (Node Variable) → Type 0 = λ es. IsNode es (length a.exprs.items) what p in
    let Q : ℕ → Type 0 = λ i. IsNode b.exprs.items i what p in
    subst Q (sym h.number) (subst P (sym h.exprs) (got_last a.exprs.items node []))

pub seq_added : (names : Names) (nodes : Data) (a b : Table) (ids : List ℕ) (p : Pos) (id : ℕ) (es : Drafts) → AddsDraft a b (form.Seq ids) p id
    → AllDrawn names nodes a ids es → Drawn names nodes b id (Seq p es)
seq_added names nodes a b ids p id es h drawn =
    (ids, is_added a b _ p id h, (draft_added a b _ p id h).all names nodes ids es drawn)

pub prim_added : (names : Names) (nodes : Data) (a b : Table) (o : Op) (ids : List ℕ) (p : Pos) (id : ℕ) (es : Drafts)
    → AddsDraft a b (form.Prim o ids) p id → AllDrawn names nodes a ids es → Drawn names nodes b id (Prim p o es)
prim_added names nodes a b o ids p id es h drawn =
    (ids, is_added a b _ p id h, (draft_added a b _ p id h).all names nodes ids es drawn)

pub call_added : (names : Names) (nodes : Data) (a b : Table) (operator : ℕ) (ids : List ℕ) (p : Pos) (id : ℕ) (e : Draft) (es : Drafts)
    → AddsDraft a b (form.Call operator ids) p id → Drawn names nodes a operator e → AllDrawn names nodes a ids es
    → Drawn names nodes b id (Call p e es)
call_added names nodes a b operator ids p id e es h first others =
    let keeps = draft_added a b _ p id h in
    (operator, ids, is_added a b _ p id h, keeps.one names nodes operator e first, keeps.all names nodes ids es others)

pub set_added : (names : Names) (nodes : Data) (a b : Table) (v : Variable) (value : ℕ) (p : Pos) (id : ℕ) (e : Draft)
    → AddsDraft a b (form.Set v value) p id → Drawn names nodes a value e → Drawn names nodes b id (Set p (name_of names v) e)
set_added names nodes a b v value p id e h drawn =
    (v, value, is_added a b _ p id h, refl, (draft_added a b _ p id h).one names nodes value e drawn)

pub define_added : (names : Names) (nodes : Data) (a b : Table) (v : Variable) (value : ℕ) (p : Pos) (id : ℕ) (e : Draft)
    → AddsDraft a b (form.Define v value) p id → Drawn names nodes a value e → Drawn names nodes b id (Define p (name_of names v) e)
define_added names nodes a b v value p id e h drawn =
    (v, value, is_added a b _ p id h, refl, (draft_added a b _ p id h).one names nodes value e drawn)

pub lambda_added : (names : Names) (nodes : Data) (a b : Table) (vs : List Variable) (rest : Option Variable) (body : ℕ) (p : Pos) (id : ℕ)
    (xs : List Name) (r : Option Name) (e : Draft) → AddsDraft a b (form.Lambda vs rest body) p id → xs ≡ map (name_of names) vs
    → r ≡ option_map (name_of names) rest → Drawn names nodes a body e → Drawn names nodes b id (Lambda p xs r e)
lambda_added names nodes a b vs rest body p id xs r e h params last drawn =
    (vs, rest, body, is_added a b _ p id h, params, last, (draft_added a b _ p id h).one names nodes body e drawn)

pub fix_added : (names : Names) (nodes : Data) (a b : Table) (vs : List Variable) (lambdas : List ℕ) (body : ℕ) (p : Pos) (id : ℕ) (xs : List Name)
    (es : Drafts) (e : Draft) → AddsDraft a b (form.Fix vs lambdas body) p id → xs ≡ map (name_of names) vs
    → AllDrawn names nodes a lambdas es → Drawn names nodes a body e → Drawn names nodes b id (Fix p xs es e)
fix_added names nodes a b vs lambdas body p id xs es e h params values drawn =
    let keeps = draft_added a b _ p id h in (
      vs,
      lambdas,
      body,
      is_added a b _ p id h,
      params,
      keeps.all names nodes lambdas es values,
      keeps.one names nodes body e drawn,
    )

pub one_more_drawn : (names : Names) (nodes : Data) (t : Table) (ids all : List ℕ) (id : ℕ) (es : Drafts) (e : Draft) → all ≡ ids ++ id ∷ []
    → AllDrawn names nodes t ids es → Drawn names nodes t id e → AllDrawn names nodes t all (es then item e none)
one_more_drawn names nodes t ids all id none e a h drawn =
    let P : List ℕ → Type 0 = λ is. all ≡ is ++ id ∷ [] in (id, [], subst P h a, drawn, refl)
one_more_drawn names nodes t ids all id (item d es) e a h drawn =
    let P : List ℕ → Type 0 = λ is. all ≡ is ++ id ∷ [] in
    (h.0, h.1 ++ id ∷ [], subst P h.2 a, h.3, one_more_drawn names nodes t h.1 (h.1 ++ id ∷ []) id es e refl h.4 drawn)
