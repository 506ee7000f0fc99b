-- What stands for a draft still does when expressions and constants are added to the table.
use Rattle.std.proofs.Common.{◌≡◌, ℕ, List, [], ◌∷◌, ◌++◌, sym, subst, ◌∙◌, append-nil}
use Rattle.std.specs.Prelude.{slice_get, Some}
use Rattle.scheme_base.specs.declared.pos.Pos.{Pos}
use Rattle.core_form.specs.declared.program.Node.{Node}
use Rattle.core_form.specs.declared.program.What.{What}
use Rattle.core_form.specs.Trees.{IsNode}
use Rattle.draft_form.specs.declared.draft.Constant.{Constant as Held}
use Rattle.draft_form.specs.declared.draft.Drafts.{Drafts as Table}
use Rattle.draft_form.specs.declared.draft.Variable.{Variable}
use Rattle.draft_form.specs.Drafts.{Draft, Drafts, Const, Symbols, Ref, Lambda, If, Set, Call, Prim, Seq, Fix, Define, none, item}
use Rattle.draft_form.specs.Drawn.{Names, Data, Drawn, AllDrawn}
use Rattle.draft_form.specs.Made.{AddsDraft, Keeps}
use Rattle.draft_form.proofs.Building.{get_append}

record Grows (before after : Table) : Type 0 where
  exprs : List (Node Variable)
  exprs_are : after.exprs.items ≡ before.exprs.items ++ exprs
  constants : List Held
  constants_are : after.constants.items ≡ before.constants.items ++ constants

node_stays : (a b : Table) (g : Grows a b) (id : ℕ) (what : What Variable) (p : Pos) → IsNode a.exprs.items id what p → IsNode b.exprs.items id what p
node_stays a b g id what p h =
    let P : List (Node Variable) → Type 0 = λ es. IsNode es id what p in
    subst P (sym g.exprs_are) (get_append a.exprs.items g.exprs id _ h)

constant_stays : (a b : Table) (g : Grows a b) (k : ℕ) (h : Held) → slice_get a.constants.items k ≡ Some h → slice_get b.constants.items k ≡ Some h
constant_stays a b g k h e =
    let P : List Held → Type 0 = λ hs. slice_get hs k ≡ Some h in
    subst P (sym g.constants_are) (get_append a.constants.items g.constants k h e)

mutual
  stays : (names : Names) (nodes : Data) (a b : Table) (g : Grows a b) (id : ℕ) (e : Draft) → Drawn names nodes a id e → Drawn names nodes b id e
  stays names nodes a b g id (Const p c) d =
      (d.0, d.1, node_stays a b g id _ p d.2, constant_stays a b g d.0 d.1 d.3, d.4)
  stays names nodes a b g id (Symbols p) d = (d.0, node_stays a b g id _ p d.1, constant_stays a b g d.0 _ d.2)
  stays names nodes a b g id (Ref p x) d = (d.0, node_stays a b g id _ p d.1, d.2)
  stays names nodes a b g id (Lambda p xs r e) d =
      (d.0, d.1, d.2, node_stays a b g id _ p d.3, d.4, d.5, stays names nodes a b g d.2 e d.6)
  stays names nodes a b g id (If p e f h) d = (
    d.0,
    d.1,
    d.2,
    node_stays a b g id _ p d.3,
    stays names nodes a b g d.0 e d.4,
    stays names nodes a b g d.1 f d.5,
    stays names nodes a b g d.2 h d.6,
  )
  stays names nodes a b g id (Set p x e) d = (d.0, d.1, node_stays a b g id _ p d.2, d.3, stays names nodes a b g d.1 e d.4)
  stays names nodes a b g id (Call p f es) d =
      (d.0, d.1, node_stays a b g id _ p d.2, stays names nodes a b g d.0 f d.3, all_stay names nodes a b g d.1 es d.4)
  stays names nodes a b g id (Prim p o es) d = (d.0, node_stays a b g id _ p d.1, all_stay names nodes a b g d.0 es d.2)
  stays names nodes a b g id (Seq p es) d = (d.0, node_stays a b g id _ p d.1, all_stay names nodes a b g d.0 es d.2)
  stays names nodes a b g id (Fix p xs es e) d = (
    d.0,
    d.1,
    d.2,
    node_stays a b g id _ p d.3,
    d.4,
    all_stay names nodes a b g d.1 es d.5,
    stays names nodes a b g d.2 e d.6,
  )
  stays names nodes a b g id (Define p x e) d = (d.0, d.1, node_stays a b g id _ p d.2, d.3, stays names nodes a b g d.1 e d.4)

  all_stay : (names : Names) (nodes : Data) (a b : Table) (g : Grows a b) (ids : List ℕ) (es : Drafts) → AllDrawn names nodes a ids es
      → AllDrawn names nodes b ids es
  all_stay names nodes a b g ids none d = d
  all_stay names nodes a b g ids (item e es) d =
      (d.0, d.1, d.2, stays names nodes a b g d.0 e d.3, all_stay names nodes a b g d.1 es d.4)

kept : (a b : Table) → Grows a b → Keeps a b
kept a b g =
    record {
      one = λ names nodes id e d. stays names nodes a b g id e d;
      all = λ names nodes ids es d. all_stay names nodes a b g ids es d;
    }

pub draft_added : (a b : Table) (what : What Variable) (p : Pos) (id : ℕ) → AddsDraft a b what p id → Keeps a b
draft_added a b what p id h =
    kept a b
    (record {
      exprs = record { what = what; pos = p } ∷ [];
      exprs_are = h.exprs;
      constants = [];
      constants_are = h.constants ∙ sym (append-nil a.constants.items);
    })

pub constant_added : (a b : Table) (h : Held) → b.exprs.items ≡ a.exprs.items → b.constants.items ≡ a.constants.items ++ h ∷ [] → Keeps a b
constant_added a b h same more =
    kept a b
    (record {
      exprs = [];
      exprs_are = same ∙ sym (append-nil a.exprs.items);
      constants = h ∷ [];
      constants_are = more;
    })

pub then_kept : (a b c : Table) → Keeps a b → Keeps b c → Keeps a c
then_kept a b c h k =
    record {
      one = λ names nodes id e d. k.one names nodes id e (h.one names nodes id e d);
      all = λ names nodes ids es d. k.all names nodes ids es (h.all names nodes ids es d);
    }
