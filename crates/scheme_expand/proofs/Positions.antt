-- The positions of a program are those of its expressions.
use Rattle.std.proofs.Common.{ℕ, List}
use Rattle.core_form.specs.declared.program.Node.{Node}
use Rattle.core_form.specs.Trees.{Tree, Trees, Const, Ref, Lambda, If, Set, Call, Prim, Seq, Fix, Define, none, item, Stands, StandAll}
use Rattle.core_form.specs.Valid.{IsPlaced, AllPlaced}
use Rattle.scheme_expand.specs.Laws.{ArePlaced}

mutual
  placed : {V : Type 0} (exprs : List (Node V)) → ArePlaced exprs → (id : ℕ) (e : Tree V) → Stands exprs id e → IsPlaced e
  placed exprs t id (Const p l) h = t id _ h
  placed exprs t id (Ref p x) h = t id _ h
  placed exprs t id (Lambda p xs r e) h = (t id _ h.1, placed exprs t h.0 e h.2)
  placed exprs t id (If p test this that) h =
      (t id _ h.3, placed exprs t h.0 test h.4, placed exprs t h.1 this h.5, placed exprs t h.2 that h.6)
  placed exprs t id (Set p x e) h = (t id _ h.1, placed exprs t h.0 e h.2)
  placed exprs t id (Call p e es) h = (t id _ h.2, placed exprs t h.0 e h.3, all_placed exprs t h.1 es h.4)
  placed exprs t id (Prim p o es) h = (t id _ h.1, all_placed exprs t h.0 es h.2)
  placed exprs t id (Seq p es) h = (t id _ h.1, all_placed exprs t h.0 es h.2)
  placed exprs t id (Fix p xs es e) h = (t id _ h.2, all_placed exprs t h.0 es h.3, placed exprs t h.1 e h.4)
  placed exprs t id (Define p x e) h = (t id _ h.1, placed exprs t h.0 e h.2)

  pub all_placed : {V : Type 0} (exprs : List (Node V)) → ArePlaced exprs → (ids : List ℕ) (es : Trees V)
      → StandAll exprs ids es → AllPlaced es
  all_placed exprs t ids none h = tt
  all_placed exprs t ids (item e es) h = (placed exprs t h.0 e h.3, all_placed exprs t h.1 es h.4)
