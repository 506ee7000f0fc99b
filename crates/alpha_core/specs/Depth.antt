-- How deep an expression is: 1 without parts, else one more than its deepest part.
use Rattle.std.specs.Prelude.{ℕ, suc, max}
use Rattle.core_form.specs.Trees.{Tree, Const, Ref, Lambda, If, Set, Call, Prim, Seq, Fix, Define, Trees, none, item}

abbrev mutual
  pub depth : {V : Type 0} → Tree V → ℕ
  depth (Const p lit) = 1
  depth (Ref p x) = 1
  depth (Lambda p xs rest body) = suc (depth body)
  depth (If p test this that) = suc (max (depth test) (max (depth this) (depth that)))
  depth (Set p x e) = suc (depth e)
  depth (Call p f es) = suc (max (depth f) (deepest es))
  depth (Prim p o es) = suc (deepest es)
  depth (Seq p es) = suc (deepest es)
  depth (Fix p xs ls body) = suc (max (deepest ls) (depth body))
  depth (Define p x e) = suc (depth e)

  -- the depth of the deepest of some expressions, or 0
  pub deepest : {V : Type 0} → Trees V → ℕ
  deepest none = 0
  deepest (item e es) = max (depth e) (deepest es)
