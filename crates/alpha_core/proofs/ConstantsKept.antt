-- A renamed core has the constants and the positions of the core.
use Rattle.std.proofs.Common.{◌≡◌, ℕ, ◌+◌, List, [], length, refl, sym}
use Rattle.scheme_base.specs.declared.lit.Lit.{Lit}
use Rattle.core_form.specs.declared.program.Var.{Var}
use Rattle.core_form.specs.Source.{Scope, scope_with}
use Rattle.core_form.specs.Trees.{Tree, Const, Ref, Lambda, If, Set, Call, Prim, Seq, Fix, Define, Trees, none, item}
use Rattle.core_form.specs.Valid.{AllConstants, Constants, AllPlaced, IsPlaced}
use Rattle.alpha_core.specs.Renaming.{past_rest, past, past_all, with_rest, renamed, all_renamed}

mutual
  pub constants_kept : (lits : List Lit) (ρ : Scope Var) (n i j : ℕ) (e : Tree Var) → Constants lits i e j
      → Constants lits i (renamed ρ n e) j
  constants_kept lits ρ n i j (Const p l) h = h
  constants_kept lits ρ n i j (Ref p x) h = h
  constants_kept lits ρ n i j (Lambda p xs r body) h =
      constants_kept lits (with_rest r (n + length xs) (scope_with xs n ρ)) (past_rest (n + length xs) r) i j body h
  constants_kept lits ρ n i j (If p test this that) h = (
    h.0,
    h.1,
    constants_kept lits ρ n i h.0 test h.2,
    constants_kept lits ρ (past n test) h.0 h.1 this h.3,
    constants_kept lits ρ (past (past n test) this) h.1 j that h.4,
  )
  constants_kept lits ρ n i j (Set p x e) h = constants_kept lits ρ n i j e h
  constants_kept lits ρ n i j (Call p f es) h =
      (h.0, constants_kept lits ρ n i h.0 f h.1, all_constants_kept lits ρ (past n f) h.0 j es h.2)
  constants_kept lits ρ n i j (Prim p o es) h = all_constants_kept lits ρ n i j es h
  constants_kept lits ρ n i j (Seq p es) h = all_constants_kept lits ρ n i j es h
  constants_kept lits ρ n i j (Fix p xs ls body) h =
      let m : ℕ = n + length xs in
      let inner : Scope Var = scope_with xs n ρ in
      (h.0, all_constants_kept lits inner m i h.0 ls h.1, constants_kept lits inner (past_all m ls) h.0 j body h.2)
  constants_kept lits ρ n i j (Define p x e) h = constants_kept lits ρ n i j e h

  pub all_constants_kept : (lits : List Lit) (ρ : Scope Var) (n i j : ℕ) (es : Trees Var) → AllConstants lits i es j
      → AllConstants lits i (all_renamed ρ n es) j
  all_constants_kept lits ρ n i j none h = h
  all_constants_kept lits ρ n i j (item e es) h =
      (h.0, constants_kept lits ρ n i h.0 e h.1, all_constants_kept lits ρ (past n e) h.0 j es h.2)

mutual
  pub placed_kept : (ρ : Scope Var) (n : ℕ) (e : Tree Var) → IsPlaced e → IsPlaced (renamed ρ n e)
  placed_kept ρ n (Const p l) h = h
  placed_kept ρ n (Ref p x) h = h
  placed_kept ρ n (Lambda p xs r body) h =
      (h.0, placed_kept (with_rest r (n + length xs) (scope_with xs n ρ)) (past_rest (n + length xs) r) body h.1)
  placed_kept ρ n (If p test this that) h = (
    h.0,
    placed_kept ρ n test h.1,
    placed_kept ρ (past n test) this h.2,
    placed_kept ρ (past (past n test) this) that h.3,
  )
  placed_kept ρ n (Set p x e) h = (h.0, placed_kept ρ n e h.1)
  placed_kept ρ n (Call p f es) h = (h.0, placed_kept ρ n f h.1, all_placed_kept ρ (past n f) es h.2)
  placed_kept ρ n (Prim p o es) h = (h.0, all_placed_kept ρ n es h.1)
  placed_kept ρ n (Seq p es) h = (h.0, all_placed_kept ρ n es h.1)
  placed_kept ρ n (Fix p xs ls body) h =
      let m : ℕ = n + length xs in
      let inner : Scope Var = scope_with xs n ρ in
      (h.0, all_placed_kept inner m ls h.1, placed_kept inner (past_all m ls) body h.2)
  placed_kept ρ n (Define p x e) h = (h.0, placed_kept ρ n e h.1)

  pub all_placed_kept : (ρ : Scope Var) (n : ℕ) (es : Trees Var) → AllPlaced es → AllPlaced (all_renamed ρ n es)
  all_placed_kept ρ n none h = tt
  all_placed_kept ρ n (item e es) h = (placed_kept ρ n e h.0, all_placed_kept ρ (past n e) es h.1)
