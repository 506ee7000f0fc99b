-- What is written stays so when expressions and literals are added, and an expression whose parts are written
-- is written.
use Rattle.std.proofs.Common.{ℕ, suc, List, [], ◌∷◌, ◌++◌, length, refl, codes}
use Rattle.scheme_base.specs.declared.pos.Pos.{Pos}
use Rattle.scheme_base.specs.declared.lit.Lit.{Lit}
use Rattle.scheme_base.specs.Constants.{Constant, Constant as constant, Constants}
use Rattle.scheme_base.specs.Literals.{Laid, LaidAll}
use Rattle.scheme_base.specs.Constants.Constants.{none as no_constant, item as constant_before}
use Rattle.core_form.specs.declared.program.Var.{Var}
use Rattle.core_form.specs.declared.program.Node.{Node}
use Rattle.core_form.specs.declared.program.What.{What}
use Rattle.core_form.specs.declared.program.What.TheVariants as form
use Rattle.core_form.specs.Trees.{Tree, Trees, Const, Ref, Lambda, If, Set, Call, Prim, Seq, Fix, Define, none, item, Stands, StandAll}
use Rattle.core_form.specs.Text.{IsText, IsListText, IsRestText, IsLines, var_text, vars_text, rest_text, constant_text}
use Rattle.scheme_base.specs.Operands.{name_of}
use Rattle.datum_form.proofs.DataStay.{got_grown}
use Rattle.draft_form.proofs.Ends.{got_last}
use Rattle.draft_form.specs.Written.{IsWritten, AreWritten, HasParts}

-- Literals

mutual
  pub laid_grows : (lits more : List Lit) (i : ℕ) (c : Constant) (j : ℕ) → Laid lits i c j → Laid (lits ++ more) i c j
  laid_grows lits more i (constant.Integer z) j h = (got_grown lits more i _ h.0, h.1)
  laid_grows lits more i (constant.Boolean b) j h = (got_grown lits more i _ h.0, h.1)
  laid_grows lits more i (constant.Character byte) j h = (got_grown lits more i _ h.0, h.1)
  laid_grows lits more i constant.Nil j h = (got_grown lits more i _ h.0, h.1)
  laid_grows lits more i constant.Unspecified j h = (got_grown lits more i _ h.0, h.1)
  laid_grows lits more i constant.Undefined j h = (got_grown lits more i _ h.0, h.1)
  laid_grows lits more i (constant.Symbol x) j h = (got_grown lits more i _ h.0, h.1)
  laid_grows lits more i (constant.String bytes) j h = (got_grown lits more i _ h.0, h.1)
  laid_grows lits more i (constant.Pair a d) j h =
      (h.0, got_grown lits more i _ h.1, laid_grows lits more (suc i) a h.0 h.2, laid_grows lits more h.0 d j h.3)
  laid_grows lits more i (constant.Vector cs) j h =
      (h.0, got_grown lits more i _ h.1, all_laid_grow lits more h.0 (suc i) cs j h.2)

  pub all_laid_grow : (lits more : List Lit) (ids : List ℕ) (i : ℕ) (cs : Constants) (j : ℕ)
      → LaidAll lits ids i cs j → LaidAll (lits ++ more) ids i cs j
  all_laid_grow lits more ids i no_constant j h = h
  all_laid_grow lits more ids i (constant_before c cs) j h =
      (h.0, h.1, h.2, laid_grows lits more i c h.1 h.3, all_laid_grow lits more h.0 h.1 cs j h.4)

-- Expressions

mutual
  stands_grow : (exprs more : List (Node Var)) (id : ℕ) (e : Tree Var) → Stands exprs id e → Stands (exprs ++ more) id e
  stands_grow exprs more id (Const p l) h = got_grown exprs more id _ h
  stands_grow exprs more id (Ref p x) h = got_grown exprs more id _ h
  stands_grow exprs more id (Lambda p xs r e) h =
      (h.0, got_grown exprs more id _ h.1, stands_grow exprs more h.0 e h.2)
  stands_grow exprs more id (If p t y n) h = (
    h.0,
    h.1,
    h.2,
    got_grown exprs more id _ h.3,
    stands_grow exprs more h.0 t h.4,
    stands_grow exprs more h.1 y h.5,
    stands_grow exprs more h.2 n h.6,
  )
  stands_grow exprs more id (Set p x e) h = (h.0, got_grown exprs more id _ h.1, stands_grow exprs more h.0 e h.2)
  stands_grow exprs more id (Call p f es) h =
      (h.0, h.1, got_grown exprs more id _ h.2, stands_grow exprs more h.0 f h.3, all_stand_grow exprs more h.1 es h.4)
  stands_grow exprs more id (Prim p o es) h = (h.0, got_grown exprs more id _ h.1, all_stand_grow exprs more h.0 es h.2)
  stands_grow exprs more id (Seq p es) h = (h.0, got_grown exprs more id _ h.1, all_stand_grow exprs more h.0 es h.2)
  stands_grow exprs more id (Fix p xs ls e) h =
      (h.0, h.1, got_grown exprs more id _ h.2, all_stand_grow exprs more h.0 ls h.3, stands_grow exprs more h.1 e h.4)
  stands_grow exprs more id (Define p x e) h = (h.0, got_grown exprs more id _ h.1, stands_grow exprs more h.0 e h.2)

  all_stand_grow : (exprs more : List (Node Var)) (ids : List ℕ) (es : Trees Var) → StandAll exprs ids es
      → StandAll (exprs ++ more) ids es
  all_stand_grow exprs more ids none h = h
  all_stand_grow exprs more ids (item e es) h =
      (h.0, h.1, h.2, stands_grow exprs more h.0 e h.3, all_stand_grow exprs more h.1 es h.4)

mutual
  text_grows : (lits more : List Lit) (e : Tree Var) (t : List ℕ) → IsText lits e t → IsText (lits ++ more) e t
  text_grows lits more (Const p l) t h =
      (h.0, (h.1.0, h.1.1, laid_grows lits more l h.1.0 h.1.1 h.1.2, h.1.3), h.2)
  text_grows lits more (Ref p x) t h = h
  text_grows lits more (Lambda p xs r e) t h = (h.0, text_grows lits more e h.0 h.1, h.2)
  text_grows lits more (If p a b c) t h =
      (h.0, h.1, h.2, text_grows lits more a h.0 h.3, text_grows lits more b h.1 h.4, text_grows lits more c h.2 h.5, h.6)
  text_grows lits more (Set p x e) t h = (h.0, text_grows lits more e h.0 h.1, h.2)
  text_grows lits more (Call p f es) t h =
      (h.0, h.1, text_grows lits more f h.0 h.2, list_text_grows lits more es h.1 h.3, h.4)
  text_grows lits more (Prim p o es) t h = (h.0, list_text_grows lits more es h.0 h.1, h.2)
  text_grows lits more (Seq p es) t h = (h.0, list_text_grows lits more es h.0 h.1, h.2)
  text_grows lits more (Fix p xs ls e) t h =
      (h.0, h.1, list_text_grows lits more ls h.0 h.2, text_grows lits more e h.1 h.3, h.4)
  text_grows lits more (Define p x e) t h = (h.0, text_grows lits more e h.0 h.1, h.2)

  list_text_grows : (lits more : List Lit) (es : Trees Var) (t : List ℕ) → IsListText lits es t → IsListText (lits ++ more) es t
  list_text_grows lits more none t h = h
  list_text_grows lits more (item e es) t h =
      (h.0, h.1, text_grows lits more e h.0 h.2, rest_text_grows lits more es h.1 h.3, h.4)

  rest_text_grows : (lits more : List Lit) (es : Trees Var) (t : List ℕ) → IsRestText lits es t → IsRestText (lits ++ more) es t
  rest_text_grows lits more none t h = h
  rest_text_grows lits more (item e es) t h =
      (h.0, h.1, text_grows lits more e h.0 h.2, rest_text_grows lits more es h.1 h.3, h.4)

pub written_grows : (exprs nodes : List (Node Var)) (lits more : List Lit) (id : ℕ) → IsWritten exprs lits id
    → IsWritten (exprs ++ nodes) (lits ++ more) id
written_grows exprs nodes lits more id h =
    (h.0, h.1, stands_grow exprs nodes id h.0 h.2, text_grows lits more h.0 h.1 h.3)

pub all_written_grow : (exprs nodes : List (Node Var)) (lits more : List Lit) (ids : List ℕ) → AreWritten exprs lits ids
    → AreWritten (exprs ++ nodes) (lits ++ more) ids
all_written_grow exprs nodes lits more [] h = h
all_written_grow exprs nodes lits more (id ∷ ids) h =
    (written_grows exprs nodes lits more id h.0, all_written_grow exprs nodes lits more ids h.1)

pub written_append : (exprs : List (Node Var)) (lits : List Lit) (ids others : List ℕ) → AreWritten exprs lits ids
    → AreWritten exprs lits others → AreWritten exprs lits (ids ++ others)
written_append exprs lits [] others h k = k
written_append exprs lits (id ∷ ids) others h k = (h.0, written_append exprs lits ids others h.1 k)

pub written_left : (exprs : List (Node Var)) (lits : List Lit) (ids others : List ℕ) → AreWritten exprs lits (ids ++ others)
    → AreWritten exprs lits ids
written_left exprs lits [] others h = tt
written_left exprs lits (id ∷ ids) others h = (h.0, written_left exprs lits ids others h.1)

pub written_right : (exprs : List (Node Var)) (lits : List Lit) (ids others : List ℕ) → AreWritten exprs lits (ids ++ others)
    → AreWritten exprs lits others
written_right exprs lits [] others h = h
written_right exprs lits (id ∷ ids) others h = written_right exprs lits ids others h.1

-- Texts of several expressions

rest_written : (exprs : List (Node Var)) (lits : List Lit) (ids : List ℕ) → AreWritten exprs lits ids
    → (es : Trees Var) × (t : List ℕ) × StandAll exprs ids es × IsRestText lits es t
rest_written exprs lits [] h = (none, codes ")", refl, refl)
rest_written exprs lits (id ∷ ids) h =
    let r : (es : Trees Var) × (t : List ℕ) × StandAll exprs ids es × IsRestText lits es t = rest_written exprs lits ids h.1 in
    (item h.0.0 r.0, 32 ∷ h.0.1 ++ r.1, (id, ids, refl, h.0.2, r.2), (h.0.1, r.1, h.0.3, r.3, refl))

list_written : (exprs : List (Node Var)) (lits : List Lit) (ids : List ℕ) → AreWritten exprs lits ids
    → (es : Trees Var) × (t : List ℕ) × StandAll exprs ids es × IsListText lits es t
list_written exprs lits [] h = (none, codes "()", refl, refl)
list_written exprs lits (id ∷ ids) h =
    let r : (es : Trees Var) × (t : List ℕ) × StandAll exprs ids es × IsRestText lits es t = rest_written exprs lits ids h.1 in
    (item h.0.0 r.0, 40 ∷ h.0.1 ++ r.1, (id, ids, refl, h.0.2, r.2), (h.0.1, r.1, h.0.3, r.3, refl))

pub lines_written : (exprs : List (Node Var)) (lits : List Lit) (ids : List ℕ) → AreWritten exprs lits ids
    → (es : Trees Var) × (t : List ℕ) × StandAll exprs ids es × IsLines lits es t
lines_written exprs lits [] h = (none, [], refl, refl)
lines_written exprs lits (id ∷ ids) h =
    let r : (es : Trees Var) × (t : List ℕ) × StandAll exprs ids es × IsLines lits es t = lines_written exprs lits ids h.1 in
    (item h.0.0 r.0, h.0.1 ++ 10 ∷ r.1, (id, ids, refl, h.0.2, r.2), (h.0.1, r.1, h.0.3, r.3, refl))

-- an expression whose parts are written
pub composed : (exprs : List (Node Var)) (lits : List Lit) (what : What Var) (p : Pos) → HasParts exprs lits what
    → IsWritten (exprs ++ record { what = what; pos = p } ∷ []) lits (length exprs)
composed exprs lits (form.Const l) p h = (
  Const p l,
  codes "(const " ++ (constant_text h.0 ++ codes ")"),
  got_last exprs _ [],
  (constant_text h.0, (h.0, h.1, h.2, refl), refl),
)
composed exprs lits (form.Ref x) p h = (Ref p x, codes "(ref " ++ (var_text x ++ codes ")"), got_last exprs _ [], refl)
composed exprs lits (form.Lambda xs r body) p h = (
  Lambda p xs r h.0,
  codes "(lambda " ++ (vars_text xs ++ (32 ∷ rest_text r ++ (32 ∷ h.1 ++ codes ")"))),
  (body, got_last exprs _ [], stands_grow exprs _ body h.0 h.2),
  (h.1, h.3, refl),
)
composed exprs lits (form.If a b c) p h = (
  If p h.0.0 h.1.0 h.2.0,
  codes "(if " ++ (h.0.1 ++ (32 ∷ h.1.1 ++ (32 ∷ h.2.1 ++ codes ")"))),
  (
    a,
    b,
    c,
    got_last exprs _ [],
    stands_grow exprs _ a h.0.0 h.0.2,
    stands_grow exprs _ b h.1.0 h.1.2,
    stands_grow exprs _ c h.2.0 h.2.2,
  ),
  (h.0.1, h.1.1, h.2.1, h.0.3, h.1.3, h.2.3, refl),
)
composed exprs lits (form.Set x value) p h = (
  Set p x h.0,
  codes "(set " ++ (var_text x ++ (32 ∷ h.1 ++ codes ")")),
  (value, got_last exprs _ [], stands_grow exprs _ value h.0 h.2),
  (h.1, h.3, refl),
)
composed exprs lits (form.Call f es) p h =
    let r : (ts : Trees Var) × (t : List ℕ) × StandAll exprs es ts × IsListText lits ts t = list_written exprs lits es h.1 in (
      Call p h.0.0 r.0,
      codes "(call " ++ (h.0.1 ++ (32 ∷ r.1 ++ codes ")")),
      (f, es, got_last exprs _ [], stands_grow exprs _ f h.0.0 h.0.2, all_stand_grow exprs _ es r.0 r.2),
      (h.0.1, r.1, h.0.3, r.3, refl),
    )
composed exprs lits (form.Prim o es) p h =
    let r : (ts : Trees Var) × (t : List ℕ) × StandAll exprs es ts × IsListText lits ts t = list_written exprs lits es h in (
      Prim p o r.0,
      codes "(prim " ++ (name_of o ++ (32 ∷ r.1 ++ codes ")")),
      (es, got_last exprs _ [], all_stand_grow exprs _ es r.0 r.2),
      (r.1, r.3, refl),
    )
composed exprs lits (form.Seq es) p h =
    let r : (ts : Trees Var) × (t : List ℕ) × StandAll exprs es ts × IsListText lits ts t = list_written exprs lits es h in (
      Seq p r.0,
      codes "(seq " ++ (r.1 ++ codes ")"),
      (es, got_last exprs _ [], all_stand_grow exprs _ es r.0 r.2),
      (r.1, r.3, refl),
    )
composed exprs lits (form.Fix xs ls body) p h =
    let r : (ts : Trees Var) × (t : List ℕ) × StandAll exprs ls ts × IsListText lits ts t = list_written exprs lits ls h.0 in (
      Fix p xs r.0 h.1.0,
      codes "(fix " ++ (vars_text xs ++ (32 ∷ r.1 ++ (32 ∷ h.1.1 ++ codes ")"))),
      (ls, body, got_last exprs _ [], all_stand_grow exprs _ ls r.0 r.2, stands_grow exprs _ body h.1.0 h.1.2),
      (r.1, h.1.1, r.3, h.1.3, refl),
    )
composed exprs lits (form.Define x value) p h = (
  Define p x h.0,
  codes "(define " ++ (var_text x ++ (32 ∷ h.1 ++ codes ")")),
  (value, got_last exprs _ [], stands_grow exprs _ value h.0 h.2),
  (h.1, h.3, refl),
)
