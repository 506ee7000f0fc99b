-- What a core that is being made holds after each change.
use Rattle.std.proofs.Common.{ℕ, ◌≡◌, ◌+◌, List, [], ◌∷◌, ◌++◌, length, refl, sym, ap, subst, ◌∙◌, append_assoc, append-nil}
use Rattle.scheme_base.specs.declared.pos.Pos.{Pos}
use Rattle.scheme_base.specs.declared.lit.Lit.{Lit}
use Rattle.scheme_base.specs.Constants.{Constant}
use Rattle.datum_form.specs.declared.datums.Node.{Node as DatumNode}
use Rattle.core_form.specs.declared.program.Var.{Var}
use Rattle.core_form.specs.declared.program.Node.{Node}
use Rattle.core_form.specs.declared.program.What.{What}
use Rattle.core_form.specs.declared.program.What.TheVariants as form
use Rattle.core_form.specs.Trees.{Trees, StandAll}
use Rattle.core_form.specs.Text.{IsLines, HasText}
use Rattle.draft_form.specs.declared.draft.Constant.{Constant as Held}
use Rattle.draft_form.specs.declared.draft.Variable.{Variable}
use Rattle.draft_form.specs.declared.growing.Growing.{Growing}
use Rattle.draft_form.specs.Written.{IsWritten, AreWritten, IsLaid, HasParts}
use Rattle.draft_form.specs.Growing.{IsReady, Takes}
use Rattle.draft_form.specs.Numbering.{IsClosed, Closes, AddsLiteral}
use Rattle.draft_form.specs.Numbers.{size, laid}
use Rattle.draft_form.specs.Quoted.{Adds}
use Rattle.draft_form.proofs.Laying.{laid_is}
use Rattle.draft_form.proofs.WrittenStays.{all_written_grow, written_append, written_left, written_right, lines_written, composed}

-- Expressions that are taken

pub still : (s t : Growing) (ids others : List ℕ) → Takes s t ids → AreWritten s.exprs s.lits.items others
    → AreWritten t.exprs t.lits.items others
still s t ids others k h =
    let P : List (Node Var) → Type 0 = λ es. AreWritten es s.lits.items others in
    let Q : List Lit → Type 0 = λ ls. AreWritten t.exprs ls others in
    subst Q (sym k.lits) (subst P (sym k.exprs) h)

pub taken : (s t : Growing) (ids : List ℕ) → Takes s t ids → IsReady s → IsReady t × AreWritten t.exprs t.lits.items ids
taken s t ids k h =
    let P : List ℕ → Type 0 = λ is. AreWritten s.exprs s.lits.items is in
    let Q : List ℕ → Type 0 = λ is. AreWritten t.exprs t.lits.items is in
    let all : AreWritten t.exprs t.lits.items (t.done.items ++ ids) =
    still s t ids (t.done.items ++ ids) k (subst P k.done h.done) in
    let ready : IsReady t =
    record {
      forms = subst Q (sym k.forms) (still s t ids s.forms k h.forms);
      done = written_left t.exprs t.lits.items t.done.items ids all;
    } in
    (ready, written_right t.exprs t.lits.items t.done.items ids all)

pub one_taken : (s t : Growing) (id : ℕ) → Takes s t (id ∷ []) → IsReady s → IsReady t × IsWritten t.exprs t.lits.items id
one_taken s t id k h = let r = taken s t (id ∷ []) k h in (r.0, r.1.0)

-- expressions that are taken, and those before them
pub takes_both : (s t u : Growing) (ids others : List ℕ) → Takes s t ids → Takes t u others → Takes s u (others ++ ids)
takes_both s t u ids others k m =
    record {
      exprs = m.exprs ∙ k.exprs;
      lits = m.lits ∙ k.lits;
      forms = m.forms ∙ k.forms;
      done = k.done ∙ (ap (λ is. is ++ ids) m.done ∙ append_assoc u.done.items others ids);
    }

parts_written : (f : Variable → Var) (w : What Variable) (exprs : List (Node Var)) (lits : List Lit) (ids : List ℕ) (what : What Var)
    → IsClosed f w ids what → AreWritten exprs lits ids → HasParts exprs lits what
parts_written f (form.Const k) exprs lits ids what h r = absurd h
parts_written f (form.Ref v) exprs lits ids what h r = absurd h
parts_written f (form.Lambda vs s b) exprs lits ids what h r =
    let P : List ℕ → Type 0 = λ is. AreWritten exprs lits is in
    let Q : What Var → Type 0 = λ x. HasParts exprs lits x in
    subst Q (sym h.2) (subst P h.1 r).0
parts_written f (form.If a b c) exprs lits ids what h r =
    let P : List ℕ → Type 0 = λ is. AreWritten exprs lits is in
    let Q : What Var → Type 0 = λ x. HasParts exprs lits x in
    let all : AreWritten exprs lits (h.0 ∷ h.1 ∷ h.2 ∷ []) = subst P h.3 r in
    let last : AreWritten exprs lits (h.1 ∷ h.2 ∷ []) = written_right exprs lits (h.0 ∷ []) (h.1 ∷ h.2 ∷ []) all in
    subst Q (sym h.4) (
      (written_left exprs lits (h.0 ∷ []) (h.1 ∷ h.2 ∷ []) all).0,
      (written_left exprs lits (h.1 ∷ []) (h.2 ∷ []) last).0,
      (written_right exprs lits (h.1 ∷ []) (h.2 ∷ []) last).0,
    )
parts_written f (form.Set v b) exprs lits ids what h r =
    let P : List ℕ → Type 0 = λ is. AreWritten exprs lits is in
    let Q : What Var → Type 0 = λ x. HasParts exprs lits x in
    subst Q (sym h.2) (subst P h.1 r).0
parts_written f (form.Call b bs) exprs lits ids what h r =
    let P : List ℕ → Type 0 = λ is. AreWritten exprs lits is in
    let Q : What Var → Type 0 = λ x. HasParts exprs lits x in
    let all : AreWritten exprs lits (h.0 ∷ h.1) = subst P h.2 r in
    subst Q (sym h.4) (all.0, all.1)
parts_written f (form.Prim o bs) exprs lits ids what h r =
    let Q : What Var → Type 0 = λ x. HasParts exprs lits x in
    subst Q (sym h.1) r
parts_written f (form.Seq bs) exprs lits ids what h r =
    let Q : What Var → Type 0 = λ x. HasParts exprs lits x in
    subst Q (sym h.1) r
parts_written f (form.Fix vs bs b) exprs lits ids what h r =
    let P : List ℕ → Type 0 = λ is. AreWritten exprs lits is in
    let Q : What Var → Type 0 = λ x. HasParts exprs lits x in
    let all : AreWritten exprs lits (h.0 ++ h.1 ∷ []) = subst P h.2 r in
    subst Q (sym h.4) (written_left exprs lits h.0 (h.1 ∷ []) all, (written_right exprs lits h.0 (h.1 ∷ []) all).0)
parts_written f (form.Define v b) exprs lits ids what h r =
    let P : List ℕ → Type 0 = λ is. AreWritten exprs lits is in
    let Q : What Var → Type 0 = λ x. HasParts exprs lits x in
    subst Q (sym h.2) (subst P h.1 r).0

pub closes_by : (f : Variable → Var) (w v : What Variable) (s t : Growing) (what : What Var) (ids : List ℕ) → w ≡ v → Takes s t ids
    → IsClosed f v ids what → Closes f w s t what
closes_by f w v s t what ids e takes h =
    let P : What Variable → Type 0 = λ x. IsClosed f x ids what in (ids, takes, subst P (sym e) h)

pub closed_parts : (f : Variable → Var) (w : What Variable) (s t : Growing) (what : What Var) → Closes f w s t what → IsReady s
    → IsReady t × HasParts t.exprs t.lits.items what
closed_parts f w s t what h ready =
    let r = taken s t h.0 h.1 ready in
    (r.0, parts_written f w t.exprs t.lits.items h.0 what h.2 r.1)

-- Expressions and literals that are added

written_more : (exprs after : List (Node Var)) (lits : List Lit) (node : Node Var) (ids : List ℕ)
    → after ≡ exprs ++ node ∷ [] → AreWritten exprs lits ids → AreWritten after lits ids
written_more exprs after lits node ids e h =
    let P : List Lit → Type 0 = λ ls. AreWritten (exprs ++ node ∷ []) ls ids in
    let Q : List (Node Var) → Type 0 = λ es. AreWritten es lits ids in
    subst Q (sym e) (subst P (append-nil lits) (all_written_grow exprs (node ∷ []) lits [] ids h))

pub added : (exprs after : List (Node Var)) (lits : List Lit) (forms done others : List ℕ) (what : What Var) (p : Pos) (id : ℕ)
    → after ≡ exprs ++ record { what = what; pos = p } ∷ [] → id ≡ length exprs → others ≡ done ++ id ∷ []
    → AreWritten exprs lits forms → AreWritten exprs lits done → HasParts exprs lits what
    → AreWritten after lits forms × AreWritten after lits others
added exprs after lits forms done others what p id e n f written rest parts =
    let node : Node Var = record { what = what; pos = p } in
    let P : List (Node Var) → Type 0 = λ es. IsWritten es lits (length exprs) in
    let Q : ℕ → Type 0 = λ i. IsWritten after lits i in
    let last : IsWritten after lits id = subst Q (sym n) (subst P (sym e) (composed exprs lits what p parts)) in
    let R : List ℕ → Type 0 = λ is. AreWritten after lits is in (
      written_more exprs after lits node forms e written,
      subst R (sym f) (written_append after lits done (id ∷ []) (written_more exprs after lits node done e rest) (last, tt)),
    )

laid_more : (exprs : List (Node Var)) (c : Constant) (lits after : List Lit) (ids : List ℕ) → Adds c lits after
    → AreWritten exprs lits ids → AreWritten exprs after ids
laid_more exprs c lits after ids e h =
    let P : List (Node Var) → Type 0 = λ es. AreWritten es (lits ++ laid (length lits) c) ids in
    let Q : List Lit → Type 0 = λ ls. AreWritten exprs ls ids in
    subst Q (sym e) (subst P (append-nil exprs) (all_written_grow exprs [] lits (laid (length lits) c) ids h))

pub literal_ready : (symbols : Constant) (nodes : List DatumNode) (constants : List Held) (k number : ℕ) (s t : Growing)
    → AddsLiteral symbols nodes constants k s t number → IsReady s → IsReady t × IsLaid t.lits.items number
literal_ready symbols nodes constants k number s t h ready =
    let c : Constant = h.3.0 in
    let e : Adds c s.lits.items t.lits.items = h.3.2 in
    let n : ℕ = length s.lits.items in
    let P : List (Node Var) → Type 0 = λ es. AreWritten es t.lits.items s.forms in
    let Q : List (Node Var) → Type 0 = λ es. AreWritten es t.lits.items s.done.items in
    let R : List ℕ → Type 0 = λ ids. AreWritten t.exprs t.lits.items ids in
    let L : ℕ → Type 0 = λ i. IsLaid t.lits.items i in
    let forms = subst P (sym h.4) (laid_more s.exprs c s.lits.items t.lits.items s.forms e ready.forms) in
    let done = subst Q (sym h.4) (laid_more s.exprs c s.lits.items t.lits.items s.done.items e ready.done) in
    let whole : t.lits.items ≡ s.lits.items ++ (laid n c ++ []) = e ∙ ap (λ ls. s.lits.items ++ ls) (sym (append-nil (laid n c))) in (
      record {
        forms = subst R (sym h.5) forms;
        done = subst R (sym (ap (λ v. v.items) h.6)) done;
      },
      subst L (sym h.2) (c, n + size c, laid_is t.lits.items s.lits.items [] n c whole refl),
    )

-- The whole

pub core_text : (exprs : List (Node Var)) (forms : List ℕ) (lits last : List Lit) → last ≡ lits → AreWritten exprs lits forms
    → HasText (record { exprs = exprs; forms = forms; lits = last })
core_text exprs forms lits last e h =
    let P : List Lit → Type 0 = λ ls. HasText (record { exprs = exprs; forms = forms; lits = ls }) in
    let r : (es : Trees Var) × (t : List ℕ) × StandAll exprs forms es × IsLines lits es t = lines_written exprs lits forms h in
    subst P (sym e) (r.1, (r.0, r.2, r.3))
