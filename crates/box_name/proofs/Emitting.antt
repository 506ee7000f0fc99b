-- The steps of an expression, from those of its parts.
use Rattle.std.proofs.Common.{◌≡◌, ℕ, suc, ◌+◌, nat_eq, List, [], ◌∷◌, ◌++◌, map, Option, None, Some, is_some, Bool, true, false, if◌then◌else◌, length, refl, sym, ap, subst, ◌∙◌, append_assoc, append-nil, arith}
use Rattle.indexmap.specs.IndexMap.{get}
use Rattle.scheme_base.specs.declared.pos.Pos.{Pos}
use Rattle.scheme_base.specs.declared.op.Op.{Op}
use Rattle.scheme_base.specs.declared.lit.Lit.{Lit}
use Rattle.core_form.specs.declared.program.Var.{Var}
use Rattle.core_form.specs.declared.program.VarRef.{VarRef}
use Rattle.core_form.specs.Trees.{Tree}
use Rattle.core_form.specs.Trees as tree
use Rattle.named_form.specs.declared.program.Step.{Step}
use Rattle.named_form.specs.declared.program.Block.{Block, out-Block}
use Rattle.named_form.specs.Code.{Code, Ends, Then, Act}
use Rattle.named_form.specs.Code as act
use Rattle.named_form.specs.Written.{Onto}
use Rattle.named_form.specs.Written as written
use Rattle.named_form.specs.Valid.{numbers_from}
use Rattle.box_name.specs.declared.namer.Namer.{Namer}
use Rattle.box_name.specs.Told.{Expr, Const, Local, Top, Lambda, If, SetLocal, SetTop, Call, Direct, Prim, Seq, Fix, Define, Exprs, none, item, told, numbers, option_number}
use Rattle.box_name.specs.Counts.{procs_in, all_procs_in, after, all_after, places, all_places, have_values, after_params, param_places, var_places}
use Rattle.box_name.specs.Naming.{Setting, place, value, values, last_value, all_valued, code, all_code, operation, bind_params, procs_of}
use Rattle.box_name.specs.NamingSteps.{linked, Agrees, Notes, Takes, PutsOne, Binds, TakesProc, Emits, EmitsExpr, EmitsAll, EmitsOperands, BindsParams, IsLambdaAt, MakesArm, with_proc, last_of}
use Rattle.box_name.proofs.Acts.{block_is}
use Rattle.box_name.proofs.Putting.{earlier, found_at, notes_then, notes_none, notes_next, notes_as, notes_from, next_is, emits_then, emits_as, emits_none, emits_step, emits_next, finish}

none_more : (p : ℕ) → p ≡ p + 0
none_more p = omega arith

assoc : (i j k : ℕ) → i + j + k ≡ i + (j + k)
assoc i j k = omega arith

module _ (s : Setting) (n p : ℕ) (a b : Namer) (x y : List Step) (q : Pos) (v : ℕ) where
  -- one step that binds the next variable, for an expression without parts and with no procedure
  alone : (e : Expr) (made : Act Pos) → a.next_var ≡ n → a.next_proc ≡ p → Binds a b x y q made v → [] ≡ places s.boxed n e → suc n ≡ after s.boxed n e → 0 ≡ procs_in e
      → (Agrees b s → (rest : Code Pos) → Then q (n ∷ []) made rest ≡ code s e n p rest) → n ≡ value s e n
      → Emits s a b x y (places s.boxed n e) (after s.boxed n e) (p + procs_in e) (code s e n p) × (Agrees b s → v ≡ value s e n)
  alone e made h k bound noted vars procs same is = (
    emits_as s a b x y [] (places s.boxed n e) (suc n) (after s.boxed n e) p (p + procs_in e) (λ rest. Then q (n ∷ []) made rest)
        (code s e n p) noted vars (none_more p ∙ ap (λ c. p + c) procs) same (emits_next s a b x y n p q made v h k bound),
    λ agrees. bound.var ∙ (h ∙ is),
  )

  pub emit_const : (l : ℕ) → Binds a b x y q (act.Const l) v
      → EmitsExpr s n p a b x y (Const q l) v
  emit_const l bound =
      λ h k. alone (Const q l) (act.Const l) h k bound refl refl refl (λ agrees rest. refl) refl

  pub emit_top : (g : Var) (top : ℕ) (checked : Bool) → top ≡ s.top g → checked ≡ s.checked g → Binds a b x y q (act.TopGet top checked) v
      → EmitsExpr s n p a b x y (Top q g) v
  emit_top g top checked at check bound =
      λ h k.
      alone (Top q g) (act.TopGet top checked) h k bound refl refl refl
      (λ agrees rest.
      ap (λ t. Then q (n ∷ []) (act.TopGet t checked) rest) at
      ∙ ap (λ t. Then q (n ∷ []) (act.TopGet (s.top g) t) rest) check)
      refl

  pub emit_boxed : (z w : ℕ) (hole : Bool) → s.boxed z ≡ true → hole ≡ s.hole z → get nat_eq a.vars z ≡ Some w → Binds a b x y q (act.Unbox w hole) v
      → EmitsExpr s n p a b x y (Local q z) v
  emit_boxed z w hole boxed holed at bound =
      λ h k.
      alone (Local q z) (act.Unbox w hole) h k bound refl
      (sym (ap (λ t. if t then suc n else n) boxed)) refl
      (λ agrees rest.
      ap (λ t. Then q (n ∷ []) (act.Unbox t hole) rest)
      (sym (found_at s b z w (subst (λ m. get nat_eq m z ≡ Some w) (sym (ap (λ u. u.vars) bound.next)) at) agrees))
      ∙ (ap (λ t. Then q (n ∷ []) (act.Unbox (place s.places z) t) rest) holed
      ∙ sym (ap (λ t. if t then Then q (n ∷ []) (act.Unbox (place s.places z) (s.hole z)) rest else rest) boxed)))
      (sym (ap (λ t. if t then n else place s.places z) boxed))

  pub emit_plain : (z : ℕ) → s.boxed z ≡ false → get nat_eq a.vars z ≡ Some v → b ≡ a → y ≡ x
      → EmitsExpr s n p a b x y (Local q z) v
  emit_plain z boxed at same still =
      λ h k. (
        emits_as s a b x y [] [] n (after s.boxed n (Local q z)) p (p + 0) (λ rest. rest) (code s (Local q z) n p) refl
            (sym (ap (λ t. if t then suc n else n) boxed)) (none_more p)
            (λ agrees rest.
            sym (ap (λ t. if t then Then q (n ∷ []) (act.Unbox (place s.places z) (s.hole z)) rest else rest) boxed))
            (emits_none s a b x y [] n p still
            (notes_none a b n p (ap (λ u. u.vars) same) (ap (λ u. u.next_var) same ∙ h) (ap (λ u. u.next_proc) same ∙ k))),
        λ agrees.
            sym (found_at s a z v at (subst (λ u. Agrees u s) same agrees))
            ∙ sym (ap (λ t. if t then n else place s.places z) boxed),
      )

  pub emit_lambda : (xs : List ℕ) (r : Option ℕ) (body : Expr) (a1 : Namer) (proc : ℕ) → TakesProc a a1 (Lambda q xs r body) proc
      → Binds a1 b x y q (act.Closure proc) v → EmitsExpr s n p a b x y (Lambda q xs r body) v
  emit_lambda xs r body a1 proc taken bound =
      λ h k.
      let moved = taken.next in
      let vars : a1.next_var ≡ n = ap (λ u. u.next_var) moved ∙ h in
      let procs : a1.next_proc ≡ p + suc (procs_in body) =
      ap (λ u. u.next_proc) moved ∙ ap (λ u. u + suc (procs_in body)) k in
      let one = emits_next s a1 b x y n (p + suc (procs_in body)) q (act.Closure proc) v vars procs bound in (
        record {
          notes = notes_from a a1 b [] (suc n) (p + suc (procs_in body)) (ap (λ u. u.vars) moved) one.notes;
          puts = λ agrees rest. one.puts agrees rest ∙ ap (λ u. linked x (Then q (n ∷ []) (act.Closure u) rest)) (taken.proc ∙ k);
        },
        λ agrees. bound.var ∙ vars,
      )

module _ (s : Setting) (n p : ℕ) (a b c : Namer) (x y z : List Step) (q : Pos) (e : Expr) (v w : ℕ) where
  pub emit_set_local : (g boxed : ℕ) → EmitsExpr s n p a b x y e w → get nat_eq b.vars g ≡ Some boxed → Binds b c y z q (act.SetBox boxed w) v
      → EmitsExpr s n p a c x z (SetLocal q g e) v
  emit_set_local g boxed part at bound =
      λ h k.
      let r = part h k in (
        finish s a b c x y z (places s.boxed n e) (after s.boxed n e) (p + procs_in e) (code s e n p) q (act.SetBox boxed w)
            (act.SetBox (place s.places g) (value s e n)) v r.0 bound
            (λ agrees.
            ap (λ t. act.SetBox t w) (sym (found_at s b g boxed at agrees))
            ∙ ap (λ t. act.SetBox (place s.places g) t) (r.1 agrees)),
        λ agrees. bound.var ∙ r.0.notes.next_var,
      )

  pub emit_set_top : (g : Var) (top : ℕ) (checked : Bool) → EmitsExpr s n p a b x y e w → top ≡ s.top g → checked ≡ s.checked g
      → Binds b c y z q (act.TopSet top w checked) v
      → EmitsExpr s n p a c x z (SetTop q g e) v
  emit_set_top g top checked part at check bound =
      λ h k.
      let r = part h k in (
        finish s a b c x y z (places s.boxed n e) (after s.boxed n e) (p + procs_in e) (code s e n p) q
            (act.TopSet top w checked) (act.TopSet (s.top g) (value s e n) (s.checked g)) v r.0 bound
            (λ agrees.
            ap (λ t. act.TopSet t w checked) at
            ∙ (ap (λ t. act.TopSet (s.top g) t checked) (r.1 agrees)
            ∙ ap (λ t. act.TopSet (s.top g) (value s e n) t) check)),
        λ agrees. bound.var ∙ r.0.notes.next_var,
      )

  pub emit_define : (g : Var) (top : ℕ) → EmitsExpr s n p a b x y e w → top ≡ s.top g → Binds b c y z q (act.TopDefine top w) v
      → EmitsExpr s n p a c x z (Define q g e) v
  emit_define g top part at bound =
      λ h k.
      let r = part h k in (
        finish s a b c x y z (places s.boxed n e) (after s.boxed n e) (p + procs_in e) (code s e n p) q (act.TopDefine top w)
            (act.TopDefine (s.top g) (value s e n)) v r.0 bound
            (λ agrees. ap (λ t. act.TopDefine t w) at ∙ ap (λ t. act.TopDefine (s.top g) t) (r.1 agrees)),
        λ agrees. bound.var ∙ r.0.notes.next_var,
      )

module _ (s : Setting) (n p : ℕ) (a b c : Namer) (x y z : List Step) (q : Pos) (es : Exprs) (v : ℕ) (ws : List ℕ) where
  pub emit_prim : (o : Op) → EmitsAll s n p a b x y es ws → Binds b c y z q (operation o ws) v
      → EmitsExpr s n p a c x z (Prim q o es) v
  emit_prim o all bound =
      λ h k.
      let r = all h k in (
        finish s a b c x y z (all_places s.boxed n es) (all_after s.boxed n es) (p + all_procs_in es) (all_code s es n p) q
            (operation o ws) (operation o (values s es n)) v r.0 bound (λ agrees. ap (operation o) (r.1 agrees)),
        λ agrees. bound.var ∙ r.0.notes.next_var,
      )

last_is : (s : Setting) (other : ℕ) (es : Exprs) (n : ℕ) → last_of other (values s es n) ≡ last_value s other es n
last_is s other none n = refl
last_is s other (item e es) n = last_is s (value s e n) es (after s.boxed n e)

pub emit_seq : (s : Setting) (n p : ℕ) (a b : Namer) (x y : List Step) (q : Pos) (es : Exprs) (v : ℕ) (ws : List ℕ)
    → EmitsAll s n p a b x y es ws → v ≡ last_of 0 ws → EmitsExpr s n p a b x y (Seq q es) v
emit_seq s n p a b x y q es v ws all var =
    λ h k.
    let r = all h k in
    (r.0, λ agrees. var ∙ (ap (λ u. last_of 0 u) (r.1 agrees) ∙ last_is s 0 es n))

pub emit_call : (s : Setting) (n p : ℕ) (a b c d : Namer) (x y z w : List Step) (q : Pos) (f : Expr) (es : Exprs) (v u : ℕ)
    (us : List ℕ) → EmitsExpr s n p a b x y f u → ((m r : ℕ) → EmitsAll s m r b c y z es us) → Binds c d z w q (act.Call u us) v
    → EmitsExpr s n p a d x w (Call q f es) v
emit_call s n p a b c d x y z w q f es v u us operator operands bound =
    λ h k.
    let m = after s.boxed n f in
    let r = operator h k in
    let t = operands m (p + procs_in f) r.0.notes.next_var r.0.notes.next_proc in
    let both =
    emits_then s a b c x y z (places s.boxed n f) (all_places s.boxed m es) m (p + procs_in f) (all_after s.boxed m es)
    (p + procs_in f + all_procs_in es) (code s f n p) (all_code s es m (p + procs_in f)) r.0 t.0 in
    let whole =
    finish s a c d x z w (places s.boxed n f ++ all_places s.boxed m es) (all_after s.boxed m es)
    (p + procs_in f + all_procs_in es) (λ rest. code s f n p (all_code s es m (p + procs_in f) rest)) q (act.Call u us)
    (act.Call (value s f n) (values s es m)) v both bound
    (λ agrees.
    ap (λ t1. act.Call t1 us) (r.1 (earlier s b c (all_places s.boxed m es) t.0.notes.entries agrees))
    ∙ ap (λ t1. act.Call (value s f n) t1) (t.1 agrees)) in (
      emits_as s a d x w (places s.boxed n f ++ all_places s.boxed m es) (places s.boxed n f ++ all_places s.boxed m es)
          (suc (all_after s.boxed m es)) (suc (all_after s.boxed m es)) (p + procs_in f + all_procs_in es)
          (p + (procs_in f + all_procs_in es))
          (λ rest. code s f n p (all_code s es m (p + procs_in f) (Then q (all_after s.boxed m es ∷ []) (act.Call (value s f n) (values s es m)) rest)))
          (code s (Call q f es) n p) refl refl (assoc p (procs_in f) (all_procs_in es)) (λ agrees rest. refl) whole,
      λ agrees. bound.var ∙ t.0.notes.next_var,
    )

pub emit_fix : (s : Setting) (n p : ℕ) (a b c : Namer) (x y z : List Step) (q : Pos) (xs : List ℕ) (ls : Exprs) (e : Expr) (v : ℕ)
    → Emits s a b x y (var_places n xs) (n + length xs) (p + all_procs_in ls)
    (λ rest. Then q (numbers_from n (length xs)) (act.Fix (procs_of p ls)) rest)
    → EmitsExpr s (n + length xs) (p + all_procs_in ls) b c y z e v
    → Emits s a c x z (places s.boxed n (Fix q xs ls e)) (after s.boxed n (Fix q xs ls e)) (p + procs_in (Fix q xs ls e)) (code s (Fix q xs ls e) n p)
    × (Agrees c s → v ≡ value s (Fix q xs ls e) n)
emit_fix s n p a b c x y z q xs ls e v first body =
    let m = n + length xs in
    let r = body first.notes.next_var first.notes.next_proc in (
      emits_as s a c x z (var_places n xs ++ places s.boxed m e) (var_places n xs ++ places s.boxed m e) (after s.boxed m e)
          (after s.boxed m e) (p + all_procs_in ls + procs_in e) (p + (all_procs_in ls + procs_in e))
          (λ rest. Then q (numbers_from n (length xs)) (act.Fix (procs_of p ls)) (code s e m (p + all_procs_in ls) rest))
          (code s (Fix q xs ls e) n p) refl refl (assoc p (all_procs_in ls) (procs_in e)) (λ agrees rest. refl)
          (emits_then s a b c x y z (var_places n xs) (places s.boxed m e) m (p + all_procs_in ls) (after s.boxed m e)
          (p + all_procs_in ls + procs_in e)
          (λ rest. Then q (numbers_from n (length xs)) (act.Fix (procs_of p ls)) rest) (code s e m (p + all_procs_in ls))
          first r.0),
      r.1,
    )

pub emit_if : (s : Setting) (n p : ℕ) (a a1 a2 a3 a4 a5 : Namer) (x y z : List Step) (q : Pos) (e f g : Expr) (v u m : ℕ)
    (this that : Block) → EmitsExpr s n p a a1 x y e u → Takes a1 a2 m
    → ((k r : ℕ) → a2.next_var ≡ k → a2.next_proc ≡ r → MakesArm s k r a2 a3 f this)
    → ((k r : ℕ) → a3.next_var ≡ k → a3.next_proc ≡ r → MakesArm s k r a3 a4 g that)
    → PutsOne a4 a5 y z q m (act.If u (written.code this) (written.code that)) v
    → EmitsExpr s n p a a5 x z (If q e f g) v
emit_if s n p a a1 a2 a3 a4 a5 x y z q e f g v u m this that test taken first second one_put =
    λ h k.
    let fresh = taken.var in
    let same = one_put.same in
    let r = test h k in
    let m1 = after s.boxed n e in
    let p1 = p + procs_in e in
    let k1 = after s.boxed (suc m1) f in
    let p2 = p1 + procs_in f in
    let begin = notes_next a1 a2 m1 p1 r.0.notes.next_var r.0.notes.next_proc taken.next in
    let one = first (suc m1) p1 begin.next_var begin.next_proc in
    let two = second k1 p2 one.notes.next_var one.notes.next_proc in
    let P = places s.boxed (suc m1) f in
    let Q = places s.boxed k1 g in
    let arms =
    notes_then a2 a3 a4 P Q k1 p2 (after s.boxed k1 g) (p2 + procs_in g) one.notes two.notes in
    let all = notes_then a1 a2 a4 [] (P ++ Q) (suc m1) p1 (after s.boxed k1 g) (p2 + procs_in g) begin arms in
    let end = subst (λ d. Notes a1 d (P ++ Q) (after s.boxed k1 g) (p2 + procs_in g)) (sym same) all in
    let done =
    act.If (value s e n) (code s f (suc m1) p1 (Ends (Some (value s f (suc m1))))) (code s g k1 p2 (Ends (Some (value s g k1)))) in
    let step = emits_step s a1 a5 y z (P ++ Q) (after s.boxed k1 g) (p2 + procs_in g) q (m ∷ []) (act.If u (written.code this) (written.code that)) end one_put.step in
    let told =
    emits_as s a1 a5 y z (P ++ Q) (P ++ Q) (after s.boxed k1 g) (after s.boxed k1 g) (p2 + procs_in g) (p2 + procs_in g)
    (λ rest. Then q (m ∷ []) (act.If u (written.code this) (written.code that)) rest)
    (λ rest. Then q (m1 ∷ []) done rest) refl refl refl
    (λ agrees rest.
    ap (λ t. Then q (t ∷ []) (act.If u (written.code this) (written.code that)) rest) (fresh ∙ r.0.notes.next_var)
    ∙ (ap (λ t. Then q (m1 ∷ []) (act.If t (written.code this) (written.code that)) rest)
    (r.1 (earlier s a1 a5 (P ++ Q) end.entries agrees))
    ∙ (ap (λ t. Then q (m1 ∷ []) (act.If (value s e n) t (written.code that)) rest)
    (one.code (earlier s a3 a4 Q two.notes.entries (subst (λ d. Agrees d s) same agrees)))
    ∙ ap (λ t. Then q (m1 ∷ []) (act.If (value s e n) (code s f (suc m1) p1 (Ends (Some (value s f (suc m1))))) t) rest)
    (two.code (subst (λ d. Agrees d s) same agrees)))))
    step in (
      emits_as s a a5 x z (places s.boxed n e ++ (P ++ Q)) (places s.boxed n (If q e f g)) (after s.boxed k1 g)
          (after s.boxed k1 g) (p2 + procs_in g) (p + (procs_in e + procs_in f + procs_in g))
          (λ rest. code s e n p (Then q (m1 ∷ []) done rest)) (code s (If q e f g) n p) refl refl
          (four p (procs_in e) (procs_in f) (procs_in g)) (λ agrees rest. refl)
          (emits_then s a a1 a5 x y z (places s.boxed n e) (P ++ Q) m1 p1 (after s.boxed k1 g) (p2 + procs_in g) (code s e n p)
          (λ rest. Then q (m1 ∷ []) done rest) r.0 told),
      λ agrees. one_put.var ∙ (fresh ∙ r.0.notes.next_var),
    )
  where
    four : (i j k l : ℕ) → i + j + k + l ≡ i + (j + k + l)
    four i j k l = omega arith

-- A direct call: the body's procedures are numbered first, and those of the operands behind them.
pub emit_direct : (s : Setting) (n p : ℕ) (a a1 b c c1 d d1 : Namer) (x y z w : List Step) (q : Pos) (xs : List ℕ) (body : Expr)
    (es : Exprs) (v : ℕ) (vs : List (Option ℕ)) → a1 ≡ with_proc a (a.next_proc + procs_in body)
    → ((m r : ℕ) → EmitsOperands s m r a1 b x y es vs) → ((m r : ℕ) → BindsParams s m r b c y z q xs vs)
    → c1 ≡ with_proc c a.next_proc → ((m r : ℕ) → EmitsExpr s m r c1 d z w body v) → d1 ≡ with_proc d b.next_proc
    → EmitsExpr s n p a d1 x w (Direct q xs body es) v
emit_direct s n p a a1 b c c1 d d1 x y z w q xs body es v vs moved operands params back inside ahead =
    λ h k.
    let p1 = p + procs_in body in
    let p2 = p1 + all_procs_in es in
    let m = all_after s.boxed n es in
    let bs = have_values es in
    let m2 = after_params s.boxed m xs bs in
    let P = param_places s.boxed m xs bs in
    let t = operands n p1 (ap (λ u. u.next_var) moved ∙ h) (ap (λ u. u.next_proc) moved ∙ ap (λ u. u + procs_in body) k) in
    let bound = subst (λ l. Emits s b c y z (param_places s.boxed m xs l) (after_params s.boxed m xs l) p2 (bind_params s q xs vs m)) t.1
    (params m p2 t.0.notes.next_var t.0.notes.next_proc) in
    let r = inside m2 p (ap (λ u. u.next_var) back ∙ bound.notes.next_var) (ap (λ u. u.next_proc) back ∙ k) in
    let last : Emits s c d1 z w (places s.boxed m2 body) (after s.boxed m2 body) p2 (code s body m2 p) =
    record {
      notes =
          record {
            entries =
                ap (λ u. u.vars.entries) ahead
                ∙ (r.0.notes.entries ∙ ap (λ u. u.vars.entries ++ places s.boxed m2 body) back);
            next_var = ap (λ u. u.next_var) ahead ∙ r.0.notes.next_var;
            next_proc = ap (λ u. u.next_proc) ahead ∙ t.0.notes.next_proc;
          };
      puts = λ agrees rest. r.0.puts (at_end d d1 ahead agrees) rest;
    } in
    let tail = emits_then s b c d1 y z w P (places s.boxed m2 body) m2 p2 (after s.boxed m2 body) p2 (bind_params s q xs vs m) (code s body m2 p) bound last in
    let whole = emits_then s a1 b d1 x y w (all_places s.boxed n es) (P ++ places s.boxed m2 body) m p2 (after s.boxed m2 body) p2 (all_code s es n p1) (λ rest. bind_params s q xs vs m (code s body m2 p rest)) t.0 tail in (
      record {
        notes =
            record {
              entries = whole.notes.entries ∙ ap (λ u. u.vars.entries ++ (all_places s.boxed n es ++ (P ++ places s.boxed m2 body))) moved;
              next_var = whole.notes.next_var;
              next_proc = whole.notes.next_proc ∙ assoc p (procs_in body) (all_procs_in es);
            };
        puts =
            λ agrees rest.
            whole.puts agrees rest
            ∙ ap (λ u. linked x (all_code s es n p1 (bind_params s q xs u m (code s body m2 p rest))))
            (t.2 (earlier s b d1 (P ++ places s.boxed m2 body) tail.notes.entries agrees));
      },
      λ agrees. r.1 (at_end d d1 ahead agrees),
    )
  where
    at_end : (d d1 : Namer) → d1 ≡ with_proc d b.next_proc → Agrees d1 s → Agrees d s
    at_end d d1 e agrees = (agrees.0, agrees.1 ∙ ap (λ u. u.vars.entries ++ agrees.0) e)

-- the block of an arm
pub make_arm : (s : Setting) (n p : ℕ) (a b : Namer) (e : Expr) (block : Block) (start steps : List Step) (v : ℕ) → start ≡ []
    → (out-Block block).steps ≡ steps → (out-Block block).value ≡ Some v
    → Emits s a b start steps (places s.boxed n e) (after s.boxed n e) (p + procs_in e) (code s e n p) × (Agrees b s → v ≡ value s e n)
    → MakesArm s n p a b e block
make_arm s n p a b e block start steps v empty same is r = record {
  notes = r.0.notes;
  code =
      λ agrees.
      block_is block steps (Some v) same is
      ∙ (r.0.puts agrees (Ends (Some v))
      ∙ (ap (λ u. linked u (code s e n p (Ends (Some v)))) empty ∙ ap (λ w. code s e n p (Ends (Some w))) (r.1 agrees)));
}

-- a lambda expression, which stands at this position
pub named_lambda : (s : Setting) (n p : ℕ) (a b : Namer) (x y : List Step) (q : Pos) (v : ℕ) (lits : List Lit) (e : Tree VarRef) (a1 : Namer)
    (proc : ℕ) → IsLambdaAt q e → TakesProc a a1 (told lits e) proc → Binds a1 b x y q (act.Closure proc) v
    → EmitsExpr s n p a b x y (told lits e) v
named_lambda s n p a b x y q v lits (tree.Lambda r xs rest body) a1 proc at taken bound =
    subst (λ u. EmitsExpr s n p a b x y (Lambda u (numbers xs) (option_number rest) (told lits body)) v) (sym at)
    (emit_lambda s n p a b x y q v (numbers xs) (option_number rest) (told lits body) a1 proc
    (record { proc = taken.proc; next = taken.next }) bound)
named_lambda s n p a b x y q v lits (tree.Const r l) a1 proc at taken bound = absurd at
named_lambda s n p a b x y q v lits (tree.Ref r z) a1 proc at taken bound = absurd at
named_lambda s n p a b x y q v lits (tree.If r test this that) a1 proc at taken bound = absurd at
named_lambda s n p a b x y q v lits (tree.Set r z e) a1 proc at taken bound = absurd at
named_lambda s n p a b x y q v lits (tree.Call r f es) a1 proc at taken bound = absurd at
named_lambda s n p a b x y q v lits (tree.Prim r o es) a1 proc at taken bound = absurd at
named_lambda s n p a b x y q v lits (tree.Seq r es) a1 proc at taken bound = absurd at
named_lambda s n p a b x y q v lits (tree.Fix r xs ls e) a1 proc at taken bound = absurd at
named_lambda s n p a b x y q v lits (tree.Define r z e) a1 proc at taken bound = absurd at
