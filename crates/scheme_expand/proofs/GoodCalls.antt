-- Integrated calls are good drafts.
use Rattle.std.proofs.Common.{◌≡◌, ℕ, zero, suc, List, [], ◌∷◌, length, Option, Some, None, Bool, true, false, inl, inr, refl, sym, ap, eqb-true}
use Rattle.std.specs.Prelude.{ℤ, pos, nat_eq, if◌then◌else◌, codes}
use Rattle.std.specs.Str.{bytes_eq}
use Rattle.scheme_base.specs.declared.pos.Pos.{Pos}
use Rattle.scheme_base.specs.declared.op.Op.{Op}
use Rattle.scheme_base.specs.declared.op.Op.TheVariants as op
use Rattle.scheme_base.specs.Operands.{name_of, operands_of}
use Rattle.scheme_base.specs.Constants.{Constant as constant}
use Rattle.scheme_expand.proofs.OfData.{IsOfData}
use Rattle.scheme_expand.specs.Grammar.{Reading, form, begun}
use Rattle.draft_form.specs.Drafts.{Draft, Drafts, Fresh, Const, Prim, none, item}
use Rattle.scheme_expand.specs.Calls.{count, two, negation, fresh, references, folded, sum, difference, Comparison, Equal, Less, Greater, NotGreater, NotLess, comparison, compared, listed, Way, Sums, Differs, Compares, Lists, way, binds, bound_first, operation, at_once, negated, public_calls, operations, named_operation, symbol_call, library_call, integrated}
use Rattle.scheme_expand.specs.Rewriting.{variables, unnamed, inside}
use Rattle.scheme_expand.proofs.GoodDrafts.{Good, AllGood}

abbrev pub GoodList : List (List ℕ) → List Draft → Type 0
GoodList bound [] = Unit {0}
GoodList bound (e ∷ es) = Good bound e × GoodList bound es

abbrev pub GoodMaybe : List (List ℕ) → Option Draft → Type 0
GoodMaybe bound None = Unit {0}
GoodMaybe bound (Some e) = Good bound e

-- what each word of a list begins is so
abbrev pub Each : {A : Type 0} → (A → Type 0) → List (Reading A) → Type 0
Each P [] = Unit {0}
Each P (form x a ∷ fs) = P a × Each P fs

pub chosen : {A : Type 0} (P : A → Type 0) (b : Bool) (x y : A) → P x → P y → P (if b then x else y)
chosen P true x y h k = h
chosen P false x y h k = k

pub begun_each : {A : Type 0} (P : A → Type 0) (x : List ℕ) (fs : List (Reading A)) (e : A) → Each P fs → P e → P (begun x fs e)
begun_each P x [] e h k = k
begun_each P x (form y f ∷ fs) e h k = chosen P (bytes_eq x y) f (begun x fs e) h.0 (begun_each P x fs e h.1 k)

good_two : (bound : List (List ℕ)) (p : Pos) (o : Op) (d e : Draft) → length (operands_of o) ≡ 2 → Good bound d → Good bound e
    → Good bound (Prim p o (two d e))
good_two bound p o d e n h k = (sym n, (h, (k, tt)))

good_negation : (bound : List (List ℕ)) (p : Pos) (e : Draft) → Good bound e → Good bound (negation p e)
good_negation bound p e h = (h, tt, tt)

good_folded : (bound : List (List ℕ)) (p : Pos) (o : Op) (e : Draft) (ts : List Draft) → length (operands_of o) ≡ 2
    → Good bound e → GoodList bound ts → Good bound (folded p o e ts)
good_folded bound p o e [] n h k = h
good_folded bound p o e (t ∷ ts) n h k =
    good_folded bound p o (Prim p o (two e t)) ts n (good_two bound p o e t n h k.0) k.1

good_sum : (bound : List (List ℕ)) (p : Pos) (o : Op) (n : ℤ) (ts : List Draft) → length (operands_of o) ≡ 2
    → IsOfData (constant.Integer n) → GoodList bound ts → Good bound (sum p o n ts)
good_sum bound p o n [] two_ part h = part
good_sum bound p o n (t ∷ []) two_ part h = good_two bound p o (Const p (constant.Integer n)) t two_ part h.0
good_sum bound p o n (t ∷ u ∷ ts) two_ part h = good_folded bound p o t (u ∷ ts) two_ h.0 h.1

good_difference : (bound : List (List ℕ)) (p : Pos) (t : Draft) (ts : List Draft) → Good bound t → GoodList bound ts
    → Good bound (difference p t ts)
good_difference bound p t [] h k = good_two bound p op.Subtract (Const p (constant.Integer (pos 0))) t refl refl h
good_difference bound p t (u ∷ ts) h k = good_folded bound p op.Subtract t (u ∷ ts) refl h k

good_comparison : (bound : List (List ℕ)) (p : Pos) (c : Comparison) (d e : Draft) → Good bound d → Good bound e
    → Good bound (comparison p c d e)
good_comparison bound p Equal d e h k = good_two bound p op.Equals d e refl h k
good_comparison bound p Less d e h k = good_two bound p op.Less d e refl h k
good_comparison bound p Greater d e h k = good_two bound p op.Less e d refl k h
good_comparison bound p NotGreater d e h k = good_negation bound p (Prim p op.Less (two e d)) (good_two bound p op.Less e d refl k h)
good_comparison bound p NotLess d e h k = good_negation bound p (Prim p op.Less (two d e)) (good_two bound p op.Less d e refl h k)

good_compared : (bound : List (List ℕ)) (p : Pos) (c : Comparison) (d e : Draft) (fs : List Draft) → Good bound d
    → Good bound e → GoodList bound fs → Good bound (compared p c d e fs)
good_compared bound p c d e [] h k l = good_comparison bound p c d e h k
good_compared bound p c d e (f ∷ fs) h k l =
    (good_comparison bound p c d e h k, good_compared bound p c e f fs k l.0 l.1, tt)

good_listed : (bound : List (List ℕ)) (p : Pos) (ts : List Draft) → GoodList bound ts → Good bound (listed p ts)
good_listed bound p [] h = tt
good_listed bound p (t ∷ ts) h = good_two bound p op.Cons t (listed p ts) refl h.0 (good_listed bound p ts h.1)

abbrev IsWay : Way → Type 0
IsWay (Sums o n) = (length (operands_of o) ≡ 2) × IsOfData (constant.Integer n)
IsWay w = Unit {0}

good_way : (bound : List (List ℕ)) (p : Pos) (w : Way) (ts : List Draft) → IsWay w → GoodList bound ts
    → GoodMaybe bound (way p w ts)
good_way bound p (Sums o n) ts w h = good_sum bound p o n ts w.0 w.1 h
good_way bound p Differs [] w h = tt
good_way bound p Differs (t ∷ ts) w h = good_difference bound p t ts h.0 h.1
good_way bound p (Compares c) [] w h = tt
good_way bound p (Compares c) (t ∷ []) w h = tt
good_way bound p (Compares c) (t ∷ u ∷ ts) w h = good_compared bound p c t u ts h.0 h.1.0 h.1.1
good_way bound p Lists ts w h = good_listed bound p ts h

good_references : (bound : List (List ℕ)) (p : Pos) (k : ℕ) (es : Drafts) → GoodList bound (references p k es)
good_references bound p k none = tt
good_references bound p k (item e es) = (tt, good_references bound p (suc k) es)

fresh_are : (k : ℕ) (es : Drafts) → fresh k es ≡ variables k (unnamed (count es))
fresh_are k none = refl
fresh_are k (item e es) = ap (λ xs. Fresh k ∷ xs) (fresh_are (suc k) es)

pub length-unnamed : (n : ℕ) → length (unnamed n) ≡ n
length-unnamed zero = refl
length-unnamed (suc n) = ap suc (length-unnamed n)

good_binds : (bound : List (List ℕ)) (p : Pos) (es : Drafts) (e : Draft) → AllGood bound es
    → ((around : List (List ℕ)) → Good around e) → Good bound (binds p (length bound) es e)
good_binds bound p none e h k = k bound
good_binds bound p (item d es) e h k =
    let ns : List (List ℕ) = unnamed (count (item d es)) in (
      (
        ns,
        inr (record { are = fresh_are (length bound) (item d es); fresh = ap unnamed (sym (length-unnamed (count (item d es)))); no_rest = refl }),
        k (inside bound ns),
      ),
      inl h,
    )

good_first : (bound : List (List ℕ)) (p : Pos) (es : Drafts) (w : Way) → IsWay w → AllGood bound es
    → GoodMaybe bound (bound_first p (length bound) es (way p w (references p (length bound) es)))
good_first bound p es w i h =
    made (way p w (references p (length bound) es))
    (λ around. good_way around p w (references p (length bound) es) i (good_references around p (length bound) es))
  where
    made : (e : Option Draft) → ((around : List (List ℕ)) → GoodMaybe around e)
        → GoodMaybe bound (bound_first p (length bound) es e)
    made None k = tt
    made (Some e) k = good_binds bound p es e h k

good_operation : (bound : List (List ℕ)) (p : Pos) (o : Op) (es : Drafts) → AllGood bound es → GoodMaybe bound (operation p o es)
good_operation bound p o es h = made (nat_eq (count es) (length (operands_of o))) refl
  where
    made : (b : Bool) → nat_eq (count es) (length (operands_of o)) ≡ b → GoodMaybe bound (if b then Some (Prim p o es) else None)
    made true e = (eqb-true (count es) (length (operands_of o)) e, h)
    made false e = tt

good_at_once : (bound : List (List ℕ)) (p : Pos) (o : Op) (es : Drafts) (other : Option Draft) → length (operands_of o) ≡ 2
    → AllGood bound es → GoodMaybe bound other → GoodMaybe bound (at_once p o es other)
good_at_once bound p o none other n h k = k
good_at_once bound p o (item d none) other n h k = k
good_at_once bound p o (item d (item e none)) other n h k = good_two bound p o d e n h.0 h.1.0
good_at_once bound p o (item d (item e (item f fs))) other n h k = k

good_negated : (bound : List (List ℕ)) (p : Pos) (es : Drafts) → AllGood bound es → GoodMaybe bound (negated p es)
good_negated bound p none h = tt
good_negated bound p (item e none) h = good_negation bound p e h.0
good_negated bound p (item e (item f fs)) h = tt

good_named : (bound : List (List ℕ)) (p : Pos) (x : List ℕ) (es : Drafts) (os : List Op) → AllGood bound es
    → GoodMaybe bound (named_operation p x es os)
good_named bound p x es [] h = tt
good_named bound p x es (o ∷ os) h =
    chosen (GoodMaybe bound) (bytes_eq x (name_of o)) (operation p o es) (named_operation p x es os)
    (good_operation bound p o es h) (good_named bound p x es os h)

good_symbol_call : (bound : List (List ℕ)) (p : Pos) (es : Drafts) → GoodMaybe bound (symbol_call p es)
good_symbol_call bound p none = tt
good_symbol_call bound p (item e es) = tt

good_library_call : (bound : List (List ℕ)) (p : Pos) (x : List ℕ) (es : Drafts) → AllGood bound es
    → GoodMaybe bound (library_call p x es)
good_library_call bound p x es h =
    chosen (GoodMaybe bound) (bytes_eq x (codes "%symbols")) (symbol_call p es) (named_operation p x es operations)
    (good_symbol_call bound p es)
    (good_named bound p x es operations h)

good_public : (bound : List (List ℕ)) (p : Pos) (es : Drafts) → AllGood bound es
    → Each (GoodMaybe bound) (public_calls p (length bound) es)
good_public bound p es a =
    let first : (w : Way) → IsWay w → GoodMaybe bound (bound_first p (length bound) es (way p w (references p (length bound) es))) =
    λ w i. good_first bound p es w i a in (
      good_operation bound p op.Eqv es a,
      (
        good_operation bound p op.Eqv es a,
        (
          good_operation bound p op.IsPair es a,
          (
            good_operation bound p op.IsSymbol es a,
            (
              good_operation bound p op.IsString es a,
              (
                good_operation bound p op.IsVector es a,
                (
                  good_operation bound p op.IsProcedure es a,
                  (
                    good_operation bound p op.IsInteger es a,
                    (
                      good_operation bound p op.IsInteger es a,
                      (
                        good_operation bound p op.IsInteger es a,
                        (
                          good_operation bound p op.IsInteger es a,
                          (
                            good_operation bound p op.IsInteger es a,
                            (
                              good_operation bound p op.IsChar es a,
                              (
                                good_operation bound p op.IsBoolean es a,
                                (
                                  good_operation bound p op.IsNull es a,
                                  (
                                    good_operation bound p op.IsEof es a,
                                    (
                                      good_operation bound p op.Cons es a,
                                      (
                                        good_operation bound p op.Car es a,
                                        (
                                          good_operation bound p op.Cdr es a,
                                          (
                                            good_operation bound p op.SetCar es a,
                                            (
                                              good_operation bound p op.SetCdr es a,
                                              (
                                                good_operation bound p op.Quotient es a,
                                                (
                                                  good_operation bound p op.Remainder es a,
                                                  (
                                                    good_operation bound p op.Modulo es a,
                                                    (
                                                      good_operation bound p op.CharToInteger es a,
                                                      (
                                                        good_operation bound p op.IntegerToChar es a,
                                                        (
                                                          good_operation bound p op.SymbolName es a,
                                                          (
                                                            good_operation bound p op.StringLength es a,
                                                            (
                                                              good_operation bound p op.StringRef es a,
                                                              (
                                                                good_operation bound p op.StringSet es a,
                                                                (
                                                                  good_operation bound p op.VectorLength es a,
                                                                  (
                                                                    good_operation bound p op.VectorRef es a,
                                                                    (
                                                                      good_operation bound p op.VectorSet es a,
                                                                      (
                                                                        good_operation bound p op.ReadChar es a,
                                                                        (
                                                                          good_operation bound p op.PeekChar es a,
                                                                          (
                                                                            good_operation bound p op.WriteChar es a,
                                                                            (
                                                                              good_operation bound p op.CallCC es a,
                                                                              (
                                                                                good_operation bound p op.Apply es a,
                                                                                (
                                                                                  good_negated bound p es a,
                                                                                  (
                                                                                    good_at_once bound p op.Add es (bound_first p (length bound) es (way p (Sums op.Add (pos 0)) (references p (length bound) es))) refl a (first (Sums op.Add (pos 0)) (refl, refl)),
                                                                                    (
                                                                                      good_at_once bound p op.Multiply es (bound_first p (length bound) es (way p (Sums op.Multiply (pos 1)) (references p (length bound) es))) refl a (first (Sums op.Multiply (pos 1)) (refl, refl)),
                                                                                      (
                                                                                        good_at_once bound p op.Subtract es (bound_first p (length bound) es (way p Differs (references p (length bound) es))) refl a (first Differs tt),
                                                                                        (
                                                                                          good_at_once bound p op.Equals es (bound_first p (length bound) es (way p (Compares Equal) (references p (length bound) es))) refl a (first (Compares Equal) tt),
                                                                                          (
                                                                                            good_at_once bound p op.Less es (bound_first p (length bound) es (way p (Compares Less) (references p (length bound) es))) refl a (first (Compares Less) tt),
                                                                                            (
                                                                                              first (Compares Greater) tt,
                                                                                              (
                                                                                                first (Compares NotGreater) tt,
                                                                                                (
                                                                                                  first (Compares NotLess) tt,
                                                                                                  (
                                                                                                    first Lists tt,
                                                                                                    tt,
                                                                                                  ),
                                                                                                ),
                                                                                              ),
                                                                                            ),
                                                                                          ),
                                                                                        ),
                                                                                      ),
                                                                                    ),
                                                                                  ),
                                                                                ),
                                                                              ),
                                                                            ),
                                                                          ),
                                                                        ),
                                                                      ),
                                                                    ),
                                                                  ),
                                                                ),
                                                              ),
                                                            ),
                                                          ),
                                                        ),
                                                      ),
                                                    ),
                                                  ),
                                                ),
                                              ),
                                            ),
                                          ),
                                        ),
                                      ),
                                    ),
                                  ),
                                ),
                              ),
                            ),
                          ),
                        ),
                      ),
                    ),
                  ),
                ),
              ),
            ),
          ),
        ),
      ),
    )

pub good_integrated : (bound : List (List ℕ)) (p : Pos) (x : List ℕ) (es : Drafts) → AllGood bound es
    → GoodMaybe bound (integrated p (length bound) x es)
good_integrated bound p x es h =
    begun_each (GoodMaybe bound) x (public_calls p (length bound) es) (library_call p x es) (good_public bound p es h)
    (good_library_call bound p x es h)
