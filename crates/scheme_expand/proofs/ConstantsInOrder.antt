-- The constants of a draft that is good are the literals of its core, in order.
use Rattle.std.proofs.Common.{ℕ, ◌+◌, List, [], ◌∷◌, ◌++◌, length, None, ◌⊎◌, inl, inr, refl, sym, subst}
use Rattle.scheme_base.specs.declared.lit.Lit.{Lit}
use Rattle.scheme_base.specs.Constants.{Constant, Constant as constant}
use Rattle.scheme_expand.proofs.OfData.{IsOfData, IsHeld, held_of_data, constant_held}
use Rattle.scheme_expand.specs.Laws.{AreBytes}
use Rattle.scheme_base.specs.Literals.{Laid}
use Rattle.core_form.specs.Valid.{Constants, AllConstants}
use Rattle.draft_form.specs.Drafts.{Name, Draft, Drafts, Part, Const, Symbols, Ref, Lambda, If, Set, Call, Prim, Seq, Fix, Define, none, item, Held, ListsSymbols, Referred, Changed, parts, all_parts}
use Rattle.draft_form.specs.Numbers.{Given, At, literals_in, after, after_all, after_names, numbered, all_numbered}
use Rattle.scheme_expand.specs.Rewriting.{found, unnamed, inside}
use Rattle.scheme_expand.proofs.GoodDrafts.{HolesFor, Holes, Good, AllGood}
use Rattle.draft_form.proofs.Laying.{Numbered, numbered_split}

-- Constants

-- a constant in a draft, whole as a literal
abbrev pub AreWhole : List Part → Type 0
AreWhole [] = Unit {0}
AreWhole (Held c ∷ found) = IsHeld c × AreWhole found
AreWhole (ListsSymbols ∷ found) = AreWhole found
AreWhole (Referred x ∷ found) = AreWhole found
AreWhole (Changed x ∷ found) = AreWhole found

pub whole_join : (ps qs : List Part) → AreWhole ps → AreWhole qs → AreWhole (ps ++ qs)
whole_join [] qs h k = k
whole_join (Held c ∷ ps) qs h k = (h.0, whole_join ps qs h.1 k)
whole_join (ListsSymbols ∷ ps) qs h k = whole_join ps qs h k
whole_join (Referred x ∷ ps) qs h k = whole_join ps qs h k
whole_join (Changed x ∷ ps) qs h k = whole_join ps qs h k

whole_split : (ps qs : List Part) → AreWhole (ps ++ qs) → AreWhole ps × AreWhole qs
whole_split [] qs h = (tt, h)
whole_split (Held c ∷ ps) qs h = let rest = whole_split ps qs h.1 in ((h.0, rest.0), rest.1)
whole_split (ListsSymbols ∷ ps) qs h = whole_split ps qs h
whole_split (Referred x ∷ ps) qs h = whole_split ps qs h
whole_split (Changed x ∷ ps) qs h = whole_split ps qs h

holes_whole : (xs : List Name) (e : Draft) (es : Drafts) → HolesFor xs e es → AreWhole (all_parts es)
holes_whole [] e none h = tt
holes_whole [] e (item d ds) h = absurd h
holes_whole (x ∷ xs) e none h = absurd h
holes_whole (x ∷ xs) e (item (Const p constant.Undefined) ds) h = (tt, holes_whole xs e ds h.2)
holes_whole (x ∷ xs) e (item d ds) h = absurd h.1

any_holes_whole : (e : Draft) (es : Drafts) → Holes e es → AreWhole (all_parts es)
any_holes_whole (Lambda p xs None e) es h = holes_whole xs e es h
any_holes_whole e es h = absurd h

operands_whole : (bound : List (List ℕ)) (e : Draft) (es : Drafts) → (AllGood bound es → AreWhole (all_parts es))
    → AllGood bound es ⊎ Holes e es → AreWhole (all_parts es)
operands_whole bound e es all (inl g) = all g
operands_whole bound e es all (inr g) = any_holes_whole e es g

mutual
  pub whole : (bound : List (List ℕ)) (e : Draft) → Good bound e → AreWhole (parts e)
  whole bound (Const p c) g = (held_of_data c g, tt)
  whole bound (Symbols p) g = tt
  whole bound (Ref p x) g = tt
  whole bound (Lambda p xs r e) g = whole (inside bound g.0) e g.2
  whole bound (If p test this that) g =
      whole_join (parts test) _ (whole bound test g.0) (whole_join (parts this) _ (whole bound this g.1) (whole bound that g.2))
  whole bound (Set p x e) g = whole bound e g.1
  whole bound (Call p e es) g =
      whole_join (parts e) _ (whole bound e g.0) (operands_whole bound e es (all_whole bound es) g.1)
  whole bound (Prim p o es) g = all_whole bound es g.1
  whole bound (Seq p es) g = all_whole bound es g.1
  whole bound (Fix p xs es e) g =
      whole_join (all_parts es) _ (all_whole (inside bound g.0) es g.4)
      (whole (inside (inside bound g.0) (unnamed (length g.0))) e g.5)
  whole bound (Define p x e) g = absurd g

  pub all_whole : (bound : List (List ℕ)) (es : Drafts) → AllGood bound es → AreWhole (all_parts es)
  all_whole bound none g = tt
  all_whole bound (item e es) g = whole_join (parts e) _ (whole bound e g.0) (all_whole bound es g.1)

mutual
  pub counted : (lits : List Lit) (symbols : Constant) (g : Given) (at : At) (e : Draft) (j : ℕ) → IsOfData symbols × AreBytes lits
      → AreWhole (parts e) → Numbered lits symbols at.literals (parts e) j
      → Constants lits at.literals (numbered symbols g at e) j
  counted lits symbols g at (Const p c) j s w h =
      (refl, c, constant_held lits s.1 at.literals c h.0 w.0 h.1, subst (λ m. Laid lits at.literals c m) (sym h.2) h.1)
  counted lits symbols g at (Symbols p) j s w h =
      (refl, symbols, constant_held lits s.1 at.literals symbols h.0 (held_of_data symbols s.0) h.1, subst (λ m. Laid lits at.literals symbols m) (sym h.2) h.1)
  counted lits symbols g at (Ref p x) j s w h = h
  counted lits symbols g at (Lambda p xs r e) j s w h = counted lits symbols _ (after_names at xs) e j s w h
  counted lits symbols g at (If p test this that) j s w h =
      let first = numbered_split lits symbols at.literals (parts test) (parts this ++ parts that) j h in
      let second = numbered_split lits symbols (at.literals + literals_in symbols (parts test)) (parts this) (parts that) j first.1 in
      let one = whole_split (parts test) (parts this ++ parts that) w in
      let two = whole_split (parts this) (parts that) one.1 in
      let next : At = after symbols at test in (
        _,
        _,
        counted lits symbols g at test _ s one.0 first.0,
        counted lits symbols g next this _ s two.0 second.0,
        counted lits symbols g (after symbols next this) that j s two.1 second.1,
      )
  counted lits symbols g at (Set p x e) j s w h = counted lits symbols g at e j s w h
  counted lits symbols g at (Call p e es) j s w h =
      let both = numbered_split lits symbols at.literals (parts e) (all_parts es) j h in
      let wholes = whole_split (parts e) (all_parts es) w in
      (_, counted lits symbols g at e _ s wholes.0 both.0, all_counted lits symbols g (after symbols at e) es j s wholes.1 both.1)
  counted lits symbols g at (Prim p o es) j s w h = all_counted lits symbols g at es j s w h
  counted lits symbols g at (Seq p es) j s w h = all_counted lits symbols g at es j s w h
  counted lits symbols g at (Fix p xs es e) j s w h =
      let next : At = after_names at xs in
      let both = numbered_split lits symbols at.literals (all_parts es) (parts e) j h in
      let wholes = whole_split (all_parts es) (parts e) w in (
        _,
        all_counted lits symbols _ next es _ s wholes.0 both.0,
        counted lits symbols _ (after_all symbols next es) e j s wholes.1 both.1,
      )
  counted lits symbols g at (Define p x e) j s w h = counted lits symbols g at e j s w h

  pub all_counted : (lits : List Lit) (symbols : Constant) (g : Given) (at : At) (es : Drafts) (j : ℕ) → IsOfData symbols × AreBytes lits
      → AreWhole (all_parts es) → Numbered lits symbols at.literals (all_parts es) j
      → AllConstants lits at.literals (all_numbered symbols g at es) j
  all_counted lits symbols g at none j s w h = h
  all_counted lits symbols g at (item e es) j s w h =
      let both = numbered_split lits symbols at.literals (parts e) (all_parts es) j h in
      let wholes = whole_split (parts e) (all_parts es) w in
      (_, counted lits symbols g at e _ s wholes.0 both.0, all_counted lits symbols g (after symbols at e) es j s wholes.1 both.1)
