-- The constants of a core are its literals, in order.
use Rattle.std.proofs.Common.{◌≡◌, ℕ, suc, ◌+◌, List, [], ◌∷◌, ◌++◌, length, Some, refl, sym, ap, subst, ◌∙◌, append_assoc, length-append, arith}
use Rattle.std.specs.Prelude.{slice_get}
use Rattle.scheme_base.specs.declared.lit.Lit.{Lit}
use Rattle.scheme_base.specs.declared.lit.Lit.TheVariants as lit
use Rattle.scheme_base.specs.Constants.{Constant, Constant as constant, Constants}
use Rattle.scheme_base.specs.Literals.{Laid, LaidAll, IsLit}
use Rattle.scheme_base.specs.Constants.Constants.{none as no_constant, item as constant_before}
use Rattle.draft_form.specs.Drafts.{Part, Held, ListsSymbols, Referred, Changed}
use Rattle.draft_form.specs.Numbers.{size, sizes, numbers_from, laid, all_laid, laid_list, constants, all_sizes, literals_in}

at_middle : (before more : List Lit) (l : Lit) → slice_get (before ++ l ∷ more) (length before) ≡ Some l
at_middle [] more l = refl
at_middle (k ∷ before) more l = at_middle before more l

is_lit : (lits before more : List Lit) (i : ℕ) (l : Lit) → lits ≡ before ++ l ∷ more → i ≡ length before → IsLit lits i l
is_lit lits before more i l e n =
    ap (λ ls. slice_get ls i) e ∙ (ap (slice_get (before ++ l ∷ more)) n ∙ at_middle before more l)

mutual
  pub laid-length : (i : ℕ) (c : Constant) → length (laid i c) ≡ size c
  laid-length i (constant.Integer z) = refl
  laid-length i (constant.Boolean b) = refl
  laid-length i (constant.Character byte) = refl
  laid-length i constant.Nil = refl
  laid-length i constant.Unspecified = refl
  laid-length i constant.Undefined = refl
  laid-length i (constant.Symbol x) = refl
  laid-length i (constant.String bytes) = refl
  laid-length i (constant.Pair a d) =
      ap suc
      (length-append (laid (suc i) a) (laid (suc i + size a) d)
      ∙ (ap (λ n. n + length (laid (suc i + size a) d)) (laid-length (suc i) a)
      ∙ ap (λ n. size a + n) (laid-length (suc i + size a) d)))
  laid-length i (constant.Vector cs) = ap suc (all_laid-length (suc i) cs)

  pub all_laid-length : (i : ℕ) (cs : Constants) → length (all_laid i cs) ≡ sizes cs
  all_laid-length i no_constant = refl
  all_laid-length i (constant_before c cs) =
      length-append (laid i c) (all_laid (i + size c) cs)
      ∙ (ap (λ n. n + length (all_laid (i + size c) cs)) (laid-length i c)
      ∙ ap (λ n. size c + n) (all_laid-length (i + size c) cs))

-- the number after a list, which a longer list begins with
past_more : (i n : ℕ) (before more : List Lit) → i ≡ length before → length more ≡ n → i + n ≡ length (before ++ more)
past_more i n before more e k = ap (λ m. m + n) e ∙ (ap (λ m. length before + m) (sym k) ∙ sym (length-append before more))

past_one : (i : ℕ) (before : List Lit) (l : Lit) → i ≡ length before → suc i ≡ length (before ++ l ∷ [])
past_one i before l e = ap suc e ∙ (grind arith ∙ sym (length-append before (l ∷ [])))

moved_one : (before : List Lit) (l : Lit) (more : List Lit) → before ++ l ∷ more ≡ (before ++ l ∷ []) ++ more
moved_one before l more = sym (append_assoc before (l ∷ []) more)

mutual
  pub laid_is : (lits before more : List Lit) (i : ℕ) (c : Constant) → lits ≡ before ++ (laid i c ++ more)
      → i ≡ length before → Laid lits i c (i + size c)
  laid_is lits before more i (constant.Integer z) e n = (is_lit lits before more i _ e n, omega arith)
  laid_is lits before more i (constant.Boolean b) e n = (is_lit lits before more i _ e n, omega arith)
  laid_is lits before more i (constant.Character byte) e n = (is_lit lits before more i _ e n, omega arith)
  laid_is lits before more i constant.Nil e n = (is_lit lits before more i _ e n, omega arith)
  laid_is lits before more i constant.Unspecified e n = (is_lit lits before more i _ e n, omega arith)
  laid_is lits before more i constant.Undefined e n = (is_lit lits before more i _ e n, omega arith)
  laid_is lits before more i (constant.Symbol x) e n = (is_lit lits before more i _ e n, omega arith)
  laid_is lits before more i (constant.String bytes) e n = (is_lit lits before more i _ e n, omega arith)
  laid_is lits before more i (constant.Pair a d) e n =
      let pair : Lit = lit.Pair (suc i) (suc i + size a) in
      let first : List Lit = laid (suc i) a in
      let second : List Lit = laid (suc i + size a) d in
      let whole : lits ≡ (before ++ pair ∷ []) ++ (first ++ (second ++ more)) =
      e ∙ (ap (λ ls. before ++ pair ∷ ls) (append_assoc first second more)
      ∙ moved_one before pair (first ++ (second ++ more))) in (
        suc i + size a,
        is_lit lits before _ i pair e n,
        laid_is lits (before ++ pair ∷ []) (second ++ more) (suc i) a whole (past_one i before pair n),
        subst (λ j. Laid lits (suc i + size a) d j) (omega arith)
            (laid_is lits ((before ++ pair ∷ []) ++ first) more (suc i + size a) d
            (whole ∙ sym (append_assoc (before ++ pair ∷ []) first (second ++ more)))
            (past_more (suc i) (size a) (before ++ pair ∷ []) first (past_one i before pair n) (laid-length (suc i) a))),
      )
  laid_is lits before more i (constant.Vector cs) e n =
      let row : Lit = lit.Vector (numbers_from (suc i) cs) in (
        numbers_from (suc i) cs,
        is_lit lits before _ i row e n,
        subst (λ j. LaidAll lits (numbers_from (suc i) cs) (suc i) cs j) (omega arith)
            (all_laid_is lits (before ++ row ∷ []) more (suc i) cs (e ∙ moved_one before row (all_laid (suc i) cs ++ more))
            (past_one i before row n)),
      )

  all_laid_is : (lits before more : List Lit) (i : ℕ) (cs : Constants) → lits ≡ before ++ (all_laid i cs ++ more)
      → i ≡ length before → LaidAll lits (numbers_from i cs) i cs (i + sizes cs)
  all_laid_is lits before more i no_constant e n = (refl, omega arith)
  all_laid_is lits before more i (constant_before c cs) e n =
      let first : List Lit = laid i c in
      let second : List Lit = all_laid (i + size c) cs in
      let whole : lits ≡ before ++ (first ++ (second ++ more)) = e ∙ ap (λ ls. before ++ ls) (append_assoc first second more) in (
        numbers_from (i + size c) cs,
        i + size c,
        refl,
        laid_is lits before (second ++ more) i c whole n,
        subst (λ j. LaidAll lits (numbers_from (i + size c) cs) (i + size c) cs j) (omega arith)
            (all_laid_is lits (before ++ first) more (i + size c) cs (whole ∙ sym (append_assoc before first (second ++ more)))
            (past_more i (size c) before first n (laid-length i c))),
      )

-- these constants, each with its parts, are the literals from i up to j, j excluded
abbrev pub LaidList : List Lit → ℕ → List Constant → ℕ → Type 0
LaidList lits i [] j = j ≡ i
LaidList lits i (c ∷ cs) j = (m : ℕ) × Laid lits i c m × LaidList lits m cs j

pub laid_list_is : (lits before more : List Lit) (i : ℕ) (cs : List Constant) → lits ≡ before ++ (laid_list i cs ++ more)
    → i ≡ length before → LaidList lits i cs (i + all_sizes cs)
laid_list_is lits before more i [] e n = omega arith
laid_list_is lits before more i (c ∷ cs) e n =
    let first : List Lit = laid i c in
    let second : List Lit = laid_list (i + size c) cs in
    let whole : lits ≡ before ++ (first ++ (second ++ more)) = e ∙ ap (λ ls. before ++ ls) (append_assoc first second more) in (
      i + size c,
      laid_is lits before (second ++ more) i c whole n,
      subst (λ j. LaidList lits (i + size c) cs j) (omega arith)
          (laid_list_is lits (before ++ first) more (i + size c) cs (whole ∙ sym (append_assoc before first (second ++ more)))
          (past_more i (size c) before first n (laid-length i c))),
    )

pub laid_list-length : (i : ℕ) (cs : List Constant) → length (laid_list i cs) ≡ all_sizes cs
laid_list-length i [] = refl
laid_list-length i (c ∷ cs) =
    length-append (laid i c) (laid_list (i + size c) cs)
    ∙ (ap (λ n. n + length (laid_list (i + size c) cs)) (laid-length i c)
    ∙ ap (λ n. size c + n) (laid_list-length (i + size c) cs))

mutual
  pub laid_end : (lits : List Lit) (i : ℕ) (c : Constant) (j : ℕ) → Laid lits i c j → j ≡ i + size c
  laid_end lits i (constant.Integer z) j h = h.1 ∙ omega arith
  laid_end lits i (constant.Boolean b) j h = h.1 ∙ omega arith
  laid_end lits i (constant.Character byte) j h = h.1 ∙ omega arith
  laid_end lits i constant.Nil j h = h.1 ∙ omega arith
  laid_end lits i constant.Unspecified j h = h.1 ∙ omega arith
  laid_end lits i constant.Undefined j h = h.1 ∙ omega arith
  laid_end lits i (constant.Symbol x) j h = h.1 ∙ omega arith
  laid_end lits i (constant.String bytes) j h = h.1 ∙ omega arith
  laid_end lits i (constant.Pair a d) j h =
      let first : h.0 ≡ suc i + size a = laid_end lits (suc i) a h.0 h.2 in
      let second : j ≡ h.0 + size d = laid_end lits h.0 d j h.3 in
      omega arith
  laid_end lits i (constant.Vector cs) j h =
      let all : j ≡ suc i + sizes cs = all_laid_end lits h.0 (suc i) cs j h.2 in
      omega arith

  all_laid_end : (lits : List Lit) (ids : List ℕ) (i : ℕ) (cs : Constants) (j : ℕ) → LaidAll lits ids i cs j
      → j ≡ i + sizes cs
  all_laid_end lits ids i no_constant j h = h.1 ∙ omega arith
  all_laid_end lits ids i (constant_before c cs) j h =
      let first : h.1 ≡ i + size c = laid_end lits i c h.1 h.3 in
      let others : j ≡ h.1 + sizes cs = all_laid_end lits h.0 h.1 cs j h.4 in
      omega arith

-- Constants of a text

pub constants-append : (symbols : Constant) (ps qs : List Part)
    → constants symbols (ps ++ qs) ≡ constants symbols ps ++ constants symbols qs
constants-append symbols [] qs = refl
constants-append symbols (Held c ∷ ps) qs = ap (λ cs. c ∷ cs) (constants-append symbols ps qs)
constants-append symbols (ListsSymbols ∷ ps) qs = ap (λ cs. symbols ∷ cs) (constants-append symbols ps qs)
constants-append symbols (Referred x ∷ ps) qs = constants-append symbols ps qs
constants-append symbols (Changed x ∷ ps) qs = constants-append symbols ps qs

laid_split : (lits : List Lit) (i : ℕ) (cs ds : List Constant) (j : ℕ) → LaidList lits i (cs ++ ds) j
    → LaidList lits i cs (i + all_sizes cs) × LaidList lits (i + all_sizes cs) ds j
laid_split lits i [] ds j h =
    (omega arith, subst (λ k. LaidList lits k ds j) (omega arith) h)
laid_split lits i (c ∷ cs) ds j h =
    let end : h.0 ≡ i + size c = laid_end lits i c h.0 h.1 in
    let parts = laid_split lits h.0 cs ds j h.2 in
    let same : h.0 + all_sizes cs ≡ i + (size c + all_sizes cs) = omega arith in
    ((h.0, h.1, subst (λ k. LaidList lits h.0 cs k) same parts.0), subst (λ k. LaidList lits k ds j) same parts.1)

-- the constants of a text are the literals from i up to j, j excluded
abbrev pub Numbered : List Lit → (symbols : Constant) → ℕ → List Part → ℕ → Type 0
Numbered lits symbols i found j = LaidList lits i (constants symbols found) j

pub numbered_split : (lits : List Lit) (symbols : Constant) (i : ℕ) (ps qs : List Part) (j : ℕ)
    → Numbered lits symbols i (ps ++ qs) j
    → Numbered lits symbols i ps (i + literals_in symbols ps) × Numbered lits symbols (i + literals_in symbols ps) qs j
numbered_split lits symbols i ps qs j h =
    laid_split lits i (constants symbols ps) (constants symbols qs) j
    (subst (λ cs. LaidList lits i cs j) (constants-append symbols ps qs) h)
