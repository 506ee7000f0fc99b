-- The core of a program is valid.
use Rattle.std.proofs.Common.{◌≡◌, ℕ, suc, ◌+◌, ◌<◌, ◌^◌, List, [], ◌∷◌, length, Bool, true, false, refl, sym, subst, ◌∙◌, append-nil, zero-add, arith}
use Rattle.std.specs.Prelude.{if◌then◌else◌}
use Rattle.scheme_base.specs.declared.pos.Pos.{Pos}
use Rattle.scheme_base.specs.declared.lit.Lit.{Lit}
use Rattle.scheme_base.specs.Constants.{Constant}
use Rattle.scheme_expand.proofs.OfData.{IsOfData}
use Rattle.scheme_expand.proofs.Positions.{all_placed}
use Rattle.scheme_expand.specs.Laws.{IsTyped, AreBytes}
use Rattle.prelude_text.specs.Closure.{has}
use Rattle.datum_form.specs.Data.{Datum, Datum as datum, Items}
use Rattle.datum_form.specs.Data.Items.{none as no_datum, item as datum_before}
use Rattle.core_form.specs.declared.program.Var.{Var}
use Rattle.core_form.specs.declared.program.Program.{Program}
use Rattle.core_form.specs.Valid.{AllConstants, IsCore, FineForms, FineForm}
use Rattle.core_form.specs.Variables.{same_var}
use Rattle.scheme_expand.specs.Forms.{Forms}
use Rattle.scheme_expand.specs.Grammar.{forms}
use Rattle.scheme_expand.specs.Faults.{in_forms}
use Rattle.draft_form.specs.Drafts.{Draft, Drafts, Const, Symbols, Ref, Lambda, If, Set, Call, Prim, Seq, Fix, Define, none, item, ◌then◌, parts, all_parts}
use Rattle.draft_form.specs.Numbers.{Given, At, constants, all_sizes, bound_fresh, all_bound_fresh, after, numbered, all_numbered, laid_list}
use Rattle.scheme_expand.specs.Rewriting.{Side, OfLibrary, form_cores}
use Rattle.scheme_expand.specs.Inputs.{IsInput, AreInputs}
use Rattle.draft_form.specs.Quoted.{symbol_list}
use Rattle.scheme_expand.specs.Programs.{moved, all_moved, outside, placed, symbols_of, trees_of, literals_of, Library, library_of, library_forms, library_scope, as_list, chosen, program_scope, own_names, starts, started, drafts_with, IsNumbered}
use Rattle.scheme_expand.proofs.GoodCores.{GoodForm, GoodForms, forms_then, good_forms}
use Rattle.draft_form.proofs.Laying.{LaidList, Numbered, numbered_split, laid_list_is, laid_list-length}
use Rattle.scheme_expand.proofs.ConstantsInOrder.{AreWhole, whole, whole_join, all_counted}
use Rattle.scheme_expand.proofs.GoodDraftsAreValid.{fine}
use Rattle.scheme_expand.proofs.Unbroken.{unbroken_sound}

-- Forms

form_whole : (e : Draft) → GoodForm e → AreWhole (parts e)
form_whole (Const p c) h = whole [] (Const p c) h
form_whole (Symbols p) h = tt
form_whole (Ref p x) h = tt
form_whole (Lambda p xs r e) h = whole [] (Lambda p xs r e) h
form_whole (If p test this that) h = whole [] (If p test this that) h
form_whole (Set p x e) h = whole [] (Set p x e) h
form_whole (Call p e es) h = whole [] (Call p e es) h
form_whole (Prim p o es) h = whole [] (Prim p o es) h
form_whole (Seq p es) h = whole [] (Seq p es) h
form_whole (Fix p xs es e) h = whole [] (Fix p xs es e) h
form_whole (Define p x e) h = whole [] e h

forms_whole : (es : Drafts) → GoodForms es → AreWhole (all_parts es)
forms_whole none h = tt
forms_whole (item e es) h = whole_join (parts e) (all_parts es) (form_whole e h.0) (forms_whole es h.1)

fine_form : (lits : List Lit) (symbols : Constant) (g : Given) (at : At) (e : Draft) (j : ℕ) → IsOfData symbols → GoodForm e
    → Numbered lits symbols at.literals (parts e) j → at.fresh + bound_fresh e < 2 ^ 64
    → FineForm lits same_var (numbered symbols g at e)
fine_form lits symbols g at (Const p c) j s h n m = fine lits symbols g at [] (Const p c) j s h n m
fine_form lits symbols g at (Symbols p) j s h n m = fine lits symbols g at [] (Symbols p) j s h n m
fine_form lits symbols g at (Ref p x) j s h n m = tt
fine_form lits symbols g at (Lambda p xs r e) j s h n m = fine lits symbols g at [] (Lambda p xs r e) j s h n m
fine_form lits symbols g at (If p test this that) j s h n m = fine lits symbols g at [] (If p test this that) j s h n m
fine_form lits symbols g at (Set p x e) j s h n m = fine lits symbols g at [] (Set p x e) j s h n m
fine_form lits symbols g at (Call p e es) j s h n m = fine lits symbols g at [] (Call p e es) j s h n m
fine_form lits symbols g at (Prim p o es) j s h n m = fine lits symbols g at [] (Prim p o es) j s h n m
fine_form lits symbols g at (Seq p es) j s h n m = fine lits symbols g at [] (Seq p es) j s h n m
fine_form lits symbols g at (Fix p xs es e) j s h n m = fine lits symbols g at [] (Fix p xs es e) j s h n m
fine_form lits symbols g at (Define p x e) j s h n m = fine lits symbols g at [] e j s h n m

fine_forms : (lits : List Lit) (symbols : Constant) (g : Given) (at : At) (es : Drafts) (j : ℕ) → IsOfData symbols → GoodForms es
    → Numbered lits symbols at.literals (all_parts es) j → at.fresh + all_bound_fresh es < 2 ^ 64
    → FineForms lits same_var (all_numbered symbols g at es)
fine_forms lits symbols g at none j s h n m = tt
fine_forms lits symbols g at (item e es) j s h n m =
    let both = numbered_split lits symbols at.literals (parts e) (all_parts es) j n in (
      fine_form lits symbols g at e _ s h.0 both.0 (omega arith),
      fine_forms lits symbols g (after symbols at e) es j s h.1 both.1 (omega arith),
    )

symbols_part : (xs : List (List ℕ)) → IsOfData (symbol_list xs)
symbols_part [] = tt
symbols_part (x ∷ xs) = (tt, symbols_part xs)

-- the literals of drafts are their constants
literals_numbered : (es : Drafts)
    → Numbered (literals_of es) (symbols_of es) 0 (all_parts es) (length (literals_of es))
literals_numbered es =
    let cs : List Constant = constants (symbols_of es) (all_parts es) in
    subst (λ j. LaidList (literals_of es) 0 cs j) (zero-add (all_sizes cs) ∙ sym (laid_list-length 0 cs))
    (laid_list_is (literals_of es) [] [] 0 cs (sym (append-nil (laid_list 0 cs))) refl)

pub numbered_valid : (es : Drafts) (core : Program Var) → GoodForms es → IsTyped core → all_bound_fresh es < 2 ^ 64
    → IsNumbered es core → IsCore core (trees_of es)
numbered_valid es core h typed few n =
    let P : List Lit → Type 0 = λ lits. AllConstants lits 0 (trees_of es) (length lits) in
    let Q : List Lit → Type 0 = λ lits. FineForms lits same_var (trees_of es) in
    let at : At = record { literals = 0; fresh = 0 } in
    let part : IsOfData (symbols_of es) = symbols_part _ in
    let bytes : AreBytes (literals_of es) = subst (λ lits. AreBytes lits) n.literals typed.bytes in
    record {
      holds = n.forms;
      constants =
          subst P (sym n.literals)
          (all_counted (literals_of es) (symbols_of es) (λ k. 0) at es (length (literals_of es)) (part, bytes) (forms_whole es h)
          (literals_numbered es));
      fine =
          subst Q (sym n.literals)
          (fine_forms (literals_of es) (symbols_of es) (λ k. 0) at es (length (literals_of es)) part h (literals_numbered es)
          (subst (λ m. m < 2 ^ 64) (sym (zero-add (all_bound_fresh es))) few));
      placed = all_placed core.exprs typed.positions core.forms (trees_of es) n.forms;
    }

-- Programs

mutual
  moved_input : (p : Pos) (d : Datum) → IsInput d → IsInput (moved p d)
  moved_input p (datum.Atomic q a) h = h
  moved_input p (datum.List q is) h = all_moved_input p is h
  moved_input p (datum.Dotted q is d) h = (all_moved_input p is h.0, moved_input p d h.1)
  moved_input p (datum.Vector q is) h = all_moved_input p is h

  all_moved_input : (p : Pos) (ds : Items) → AreInputs ds → AreInputs (all_moved p ds)
  all_moved_input p no_datum h = tt
  all_moved_input p (datum_before d ds) h = (moved_input p d h.0, all_moved_input p ds h.1)

placed_input : (k : ℕ) (ds : Items) → AreInputs ds → AreInputs (placed k ds)
placed_input k no_datum h = tt
placed_input k (datum_before d ds) h = (moved_input (outside k) d h.0, placed_input (suc k) ds h.1)

either_good : (b : Bool) (e : Draft) (es : Drafts) → GoodForm e → GoodForms es → GoodForms (if b then item e es else es)
either_good true e es h k = (h, k)
either_good false e es h k = k

chosen_good : (k : ℕ) (ks : List ℕ) (es : Drafts) → GoodForms es → GoodForms (chosen k ks (as_list es))
chosen_good k ks none h = tt
chosen_good k ks (item e es) h =
    either_good (has ks k) e (chosen (suc k) ks (as_list es)) h.0 (chosen_good (suc k) ks es h.1)

starts_good : (xs : List (List ℕ)) → GoodForms (starts xs)
starts_good [] = tt
starts_good (x ∷ xs) = (tt, starts_good xs)

pub program_good : (library ds : Items) → AreInputs library → AreInputs ds → in_forms (library_forms library) ≡ []
    → in_forms (forms ds) ≡ [] → GoodForms (drafts_with library ds)
program_good library ds i j m n =
    let lib : Library = library_of library in
    let fs : Forms = forms ds in
    let side : Side = (program_scope lib (own_names lib fs)).side in
    let es : Drafts = started (own_names lib fs) (form_cores fs (program_scope lib (own_names lib fs))) in
    let own : GoodForms es =
    forms_then (starts _) (form_cores fs (program_scope lib (own_names lib fs))) (starts_good _)
    (good_forms fs (unbroken_sound ds j n) side) in
    forms_then (chosen 1 _ lib.drafts) es
    (chosen_good 1 _ (form_cores (library_forms library) library_scope)
    (good_forms (library_forms library) (unbroken_sound (placed 1 library) (placed_input 1 library i) m) OfLibrary))
    own
