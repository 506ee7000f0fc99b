-- Each list of data is one core or has one fault, and the core is valid.
use Rattle.std.proofs.Common.{◌≡◌, ℕ, List, [], ◌∷◌, Option, Some, None, Bool, true, false, ◌⊎◌, inl, inr, refl, sym, ap, subst, ◌∙◌, lt_of_le_of_lt}
use Rattle.std.specs.Prelude.{if◌then◌else◌}
use Rattle.scheme_base.specs.declared.pos.Pos.{Pos}
use Rattle.datum_form.specs.Data.{Items}
use Rattle.core_form.specs.declared.program.Var.{Var}
use Rattle.core_form.specs.declared.program.Program.{Program}
use Rattle.core_form.specs.Trees.{Trees, Holds}
use Rattle.core_form.specs.Valid.{IsCore}
use Rattle.core_form.proofs.OneTree.{one_list}
use Rattle.prelude_text.specs.Text.{library_text}
use Rattle.scheme_expand.specs.Faults.{Fault, is_before, least_of, least}
use Rattle.draft_form.specs.Drafts.{Drafts}
use Rattle.scheme_expand.specs.Inputs.{AreInputs}
use Rattle.scheme_expand.specs.Laws.{AreOne, BindFew, IsTyped}
use Rattle.scheme_expand.specs.Programs.{symbols_of, trees_of, literals_of, faults, drafts_with, IsNumbered, Expands, FormFault}
use Rattle.draft_form.proofs.Building.{program_of}
use Rattle.draft_form.proofs.FreshAreBound.{all_few}
use Rattle.scheme_expand.proofs.LibraryData.{library, reads, unbroken, only}
use Rattle.scheme_expand.proofs.Reading.{read_inputs}
use Rattle.scheme_expand.proofs.ValidCore.{numbered_valid, program_good}

-- a program with the library's own data is numbered as one with any data that its text reads as
own_library : (ds : Items) (core : Program Var) → (h : Expands ds core) → IsNumbered (drafts_with library ds) core
own_library ds core h =
    let P : Items → Type 0 = λ l. IsNumbered (drafts_with l ds) core in
    subst P (only h.library h.read) h.numbered

pub one_core : (ds : Items) (core other : Program Var) → Expands ds core → Expands ds other → AreOne core other
one_core ds core other h k =
    let a = own_library ds core h in
    let b = own_library ds other k in
    let trees : Trees Var = trees_of (drafts_with library ds) in
    record {
      literals = a.literals ∙ sym b.literals;
      forms = λ es fs x y. one_list core.exprs core.forms es trees x a.forms ∙ one_list other.exprs other.forms trees fs b.forms y;
    }

same_some : (o : Option Fault) (f g : Fault) → o ≡ Some f → o ≡ Some g → f ≡ g
same_some o f g h k = cc

pub one_fault : (ds : Items) (p q : Pos) (m n : ℕ) → FormFault ds p m → FormFault ds q n → (p ≡ q) × (m ≡ n)
one_fault ds p q m n h k =
    let e = same_some (least (faults ds)) (record { place = p; rule = m }) (record { place = q; rule = n }) h k in
    (ap (λ f. f.place) e, ap (λ f. f.rule) e)

none_some : {A : Type 0} (x : A) → None ≡ Some x → ⊥
none_some x h = cc

pub core_or_fault : (ds : Items) (core : Program Var) (p : Pos) (n : ℕ) → Expands ds core → FormFault ds p n → ⊥
core_or_fault ds core p n h k = none_some _ (sym (ap least h.unbroken) ∙ k)

some_least : (f : Fault) (o : Option Fault) → (g : Fault) × (least_of f o ≡ Some g)
some_least f None = (f, refl)
some_least f (Some g) = made (is_before g f)
  where
    made : (b : Bool) → (h : Fault) × ((if b then Some g else Some f) ≡ Some h)
    made true = (g, refl)
    made false = (f, refl)

pub some_expansion : (ds : Items) → ((core : Program Var) × Expands ds core) ⊎ ((p : Pos) × (n : ℕ) × FormFault ds p n)
some_expansion ds = made (faults ds) refl
  where
    made : (fs : List Fault) → faults ds ≡ fs
        → ((core : Program Var) × Expands ds core) ⊎ ((p : Pos) × (n : ℕ) × FormFault ds p n)
    made [] e =
        let es : Drafts = drafts_with library ds in
        let built = program_of (trees_of es) (literals_of es) in
        inl (
          built.program,
          record { unbroken = e; library = library; read = reads; numbered = record { forms = built.holds; literals = built.literals } },
        )
    made (f ∷ fs) e =
        let found = some_least f (least fs) in
        inr (found.0.place, found.0.rule, ap least e ∙ found.1)

pub core_is_valid : (ds : Items) (core : Program Var) (forms : Trees Var) → AreInputs ds → Expands ds core → IsTyped core
    → Holds core forms → BindFew forms → IsCore core forms
core_is_valid ds core forms i h typed x few =
    let n = own_library ds core h in
    let es : Drafts = drafts_with library ds in
    let same : forms ≡ trees_of es = one_list core.exprs core.forms forms (trees_of es) x n.forms in
    let P : Trees Var → Type 0 = λ fs. IsCore core fs in
    let Q : Trees Var → Type 0 = λ fs. BindFew fs in
    subst P (sym same)
    (numbered_valid es core (program_good library ds (read_inputs library_text library reads) i unbroken h.unbroken) typed
    (lt_of_le_of_lt (all_few (symbols_of es) es (λ k. 0) (record { literals = 0; fresh = 0 })) (subst Q same few)) n)
