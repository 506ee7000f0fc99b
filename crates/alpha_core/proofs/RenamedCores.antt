-- The renamed core of a valid core is valid.
use Rattle.std.proofs.Common.{◌≡◌, ℕ, ◌<◌, List, [], length, Some, None, sym, subst}
use Rattle.std.specs.List.{IsDistinct}
use Rattle.scheme_base.specs.declared.lit.Lit.{Lit}
use Rattle.core_form.specs.declared.program.Program.{Program}
use Rattle.core_form.specs.declared.program.Var.{Var}
use Rattle.core_form.specs.declared.program.VarRef.{VarRef}
use Rattle.core_form.specs.Trees.{Trees}
use Rattle.core_form.specs.Valid.{all_bound, AllConstants, FineForms, IsCore, IsRenamed}
use Rattle.core_form.specs.Variables.{same_ref}
use Rattle.alpha_core.specs.Answers.{Answers}
use Rattle.alpha_core.specs.Renaming.{all_renamed}
use Rattle.alpha_core.proofs.BoundOnce.{all_bound_span, span_distinct}
use Rattle.alpha_core.proofs.ConstantsKept.{all_constants_kept, all_placed_kept}
use Rattle.alpha_core.proofs.FineKept.{forms_fine}
use Rattle.alpha_core.proofs.NumbersInScope.{all_in_scope}

pub renamed_core_is_valid : (core : Program Var) (made : Program VarRef) (forms : Trees Var) → IsCore core forms
    → Answers core made → IsRenamed made (all_renamed [] 0 forms)
renamed_core_is_valid core made forms is_core answers =
    let P : List Lit → Type 0 = λ lits. AllConstants lits 0 (all_renamed [] 0 forms) (length lits) in
    let Q : List Lit → Type 0 = λ lits. FineForms lits same_ref (all_renamed [] 0 forms) in
    record {
      valid = record {
        holds = answers.forms forms is_core.holds;
        constants = subst P (sym answers.lits) (all_constants_kept core.lits [] 0 0 (length core.lits) forms is_core.constants);
        fine = subst Q (sym answers.lits) (forms_fine core.lits [] 0 forms (λ y k e. absurd (cc)) is_core.fine);
        placed = all_placed_kept [] 0 forms is_core.placed;
      };
      once = subst (IsDistinct same_ref) (sym (all_bound_span [] 0 forms)) (span_distinct 0 (length (all_bound forms)));
      scoped = all_in_scope [] 0 [] forms (λ y k e. absurd (cc));
    }
