-- The named form of the core that the data of a text are expanded to.
use Rattle.std.proofs.Common.{ℕ, List, ◌≡◌, ◌<◌, ◌^◌, length, subst, arith, []}
use Rattle.scheme_base.specs.declared.lit.Lit.{Lit}
use Rattle.datum_form.specs.Data.{Items}
use Rattle.datum_reader.specs.Answer.{Reads}
use Rattle.core_form.specs.Trees.{Trees, Holds}
use Rattle.core_form.specs.Valid.{IsCore, IsRenamed, all_bound}
use Rattle.core_form.specs.declared.program.Program.{Program}
use Rattle.core_form.specs.declared.program.Var.{Var}
use Rattle.core_form.specs.declared.program.VarRef.{VarRef}
use Rattle.scheme_expand.specs.Laws.{BindFew, IsTyped}
use Rattle.scheme_expand.specs.Programs.{Expands, drafts_with, trees_of}
use Rattle.scheme_expand.proofs.Expansions.{core_is_valid}
use Rattle.scheme_expand.proofs.Reading.{read_inputs}
use Rattle.alpha_core.specs.Answers.{Answers}
use Rattle.alpha_core.specs.Renaming.{all_renamed}
use Rattle.alpha_core.proofs.RenamedCores.{renamed_core_is_valid}
use Rattle.box_name.specs.Told.{all_told}
use Rattle.box_name.specs.Whole.{named as named_form}
use Rattle.named_form.specs.Valid.{WellFormed}
use Rattle.named_form.specs.Written.{form}
use Rattle.named_form.specs.declared.program.Named.{Named}
use Rattle.image_build.specs.Emitted.{HasCore, IsNamed, form_of}

-- the forms are those that the definition gives
pub has_core : (source : List ℕ) (ds : Items) (core : Program Var) → Reads source ds → Expands ds core
    → (forms : Trees Var) × HasCore source core forms
has_core source ds core reads expands = (
  trees_of (drafts_with expands.library ds),
  record { ds = ds; reads = reads; expands = expands; holds = expands.numbered.forms },
)

-- forms whose variables get numbers of 32 bits bind few
few_bound : (forms : Trees Var) → length (all_bound forms) < 2 ^ 32 → BindFew forms
few_bound forms few = omega (arith, few)

-- what is renamed of a core that a text is, is valid
valid : (source : List ℕ) (core : Program Var) (renamed : Program VarRef) (forms : Trees Var) → HasCore source core forms
    → IsTyped core → Answers core renamed → IsRenamed renamed (all_renamed [] 0 forms)
valid source core renamed forms has typed answers =
    let few : BindFew forms = few_bound forms (answers.few forms has.holds) in
    let is_core : IsCore core forms =
    core_is_valid has.ds core forms (read_inputs source has.ds has.reads) has.expands typed has.holds few
    in
    renamed_core_is_valid core renamed forms is_core answers

pub is_named_of : (source : List ℕ) (ds : Items) (core : Program Var) (renamed : Program VarRef) (named : Named)
    → Reads source ds → Expands ds core → IsTyped core → Answers core renamed
    → ((forms : Trees VarRef) → Holds renamed forms → form named ≡ named_form (all_told renamed.lits forms) renamed.lits)
    → ((forms : Trees VarRef) → Holds renamed forms → IsRenamed renamed forms → WellFormed (form named))
    → IsNamed source named
is_named_of source ds core renamed named reads expands typed answers is well_formed =
    let found = has_core source ds core reads expands in
    let forms : Trees Var = found.0 in
    let has : HasCore source core forms = found.1 in
    let holds : Holds renamed (all_renamed [] 0 forms) = answers.forms forms has.holds in
    record {
      core = core;
      forms = forms;
      has_core = has;
      shallow = answers.within forms has.holds;
      is = subst (λ (lits : List Lit). form named ≡ form_of forms lits) answers.lits (is (all_renamed [] 0 forms) holds);
      well_formed = well_formed (all_renamed [] 0 forms) holds (valid source core renamed forms has typed answers);
    }
