-- Why a text is refused behind the reader: a form is broken, or a limit is passed.
use Rattle.std.proofs.Common.{ℕ, ◌≡◌, List, Result, Ok, Err, inl, inr, sym, subst}
use Rattle.std.specs.Prelude.{IfErr}
use Rattle.scheme_base.specs.declared.error.LimitErr.{LimitErr}
use Rattle.scheme_base.specs.declared.error.LimitErr.TheVariants as limited
use Rattle.scheme_base.specs.declared.limit.Limit.{Limit}
use Rattle.datum_form.specs.Data.{Items}
use Rattle.datum_form.specs.declared.error.FormErr.{FormErr}
use Rattle.datum_form.specs.declared.error.FormErr.TheVariants as broken
use Rattle.datum_reader.specs.Answer.{Reads}
use Rattle.core_form.specs.declared.program.Program.{Program}
use Rattle.core_form.specs.declared.program.Var.{Var}
use Rattle.scheme_expand.specs.Programs.{Answers, Expands}
use Rattle.alpha_core.specs.Answers.{Refuses as DepthRefuses}
use Rattle.named_form.specs.Written.{form}
use Rattle.named_form.specs.declared.program.Named.{Named}
use Rattle.flat_form.specs.declared.program.Flat.{Flat}
use Rattle.flow_constraints.specs.Limits.{Refuses as RulesRefuse}
use Rattle.image_build.specs.declared.error.BuildErr.{BuildErr}
use Rattle.image_build.specs.declared.error.BuildErr.TheVariants.{Read, Form, Limit as Passed, NoMemory}
use Rattle.image_build.specs.Emitted.{IsFlat, IsLater, IsNamed, IsUnlaid, PassesEarly, PassesLate, Refuses, Unanalysed, told_form, told_limit}
use Rattle.image_build.proofs.Naming.{has_core}

pub too_deep : (source : List ℕ) (ds : Items) (core : Program Var) (e : LimitErr) → Reads source ds → Expands ds core
    → DepthRefuses core e → IsLater (PassesEarly source) (told_limit e)
too_deep source ds core (limited.Limit l) reads expands refuses =
    let found = has_core source ds core reads expands in
    let counted = refuses.1 found.0 found.1.holds in
    inl (record { which = refuses.0; core = core; forms = found.0; has_core = found.1; count = counted.0; deep = counted.1 })
too_deep source ds core limited.NoMemory reads expands refuses = tt

pub too_large : (source : List ℕ) (named : Named) (flat : Flat) (e : LimitErr) → IsNamed source named → IsFlat named flat
    → IsUnlaid flat e → IsLater (PassesLate source) (told_limit e)
too_large source named flat (limited.Limit l) is_named is_flat unlaid = inr (named, is_named, flat, is_flat, unlaid)
too_large source named flat limited.NoMemory is_named is_flat unlaid = tt

pub too_many : (source : List ℕ) (named : Named) (e : LimitErr) → IsNamed source named → RulesRefuse (form named) e
    → IsLater (PassesEarly source) (told_limit e)
too_many source named (limited.Limit l) is_named passes = inr (named, is_named, passes)
too_many source named limited.NoMemory is_named passes = tt

-- texts

pub broken_text : (source : List ℕ) (ds : Items) (e : FormErr) (error : BuildErr) → Reads source ds → Answers ds (Err e)
    → error ≡ told_form e → Unanalysed source error
broken_text source ds (broken.Broken p n) error reads fault told = inr (inl (ds, reads, p, n, fault, told))
broken_text source ds broken.NoMemory error reads fault told = inr (inr (subst (IsLater (PassesEarly source)) (sym told) tt))

pub later_text : {A : Type 0} (source : List ℕ) (r : Result A BuildErr) → IfErr r (IsLater (PassesEarly source))
    → IfErr r (λ error. Unanalysed source error)
later_text source (Ok a) later = tt
later_text source (Err e) later = inr (inr later)

-- a program that is not analysed has no file

late : (source : List ℕ) (error : BuildErr) → IsLater (PassesEarly source) error → IsLater (PassesLate source) error
late source (Read e) refused = absurd refused
late source (Form e) refused = absurd refused
late source (Passed l) passes = inl passes
late source NoMemory refused = tt

pub no_file_of : (source : List ℕ) (heap : ℕ) (error : BuildErr) → Unanalysed source error → Refuses source heap error
no_file_of source heap error (inl unread) = inl unread
no_file_of source heap error (inr (inl broken)) = inr (inl broken)
no_file_of source heap error (inr (inr later)) = inr (inr (late source error later))
