-- The file of a program, or why there is none, from what each pass answers.
use Rattle.std.proofs.Common.{◌≡◌, ℕ, List, Ok, Err, Result, inr, sym, subst}
use Rattle.std.specs.Prelude.{IfOk, IfErr}
use Rattle.scheme_base.specs.declared.error.LimitErr.{LimitErr}
use Rattle.elf_write.specs.File.{file_of}
use Rattle.rv_form.specs.declared.image.Image.{Image}
use Rattle.named_form.specs.declared.program.Named.{Named}
use Rattle.flat_form.specs.declared.program.Flat.{Flat}
use Rattle.image_build.specs.declared.error.BuildErr.{BuildErr}
use Rattle.image_build.specs.declared.error.BuildErr.TheVariants.{NoMemory}
use Rattle.image_build.specs.Emitted.{Emitted, IsFlat, IsImage, IsLater, IsNamed, IsUnlaid, PassesLate, Refuses, told_limit}
use Rattle.image_build.proofs.Refusals.{too_large}

pub emitted : {F : Type 0} (answer : Result F BuildErr) (bytes : F → List ℕ) (source : List ℕ) (heap : ℕ) (named : Named)
    (flat : Flat) (image : Image) → IsNamed source named → IsFlat named flat → IsImage flat heap image
    → IfOk answer (λ file. bytes file ≡ file_of image) → IfOk answer (λ file. Emitted source heap (bytes file))
emitted (Ok file) bytes source heap named flat image is_named is_flat is_image written =
    record {
      named = named;
      is_named = is_named;
      flat = flat;
      is_flat = is_flat;
      image = image;
      is_image = is_image;
      written = written;
    }
emitted (Err e) bytes source heap named flat image is_named is_flat is_image written = tt

pub no_file : {F : Type 0} (answer : Result F BuildErr) (source : List ℕ) (heap : ℕ)
    → IfErr answer (λ error. error ≡ NoMemory) → IfErr answer (λ error. Refuses source heap error)
no_file (Ok file) source heap wanting = tt
no_file (Err e) source heap wanting = inr (inr (subst (IsLater (PassesLate source)) (sym wanting) tt))

pub no_image : (source : List ℕ) (heap : ℕ) (named : Named) (flat : Flat) (limit : LimitErr) (error : BuildErr)
    → IsNamed source named → IsFlat named flat → IsUnlaid flat limit → error ≡ told_limit limit → Refuses source heap error
no_image source heap named flat limit error is_named is_flat unlaid told =
    inr (inr (subst (IsLater (PassesLate source)) (sym told) (too_large source named flat limit is_named is_flat unlaid)))
