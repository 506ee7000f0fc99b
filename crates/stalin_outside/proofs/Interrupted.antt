-- Bytes that a stream tells, after a call that was interrupted and then another.
use Rattle.std.proofs.Common.{ℕ, List, refl, ◌∙◌}
use Rattle.std.specs.Prelude.{Option, Some, None}
use Rattle.std.specs.Io.KnownBytes.{Appends, Consumes, Keeps}

pub keeps_same : (bytes : Option (List ℕ)) → Keeps bytes bytes
keeps_same None = tt
keeps_same (Some bytes) = refl

pub keeps_then_keeps : (first then last : Option (List ℕ)) → Keeps first then → Keeps then last → Keeps first last
keeps_then_keeps None then last kept keeps = tt
keeps_then_keeps (Some bytes) None last kept keeps = absurd kept
keeps_then_keeps (Some bytes) (Some more) None kept keeps = absurd keeps
keeps_then_keeps (Some bytes) (Some more) (Some rest) kept keeps = keeps ∙ kept

pub keeps_then_consumes : (first then last : Option (List ℕ)) (bytes : List ℕ) → Keeps first then
    → Consumes then last bytes → Consumes first last bytes
keeps_then_consumes None then last bytes kept consumes = tt
keeps_then_consumes (Some text) None last bytes kept consumes = absurd kept
keeps_then_consumes (Some text) (Some more) None bytes kept consumes = absurd consumes
keeps_then_consumes (Some text) (Some more) (Some rest) bytes kept consumes = cc

pub keeps_then_appends : (first then last : Option (List ℕ)) (bytes : List ℕ) → Keeps first then
    → Appends then last bytes → Appends first last bytes
keeps_then_appends None then last bytes kept appends = tt
keeps_then_appends (Some text) None last bytes kept appends = absurd kept
keeps_then_appends (Some text) (Some more) None bytes kept appends = absurd appends
keeps_then_appends (Some text) (Some more) (Some rest) bytes kept appends = rw (← kept) appends
