-- Where the file of a name stands, and what becomes of the files where another is put in its place.
use Rattle.std.proofs.Common.{◌≡◌, ◌≢◌, ℕ, ◌<◌, List, [], ◌∷◌, ◌++◌, length, get_or, set, Bool, true, false, cond, refl, sym, ap, subst, ◌∙◌, ltb-true, ltb-false, nat_lt, position}
use Rattle.std.specs.Prelude.{Option, Some, None}
use Rattle.std.specs.Option.{option_map, option_or}
use Rattle.std.specs.List.{position_or_len}
use Rattle.std.specs.Str.{bytes_eq}
use Rattle.std.proofs.lemmas.Bool.{false_from_ne_true}
use Rattle.std.proofs.lemmas.Option.{cond_some, slice_get-get_or, slice_get_past}
use Rattle.std.proofs.lemmas.List.Folds.{find_at, find-append, find-set, find_past}
use Rattle.std.proofs.lemmas.List.Sums.{passes_at_first}
use Rattle.std.proofs.lemmas.Slice.Eq.{bytes_eq-Decides}
use Rattle.std.specs.Prelude.{slice_get}
use Rattle.stalin_outside.specs.Stored.{Stored, is_named, stored, Puts}

-- the first file of the name stands at this place
pub record IsPlace (files : List Stored) (name : List ℕ) (place : ℕ) : Type 0 where
  pub first : place ≡ position_or_len (is_named name) files
  pub within : place < length files

pub place_is :
    (files : List Stored) (name : List ℕ) (place : ℕ)
    → position (is_named name) files ≡ Some place → IsPlace files name place
place_is files name place h =
    let n : ℕ = position_or_len (is_named name) files in
    let found : (nat_lt n (length files) ≡ true) × (n ≡ place) = cond_some (nat_lt n (length files)) n place h in
    record {
      first = sym found.1;
      within = subst (λ (k : ℕ). k < length files) found.1 (ltb-true n (length files) found.0);
    }

fails : (b : Bool) (n : ℕ) → cond b (Some n) None ≡ None → b ≡ false
fails true n h = cc
fails false n h = refl

pub stored_none :
    (files : List Stored) (name : List ℕ) → position (is_named name) files ≡ None → stored files name ≡ None
stored_none files name h =
    let n : ℕ = position_or_len (is_named name) files in
    find_at (is_named name) files
    ∙ slice_get_past files n (ltb-false n (length files) (fails (nat_lt n (length files)) n h))

pub stored_at :
    (files : List Stored) (name : List ℕ) (place : ℕ) (d : Stored)
    → IsPlace files name place → stored files name ≡ Some (get_or files place d)
stored_at files name place d at =
    find_at (is_named name) files ∙ ap (slice_get files) (sym at.first) ∙ slice_get-get_or files place d at.within

name_at :
    (files : List Stored) (name : List ℕ) (place : ℕ) (d : Stored)
    → IsPlace files name place → (get_or files place d).name ≡ name
name_at files name place d at =
    let n : ℕ = position_or_len (is_named name) files in
    let passes : is_named name (get_or files place d) ≡ true =
    subst
    (λ (k : ℕ). is_named name (get_or files k d) ≡ true)
    (sym at.first)
    (passes_at_first (is_named name) files d (subst (λ (k : ℕ). k < length files) at.first at.within))
    in
    (bytes_eq-Decides (get_or files place d).name name).0 passes

is_other : (file : Stored) (name other : List ℕ) → file.name ≡ name → other ≢ name → is_named other file ≡ false
is_other file name other same apart =
    false_from_ne_true
    (bytes_eq file.name other)
    (λ passes. apart (sym ((bytes_eq-Decides file.name other).0 passes) ∙ same))

-- a file of the name is put at its place
pub puts_at :
    (files : List Stored) (name : List ℕ) (place : ℕ) (file : Stored)
    → IsPlace files name place → file.name ≡ name → Puts name (Some file) files (set files place file)
puts_at files name place file at same =
    record {
      changed = find-set (is_named name) files place file at.first at.within ((bytes_eq-Decides file.name name).1 same);
      others = λ other apart.
          find_past
          (is_named other)
          files
          place
          file
          file
          (is_other (get_or files place file) name other (name_at files name place file at) apart)
          (is_other file name other same apart);
    }

-- the file of the name is changed where it stands, and keeps its name
pub changed_at :
    (change : Stored → Stored) → ((file : Stored) → (change file).name ≡ file.name)
    → (files : List Stored) (name : List ℕ) (place : ℕ) (d file : Stored)
    → IsPlace files name place → file ≡ change (get_or files place d)
    → Puts name (option_map change (stored files name)) files (set files place file)
changed_at change keeps files name place d file at is =
    let same : file.name ≡ name =
    ap (λ (f : Stored). f.name) is ∙ keeps (get_or files place d) ∙ name_at files name place d at
    in
    let change_is : Some file ≡ option_map change (stored files name) =
    ap Some is ∙ ap (option_map change) (sym (stored_at files name place d at))
    in
    subst (λ (o : Option Stored). Puts name o files (set files place file)) change_is (puts_at files name place file at same)

-- with no file of the name nothing is changed
pub changed_none :
    (change : Stored → Stored) (files : List Stored) (name : List ℕ)
    → stored files name ≡ None → Puts name (option_map change (stored files name)) files files
changed_none change files name none =
    record { changed = none ∙ ap (option_map change) (sym none); others = λ other apart. refl }

or_none : (file : Option Stored) → option_or file None ≡ file
or_none None = refl
or_none (Some file) = refl

-- a file of a name that is not there is put at the end
pub puts_end :
    (files : List Stored) (name : List ℕ) (file : Stored)
    → stored files name ≡ None → file.name ≡ name → Puts name (Some file) files (files ++ file ∷ [])
puts_end files name file none same =
    record {
      changed =
          find-append (is_named name) files (file ∷ [])
          ∙ ap (λ (o : Option Stored). option_or o (stored (file ∷ []) name)) none
          ∙ ap (λ b. cond b (Some file) None) ((bytes_eq-Decides file.name name).1 same);
      others = λ other apart.
          find-append (is_named other) files (file ∷ [])
          ∙ ap
          (λ b. option_or (stored files other) (cond b (Some file) None))
          (is_other file name other same apart)
          ∙ or_none (stored files other);
    }
