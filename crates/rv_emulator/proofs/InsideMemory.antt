-- What is said of the lists inside a memory is true of the memory.
use Rattle.std.proofs.Common.{◌≡◌, ℕ, List, ◌++◌, length, take, sym, ap, subst, ◌∙◌}
use Rattle.rv_emulator.specs.declared.region.Region.{Region}
use Rattle.rv_emulator.specs.Memory.{Contents, Laid, total_of}
use Rattle.rv_emulator.proofs.LoadedImage.{written_back}

abbrev both : List Region → List ℕ → Contents
both regions bytes = record { regions = regions; bytes = bytes }

pub seen : (P : Contents → Type 0) (memory : Contents) (regions regions' : List Region) (bytes bytes' : List ℕ)
    → both regions bytes ≡ memory → regions' ≡ regions → bytes' ≡ bytes → P (both regions' bytes') → P memory
seen P memory regions regions' bytes bytes' is same_regions same_bytes one =
    subst P is
    (subst (λ b. P (both regions b)) same_bytes
    (subst (λ r. P (both r bytes')) same_regions one))

-- and so is what is said of them before and after a change of the bytes
changed : (P : (old new : Contents) → Type 0) (memory : Contents) (regions regions' : List Region)
    (bytes bytes' new new' : List ℕ)
    → both regions bytes ≡ memory → regions' ≡ regions → bytes' ≡ bytes → new ≡ new'
    → P (both regions' bytes') (both regions' new) → P memory (both regions new')
changed P memory regions regions' bytes bytes' new new' is same_regions same_bytes same_new one =
    subst (λ m. P m (both regions new')) is
    (subst (λ n. P (both regions bytes) (both regions n)) same_new
    (subst (λ b. P (both regions b) (both regions new)) same_bytes
    (subst (λ r. P (both r bytes') (both r new)) same_regions one)))

-- the bytes inside are those that were put back
pub put_back : (regions regions' : List Region) (bytes bytes' new rest : List ℕ) (len : ℕ) → Laid regions bytes
    → regions' ≡ regions → bytes' ≡ bytes → Laid regions' new → length bytes' ≡ len → take len (new ++ rest) ≡ new
put_back regions regions' bytes bytes' new rest len laid same_regions same_bytes after size =
    written_back new rest len
    (sym (after.whole ∙ (ap total_of same_regions ∙ (sym laid.whole ∙ (ap length (sym same_bytes) ∙ size)))))

pub rewritten : (P : (old new : Contents) → Type 0) (memory : Contents) (regions regions' : List Region)
    (bytes bytes' new rest : List ℕ) (len : ℕ)
    → both regions bytes ≡ memory → Laid regions bytes → regions' ≡ regions → bytes' ≡ bytes → Laid regions' new → length bytes' ≡ len
    → P (both regions' bytes') (both regions' new) → P memory (both regions (take len (new ++ rest)))
rewritten P memory regions regions' bytes bytes' new rest len is laid same_regions same_bytes after size one =
    changed P memory regions regions' bytes bytes' new (take len (new ++ rest)) is same_regions same_bytes
    (sym (put_back regions regions' bytes bytes' new rest len laid same_regions same_bytes after size)) one
