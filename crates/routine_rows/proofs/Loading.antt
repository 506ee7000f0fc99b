-- What the routines and code that may be laid out come to can be loaded.
use Rattle.std.proofs.Common.{ℕ, ◌+◌, ◌<◌, ◌≤◌, ◌^◌, length, arith, ◌≡◌, refl, sym, ap, subst, List, [], ◌∷◌, ◌++◌, Result, Ok, Err}
use Rattle.std.specs.Prelude.{IfOk}
use Rattle.std.proofs.lemmas.Bool.{leb-true}
use Rattle.scheme_base.specs.declared.error.LimitErr.{LimitErr}
use Rattle.rv_form.specs.declared.image.Image.{Image}
use Rattle.rv_form.specs.declared.image.Segment.{Segment}
use Rattle.elf_write.specs.Valid.{AreSegments, IsValid, memory_size}
use Rattle.rv_asm.specs.declared.item.AsmItem.{AsmItem}
use Rattle.rv_asm.specs.Layout.{AreSound, items_of, text_size}
use Rattle.image_support.specs.Text.{text as routines}
use Rattle.rv_emulator.specs.Loading.{AreFit, IsLoadable, room_of}

-- Code that may be laid out, behind the routines

sound_both : (one two : List AsmItem) → AreSound one → AreSound two → AreSound (one ++ two)
sound_both [] two h k = k
sound_both (i ∷ is) two h k = (h.0, sound_both is two h.1 k)

longer : (one two : List AsmItem) → text_size one ≤ text_size (one ++ two)
longer [] two = omega arith
longer (i ∷ is) two = let e = longer is two in grind arith

some_routines : 1 ≤ text_size routines
some_routines = leb-true 1 (text_size routines) refl

some_text : (code : List AsmItem) → 0 < text_size (items_of (routines ∷ code ∷ []))
some_text code =
    let e = longer routines (items_of (code ∷ [])) in
    let f = some_routines in
    grind arith

pub may_be_laid : (code : List AsmItem) (parts : List (List AsmItem)) → parts ≡ routines ∷ code ∷ []
    → AreSound routines → AreSound code → AreSound (items_of parts) × (0 < text_size (items_of parts))
may_be_laid code parts is sound_routines sound =
    subst (λ p. AreSound (items_of p) × (0 < text_size (items_of p))) (sym is)
    (sound_both routines (items_of (code ∷ [])) sound_routines (sound_both code [] sound tt), some_text code)

-- An image that keeps the rules of files

fit : (segments : List Segment) → AreSegments segments → AreFit segments
fit [] each = tt
fit (segment ∷ rest) each = (each.0.holds, each.0.low, fit rest each.1)

room : (segments : List Segment) → room_of segments ≡ memory_size segments
room [] = refl
room (segment ∷ rest) = ap (λ n. segment.memsz + n) (room rest)

pub loadable : (image : Image) → IsValid image → IsLoadable image.segments
loadable image valid =
    record {
      fit = fit image.segments valid.each;
      room = subst (λ n. n ≤ 2 ^ 31) (sym (room image.segments)) valid.small;
    }
