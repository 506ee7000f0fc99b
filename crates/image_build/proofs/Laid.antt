-- What the layout of a program's text and data answers.
use Rattle.std.proofs.Common.{◌≡◌, refl, sym, ap, subst, ◌∙◌, ℕ, ◌<◌, ◌≤◌, ◌^◌, List, [], ◌∷◌, ◌++◌, length, Ok, Err, Result, arith}
use Rattle.std.specs.Prelude.{IfOk, IfErr}
use Rattle.std.proofs.lemmas.Bool.{leb-true}
use Rattle.scheme_base.specs.declared.error.LimitErr.{LimitErr}
use Rattle.scheme_base.specs.declared.error.LimitErr.TheVariants as limited
use Rattle.elf_write.specs.Valid.{IsValid}
use Rattle.rv_form.specs.declared.image.Image.{Image}
use Rattle.flat_form.specs.FlatWritten.{form as flat_form_of}
use Rattle.flat_form.specs.declared.program.Flat.{Flat}
use Rattle.const_data.specs.Words.{offsets_of}
use Rattle.const_data.specs.declared.offsets.Offsets.{Offsets}
use Rattle.const_data.specs.declared.word.Word.{Word}
use Rattle.rv_asm.specs.declared.item.AsmItem.{AsmItem}
use Rattle.rv_asm.specs.Layout.{AreSound, Lays, cut, image_of, image_size, items_of, text_size}
use Rattle.image_support.specs.Text.{text as routines}
use Rattle.image_build.specs.Emitted.{IsImage, IsUnlaid, Pieces, codes_from, text_of, text_with, words_of}

-- code that may be laid out, put together
sound_both : (one two : List AsmItem) → AreSound one → AreSound two → AreSound (one ++ two)
sound_both [] two h k = k
sound_both (i ∷ is) two h k = (h.0, sound_both is two h.1 k)

-- what is left of a text may be laid out once its first piece is known to be so
pub sound_on : (part slice : List AsmItem) (left others parts : Pieces) → left ≡ part ∷ others → slice ≡ part
    → AreSound slice → (AreSound (items_of left) → AreSound (items_of parts)) → AreSound (items_of others)
    → AreSound (items_of parts)
sound_on part slice left others parts is same sound on rest =
    on (subst (λ l. AreSound (items_of l)) (sym is) (sound_both part (items_of others) (subst AreSound same sound) rest))

longer : (one two : List AsmItem) → text_size one ≤ text_size (one ++ two)
longer [] two = omega arith
longer (i ∷ is) two = let e = longer is two in grind arith

some_routines : 1 ≤ text_size routines
some_routines = leb-true 1 (text_size routines) refl

some_text : (flat : Flat) → 0 < text_size (items_of (text_of flat))
some_text flat =
    let e = longer routines (items_of (codes_from flat (offsets_of (flat_form_of flat)) 0 (length flat.procs))) in
    let f = some_routines in
    grind arith

-- the text and the data words of a program, as they are made
pub made_text : (flat : Flat) (offsets : Offsets) (parts : Pieces) → offsets ≡ offsets_of (flat_form_of flat)
    → parts ≡ text_with flat offsets → parts ≡ text_of flat
made_text flat offsets parts place is = is ∙ ap (text_with flat) place

pub laid : (flat : Flat) (heap : ℕ) (parts : Pieces) (words : List Word) (answer : Result Image LimitErr)
    → parts ≡ text_of flat → words ≡ words_of flat → Lays parts words heap answer
    → IfOk answer (λ image. 0 < text_size (items_of parts) → IsValid image) → IfOk answer (IsImage flat heap)
laid flat heap parts words (Ok image) same listed lays valid =
    record {
      small = subst (λ p. image_size p (words_of flat) ≤ 2 ^ 28) same (subst (λ w. image_size parts w ≤ 2 ^ 28) listed lays.0);
      laid = lays.1 ∙ ap (λ w. image_of parts w heap) listed ∙ ap (λ p. image_of p (words_of flat) heap) same;
      valid = valid (subst (λ p. 0 < text_size (items_of p)) (sym same) (some_text flat));
    }
laid flat heap parts words (Err e) same listed lays valid = tt

pub unlaid : (flat : Flat) (heap : ℕ) (parts : Pieces) (words : List Word) (answer : Result Image LimitErr)
    → parts ≡ text_of flat → words ≡ words_of flat → Lays parts words heap answer → IfErr answer (IsUnlaid flat)
unlaid flat heap parts words (Ok image) same listed lays = tt
unlaid flat heap parts words (Err (limited.Limit l)) same listed lays =
    record {
      which = ap (λ l. l.which) lays.1;
      large = subst (λ p. 2 ^ 28 < image_size p (words_of flat)) same (subst (λ w. 2 ^ 28 < image_size parts w) listed lays.0);
      count =
          ap (λ l. l.count) lays.1 ∙ ap (λ w. cut (image_size parts w)) listed ∙ ap (λ p. cut (image_size p (words_of flat))) same;
    }
unlaid flat heap parts words (Err limited.NoMemory) same listed lays = tt
