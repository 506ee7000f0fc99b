-- Bytes have one answer.
use Rattle.std.proofs.Common.{◌≡◌, ◌≢◌, ℕ, ◌<◌, List, inl, inr, refl, sym, ap, ◌∙◌, arith}
use Rattle.rv_form.specs.declared.image.Image.{Image}
use Rattle.elf_write.specs.declared.error.ElfErr.{ElfErr}
use Rattle.elf_write.specs.declared.error.ElfErr.TheVariants.{Short, Magic, Kind, Segment, Entry, NoMemory}
use Rattle.elf_write.specs.Reading.{HasHeader, HoldsImage, Breaks, OneAnswer}

-- a file breaks nothing
whole : (bytes : List ℕ) (image : Image) (err : ElfErr) → HoldsImage bytes image → Breaks bytes err → err ≡ NoMemory
whole bytes image Short reads (inl h) = absurd (h reads.header.long)
whole bytes image Short reads (inr h) = absurd (h.3 reads.header.headers)
whole bytes image Magic reads h = absurd (h.1 reads.header.magic)
whole bytes image Kind reads h = absurd (h.2 reads.header.program)
whole bytes image (Segment index) reads h = absurd (h.3 (reads.taken index h.1))
whole bytes image Entry reads h = absurd (h.2 reads.entry)
whole bytes image NoMemory reads h = refl

-- what stands after a header that is not broken
short_apart : (bytes : List ℕ) → HasHeader bytes → Breaks bytes Short → ⊥
short_apart bytes header (inl h) = h header.long
short_apart bytes header (inr h) = h.3 header.headers

short_magic : (bytes : List ℕ) → Breaks bytes Short → Breaks bytes Magic → ⊥
short_magic bytes (inl h) other = h other.0
short_magic bytes (inr h) other = other.1 h.1

short_kind : (bytes : List ℕ) → Breaks bytes Short → Breaks bytes Kind → ⊥
short_kind bytes (inl h) other = h other.0
short_kind bytes (inr h) other = other.2 h.2

no_other : (i j : ℕ) → (i < j → ⊥) → (j < i → ⊥) → i ≡ j
no_other i j one other = grind arith

-- of two program headers that are the first to be refused each is the other
same_index : (bytes : List ℕ) (i j : ℕ) → Breaks bytes (Segment i) → Breaks bytes (Segment j) → i ≡ j
same_index bytes i j one other = no_other i j (λ h. one.3 (other.2 i h)) (λ h. other.3 (one.2 j h))

-- no bytes break two
one_break : (bytes : List ℕ) (one other : ElfErr) → Breaks bytes one → Breaks bytes other
    → one ≢ NoMemory → other ≢ NoMemory → one ≡ other
one_break bytes NoMemory other h g some more = absurd (some refl)
one_break bytes one NoMemory h g some more = absurd (more refl)
one_break bytes Short Short h g some more = refl
one_break bytes Magic Magic h g some more = refl
one_break bytes Kind Kind h g some more = refl
one_break bytes Entry Entry h g some more = refl
one_break bytes (Segment i) (Segment j) h g some more = ap Segment (same_index bytes i j h g)
one_break bytes Short Magic h g some more = absurd (short_magic bytes h g)
one_break bytes Magic Short h g some more = absurd (short_magic bytes g h)
one_break bytes Short Kind h g some more = absurd (short_kind bytes h g)
one_break bytes Kind Short h g some more = absurd (short_kind bytes g h)
one_break bytes Short (Segment i) h g some more = absurd (short_apart bytes g.0 h)
one_break bytes (Segment i) Short h g some more = absurd (short_apart bytes h.0 g)
one_break bytes Short Entry h g some more = absurd (short_apart bytes g.0 h)
one_break bytes Entry Short h g some more = absurd (short_apart bytes h.0 g)
one_break bytes Magic Kind h g some more = absurd (h.1 g.1)
one_break bytes Kind Magic h g some more = absurd (g.1 h.1)
one_break bytes Magic (Segment i) h g some more = absurd (h.1 g.0.magic)
one_break bytes (Segment i) Magic h g some more = absurd (g.1 h.0.magic)
one_break bytes Magic Entry h g some more = absurd (h.1 g.0.magic)
one_break bytes Entry Magic h g some more = absurd (g.1 h.0.magic)
one_break bytes Kind (Segment i) h g some more = absurd (h.2 g.0.program)
one_break bytes (Segment i) Kind h g some more = absurd (g.2 h.0.program)
one_break bytes Kind Entry h g some more = absurd (h.2 g.0.program)
one_break bytes Entry Kind h g some more = absurd (g.2 h.0.program)
one_break bytes (Segment i) Entry h g some more = absurd (h.3 (g.1 i h.1))
one_break bytes Entry (Segment i) h g some more = absurd (g.3 (h.1 i g.1))

pub one_answer : (bytes : List ℕ) → OneAnswer bytes
one_answer bytes =
    record { image = λ one other h g. h.is ∙ sym g.is; whole = whole bytes; broken = one_break bytes }
