-- What one read or write of a stream does to the bytes that are left in it or that it holds, where the
-- stream tells them.
use Rattle.std.specs.Prelude.{ℕ, ◌≡◌, ◌<◌, List, [], ◌∷◌, length, take, Option, Some, None}
use Rattle.std.specs.Io.KnownBytes.{Appends, Consumes, IsAtEnd, Keeps}
use Rattle.stalin_outside.specs.declared.console.In.{In}
use Rattle.stalin_outside.specs.declared.console.In.TheVariants as inputs
use Rattle.stalin_outside.specs.declared.console.Out.{Out}
use Rattle.stalin_outside.specs.declared.console.Out.TheVariants as writes

-- a read took so many bytes to the front of the buffer, none only at the end; a fault took none
abbrev pub ReadSome : (before now : Option (List ℕ)) → (buf : List ℕ) → Option ℕ → Type 0
ReadSome before now buf None = Keeps before now
ReadSome before now buf (Some count) = Consumes before now (take count buf) × (count ≡ 0 → 0 < length buf → IsAtEnd now)

-- a write put so many bytes of the front of the piece; a fault put none
abbrev pub WroteSome : (before now : Option (List ℕ)) → (piece : List ℕ) → Option ℕ → Type 0
WroteSome before now piece None = Keeps before now
WroteSome before now piece (Some count) = Appends before now (take count piece)

-- the answer of a read of one byte
abbrev pub ReadByte : (before now : Option (List ℕ)) → In → Type 0
ReadByte before now (inputs.Byte byte) = Consumes before now (byte ∷ [])
ReadByte before now inputs.End = IsAtEnd now
ReadByte before now inputs.Failed = Keeps before now

-- the answer of a write of one byte
abbrev pub WroteByte : (byte : ℕ) → (before now : Option (List ℕ)) → Out → Type 0
WroteByte byte before now writes.Took = Appends before now (byte ∷ [])
WroteByte byte before now writes.Failed = Keeps before now
