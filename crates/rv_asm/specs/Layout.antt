-- Where the items of a text stand, and the image of a text, its data words and a heap.
--
-- The text begins at 65536. The data begin at the next multiple of 4,096 bytes: the data words, then the
-- pool, which has the numbers that the text loads in the order of their first use, then zeros to a multiple
-- of 16 bytes. The heap stands behind them.
use Rattle.std.specs.Prelude.{ℕ, ◌+◌, ◌-◌, ◌*◌, ◌/◌, ◌%◌, ◌^◌, ◌<◌, ◌≤◌, ◌≡◌, ℤ, pos, ◌+ℤ◌, ◌-ℤ◌, Bool, true, false, if◌then◌else◌, nat_eq, nat_lt, ◌&&◌, List, [], ◌∷◌, ◌++◌, length, map, replicate, position, Option, Some, None, Result, Ok, Err, negsuc, ◌≤ℤ◌}
use Rattle.std.specs.Option.{unwrap_or}
use Rattle.indexmap.specs.IndexSet.{insert_key}
use Rattle.scheme_base.specs.declared.error.LimitErr.{LimitErr}
use Rattle.scheme_base.specs.declared.error.LimitErr.TheVariants as refused
use Rattle.scheme_base.specs.declared.limit.LimitKind.TheVariants as kind
use Rattle.rv_form.specs.declared.instr.Instr.{Instr}
use Rattle.rv_form.specs.declared.instr.Instr.TheVariants.{Auipc, Addi, Jalr, Ld}
use Rattle.rv_form.specs.declared.image.Image.{Image}
use Rattle.rv_form.specs.Numbers.{far_part, near_part, low_bytes}
use Rattle.rv_form.specs.Instruction.{IsValid, code_bytes}
use Rattle.const_data.specs.declared.word.Label.{Label}
use Rattle.const_data.specs.declared.word.Label.TheVariants as label
use Rattle.const_data.specs.declared.word.Word.{Word}
use Rattle.const_data.specs.declared.word.Word.TheVariants as word
use Rattle.rv_asm.specs.declared.item.AsmItem.{AsmItem}
use Rattle.rv_asm.specs.declared.item.AsmItem.TheVariants.{Code, Here, Address, Jump, Pool}

-- Sizes

-- the bytes of an item
abbrev pub size_of : AsmItem → ℕ
size_of (Code instr) = 4
size_of (Here l) = 0
size_of (Address reg l added) = 8
size_of (Jump link l) = 8
size_of (Pool reg n) = 8

abbrev pub text_size : List AsmItem → ℕ
text_size [] = 0
text_size (i ∷ is) = size_of i + text_size is

-- the items of all pieces of a text
abbrev pub items_of : List (List AsmItem) → List AsmItem
items_of [] = []
items_of (part ∷ parts) = part ++ items_of parts

-- the pool with the number that an item loads
abbrev pub with_number : List ℕ → AsmItem → List ℕ
with_number known (Code instr) = known
with_number known (Here l) = known
with_number known (Address reg l added) = known
with_number known (Jump link l) = known
with_number known (Pool reg n) = insert_key nat_eq known n

abbrev pub pool_from : List ℕ → List AsmItem → List ℕ
pool_from known [] = known
pool_from known (i ∷ is) = pool_from (with_number known i) is

-- the pool of a text
abbrev pub pool_of : List AsmItem → List ℕ
pool_of items = pool_from [] items

abbrev pub up_to_even : ℕ → ℕ
up_to_even n = n + n % 2

-- the least multiple of a page's size that is not below a number
abbrev pub whole_pages : ℕ → ℕ
whole_pages n = (n + 4095) / 4096 * 4096

-- the bytes of the data of a text, with so many words before the pool
abbrev pub data_size : List AsmItem → (words : ℕ) → ℕ
data_size items words = 8 * up_to_even (words + length (pool_of items))

-- Places

-- what the addresses in an image follow from
pub record Placing : Type 0 where
  -- the addresses of the labels that stand in the text
  pub in_text : Label → Option ℕ
  pub pool : List ℕ
  -- how many data words there are before the pool
  pub words : ℕ
  -- where the data begin, and where the heap begins and ends
  pub data_start : ℕ
  pub heap_start : ℕ
  pub heap_end : ℕ

abbrev pub same_flag : Bool → Bool → Bool
same_flag true true = true
same_flag false false = true
same_flag a b = false

abbrev pub same_label : Label → Label → Bool
same_label (label.Routine m) (label.Routine n) = nat_eq m n
same_label (label.Entry p a l) (label.Entry q b m) = nat_eq p q && (nat_eq a b && same_flag l m)
same_label (label.Body p a) (label.Body q b) = nat_eq p q && nat_eq a b
same_label (label.Inner p m) (label.Inner q n) = nat_eq p q && nat_eq m n
same_label (label.Word m) (label.Word n) = nat_eq m n
same_label label.HeapStart label.HeapStart = true
same_label label.HeapEnd label.HeapEnd = true
same_label l m = false

abbrev pub or_else : Option ℕ → Option ℕ → Option ℕ
or_else (Some a) other = Some a
or_else None other = other

-- the address of a label that an item at an address is
abbrev pub here : Label → (at : ℕ) → AsmItem → Option ℕ
here l at (Code instr) = None
here l at (Here m) = if same_label m l then Some at else None
here l at (Address reg m added) = None
here l at (Jump link m) = None
here l at (Pool reg n) = None

-- the address of a label in a text that begins at an address: the last one, if it stands more than once
abbrev pub found : Label → (at : ℕ) → List AsmItem → Option ℕ
found l at [] = None
found l at (i ∷ is) = or_else (found l (at + size_of i) is) (here l at i)

-- the places in an image of this text, with so many data words and a heap
abbrev pub text_start : ℕ
text_start = 65536

abbrev pub data_start : List AsmItem → ℕ
data_start items = text_start + whole_pages (text_size items)

abbrev pub heap_start : List AsmItem → (words : ℕ) → ℕ
heap_start items words = data_start items + data_size items words

abbrev pub placing : List AsmItem → (words heap : ℕ) → Placing
placing items words heap =
    record {
      in_text = λ l. found l text_start items;
      pool = pool_of items;
      words = words;
      data_start = data_start items;
      heap_start = heap_start items words;
      heap_end = heap_start items words + heap;
    }

-- the address of a label, and 0 for one that nothing has
abbrev pub place : Placing → Label → ℕ
place p (label.Routine n) = unwrap_or (p.in_text (label.Routine n)) 0
place p (label.Entry q part list) = unwrap_or (p.in_text (label.Entry q part list)) 0
place p (label.Body q part) = unwrap_or (p.in_text (label.Body q part)) 0
place p (label.Inner q n) = unwrap_or (p.in_text (label.Inner q n)) 0
place p (label.Word n) = if nat_lt n p.words then p.data_start + 8 * n else 0
place p label.HeapStart = p.heap_start
place p label.HeapEnd = p.heap_end

-- the address of a number in the pool
abbrev pub pool_place : Placing → ℕ → ℕ
pool_place p n = p.data_start + 8 * (p.words + unwrap_or (position (nat_eq n) p.pool) 0)

-- Bytes

-- what gives a register the address at a distance, jumps over it, and loads from it
abbrev pub address_code : (reg : ℕ) → ℤ → List Instr
address_code reg d = Auipc reg (far_part d) ∷ Addi reg reg (near_part d) ∷ []

abbrev pub jump_code : (link : ℕ) → ℤ → List Instr
jump_code link d = Auipc 31 (far_part d) ∷ Jalr link 31 (near_part d) ∷ []

abbrev pub load_code : (reg : ℕ) → ℤ → List Instr
load_code reg d = Auipc 31 (far_part d) ∷ Ld reg 31 (near_part d) ∷ []

-- the instructions of an item that stands at an address
abbrev pub instructions : Placing → (at : ℕ) → AsmItem → List Instr
instructions p at (Code instr) = instr ∷ []
instructions p at (Here l) = []
instructions p at (Address reg l added) = address_code reg (pos (place p l) +ℤ added -ℤ pos at)
instructions p at (Jump link l) = jump_code link (pos (place p l) -ℤ pos at)
instructions p at (Pool reg n) = load_code reg (pos (pool_place p n) -ℤ pos at)

-- the bytes of a text that begins at an address
abbrev pub text_bytes : Placing → (at : ℕ) → List AsmItem → List ℕ
text_bytes p at [] = []
text_bytes p at (i ∷ is) = code_bytes (instructions p at i) ++ text_bytes p (at + size_of i) is

-- the number that a data word holds
abbrev pub value_of : Placing → Word → ℕ
value_of p (word.Number n) = n
value_of p (word.Address l added) = (place p l + added) % 2 ^ 64

abbrev pub number_bytes : List ℕ → List ℕ
number_bytes [] = []
number_bytes (n ∷ ns) = low_bytes 8 n ++ number_bytes ns

abbrev pub data_bytes : Placing → List Word → List ℕ
data_bytes p words =
    number_bytes (map (value_of p) words ++ (p.pool ++ replicate ((p.words + length p.pool) % 2) 0))

-- The image

abbrev pub image_with : Placing → List AsmItem → List Word → (heap : ℕ) → Image
image_with p items words heap =
    record {
      entry = text_start;
      segments =
          record { vaddr = text_start; memsz = text_size items; flags = 5; bytes = text_bytes p text_start items }
          ∷ record { vaddr = p.data_start; memsz = p.heap_start - p.data_start + heap; flags = 6; bytes = data_bytes p words }
          ∷ [];
    }

abbrev pub image_of : List (List AsmItem) → List Word → (heap : ℕ) → Image
image_of parts words heap =
    image_with (placing (items_of parts) (length words) heap) (items_of parts) words heap

-- the bytes of text and data together
abbrev pub image_size : List (List AsmItem) → List Word → ℕ
image_size parts words = text_size (items_of parts) + data_size (items_of parts) (length words)

-- a count as 64 bits hold it
abbrev pub cut : ℕ → ℕ
cut n = if nat_lt n (2 ^ 64) then n else 2 ^ 64 - 1

-- What the layout answers: the image, or the limit where text and data have more than 2^28 bytes. Want of
-- memory has no cause.
abbrev pub Lays : List (List AsmItem) → List Word → (heap : ℕ) → Result Image LimitErr → Type 0
Lays parts words heap (Ok image) = (image_size parts words ≤ 2 ^ 28) × (image ≡ image_of parts words heap)
Lays parts words heap (Err (refused.Limit limit)) =
    (2 ^ 28 < image_size parts words) × (limit ≡ record { which = kind.Image; count = cut (image_size parts words) })
Lays parts words heap (Err refused.NoMemory) = Unit {0}

-- What may be laid out

-- the registers and instructions of an item are in their ranges, and what it adds to an address is small
abbrev pub IsSound : AsmItem → Type 0
IsSound (Code instr) = IsValid instr
IsSound (Here l) = Unit {0}
IsSound (Address reg l added) = (reg < 32) × ((negsuc 4095 ≤ℤ added) × (added ≤ℤ pos 4096))
IsSound (Jump link l) = link < 32
IsSound (Pool reg n) = reg < 32

abbrev pub AreSound : List AsmItem → Type 0
AreSound [] = Unit {0}
AreSound (i ∷ is) = IsSound i × AreSound is
