-- An image that is laid out is one that may be written and loaded.
use Rattle.std.proofs.Common.{◌≡◌, ℕ, ◌≤◌, ◌<◌, ◌^◌, true, List, length, refl, arith}
use Rattle.const_data.specs.declared.word.Word.{Word}
use Rattle.rv_form.specs.Image.{lies_in}
use Rattle.elf_write.specs.Valid.{IsValid}
use Rattle.rv_asm.specs.declared.item.AsmItem.{AsmItem}
use Rattle.rv_asm.specs.Layout.{text_start, items_of, text_size, placing, image_size, image_of, text_bytes}
use Rattle.rv_asm.proofs.Placed.{length_text, data_filled}

first_inside : (bytes : List ℕ) (size : ℕ) → 0 < size
    → lies_in (record { vaddr = text_start; memsz = size; flags = 5; bytes = bytes }) text_start ≡ true
first_inside bytes size some = grind arith

pub image_valid : (parts : List (List AsmItem)) (words : List Word) (heap : ℕ) → heap ≤ 2 ^ 30
    → image_size parts words ≤ 2 ^ 28 → 0 < text_size (items_of parts) → IsValid (image_of parts words heap)
image_valid parts words heap low size some =
    let items = items_of parts in
    let p = placing items (length words) heap in
    let texts = length_text p text_start items in
    let datas = data_filled items words heap in
    let inside = first_inside (text_bytes p text_start items) (text_size items) some in
    record {
      few = omega arith;
      each = (record { flags = omega arith; holds = omega arith; low = omega arith }, (record { flags = omega arith; holds = omega arith; low = omega arith }, tt));
      ascend = ((omega arith, tt), (tt, tt));
      small = omega arith;
      entry = record { aligned = refl; executed = rw inside refl };
    }
