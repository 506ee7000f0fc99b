-- The places in an image, and how many bytes its segments have.
use Rattle.std.proofs.Common.{◌≡◌, ℕ, ◌+◌, ◌*◌, ◌%◌, ◌≤◌, ◌^◌, List, [], ◌∷◌, ◌++◌, length, refl, arith, ◌∙◌, ap, sym, subst, length-append}
use Rattle.std.proofs.lemmas.List.{length-map, length-replicate}
use Rattle.std.proofs.Math.Path.{fun_ext}
use Rattle.std.specs.Prelude.{◌-◌, Option, Some, None, map, replicate}
use Rattle.std.specs.Option.{unwrap_or}
use Rattle.rv_form.specs.declared.image.Image.{Image}
use Rattle.rv_form.specs.Numbers.{low_bytes}
use Rattle.rv_form.specs.Instruction.{code_bytes}
use Rattle.const_data.specs.declared.word.Label.{Label}
use Rattle.const_data.specs.declared.word.Word.{Word}
use Rattle.rv_asm.specs.declared.item.AsmItem.{AsmItem}
use Rattle.rv_asm.specs.declared.item.AsmItem.TheVariants.{Code, Here, Address, Jump, Pool}
use Rattle.rv_asm.specs.Layout.{Placing, placing, size_of, text_size, text_start, data_start, heap_start, data_size, up_to_even, here, found, or_else, instructions, text_bytes, number_bytes, value_of, data_bytes, image_with}
use Rattle.rv_asm.specs.Symbols.{IsNear}

at_joined : (at size rest : ℕ) → at + size + rest ≡ at + (size + rest)
at_joined at size rest = omega arith

or_else_within : (a b : Option ℕ) (n : ℕ) → unwrap_or a 0 ≤ n → unwrap_or b 0 ≤ n → unwrap_or (or_else a b) 0 ≤ n
or_else_within (Some x) b n first second = first
or_else_within None b n first second = second

here_within : (l : Label) (at : ℕ) (i : AsmItem) (n : ℕ) → at ≤ n → unwrap_or (here l at i) 0 ≤ n
here_within l at (Code instr) n low = omega arith
here_within l at (Here m) n low = grind arith
here_within l at (Address reg m added) n low = omega arith
here_within l at (Jump link m) n low = omega arith
here_within l at (Pool reg m) n low = omega arith

found_within : (l : Label) (at : ℕ) (items : List AsmItem) → unwrap_or (found l at items) 0 ≤ at + text_size items
found_within l at [] = omega arith
found_within l at (i ∷ is) =
    or_else_within (found l (at + size_of i) is) (here l at i) (at + (size_of i + text_size is))
    (subst (λ n. unwrap_or (found l (at + size_of i) is) 0 ≤ n) (at_joined at (size_of i) (text_size is)) (found_within l (at + size_of i) is))
    (here_within l at i (at + (size_of i + text_size is)) (omega arith))

pub placing_near : (items : List AsmItem) (words heap : ℕ) → text_size items + data_size items words ≤ 2 ^ 28 → heap ≤ 2 ^ 30
    → IsNear (placing items words heap)
placing_near items words heap size low =
    record {
      in_text = λ l. let e = found_within l text_start items in omega arith;
      pool_end = omega arith;
      heap_start = omega arith;
      heap_end = omega arith;
    }

pub same_placing : (f g : Label → Option ℕ) (pool pool' : List ℕ) (words words' start start' from from' to to' : ℕ)
    → ((l : Label) → f l ≡ g l) → pool ≡ pool' → words ≡ words' → start ≡ start' → from ≡ from' → to ≡ to'
    → ◌≡◌ {A = Placing} (record { in_text = f; pool = pool; words = words; data_start = start; heap_start = from; heap_end = to })
    (record { in_text = g; pool = pool'; words = words'; data_start = start'; heap_start = from'; heap_end = to' })
same_placing f g pool pool' words words' start start' from from' to to' a b c d e h =
    let k : f ≡ g = fun_ext a in
    rw (k, b, c, d, e, h) refl

length_code : (p : Placing) (at : ℕ) (i : AsmItem) → length (code_bytes (instructions p at i)) ≡ size_of i
length_code p at (Code instr) = refl
length_code p at (Here l) = refl
length_code p at (Address reg l added) = refl
length_code p at (Jump link l) = refl
length_code p at (Pool reg n) = refl

pub length_text : (p : Placing) (at : ℕ) (items : List AsmItem) → length (text_bytes p at items) ≡ text_size items
length_text p at [] = refl
length_text p at (i ∷ is) =
    let e = length-append (code_bytes (instructions p at i)) (text_bytes p (at + size_of i) is) in
    let f = length_code p at i in
    let g = length_text p (at + size_of i) is in
    omega arith

pub length_numbers : (ns : List ℕ) → length (number_bytes ns) ≡ 8 * length ns
length_numbers [] = refl
length_numbers (n ∷ ns) =
    let e = length-append (low_bytes 8 n) (number_bytes ns) in
    let g = length_numbers ns in
    omega arith

joined_more : (xs ys zs : List ℕ) → xs ++ (ys ++ zs) ≡ (xs ++ ys) ++ zs
joined_more [] ys zs = refl
joined_more (x ∷ xs) ys zs = ap (λ l. x ∷ l) (joined_more xs ys zs)

pub numbers_joined : (ms ns : List ℕ) → number_bytes (ms ++ ns) ≡ number_bytes ms ++ number_bytes ns
numbers_joined [] ns = refl
numbers_joined (m ∷ ms) ns = ap (λ bs. low_bytes 8 m ++ bs) (numbers_joined ms ns) ∙ joined_more (low_bytes 8 m) (number_bytes ms) (number_bytes ns)

-- the bytes of the words, of the pool and of the zeros make the data
pub data_whole : (p : Placing) (words : List Word) (a b : ℕ) → a ≡ p.words → b ≡ length p.pool
    → (number_bytes (map (value_of p) words) ++ number_bytes p.pool) ++ number_bytes (replicate ((a + b) % 2) 0) ≡ data_bytes p words
data_whole p words a b counted pooled =
    let first = number_bytes (map (value_of p) words) in
    let count : a + b ≡ p.words + length p.pool = omega arith in
    let zeros : List ℕ = replicate ((p.words + length p.pool) % 2) 0 in
    ap (λ n. (first ++ number_bytes p.pool) ++ number_bytes (replicate (n % 2) 0)) count
    ∙ (sym (joined_more first (number_bytes p.pool) (number_bytes zeros))
    ∙ (ap (λ bs. first ++ bs) (sym (numbers_joined p.pool zeros))
    ∙ sym (numbers_joined (map (value_of p) words) (p.pool ++ zeros))))

length_data : (p : Placing) (words : List Word) → p.words ≡ length words
    → length (data_bytes p words) ≡ 8 * up_to_even (p.words + length p.pool)
length_data p words count =
    let zeros : List ℕ = replicate ((p.words + length p.pool) % 2) 0 in
    let a = length_numbers (map (value_of p) words ++ (p.pool ++ zeros)) in
    let b = length-append (map (value_of p) words) (p.pool ++ zeros) in
    let c = length-append p.pool zeros in
    let d = length-map words (value_of p) in
    let e = length-replicate {A = ℕ} ((p.words + length p.pool) % 2) 0 in
    omega arith

pub data_filled : (items : List AsmItem) (words : List Word) (heap : ℕ)
    → length (data_bytes (placing items (length words) heap) words) ≡ data_size items (length words)
data_filled items words heap = length_data (placing items (length words) heap) words refl

-- two segments with these bytes make the image
pub image_made : (items : List AsmItem) (words : List Word) (heap : ℕ) (p : Placing) (text contents : List ℕ) (n m start : ℕ)
    → p ≡ placing items (length words) heap → text ≡ text_bytes p text_start items → contents ≡ data_bytes p words
    → n ≡ length text → m ≡ length contents → start ≡ data_start items
    → ◌≡◌ {A = Image} (record {
      entry = text_start;
      segments =
          record { vaddr = text_start; memsz = n; flags = 5; bytes = text }
          ∷ record { vaddr = start; memsz = m + heap; flags = 6; bytes = contents }
          ∷ [];
    }) (image_with (placing items (length words) heap) items words heap)
image_made items words heap p text contents n m start placed texts datas sized filled starts =
    let q = placing items (length words) heap in
    let texts' : text ≡ text_bytes q text_start items = texts ∙ ap (λ r. text_bytes r text_start items) placed in
    let datas' : contents ≡ data_bytes q words = datas ∙ ap (λ r. data_bytes r words) placed in
    let size : n ≡ text_size items = sized ∙ (ap length texts' ∙ length_text q text_start items) in
    let fill : m ≡ data_size items (length words) = filled ∙ (ap length datas' ∙ length_data q words refl) in
    let whole : m + heap ≡ heap_start items (length words) - data_start items + heap = omega arith in
    rw (texts', datas', size, whole, starts) refl
