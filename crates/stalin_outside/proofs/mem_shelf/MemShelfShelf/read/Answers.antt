use Rattle.std.proofs.Common.{◌≡◌, ◌≢◌, ◌≤◌, ℕ, ◌+◌, List, [], ◌++◌, length, take, drop, sym, ap, ◌∙◌, arith, length-append}
use Rattle.std.proofs.lemmas.List.{take_at, take-append-drop, drop-drop, length-take-le}
use Rattle.std.specs.Prelude.{unwrap_or}
use Rattle.stalin_outside.specs.Shelf.{IsCount, last_name}
use Rattle.stalin_outside.specs.Stored.{contents}
use Rattle.stalin_outside.specs.MemShelf.{left_of}
use Rattle.stalin_outside.proofs.mem_shelf.MemShelfShelf.read.Goals as goal

-- a copy of the front, with anything behind it, gives the front back
front_copied :
    (left copy rest : List ℕ) (count : ℕ) → copy ≡ take count left → count ≤ length left
    → left ≡ take count (copy ++ rest) ++ drop count left
front_copied left copy rest count is within =
    let long : length copy ≡ count = ap length is ∙ length-take-le count left within in
    sym (take-append-drop count left) ∙ ap (λ (l : List ℕ). l ++ drop count left) (sym is ∙ sym (take_at copy rest count long))

-- it is a count of the buffer's bytes
counts :
    (copy buf : List ℕ) (count : ℕ) → length copy ≡ count → count ≢ 0 → IsCount count (length (copy ++ drop count buf))
counts copy buf count long some =
    record { some = omega arith; within = omega (arith, length-append copy (drop count buf)) }

-- what is left after it
left_after : (place count : ℕ) (content : List ℕ) → drop count (drop place content) ≡ drop (place + count) content
left_after place count content = drop-drop count place content

pub returns-clause-bytes : goal.returns-clause-bytes
returns-clause-bytes c =
    let left : List ℕ = left_of c.args.self.now in
    let within : c.min-count.result ≤ length left =
    omega (arith, c.min-count.ensures, ap length c.left-left.ensures.bytes)
    in
    let copied : c.copy_from_slice.new.self ≡ take c.min-count.result left =
    c.copy_from_slice.ensures.after ∙ ap (take c.min-count.result) c.left-left.ensures.bytes
    in
    let long : length c.copy_from_slice.new.self ≡ c.min-count.result =
    ap length copied ∙ length-take-le c.min-count.result left within
    in (
      counts c.copy_from_slice.new.self c.args.buf.now c.min-count.result long c.if-count-eq0.false,
      front_copied left c.copy_from_slice.new.self (drop c.min-count.result c.args.buf.now) c.min-count.result copied within
          ∙ ap
          (λ (l : List ℕ). take c.min-count.result (c.copy_from_slice.new.self ++ drop c.min-count.result c.args.buf.now) ++ l)
          (left_after
          c.args.self.now.place
          c.min-count.result
          (unwrap_or (contents c.args.self.now.files.items (last_name c.args.self.now.asks)) [])),
    )
