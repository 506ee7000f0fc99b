-- The code of procedures in a row.
use Rattle.std.proofs.Common.{◌≡◌, sym, ap, ◌∙◌, ℕ, zero, suc, ◌+◌, ◌-◌, ◌≤◌, ◌∷◌, [], ◌++◌, map, arith}
use Rattle.std.specs.List.{range_with_len}
use Rattle.std.proofs.lemmas.List.{map-append}
use Rattle.std.proofs.lemmas.List.FromFn.{map-range_with_len_more}
use Rattle.flat_form.specs.declared.program.Flat.{Flat}
use Rattle.const_data.specs.declared.offsets.Offsets.{Offsets}
use Rattle.tail_codegen.specs.Written.{code_of}
use Rattle.image_build.specs.Emitted.{Pieces, codes_from}

ranges_joined : (a m n : ℕ) → range_with_len a (m + n) ≡ range_with_len a m ++ range_with_len (a + m) n
ranges_joined a zero n =
    let e : zero + n ≡ n = omega arith in
    let f : a ≡ a + zero = omega arith in
    ap (range_with_len a) e ∙ ap (λ k. range_with_len k n) f
ranges_joined a (suc m) n =
    let e : suc m + n ≡ suc (m + n) = omega arith in
    let f : a + 1 + m ≡ a + suc m = omega arith in
    ap (range_with_len a) e
    ∙ ap (λ ks. a ∷ ks) (ranges_joined (a + 1) m n ∙ ap (λ k. range_with_len (a + 1) m ++ range_with_len k n) f)

-- that of two rows is that of one behind that of the other
pub rows_joined : (flat : Flat) (offsets : Offsets) (first half others count : ℕ) → half + others ≡ count
    → codes_from flat offsets first half ++ codes_from flat offsets (first + half) others ≡ codes_from flat offsets first count
rows_joined flat offsets first half others count whole =
    sym
    (ap (λ n. codes_from flat offsets first n) (sym whole)
    ∙ ap (map (code_of flat offsets)) (ranges_joined first half others)
    ∙ map-append (code_of flat offsets) (range_with_len first half) (range_with_len (first + half) others))

-- that of a row that is one longer
pub one_more : (flat : Flat) (offsets : Offsets) (first proc : ℕ) (pieces : Pieces) → first ≤ proc
    → pieces ≡ codes_from flat offsets first (proc - first)
    → pieces ++ code_of flat offsets proc ∷ [] ≡ codes_from flat offsets first (proc + 1 - first)
one_more flat offsets first proc pieces within is =
    let e : first + (proc - first) ≡ proc = omega (arith, within) in
    let f : proc - first + 1 ≡ proc + 1 - first = omega (arith, within) in
    ap (λ ps. ps ++ code_of flat offsets proc ∷ []) is
    ∙ (sym (map-range_with_len_more (code_of flat offsets) first (proc - first) proc e)
    ∙ ap (λ n. codes_from flat offsets first n) f)
