-- One top-level variable more is looked at.
use Rattle.std.proofs.Common.{◌≡◌, ℕ, suc, ◌+◌, ◌-◌, ◌<◌, List, ◌∷◌, ◌++◌, Option, sym, ap, ◌∙◌, arith, append_assoc}
use Rattle.flow_form.specs.declared.rows.Rows.{Rows}
use Rattle.named_form.specs.Valid.{numbers_from}
use Rattle.escape_facts.specs.Reached.{row_sites, rows_sites}

next_number : (n m : ℕ) → n < m → numbers_from n (m - n) ≡ n ∷ numbers_from (n + 1) (m - (n + 1))
next_number n m less =
    let left : m - n ≡ suc (m - (n + 1)) = omega (arith, less) in
    let next : suc n ≡ n + 1 = omega arith in
    ap (λ k. numbers_from n k) left ∙ ap (λ k. n ∷ numbers_from k (m - (n + 1))) next

pub one_row : (owners : ℕ → List ℕ) (rows : Rows) (whose : Option ℕ) (n m : ℕ) (old new whole : List ℕ) → n < m
    → new ≡ old ++ row_sites owners rows whose n → old ++ rows_sites owners rows whose (numbers_from n (m - n)) ≡ whole
    → new ++ rows_sites owners rows whose (numbers_from (n + 1) (m - (n + 1))) ≡ whole
one_row owners rows whose n m old new whole less puts was =
    let rest = rows_sites owners rows whose (numbers_from (n + 1) (m - (n + 1))) in
    ap (λ xs. xs ++ rest) puts
    ∙ (append_assoc old (row_sites owners rows whose n) rest
    ∙ (ap (λ ns. old ++ rows_sites owners rows whose ns) (sym (next_number n m less)) ∙ was))
