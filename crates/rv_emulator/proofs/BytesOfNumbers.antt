-- Numbers of so many bytes.
use Rattle.std.proofs.Common.{◌≡◌, ℕ, zero, suc, ◌+◌, ◌-◌, ◌*◌, ◌^◌, ◌<◌, ◌≤◌, refl, ap, arith}
use Rattle.std.proofs.Math.Nat.{pow-succ'}
use Rattle.std.specs.Prelude.{slice_index, replicate}
use Rattle.rv_words.specs.declared.access.Width.{Width}
use Rattle.rv_words.specs.declared.access.Width.TheVariants.{Byte, Half, Word, Double}
use Rattle.rv_words.specs.Widths.{bytes_of}

pub some_bytes : (width : Width) → 0 < bytes_of width
some_bytes Byte = omega arith
some_bytes Half = omega arith
some_bytes Word = omega arith
some_bytes Double = omega arith

-- a digit more below a number
pub digit_more : (count first rest : ℕ) → 0 < count → first < 256 → rest < 256 ^ (count - 1) → first + 256 * rest < 256 ^ count
digit_more zero first rest some small below = absurd (omega arith)
digit_more (suc n) first rest some small below =
    let e : 256 ^ suc n ≡ 256 * 256 ^ n = pow-succ' 256 n in
    let f : suc n - 1 ≡ n = omega arith in
    let g : 256 ^ (suc n - 1) ≡ 256 ^ n = ap (λ k. 256 ^ k) f in
    omega arith

-- up to eight bytes make a word
pub bytes_fit : (n : ℕ) → n ≤ 8 → 256 ^ n ≤ 2 ^ 64
bytes_fit zero few = omega arith
bytes_fit (suc zero) few = omega arith
bytes_fit (suc (suc zero)) few = omega arith
bytes_fit (suc (suc (suc zero))) few = omega arith
bytes_fit (suc (suc (suc (suc zero)))) few = omega arith
bytes_fit (suc (suc (suc (suc (suc zero))))) few = omega arith
bytes_fit (suc (suc (suc (suc (suc (suc zero)))))) few = omega arith
bytes_fit (suc (suc (suc (suc (suc (suc (suc zero))))))) few = omega arith
bytes_fit (suc (suc (suc (suc (suc (suc (suc (suc zero)))))))) few = omega arith
bytes_fit (suc (suc (suc (suc (suc (suc (suc (suc (suc n))))))))) few = absurd (omega arith)

pub zeros_at : (n r : ℕ) → slice_index (replicate n 0) r ≡ 0
zeros_at zero r = refl
zeros_at (suc n) zero = refl
zeros_at (suc n) (suc r) = zeros_at n r
