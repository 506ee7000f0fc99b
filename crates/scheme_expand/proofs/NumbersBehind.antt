-- Numbers of definitions that are put behind others.
use Rattle.std.proofs.Common.{ℕ, ◌≤◌, ◌≡◌, List, [], ◌∷◌, ◌++◌, sym, subst}
use Rattle.prelude_text.specs.Closure.{AreNumbers, AreUses}

number_behind : (n : ℕ) (ks : List ℕ) (k : ℕ) → 1 ≤ k → k ≤ n → AreNumbers n ks → AreNumbers n (ks ++ k ∷ [])
number_behind n [] k low high h = (low, high, tt)
number_behind n (j ∷ ks) k low high h = (h.0, h.1, number_behind n ks k low high h.2)

pub number_added : (n : ℕ) (ks js : List ℕ) (k : ℕ) → js ≡ ks ++ k ∷ [] → 1 ≤ k → k ≤ n → AreNumbers n ks
    → AreNumbers n js
number_added n ks js k e low high h = subst (λ is. AreNumbers n is) (sym e) (number_behind n ks k low high h)

use_behind : (n : ℕ) (us : List (List ℕ)) (u : List ℕ) → AreUses n us → AreNumbers n u → AreUses n (us ++ u ∷ [])
use_behind n [] u h k = (k, tt)
use_behind n (v ∷ us) u h k = (h.0, use_behind n us u h.1 k)

pub use_added : (n : ℕ) (us vs : List (List ℕ)) (u : List ℕ) → vs ≡ us ++ u ∷ [] → AreUses n us → AreNumbers n u
    → AreUses n vs
use_added n us vs u e h k = subst (λ ws. AreUses n ws) (sym e) (use_behind n us u h k)
