-- Texts that are put one behind another.
use Rattle.std.proofs.Common.{ℕ, ◌≡◌, ap, ◌∙◌, List, ◌++◌, append_assoc}

both : (old between now one other : List ℕ) → between ≡ old ++ one → now ≡ between ++ other → now ≡ old ++ (one ++ other)
both old between now one other first then = then ∙ ap (λ t. t ++ other) first ∙ append_assoc old one other

pub seven : (t0 t1 t2 t3 t4 t5 t6 t7 a b c d e f g : List ℕ) → t1 ≡ t0 ++ a → t2 ≡ t1 ++ b → t3 ≡ t2 ++ c → t4 ≡ t3 ++ d
    → t5 ≡ t4 ++ e → t6 ≡ t5 ++ f → t7 ≡ t6 ++ g → t7 ≡ t0 ++ (a ++ (b ++ (c ++ (d ++ (e ++ (f ++ g))))))
seven t0 t1 t2 t3 t4 t5 t6 t7 a b c d e f g is1 is2 is3 is4 is5 is6 is7 =
    both t0 t1 t7 a (b ++ (c ++ (d ++ (e ++ (f ++ g))))) is1
    (both t1 t2 t7 b (c ++ (d ++ (e ++ (f ++ g)))) is2
    (both t2 t3 t7 c (d ++ (e ++ (f ++ g))) is3
    (both t3 t4 t7 d (e ++ (f ++ g)) is4 (both t4 t5 t7 e (f ++ g) is5 (both t5 t6 t7 f g is6 is7)))))
