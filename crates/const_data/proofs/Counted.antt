-- How many words there are before those of the literals.
use Rattle.std.proofs.Common.{◌≡◌, ℕ, ◌+◌, ◌*◌, ◌++◌, List, [], ◌∷◌, length, refl, ap, ◌∙◌, append_assoc, arith, length-append}
use Rattle.std.specs.Prelude.{replicate}
use Rattle.std.proofs.lemmas.List.{length-replicate}
use Rattle.flat_form.specs.FlatCode.{Procedure, Program}
use Rattle.const_data.specs.declared.word.Word.{Word}
use Rattle.const_data.specs.declared.word.Word.TheVariants.{Number}
use Rattle.const_data.specs.Words.{arguments, descriptor, all_descriptors, all_closures, fixed_words, literals_at}

descriptors_long : (q : ℕ) (ps : List Procedure) → length (all_descriptors q ps) ≡ 4 * length ps
descriptors_long q [] = refl
descriptors_long q (p ∷ ps) =
    let long = length-append (descriptor q p) (all_descriptors (q + 1) ps) in
    let rest = descriptors_long (q + 1) ps in
    omega arith

closures_long : (f : Program) (q : ℕ) (ps : List Procedure) → length (all_closures f q ps) ≡ length ps
closures_long f q [] = refl
closures_long f q (p ∷ ps) = let rest = closures_long f (q + 1) ps in omega arith

long : {X : Type 0} (first : X) (a b c d e g : List X) (i j k l m n : ℕ)
    → length a ≡ i → length b ≡ j → length c ≡ k → length d ≡ l → length e ≡ m → length g ≡ n
    → length (first ∷ a ++ b ++ c ++ d ++ e ++ g) ≡ 1 + i + j + k + l + m + n
long first a b c d e g i j k l m n p q r s t u =
    let v = length-append (first ∷ a ++ b ++ c ++ d ++ e) g in
    let w = length-append (first ∷ a ++ b ++ c ++ d) e in
    let x = length-append (first ∷ a ++ b ++ c) d in
    let y = length-append (first ∷ a ++ b) c in
    let z = length-append (first ∷ a) b in
    omega arith

pub fixed_long : (f : Program) → length (fixed_words f) ≡ literals_at f
fixed_long f =
    long {X = Word} (Number 0xffff_ffff_ffff_ffff) (replicate 15 (Number 0)) (replicate (arguments f) (Number 0))
    (replicate f.cells.tops (Number 25)) (replicate f.cells.globals (Number 0)) (all_descriptors 0 f.procs) (all_closures f 0 f.procs)
    15 (arguments f) f.cells.tops f.cells.globals (4 * length f.procs) (length f.procs) refl
    (length-replicate {A = Word} (arguments f) (Number 0)) (length-replicate {A = Word} f.cells.tops (Number 25))
    (length-replicate {A = Word} f.cells.globals (Number 0)) (descriptors_long 0 f.procs) (closures_long f 0 f.procs)

put_more : {X : Type 0} (start before after whole more : List X) → after ≡ before ++ more → before ≡ start ++ whole → after ≡ start ++ (whole ++ more)
put_more start before after whole more puts was = puts ∙ ap (λ xs. xs ++ more) was ∙ append_assoc start whole more

-- all kinds of words one after another
pub all_put : {X : Type 0} (start w x y z v u t : List X) (first : X) (a b c d e g : List X)
    → w ≡ start ++ first ∷ [] → x ≡ w ++ a → y ≡ x ++ b → z ≡ y ++ c → v ≡ z ++ d → u ≡ v ++ e → t ≡ u ++ g
    → t ≡ start ++ (first ∷ a ++ b ++ c ++ d ++ e ++ g)
all_put start w x y z v u t first a b c d e g i j k l m n o =
    put_more start u t (first ∷ a ++ b ++ c ++ d ++ e) g o
    (put_more start v u (first ∷ a ++ b ++ c ++ d) e n
    (put_more start z v (first ∷ a ++ b ++ c) d m
    (put_more start y z (first ∷ a ++ b) c l (put_more start x y (first ∷ a) b k (put_more start w x (first ∷ []) a j i)))))
