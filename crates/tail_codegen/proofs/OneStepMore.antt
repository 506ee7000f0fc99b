-- One step more of a block, of which the rest is left.
use Rattle.std.proofs.Common.{◌≡◌, ◌+◌, ◌++◌, Bool, true, false, not, cond, ℕ, List, sym, ap, ◌∙◌, add_assoc, zero-add}
use Rattle.flat_form.specs.declared.program.Place.{Place}
use Rattle.flat_form.specs.FlatCode.{Code, Act, Then, Known}
use Rattle.tail_codegen.specs.Items.{Text, Puts}
use Rattle.tail_codegen.specs.Templates.{End, block, ends, labels_in, labels_of, spot_of, step}
use Rattle.tail_codegen.specs.Values.{Unit}

-- what is put and what is left to put, after a step that is reached
pub reached_items :
    (u : Unit) (n m : ℕ) (goes next_goes : Bool) (k : Known) (to : List Place) (a : Act) (whole more : Code) (end : End)
    (all before after : Text) (rest : Text)
    → whole ≡ Then k to a more
    → k.reached ≡ true
    → m ≡ n + labels_of a
    → next_goes ≡ not (ends a)
    → Puts before after (step u n (spot_of k) to a)
    → before ++ block u n goes whole end rest ≡ all
    → after ++ block u m next_goes more end rest ≡ all
reached_items u n m goes next_goes k to a whole more end all before after rest is reached moves ended puts was =
    ap (λ x. after ++ block u x next_goes more end rest) moves
    ∙ ap (λ g. after ++ block u (n + labels_of a) g more end rest) ended
    ∙ puts (block u (n + labels_of a) (not (ends a)) more end rest)
    ∙ ap
    (λ b. before ++ (cond b (step u n (spot_of k) to a (block u (n + labels_of a) (not (ends a)) more end rest)) (block u n true more end rest)))
    (sym reached)
    ∙ ap (λ c. before ++ block u n goes c end rest) (sym is)
    ∙ was

pub reached_labels :
    (n m all : ℕ) (k : Known) (to : List Place) (a : Act) (whole more : Code)
    → whole ≡ Then k to a more
    → k.reached ≡ true
    → m ≡ n + labels_of a
    → n + labels_in whole ≡ all
    → m + labels_in more ≡ all
reached_labels n m all k to a whole more is reached moves was =
    ap (λ x. x + labels_in more) moves
    ∙ add_assoc n (labels_of a) (labels_in more)
    ∙ ap (λ b. n + (cond b (labels_of a) 0 + labels_in more)) (sym reached)
    ∙ ap (λ c. n + labels_in c) (sym is)
    ∙ was

-- the same after a step that is never reached, which puts nothing
pub unreached_items :
    (u : Unit) (n m : ℕ) (goes next_goes : Bool) (k : Known) (to : List Place) (a : Act) (whole more : Code) (end : End)
    (all before after : Text) (rest : Text)
    → whole ≡ Then k to a more
    → k.reached ≡ false
    → m ≡ n
    → next_goes ≡ true
    → after ≡ before
    → before ++ block u n goes whole end rest ≡ all
    → after ++ block u m next_goes more end rest ≡ all
unreached_items u n m goes next_goes k to a whole more end all before after rest is unreached moves on same was =
    ap (λ x. after ++ block u x next_goes more end rest) moves
    ∙ ap (λ g. after ++ block u n g more end rest) on
    ∙ ap (λ t. t ++ block u n true more end rest) same
    ∙ ap
    (λ b. before ++ (cond b (step u n (spot_of k) to a (block u (n + labels_of a) (not (ends a)) more end rest)) (block u n true more end rest)))
    (sym unreached)
    ∙ ap (λ c. before ++ block u n goes c end rest) (sym is)
    ∙ was

pub unreached_labels :
    (n m all : ℕ) (k : Known) (to : List Place) (a : Act) (whole more : Code)
    → whole ≡ Then k to a more
    → k.reached ≡ false
    → m ≡ n
    → n + labels_in whole ≡ all
    → m + labels_in more ≡ all
unreached_labels n m all k to a whole more is unreached moves was =
    ap (λ x. x + labels_in more) moves
    ∙ ap (λ x. n + x) (sym (zero-add (labels_in more)))
    ∙ ap (λ b. n + (cond b (labels_of a) 0 + labels_in more)) (sym unreached)
    ∙ ap (λ c. n + labels_in c) (sym is)
    ∙ was
